use Rattle.std.proofs.Common.{option_map}
use Rattle.rb_check.proofs.person.TerminalPerson.hear_key.Goals as goal

pub returns-then-matches-clause-shown : goal.returns-then-matches-clause-shown
returns-then-matches-clause-shown g c = c.echo.ensures

pub returns-else-matches-clause-shown : goal.returns-else-matches-clause-shown
returns-else-matches-clause-shown g c = c.echo.ensures

pub returns-then-matches-clause-heard : goal.returns-then-matches-clause-heard
returns-then-matches-clause-heard g c = (option_map (λ keys. keys.now) c.keys-keys.result, c.is_soon.result, c.keys-keys.ensures, c.heard_by_read-heard.ensures)

pub returns-else-matches-clause-heard : goal.returns-else-matches-clause-heard
returns-else-matches-clause-heard g c = (option_map (λ keys. keys.now) c.keys-keys.result, c.is_soon.result, c.keys-keys.ensures, c.heard_by_read-heard.ensures)
