use Rattle.std.proofs.Common.{◌≡◌, ap, sym}
use Rattle.rb_text.proofs.SentLaws.{writes_along}
use Rattle.rb_report.specs.declared.check.hint.Hint.{Hint}
use Rattle.rb_report.specs.Hints.{hint_text, plain_hint, question}
use Rattle.rb_report.proofs.check.hint.put_hint.Goals as goal

pub returns-in-Meant-clause-wrote : goal.returns-in-Meant-clause-wrote
returns-in-Meant-clause-wrote g c =
    let is : question c.in-Meant.word.now ≡ hint_text (plain_hint c.args.hint) = sym (ap (λ (h : Hint). hint_text (plain_hint h)) c.in-Meant.is) in
    writes_along _ _ _ _ _ is c.put_question.ensures.wrote
