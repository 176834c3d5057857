use Rattle.std.proofs.Common.{◌≡◌, ◌∙◌, true, false, sym}
use Rattle.rb_check.specs.Shown.{clearing}
use Rattle.rb_check.proofs.ShownLaws.{told_cleared, told_one, told_uncleared}
use Rattle.rb_check.proofs.error_stream.ErrorStream.clear.Goals as goal

pub returns-then-not-self-clause-told : goal.returns-then-not-self-clause-told
returns-then-not-self-clause-told g c = told_uncleared _ c.args.self.now.shows_progress c.if-not-self.true

pub returns-clause-told : goal.returns-clause-told
returns-clause-told g c =
    told_cleared _ _ c.args.self.now.shows_progress c.if-not-self.false
    (told_one _ _ _ c.put_acting.result c.flush.result clearing c.put_acting.ensures.all c.flush.ensures.all c.put_acting.ensures.wrote c.flush.ensures.held)

pub returns-clause-kept : goal.returns-clause-kept
returns-clause-kept g c = λ none. let no : true ≡ false = sym c.if-not-self.false ∙ none in absurd cc
