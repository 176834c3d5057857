use Rattle.std.proofs.Common.{◌∙◌, ℕ, List, ◌++◌, ap}
use Rattle.rb_check.specs.Junit.{suite_text}
use Rattle.rb_check.proofs.junit.add_placed.Goals as goal

pub returns : goal.returns
returns c =
    let n = c.args.notice in
    c.in_ok-add_suite.ensures
    ∙ ap (λ (d : List ℕ). c.args.text.now.items ++ suite_text n.path.now n.line c.args.verdict n.message.now d) (c.deref.ensures.value ∙ c.in_ok-details.ensures)
