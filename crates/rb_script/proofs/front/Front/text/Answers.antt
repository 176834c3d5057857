use Rattle.std.proofs.Common.{ap, ◌∙◌}
use Rattle.rb_script.specs.Lines.{text_of}
use Rattle.rb_script.specs.Fronts.{PlainFront, lines_above}
use Rattle.rb_script.proofs.FrontLaws.{front_lines}
use Rattle.rb_script.proofs.front.Front.text.Goals as goal

pub returns : goal.returns
returns c =
    let p = c.self.inside in
    c.text_between.ensures ∙ ap text_of (front_lines p.all p.lead p.head p.input p.end c.self.invariant) ∙ ap (λ (f : PlainFront). text_of (lines_above f)) c.self.view_is
