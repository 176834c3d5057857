use Rattle.std.proofs.Common.{◌≡◌, ◌∙◌, ◌+◌, Bool, true, false, drop, sym, ap, rules}
use Rattle.std.specs.Prelude.{if◌then◌else◌}
use Rattle.std.specs.Str.{bytes_eq}
use Rattle.rb_report.specs.Forms.{has_input}
use Rattle.rb_report.proofs.FormLaws.{input_step}
use Rattle.rb_report.proofs.help.forms.has_input.Goals as goal

pub returns-then-eq : goal.returns-then-eq
returns-then-eq c =
    let hit : bytes_eq c.input.result.now c.args.text.now ≡ true = search rules in
    sym (c.loop-i.invariant ∙ (input_step c.args.text.now c.args.directive.now.inputs c.loop-i.i c.input.result.now c.input.ensures
    ∙ ap (λ (b : Bool). if b then true else has_input c.args.text.now (drop (c.loop-i.i + 1) c.args.directive.now.inputs)) hit))

pub loop-i-preserved : goal.loop-i-preserved
loop-i-preserved c =
    let miss : bytes_eq c.input.result.now c.args.text.now ≡ false = search rules in
    c.loop-i.invariant ∙ (input_step c.args.text.now c.args.directive.now.inputs c.loop-i.i c.input.result.now c.input.ensures
    ∙ ap (λ (b : Bool). if b then true else has_input c.args.text.now (drop (c.loop-i.i + 1) c.args.directive.now.inputs)) miss)
