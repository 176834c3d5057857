use Rattle.std.proofs.Common.{◌≡◌, ◌∙◌, ◌++◌, List, [], ℕ, Some, ap, append-nil, subst}
use Rattle.std.specs.Prelude.{OnOk, codes}
use Rattle.std.specs.List.{flat_map}
use Rattle.rb_report.specs.declared.check.colors.Colors.TheVariants.{Off}
use Rattle.rb_report.specs.Whys.{reasons_in, told_diff}
use Rattle.rb_script_report.specs.Checked.{head_of}
use Rattle.rb_check.specs.Escapes.{in_message}
use Rattle.rb_check.specs.Commands.{command_with, legend_text, shortened}
use Rattle.rb_check.proofs.FormatLaws.{fails_any}
use Rattle.rb_check.proofs.command.add_difference.Goals as goal

pub returns : goal.returns
returns c =
    let ran = c.args.ran in
    let diff = told_diff c.args.table.now.left Off (reasons_in ran.why) ran.block.now.expected ran.output.now in
    let added = c.add_command.new.text.items in
    let said : List ℕ → List ℕ → List ℕ → List ℕ = λ head short signs. c.args.text.now.items ++ command_with (codes "error") ran.place.path.now (Some ran.place.line) head (flat_map in_message short ++ signs) in
    let head : c.as_slice-4.result.now ≡ head_of ran.block.now = c.as_slice-4.ensures.value ∙ c.in_ok-head.ensures in
    let short : c.as_slice-2.result.now ≡ shortened diff = c.as_slice-2.ensures.value ∙ c.in_ok-short.ensures ∙ ap (λ (d : List ℕ). shortened d) (c.as_slice.ensures.value ∙ c.in_ok-diff.ensures) in
    let legend : c.as_slice-3.result.now ≡ legend_text c.args.others = c.as_slice-3.ensures.value ∙ c.in_ok-legend.ensures in
    subst (λ (h : List ℕ). OnOk c.add_command.result (added ≡ said h (shortened diff) (legend_text c.args.others))) head
    (subst (λ (signs : List ℕ). OnOk c.add_command.result (added ≡ said c.as_slice-4.result.now (shortened diff) signs)) (append-nil c.as_slice-3.result.now ∙ legend)
    (subst (λ (s : List ℕ). OnOk c.add_command.result (added ≡ said c.as_slice-4.result.now s (c.as_slice-3.result.now ++ []))) short c.add_command.ensures))

pub returns-in_err-legend : goal.returns-in_err-legend
returns-in_err-legend c = fails_any c.from_residual-in_err-legend.result _ c.from_residual-in_err-legend.ensures.0
