use Rattle.std.proofs.Common.{◌≡◌, ◌∙◌, ℕ, List, Some, ap, sym}
use Rattle.std.specs.Prelude.{slice_get}
use Rattle.rb_script.specs.Tokens.{plain}
use Rattle.rb_text.proofs.SentLaws.{writes_along}
use Rattle.rb_report.proofs.CellLaws.{then_is}
use Rattle.rb_report.specs.Heads.{head_text}
use Rattle.rb_script.specs.Lines.{Line}
use Rattle.rb_report.specs.Diffs.{left_after}
use Rattle.rb_report.specs.Hints.{hint_text, plain_hint}
use Rattle.rb_report.specs.Whys.{reasons_in, told_mismatch}
use Rattle.rb_script_report.specs.Whys.{told_differing}
use Rattle.rb_script_report.proofs.WhyLaws.{told-is, left-is}
use Rattle.rb_script_report.proofs.alone.put_mismatch_at.Goals as goal

pub returns-clause-wrote : goal.returns-clause-wrote
returns-clause-wrote g c =
    let run = c.args.run.now in
    let s = run.session.now.script in
    let v = c.args.view in
    let heads = run.layout.now.heads.items in
    let b = c.block_at-block.result.now in
    let o = c.output_at-output.result.now in
    let line = c.number_at.result in
    let w = reasons_in c.why_at.result in
    let head : slice_get heads c.args.index ≡ Some line = sym (ap (λ (hs : List ℕ). slice_get hs c.args.index) c.as_slice.ensures.value) ∙ c.number_at.ensures in
    let one : told_mismatch c.args.table.now.left c.args.grouped v.colors v.path.now line (head_text (plain c.directive.result)) c.expected-expected.result.now o w (hint_text (plain_hint c.hint_of.result)) ≡ told_differing c.args.table.now.left c.args.grouped v.colors v.path.now line b o w = cc in
    writes_along _ _ _ _ _ (one ∙ told-is c.args.table.now.left c.args.grouped v.colors v.path.now run.whys.now heads s c.args.index line b o w head c.block_at-block.ensures c.output_at-output.ensures c.why_at.ensures) c.put_mismatch.ensures.wrote

pub returns-clause-left : goal.returns-clause-left
returns-clause-left g c =
    let s = c.args.run.now.session.now.script in
    let b = c.block_at-block.result.now in
    let o = c.output_at-output.result.now in
    let left : ℕ = c.args.table.now.left in
    then_is c.put_mismatch.result c.put_mismatch.new.table.left _ _ c.put_mismatch.ensures.left
    (ap (λ (ls : List Line). left_after left ls o) c.expected-expected.ensures ∙ left-is left s c.args.index b o c.block_at-block.ensures c.output_at-output.ensures)
