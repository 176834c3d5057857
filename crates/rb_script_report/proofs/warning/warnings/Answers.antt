use Rattle.std.proofs.Common.{◌≡◌, ◌∙◌, ℕ, ◌+◌, ◌-◌, ◌++◌, List, length, drop, ap, arith}
use Rattle.rb_replay.specs.Run.{outputs}
use Rattle.rb_script_report.specs.Doubts.{block_warnings, warnings_in, last_line, all_warnings}
use Rattle.rb_script_report.proofs.DoubtLaws.{warnings_step, warnings_done}
use Rattle.rb_script_report.proofs.EachLaws.{more, done}
use Rattle.rb_script_report.proofs.warning.warnings.Goals as goal

pub loop-i-preserved : goal.loop-i-preserved
loop-i-preserved g c =
    let i : ℕ = c.loop-i.i in
    let s = c.args.session.now.script in
    let text = c.args.layout.now.text in
    let heads = c.as_slice-heads.result.now in
    let b = c.block_at-block.result.now in
    let o = c.output_at-output.result.now in
    let line : ℕ = c.number_at.result in
    let last : ℕ = last_line text (drop (i + 1) heads) in
    let count : ℕ = c.saturating_sub-count.result in
    let start : c.saturating_sub-start.result ≡ line - 1 = c.saturating_sub-start.ensures in
    let many : count ≡ last - (line - 1) = omega (arith, c.saturating_sub-count.ensures, c.last_line.ensures, start) in
    more c.loop-i.found.items (block_warnings text line (last_line text (drop (i + 1) heads)) b o) (all_warnings text (drop (i + 1) heads) (drop (i + 1) s.blocks) (drop (i + 1) (outputs s)))
    (all_warnings text (drop i heads) (drop i s.blocks) (drop i (outputs s))) c.push_block.new.found.items (all_warnings text heads s.blocks (outputs s))
    (c.in_ok-push_block.ensures ∙ ap (λ (k : ℕ). c.loop-i.found.items ++ warnings_in text k count b o) start ∙ ap (λ (k : ℕ). c.loop-i.found.items ++ warnings_in text (line - 1) k b o) many)
    (warnings_step text heads s.blocks (outputs s) i line b o c.number_at.ensures c.block_at-block.ensures c.output_at-output.ensures)
    c.loop-i.invariant

pub returns : goal.returns
returns g c =
    let i : ℕ = c.loop-i.i in
    let s = c.args.session.now.script in
    let text = c.args.layout.now.text in
    let heads = c.as_slice-heads.result.now in
    let past = warnings_done text heads s.blocks (outputs s) i (omega (arith, c.loop-i-test.false, c.len-i-end.ensures.len, c.requires, ap length c.as_slice-heads.ensures.value)) in
    done c.loop-i.found.items (all_warnings text (drop i heads) (drop i s.blocks) (drop i (outputs s))) (all_warnings text heads s.blocks (outputs s)) past c.loop-i.invariant
    ∙ ap (λ (hs : List ℕ). all_warnings text hs s.blocks (outputs s)) c.as_slice-heads.ensures.value
