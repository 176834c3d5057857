use Rattle.std.proofs.Common.{◌∙◌, ℕ, [], ◌++◌, Option, ap, arith}
use Rattle.rb_replay.specs.Run.{outputs}
use Rattle.rb_editor.specs.Diagnostics.{PlainDiagnostic}
use Rattle.rb_editor.specs.Findings.{before, findings, first_head}
use Rattle.rb_editor.proofs.EachFindingLaws.{finding_more, finding_all}
use Rattle.rb_editor.proofs.FindingLaws.{stands_there}
use Rattle.rb_editor.proofs.MismatchLaws.{differs_there, left_behind}
use Rattle.rb_editor.proofs.actions.findings.each_finding.Goals as goal

pub finding-requires : goal.finding-requires
finding-requires g c =
    let s = c.args.session.now.script in record {
      stands = stands_there c.args.text.now s.blocks c.args.heads.now c.loop-i.i c.number_at-line.result c.block_at-block.result.now c.requires c.number_at-line.ensures c.block_at-block.ensures;
      differs = differs_there c.mismatches-mismatches.result.now c.loop-i.next c.loop-i.i s.blocks (outputs s) c.block_at-block.result.now c.output_at-output.result.now c.block_at-block.ensures c.output_at-output.ensures c.loop-i.invariant.left
          c.is_next-differs.result c.is_next-differs.ensures;
    }

pub loop-i-preserved : goal.loop-i-preserved
loop-i-preserved g c =
    let s = c.args.session.now.script in
    let b = c.block_at-block.result.now in
    let o = c.output_at-output.result.now in
    let differs = differs_there c.mismatches-mismatches.result.now c.loop-i.next c.loop-i.i s.blocks (outputs s) b o c.block_at-block.ensures c.output_at-output.ensures c.loop-i.invariant.left c.is_next-differs.result c.is_next-differs.ensures in
    record {
      said = finding_more c.loop-i.table.left _ c.first_head-first.result c.args.text.now c.args.heads.now s.blocks (outputs s) c.loop-i.i c.number_at-line.result b o c.loop-i.list.items c.keep.new.list.items _
          c.number_at-line.ensures c.block_at-block.ensures c.output_at-output.ensures c.in_ok-found.ensures.left
          (c.in_ok-keep.ensures ∙ ap (λ (d : Option PlainDiagnostic). c.loop-i.list.items ++ before d []) c.in_ok-found.ensures.found) c.loop-i.invariant.said;
      left = left_behind c.mismatches-mismatches.result.now c.loop-i.next c.loop-i.i s.blocks (outputs s) b o c.block_at-block.ensures c.output_at-output.ensures c.loop-i.invariant.left
          c.is_next-differs.result c.behind-next.result differs c.behind-next.ensures.value;
      few = omega (arith, c.loop-i.invariant.few, c.behind-next.ensures.most);
    }

pub returns : goal.returns
returns g c =
    let s = c.args.session.now.script in
    let heads = c.args.heads.now in
    finding_all c.loop-i.table.left c.first_head-first.result c.args.text.now heads s.blocks (outputs s) c.loop-i.i c.loop-i.list.items _ (omega (arith, c.loop-i-test.false, c.len-i-end.ensures.len)) c.loop-i.invariant.said
    ∙ ap (λ (n : ℕ). findings c.args.table.now.left n c.args.text.now heads s.blocks (outputs s)) (c.first_head-first.ensures ∙ ap (first_head heads) c.mismatches-mismatches.ensures)
