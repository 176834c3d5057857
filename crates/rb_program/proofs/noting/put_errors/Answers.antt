use Rattle.std.proofs.Common.{◌≡◌, ◌∙◌, ℕ, List, Some, ap, sym, arith}
use Rattle.std.specs.Prelude.{slice_get}
use Rattle.rb_script.specs.Lines.{Line}
use Rattle.rb_script.specs.Script.{PlainBlock}
use Rattle.rb_replay.specs.Run.{outputs}
use Rattle.rb_text.proofs.SentLaws.{sent_all}
use Rattle.rb_report.proofs.PutLaws.{next_sent, next_exit}
use Rattle.rb_program.specs.Notes.{error_noted}
use Rattle.rb_script_report.proofs.EachLaws.{each_step, each_done}
use Rattle.rb_program.proofs.noting.put_errors.Goals as goal

pub returns-in_err-put_error-clause-wrote : goal.returns-in_err-put_error-clause-wrote
returns-in_err-put_error-clause-wrote g c =
    let s = c.args.session.now.script in
    let heads = c.args.layout.now.heads.items in
    let one = λ (line : ℕ) (b : PlainBlock) (output : List Line). error_noted c.args.layout.now.text c.args.path.now line b output in
    let head : slice_get heads c.loop-i.i ≡ Some c.number_at-line.result = sym (ap (λ (hs : List ℕ). slice_get hs c.loop-i.i) c.as_slice-heads.ensures.value) ∙ c.number_at-line.ensures in
    next_exit _ _ _ _ c.from_residual.ensures.0 c.loop-i.invariant.sent c.in_err-put_error.ensures.wrote
    (each_step one heads s.blocks (outputs s) c.loop-i.i c.number_at-line.result c.block_at-block.result.now c.output_at-output.result.now head c.block_at-block.ensures c.output_at-output.ensures)

pub loop-i-preserved : goal.loop-i-preserved
loop-i-preserved g c =
    let s = c.args.session.now.script in
    let heads = c.args.layout.now.heads.items in
    let one = λ (line : ℕ) (b : PlainBlock) (output : List Line). error_noted c.args.layout.now.text c.args.path.now line b output in
    let head : slice_get heads c.loop-i.i ≡ Some c.number_at-line.result = sym (ap (λ (hs : List ℕ). slice_get hs c.loop-i.i) c.as_slice-heads.ensures.value) ∙ c.number_at-line.ensures in
    record {
      sent = next_sent _ _ _ c.loop-i.invariant.sent c.in_ok-put_error.ensures.wrote
          (each_step one heads s.blocks (outputs s) c.loop-i.i c.number_at-line.result c.block_at-block.result.now c.output_at-output.result.now head c.block_at-block.ensures c.output_at-output.ensures);
      takes = λ t. (c.in_ok-put_error.ensures.all (c.loop-i.invariant.takes t)).1;
    }

pub returns-clause-wrote : goal.returns-clause-wrote
returns-clause-wrote g c =
    let s = c.args.session.now.script in
    let one = λ (line : ℕ) (b : PlainBlock) (output : List Line). error_noted c.args.layout.now.text c.args.path.now line b output in
    sent_all (each_done one c.args.layout.now.heads.items s.blocks (outputs s) c.loop-i.i (omega (arith, c.loop-i-test.false, c.len-i-end.ensures.len))) c.loop-i.invariant.sent
