use Rattle.std.proofs.Common.{◌≡◌, List, length, ap, refl, sym, ◌∙◌, arith}
use Rattle.rb_script.specs.Lines.{Line}
use Rattle.rb_script.specs.Script.{PlainBlock, PlainScript, block_text, with_outputs, expecting, all_expecting, text}
use Rattle.rb_script.proofs.SharedLaws.{expecting_at, outputs_count}
use Rattle.rb_script.proofs.SentLaws.{sent_none, piece_last, writes_along}
use Rattle.rb_script.proofs.WriteLaws.{text_parts, block_more, block_exit, blocks_sent}
use Rattle.rb_script.proofs.script.Script.write_with.Given as given
use Rattle.rb_script.proofs.script.Script.write_with.Goals as goal
use Rattle.rb_script.proofs.script.Script.write_with.Goals.{After-put_block}

-- what is put is the text of the block with its output
put_text : (g : given.Over) (c : After-put_block g) → block_text (expecting c.deref.result.now c.deref-in-loop-i.result.now) ≡ block_text (expecting c.at-block.result.now.value c.at-output.result.now.value)
put_text g c = ap (λ (b : PlainBlock). block_text (expecting b c.deref-in-loop-i.result.now)) c.deref.ensures ∙ ap (λ (o : List Line). block_text (expecting c.at-block.result.now.value o)) c.deref-in-loop-i.ensures

pub loop-i-init : goal.loop-i-init
loop-i-init g c = record { sent = sent_none _ _ _ refl; takes = λ t. t }

pub returns-in_err-put_block-clause-wrote : goal.returns-in_err-put_block-clause-wrote
returns-in_err-put_block-clause-wrote g c =
    let bs = c.self.inside.blocks in
    let tail = c.self.inside.tail in
    let outputs = c.args.outputs.now in
    let block = c.at-block.result.now.value in
    let output = c.at-output.result.now.value in
    let is = put_text g (goal.at.returns-in_err-put_block-clause-wrote g c).After-put_block in
    let whole = text_parts (with_outputs (record { blocks = bs; tail = tail }) outputs) ∙ ap (λ (s : PlainScript). text (with_outputs s outputs)) c.self.view_is in
    writes_along c.from_residual.result _ _ _ _ whole
    (block_exit (all_expecting bs outputs) c.loop-i.i (expecting block output) tail (expecting_at bs outputs c.loop-i.i block output c.at-block.ensures c.at-output.ensures) is c.loop-i.invariant.sent
    c.from_residual.result (g.S.Sink.held c.put_block.new.sink) c.from_residual.ensures.0 c.in_err-put_block.ensures.wrote)

pub loop-i-preserved : goal.loop-i-preserved
loop-i-preserved g c =
    let bs = c.self.inside.blocks in
    let outputs = c.args.outputs.now in
    let block = c.at-block.result.now.value in
    let output = c.at-output.result.now.value in
    let is = put_text g (goal.at.loop-i-preserved g c).After-put_block in
    record {
      sent = block_more (all_expecting bs outputs) c.loop-i.i (expecting block output) c.self.inside.tail (expecting_at bs outputs c.loop-i.i block output c.at-block.ensures c.at-output.ensures) is c.loop-i.invariant.sent
          (g.S.Sink.held c.put_block.new.sink) c.in_ok-put_block.ensures.wrote;
      takes = λ t. (c.in_ok-put_block.ensures.all (c.loop-i.invariant.takes t)).1;
    }

pub returns-clause-wrote : goal.returns-clause-wrote
returns-clause-wrote g c =
    let bs = c.self.inside.blocks in
    let tail = c.self.inside.tail in
    let outputs = c.args.outputs.now in
    let whole = text_parts (with_outputs (record { blocks = bs; tail = tail }) outputs) ∙ ap (λ (s : PlainScript). text (with_outputs s outputs)) c.self.view_is in
    let count = outputs_count bs outputs (c.requires ∙ sym (ap (λ (s : PlainScript). length s.blocks) c.self.view_is)) in
    writes_along c.put.result _ _ _ _ whole (piece_last c.put.result (g.S.Sink.held c.put.new.self) _ (blocks_sent (all_expecting bs outputs) c.loop-i.i tail (omega (arith, count)) c.loop-i.invariant.sent) (rw c.text.ensures at c.put.ensures.wrote))
