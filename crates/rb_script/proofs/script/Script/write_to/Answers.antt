use Rattle.std.proofs.Common.{◌≡◌, ap, refl, ◌∙◌, arith}
use Rattle.rb_script.specs.Script.{block_text, expecting, text}
use Rattle.rb_script.proofs.SentLaws.{sent_none, piece_last, writes_along}
use Rattle.rb_script.proofs.WriteLaws.{text_parts, block_more, block_exit, blocks_sent, own_text}
use Rattle.rb_script.proofs.script.Script.write_to.Given as given
use Rattle.rb_script.proofs.script.Script.write_to.Goals as goal
use Rattle.rb_script.proofs.script.Script.write_to.Goals.{After-put_block}

-- what is put is the text of the block
put_text : (g : given.Over) (c : After-put_block g) → block_text (expecting c.deref.result.now c.expected.result.now) ≡ block_text c.at-block.result.now.value
put_text g c = own_text c.deref.result.now c.deref-in-loop-i.result.now c.at-block.result.now.value c.expected.result.now c.deref.ensures c.deref-in-loop-i.ensures c.expected.ensures

pub loop-i-init : goal.loop-i-init
loop-i-init g c = record { sent = sent_none _ _ _ refl; takes = λ t. t }

pub returns-in_err-put_block-clause-wrote : goal.returns-in_err-put_block-clause-wrote
returns-in_err-put_block-clause-wrote g c =
    let bs = c.self.inside.blocks in
    let tail = c.self.inside.tail in
    let is = put_text g (goal.at.returns-in_err-put_block-clause-wrote g c).After-put_block in
    let whole = text_parts (record { blocks = bs; tail = tail }) ∙ ap text c.self.view_is in
    writes_along c.from_residual.result _ _ _ _ whole
    (block_exit bs c.loop-i.i c.at-block.result.now.value tail c.at-block.ensures is c.loop-i.invariant.sent c.from_residual.result (g.S.Sink.held c.put_block.new.sink) c.from_residual.ensures.0 c.in_err-put_block.ensures.wrote)

pub loop-i-preserved : goal.loop-i-preserved
loop-i-preserved g c =
    let is = put_text g (goal.at.loop-i-preserved g c).After-put_block in
    record {
      sent = block_more c.self.inside.blocks c.loop-i.i c.at-block.result.now.value c.self.inside.tail c.at-block.ensures is c.loop-i.invariant.sent (g.S.Sink.held c.put_block.new.sink) c.in_ok-put_block.ensures.wrote;
      takes = λ t. (c.in_ok-put_block.ensures.all (c.loop-i.invariant.takes t)).1;
    }

pub returns-clause-wrote : goal.returns-clause-wrote
returns-clause-wrote g c =
    let bs = c.self.inside.blocks in
    let tail = c.self.inside.tail in
    let whole = text_parts (record { blocks = bs; tail = tail }) ∙ ap text c.self.view_is in
    writes_along c.put.result _ _ _ _ whole (piece_last c.put.result (g.S.Sink.held c.put.new.self) _ (blocks_sent bs c.loop-i.i tail (omega arith) c.loop-i.invariant.sent) (rw c.text.ensures at c.put.ensures.wrote))
