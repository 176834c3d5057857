use Rattle.std.proofs.Common.{◌+◌, ◌++◌, ◌∷◌, [], ◌≡◌, List, length, take, sym, ap, ◌∙◌, arith}
use Rattle.std.proofs.lemmas.List.{take_all}
use Rattle.rb_script.specs.Lines.{Line, text_of}
use Rattle.rb_script.specs.Script.{PlainBlock, PlainScript, block_text, all_expecting, expecting, with_outputs, text}
use Rattle.rb_script.specs.Reading.{capped}
use Rattle.rb_script.proofs.ListLaws.{take_there}
use Rattle.rb_script.proofs.SharedLaws.{expecting_at, outputs_count}
use Rattle.rb_script.proofs.LengthLaws.{blocks_len, blocks-push-length, text-length}
use Rattle.rb_script.proofs.script.Script.text_len_with.Goals as goal

pub loop-i-init : goal.loop-i-init
loop-i-init c = let tail = ap length c.text-total.ensures in omega arith

pub loop-i-preserved : goal.loop-i-preserved
loop-i-preserved c =
    let blocks = c.self.inside.blocks in
    let outputs = c.args.outputs.now in
    let tail = length (text_of c.self.inside.tail) in
    let i = c.loop-i.i in
    let block = c.at-block.result.now.value in
    let output = c.at-output.result.now.value in
    let all = all_expecting blocks outputs in
    let shown = ap (λ (b : PlainBlock). capped (length (block_text (expecting b c.deref-in-loop-i.result.now)))) c.deref.ensures
    ∙ ap (λ (o : List Line). capped (length (block_text (expecting block o)))) c.deref-in-loop-i.ensures in
    let longer : c.saturating_add-total.result ≡ capped (blocks_len (take i all ++ expecting block output ∷ []) + tail) =
    omega (arith, c.loop-i.invariant, c.saturating_add-total.ensures, c.text_len_with.ensures ∙ shown, blocks-push-length (take i all) (expecting block output)) in
    longer
    ∙ ap (λ (bs : List PlainBlock). capped (blocks_len bs + tail)) (sym (take_there all i (expecting block output)
    (expecting_at blocks outputs i block output c.at-block.ensures c.at-output.ensures)))

pub returns : goal.returns
returns c =
    let blocks = c.self.inside.blocks in
    let outputs = c.args.outputs.now in
    let all = all_expecting blocks outputs in
    let tail = length (text_of c.self.inside.tail) in
    let count = outputs_count blocks outputs (c.requires ∙ sym (ap (λ (s : PlainScript). length s.blocks) c.self.view_is)) in
    c.loop-i.invariant ∙ ap (λ (bs : List PlainBlock). capped (blocks_len bs + tail)) (take_all c.loop-i.i all (omega (arith, count)))
    ∙ ap capped (sym (text-length (record { blocks = all; tail = c.self.inside.tail }))) ∙ ap (λ (s : PlainScript). capped (length (text (with_outputs s outputs)))) c.self.view_is
