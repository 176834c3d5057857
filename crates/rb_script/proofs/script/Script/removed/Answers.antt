use Rattle.rb_script.specs.declared.edit.Edit.TheVariants.{Remove}
use Rattle.rb_script.proofs.EditedLaws.{refused, grown, place_refused, no_block_there, with_removed, old_fits, there_within, remove_made, remove_valid}
use Rattle.rb_script.proofs.script.Script.removed.Goals as goal

pub returns-in_default : goal.returns-in_default
returns-in_default c = λ outputs. refused _ _ (place_refused c.args.self.now (Remove c.args.place) outputs (no_block_there c.args.self.now.blocks c.args.place c.in_default.ensures))

pub overflow_sub-text_len : goal.overflow_sub-text_len
overflow_sub-text_len c = old_fits c.args.self.now c.args.place c.in-Some.old.now c.in-Some.ensures c.text_len.result c.text_len-2.result c.text_len.ensures.len c.text_len-2.ensures.len

pub splice-requires : goal.splice-requires
splice-requires c =
    let s = c.args.self.now in
    let k = c.args.place in
    let old = c.in-Some.old.now in
    let there = c.in-Some.ensures in
    let inside = there_within s k old there in
    record { from = inside.0; to = inside.1; kept = remove_valid s k old there c.text_len.result c.text_len-2.result c.text_len.ensures.valid c.text_len.ensures.len c.text_len-2.ensures.len }

pub returns : goal.returns
returns c = λ outputs. grown c.splice.result _ (with_removed c.args.self.now c.args.place) (remove_made c.args.self.now c.args.place c.in-Some.old.now c.in-Some.ensures outputs) c.splice.ensures.ok c.splice.ensures.err
