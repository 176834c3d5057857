use Rattle.std.proofs.Common.{◌≡◌, List, sym, ap, subst, ◌∙◌}
use Rattle.rb_script.specs.Script.{PlainBlock, PlainScript, all_expecting, with_outputs}
use Rattle.rb_script.specs.Valid.{IsScript}
use Rattle.rb_script.specs.Edits.{with_blocks}
use Rattle.rb_script.specs.Shared.{values, IsKeptScript}
use Rattle.rb_script.proofs.EditedLaws.{accept_valid}
use Rattle.rb_script.proofs.script.Script.with_outputs.Goals as goal
use Rattle.rb_script.proofs.script.Script.with_outputs.Goals.{In_ok-made}

-- what was made is each block with its output
made : (c : In_ok-made) → values c.in_ok-made.made.items ≡ all_expecting c.args.self.now.blocks c.args.outputs.now
made c = c.in_ok-made.ensures ∙ ap (λ (x : PlainScript). all_expecting x.blocks c.args.outputs.now) c.self.view_is

held : (c : In_ok-made) → IsKeptScript (with_outputs c.args.self.now c.args.outputs.now) c.args.text_len
held c = accept_valid c.args.self.now c.args.outputs.now c.args.text_len (subst IsScript c.self.view_is c.self.invariant.script) c.requires.count c.requires.readable c.requires.len c.requires.short

pub with_blocks-requires : goal.with_blocks-requires
with_blocks-requires c =
    let at = (goal.at.with_blocks-requires c).In_ok-made in
    subst (λ (bs : List PlainBlock). IsKeptScript (with_blocks c.args.self.now bs) c.args.text_len) (sym (c.in_ok-blocks.ensures ∙ made at)) (held at)
