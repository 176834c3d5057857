use Rattle.std.proofs.Common.{◌∙◌, ℕ, List, ap, map, refl}
use Rattle.std.specs.Prelude.{slice_get}
use Rattle.rb_script.specs.Lines.{Line}
use Rattle.rb_editor.specs.BlockLines.{all_lines, blocks_of}
use Rattle.rb_editor.specs.Stops.{directive_in}
use Rattle.rb_editor.proofs.BlockLaws.{blocks_read}
use Rattle.rb_editor.proofs.StopLaws.{head_of_read}
use Rattle.rb_editor.proofs.actions.same_directives.directives_of.Goals as goal

pub returns-in_ok-blocks-in-Ok-clause-directives : goal.returns-in_ok-blocks-in-Ok-clause-directives
returns-in_ok-blocks-in-Ok-clause-directives c =
    let text = c.args.text.now in
    let read = c.in-Ok.read in
    ap (map (directive_in read.lines))
    (c.in_ok-blocks-in-Ok.ensures
    ∙ ap (λ (ns : List ℕ). all_lines read.lines ns read.script.blocks) c.as_slice.ensures.value
    ∙ blocks_read text read.script read.lines read.heads.items c.in-Ok.ensures.exact c.in-Ok.ensures.lines c.in-Ok.ensures.heads)
    ∙ ap (λ (ls : List Line). map (directive_in ls) (blocks_of text)) c.in-Ok.ensures.lines

pub returns-in_ok-blocks-in-Ok-clause-heads : goal.returns-in_ok-blocks-in-Ok-clause-heads
returns-in_ok-blocks-in-Ok-clause-heads c = λ i.
    let read = c.in-Ok.read in
    head_of_read c.args.text.now read.script read.heads.items i (slice_get read.heads.items i) c.in-Ok.ensures.found c.in-Ok.ensures.heads refl
