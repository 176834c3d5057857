use Rattle.std.proofs.Common.{◌∙◌, [], sym}
use Rattle.std.proofs.lemmas.Option.{get_or_from_slice_get}
use Rattle.std.proofs.lemmas.Slice.Eq.{bytes_eq-Decides}
use Rattle.rb_editor.proofs.actions.same_directives.is_same_line.Goals as goal

pub returns-then-j-len-clause-same : goal.returns-then-j-len-clause-same
returns-then-j-len-clause-same c = λ yes.
    get_or_from_slice_get c.args.one.now c.args.i c.line.result.now [] c.line.ensures
    ∙ (bytes_eq-Decides c.line.result.now c.line-then-j-len.result.now).0 (sym c.eq.ensures ∙ yes)
    ∙ sym (get_or_from_slice_get c.args.other.now c.args.j c.line-then-j-len.result.now [] c.line-then-j-len.ensures)
