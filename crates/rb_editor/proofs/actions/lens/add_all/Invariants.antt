-- What went out so far, and what is left.
use Rattle.std.proofs.Common.{◌≡◌, ◌++◌, [], drop}
use Rattle.rb_editor.specs.Lenses.{lens_text}
use Rattle.rb_editor.specs.Texts.{listed}
use Rattle.rb_editor.proofs.actions.lens.add_all.Given as goal

abbrev pub invariant-loop-lens : goal.invariant-loop-lens
invariant-loop-lens l =
    l.out.items ++ listed (lens_text l.document.encoding l.document.uri.now l.document.text.now) l.lead (drop l.lens-index l.list)
    ≡ l.initial.out.items ++ listed (lens_text l.document.encoding l.document.uri.now l.document.text.now) [] l.list
