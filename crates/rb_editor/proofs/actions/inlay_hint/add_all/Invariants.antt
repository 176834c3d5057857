-- What went out so far, and what is left.
use Rattle.std.proofs.Common.{◌≡◌, ◌++◌, [], drop}
use Rattle.rb_editor.specs.Hints.{hint_text}
use Rattle.rb_editor.specs.Texts.{listed}
use Rattle.rb_editor.proofs.actions.inlay_hint.add_all.Given as goal

abbrev pub invariant-loop-hint : goal.invariant-loop-hint
invariant-loop-hint l = l.out.items ++ listed (hint_text l.encoding l.text) l.lead (drop l.hint-index l.list) ≡ l.initial.out.items ++ listed (hint_text l.encoding l.text) [] l.list
