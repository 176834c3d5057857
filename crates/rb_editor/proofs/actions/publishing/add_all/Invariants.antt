-- What went out so far, and what is left.
use Rattle.std.proofs.Common.{◌≡◌, ◌++◌, [], drop}
use Rattle.rb_editor.specs.Texts.{listed}
use Rattle.rb_editor.specs.Published.{diagnostic_text}
use Rattle.rb_editor.specs.declared.actions.told.TheConstants.{MAX_TOLD}
use Rattle.rb_editor.specs.Told.{all_told}
use Rattle.rb_editor.proofs.actions.publishing.add_all.Given as goal

abbrev pub invariant-loop-diagnostic : goal.invariant-loop-diagnostic
invariant-loop-diagnostic l =
    l.out.items ++ listed (diagnostic_text l.client l.uri l.text) l.lead (all_told l.left (drop l.diagnostic-index l.list)) ≡ l.initial.out.items ++ listed (diagnostic_text l.client l.uri l.text) [] (all_told MAX_TOLD l.list)
