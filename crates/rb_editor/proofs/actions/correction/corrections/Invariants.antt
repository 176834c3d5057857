-- The directives that are left have the first correction.
use Rattle.std.proofs.Common.{◌≡◌, drop}
use Rattle.rb_editor.specs.Heads.{heads_of}
use Rattle.rb_editor.specs.Corrections.{corrections}
use Rattle.rb_editor.proofs.actions.correction.corrections.Given as goal

abbrev pub invariant-loop-i : goal.invariant-loop-i
invariant-loop-i g l =
    corrections l.document.encoding l.document.uri.now l.document.text.now l.span (drop l.i (heads_of l.document.text.now l.session.script)) (drop l.i l.session.script.blocks)
    ≡ corrections l.document.encoding l.document.uri.now l.document.text.now l.span (heads_of l.document.text.now l.session.script) l.session.script.blocks
