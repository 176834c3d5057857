use Rattle.std.proofs.Common.{vec_items}
use Rattle.rb_program.proofs.NoteLaws.{are_notes}
use Rattle.rb_program.proofs.rewriting.rewrite_bytes.Goals as goal

pub returns-clause-noted : goal.returns-clause-noted
returns-clause-noted g c = are_notes vec_items _ _ _ _ c.notes_of-notes.result c.in_ok-run.ensures.script c.notes_of-notes.ensures
