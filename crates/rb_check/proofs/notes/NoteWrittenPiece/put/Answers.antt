use Rattle.std.proofs.Common.{sym, subst}
use Rattle.rb_script.specs.Writes.{Writes}
use Rattle.rb_check.specs.declared.notes.Note.{Note}
use Rattle.rb_check.specs.Shown.{note_line}
use Rattle.rb_check.proofs.notes.NoteWrittenPiece.put.Goals as goal

pub returns-in-LongLine-clause-wrote : goal.returns-in-LongLine-clause-wrote
returns-in-LongLine-clause-wrote g c =
    subst (λ (note : Note). Writes c.put_note.result (g.S.Sink.held c.args.sink.now) (g.S.Sink.held c.put_note.new.sink) (note_line note)) (sym c.in-LongLine.is) c.put_note.ensures.wrote

pub returns-in-Quit-clause-wrote : goal.returns-in-Quit-clause-wrote
returns-in-Quit-clause-wrote g c =
    subst (λ (note : Note). Writes c.put_quit.result (g.S.Sink.held c.args.sink.now) (g.S.Sink.held c.put_quit.new.sink) (note_line note)) (sym c.in-Quit.is) c.put_quit.ensures.wrote
