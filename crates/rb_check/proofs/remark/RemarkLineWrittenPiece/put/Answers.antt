use Rattle.std.proofs.Common.{sym, subst}
use Rattle.rb_script.specs.Writes.{Writes}
use Rattle.rb_check.specs.declared.remark.Remark.{Remark}
use Rattle.rb_check.specs.Shown.{people_text}
use Rattle.rb_check.proofs.remark.RemarkLineWrittenPiece.put.Goals as goal

pub returns-in-Echoes-clause-wrote : goal.returns-in-Echoes-clause-wrote
returns-in-Echoes-clause-wrote g c =
    subst (λ (remark : Remark). Writes c.put_note.result (g.S.Sink.held c.args.sink.now) (g.S.Sink.held c.put_note.new.sink) (people_text c.args.self.now.path.now remark)) (sym c.in-Echoes.is) c.put_note.ensures.wrote
