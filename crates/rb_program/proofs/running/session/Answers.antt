use Rattle.std.proofs.Common.{List, ℕ, inr, subst, sym}
use Rattle.rb_program.specs.Scripts.{AreRead}
use Rattle.rb_program.proofs.running.session.Goals as goal

pub returns-clause-answered : goal.returns-clause-answered
returns-clause-answered g c = λ right.
    let read = subst (λ (bytes : List ℕ). AreRead g.row.R-File.Denot g.R.File.Read.remaining bytes) (sym c.as_slice-bytes.ensures.value) c.in_ok-script.ensures.read in
    inr (c.as_slice-bytes.result.now, read, (c.reader.result, c.run_from.new.source.0, c.run_from.ensures.answered right))
