use Rattle.std.proofs.Common.{List, ℕ, inr, subst, sym}
use Rattle.rb_program.specs.Scripts.{AreRead}
use Rattle.rb_program.proofs.rewriting.rewrite_file.Goals as goal

pub returns : goal.returns
returns g c =
    let read = subst (λ (bytes : List ℕ). AreRead g.row.R-File.Denot g.R.File.Read.remaining bytes) (sym c.as_slice-bytes.ensures.value) c.in_ok-script.ensures.read in
    inr (c.as_slice-bytes.result.now, read, c.rewrite_noted.ensures)
