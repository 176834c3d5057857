use Rattle.std.proofs.Common.{List, ℕ, inl, inr, subst, sym}
use Rattle.std.proofs.lemmas.Result.{err_from_is_err_and}
use Rattle.rb_program.specs.Scripts.{AreRead}
use Rattle.rb_program.proofs.look.look_at.Goals as goal

pub returns-in_err-bytes : goal.returns-in_err-bytes
returns-in_err-bytes g c =
    let p = err_from_is_err_and c.from_residual.result c.from_residual.ensures.1 in
    rw (p.1, p.2) (inr (c.in-Some.path.now, c.in-Some.line, sym c.in-Some.ensures, inl c.in_err-bytes.ensures.unread))

pub returns : goal.returns
returns g c =
    let read = subst (λ (bytes : List ℕ). AreRead g.row.R-File.Denot g.R.File.Read.remaining bytes) (sym c.as_slice-text.ensures.value) c.in_ok-bytes.ensures.read in
    inr (c.in-Some.path.now, c.in-Some.line, sym c.in-Some.ensures, inr (c.as_slice-text.result.now, read, c.show.ensures))
