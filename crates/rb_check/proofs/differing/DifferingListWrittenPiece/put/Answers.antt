use Rattle.std.proofs.Common.{◌≡◌, ℕ, ◌++◌, Bool, List, [], length, ap, subst}
use Rattle.std.specs.Prelude.{◌==◌, if◌then◌else◌, codes}
use Rattle.std.specs.Io.KnownBytes.{Appends}
use Rattle.std.proofs.KnownBytes.{Appends-nil}
use Rattle.rb_text.proofs.SentLaws.{and_then, no_more, writes_along}
use Rattle.rb_check.specs.declared.differing.Differing.{Differing}
use Rattle.rb_check.specs.Shown.{differing_text, list_text}
use Rattle.rb_check.proofs.differing.DifferingListWrittenPiece.put.Goals as goal

list_at : (ds : List Differing) (is_empty : Bool) → is_empty ≡ (length ds == 0) → (if is_empty then [] else differing_text ds ++ codes "\n") ≡ list_text ds
list_at ds is_empty is = ap (λ (b : Bool). if b then [] else differing_text ds ++ codes "\n") is

pub returns-then-is_empty-clause-wrote : goal.returns-then-is_empty-clause-wrote
returns-then-is_empty-clause-wrote g c =
    let ds = c.args.self.now.0.now in
    let held = g.S.Sink.held c.args.sink.now in
    let none : [] ≡ list_text ds = rw c.if-is_empty.true at (list_at ds c.is_empty.result c.is_empty.ensures) in
    subst (λ (t : List ℕ). Appends held held t) none (Appends-nil held)

pub returns-in_err-put_each_differing-clause-wrote : goal.returns-in_err-put_each_differing-clause-wrote
returns-in_err-put_each_differing-clause-wrote g c =
    let ds = c.args.self.now.0.now in
    writes_along c.from_residual.result _ _ _ _ (rw c.if-is_empty.false at (list_at ds c.is_empty.result c.is_empty.ensures))
    (no_more _ _ (differing_text ds) (codes "\n") c.from_residual.result c.from_residual.ensures.0 c.in_err-put_each_differing.ensures.wrote)

pub returns-clause-wrote : goal.returns-clause-wrote
returns-clause-wrote g c =
    let ds = c.args.self.now.0.now in
    writes_along c.put.result _ _ _ _ (rw c.if-is_empty.false at (list_at ds c.is_empty.result c.is_empty.ensures))
    (and_then _ _ _ (differing_text ds) (codes "\n") c.put.result c.in_ok-put_each_differing.ensures.wrote c.put.ensures.wrote)
