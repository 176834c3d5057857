use Rattle.std.proofs.Common.{Bool, IfSome, sym, subst}
use Rattle.rb_files.specs.Places.{LeavesOld}
use Rattle.rb_files.proofs.PlaceLaws.{leaves_old, leaves_uncreated}
use Rattle.rb_files.proofs.file_place.replace.Goals as goal

pub returns-in-Err-clause-told : goal.returns-in-Err-clause-told
returns-in-Err-clause-told g c = λ fresh. leaves_uncreated c.in-Err.error _ _ fresh c.in-Err.ensures

pub returns-in-Err-fill-clause-told : goal.returns-in-Err-fill-clause-told
returns-in-Err-fill-clause-told g c = λ fresh.
    subst (λ (b : Bool). IfSome (g.P.FilePlace.stands c.args.place.now) (λ s. LeavesOld (record { error = c.in-Err-fill.error; is_removed = b }) s (g.P.FilePlace.stands c.remove.new.self))) (sym c.is_ok-is_removed.ensures.value)
    (leaves_old c.in-Err-fill.error c.remove.result _ _ _ _ c.in_default.ensures c.in-Err-fill.ensures.told c.remove.ensures)
