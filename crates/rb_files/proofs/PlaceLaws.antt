-- What stands in a place after the calls that replace its text.
use Rattle.std.proofs.Common.{◌≡◌, ◌∙◌, ℕ, List, Option, Some, None, Result, Ok, Err, IfSome, is_ok, is_some, option_map, unwrap_or, true, false, ap, refl, subst}
use Rattle.rb_files.specs.declared.path_error.PathError.{PathError}
use Rattle.rb_files.specs.Places.{Standing, Written, Fills, FailsAtText, LeavesOld, Looks, Prepares, Removes, Turns, IsFresh, created, empty, extended, failed, put, removed, renamed, replaced, settled, stored}

-- what stands there after a call, where it is known what stood there before
next : (turned : Standing → Standing) (s : Standing) (old new : Option Standing) → old ≡ Some s → IfSome old (λ t. new ≡ Some (turned t)) → new ≡ Some (turned s)
next turned s old new e h = subst (λ (o : Option Standing). IfSome o (λ t. new ≡ Some (turned t))) e h

is_some-map : (f : Written → Written) (o : Option Written) → is_some (option_map f o) ≡ is_some o
is_some-map f None = refl
is_some-map f (Some w) = refl

has_new : (text : List ℕ) (s : Standing) → is_some (option_map stored (option_map (extended text) s.new)) ≡ is_some s.new
has_new text s = is_some-map stored (option_map (extended text) s.new) ∙ is_some-map (extended text) s.new

some_of : (o : Option Written) → is_some o ≡ true → (w : Written) × (o ≡ Some w)
some_of None h = cc
some_of (Some w) h = (w, refl)

placed : (s : Standing) (text : List ℕ) → s.new ≡ Some empty → renamed (settled (put text s)) ≡ replaced text s
placed s text e = ap (λ (n : Option Written). record s { file = unwrap_or (option_map stored (option_map (extended text) n)) s.file; new = None; is_same = false }) e

-- what a look shows, where it is known what stood there before
seen : (s : Standing) (old new : Option Standing) → old ≡ Some s → IfSome old (λ t. (t.is_same ≡ true) × (new ≡ Some t)) → (s.is_same ≡ true) × (new ≡ Some s)
seen s old new e h = subst (λ (o : Option Standing). IfSome o (λ t. (t.is_same ≡ true) × (new ≡ Some t))) e h

-- a new file's text is put, it is settled, and the old one is looked at
pub prepares : {X : Type 0} (text : List ℕ) (r : Result X PathError) (old a b new : Option Standing) → IfSome old (λ s. a ≡ Some (put text s)) → IfSome a (λ s. b ≡ Some (settled s)) → Looks r b new → Prepares text r old new
prepares text (Ok x) None a b new p q l = tt
prepares text (Err e) None a b new p q l = tt
prepares text (Ok x) (Some s) a b new p q l = seen (settled (put text s)) b new (next settled (put text s) a b p q) l
prepares text (Err e) (Some s) a b new p q l = (
  option_map stored (option_map (extended text) s.new),
  next (failed e) (settled (put text s)) b new (next settled (put text s) a b p q) l,
  has_new text s,
)

-- filling, once the new file is prepared
pub fills : {X : Type 0} (text : List ℕ) (r : Result X PathError) (old a new : Option Standing) → IfSome old (λ s. (s.is_same ≡ true) × (a ≡ Some (settled (put text s)))) → Turns renamed r a new → Fills text r old new
fills text (Ok x) None a new p t = tt
fills text (Err e) None a new p t = tt
fills text (Ok x) (Some s) a new p t = λ h. (p.0, next renamed (settled (put text s)) a new p.1 t ∙ ap (λ (n : Standing). Some n) (placed s text h))
fills text (Err e) (Some s) a new p t = (
  option_map stored (option_map (extended text) s.new),
  next (failed e) (settled (put text s)) a new p.1 t,
  has_new text s,
)

-- creating fails
pub leaves_uncreated : (e : PathError) (old new : Option Standing) → IsFresh old → IfSome old (λ s. new ≡ Some (failed e s)) → IfSome old (λ s. LeavesOld (record { error = e; is_removed = true }) s new)
leaves_uncreated e None new f p = tt
leaves_uncreated e (Some s) new f p = p ∙ ap (λ (n : Option Written). Some (record (failed e s) { new = n })) f.0

-- filling fails, and the new file is removed or not
pub leaves_old : {X : Type 0} (e : PathError) (r : Result X PathError) (old a b new : Option Standing) → IfSome old (λ s. a ≡ Some (created s)) → IfSome a (λ s. FailsAtText e s b) → Removes r b new → IfSome old (λ s. LeavesOld (record { error = e; is_removed = is_ok r }) s new)
leaves_old e r None a b new p q t = tt
leaves_old e (Ok x) (Some s) a b new p q t =
    let f : FailsAtText e (created s) b = subst (λ (o : Option Standing). IfSome o (λ s. FailsAtText e s b)) p q in
    next removed (record (failed e s) { new = f.0 }) b new f.1 t
leaves_old e (Err last) (Some s) a b new p q t =
    let f : FailsAtText e (created s) b = subst (λ (o : Option Standing). IfSome o (λ s. FailsAtText e s b)) p q in
    let left : (w : Written) × (f.0 ≡ Some w) = some_of f.0 f.2 in
    (left.0, next (λ (s : Standing). record (failed last s) { is_stuck = true }) (record (failed e s) { new = f.0 }) b new f.1 t ∙ ap (λ (n : Option Written). Some (record (failed e s) { new = n; is_stuck = true })) left.1)
