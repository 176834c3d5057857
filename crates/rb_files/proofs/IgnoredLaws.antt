-- A name that doesn't end in a slash is as it is without one; and the paths that one more line names.
use Rattle.std.proofs.Common.{◌≡◌, ◌∙◌, ℕ, ◌-◌, ◌+◌, ◌<◌, Bool, true, false, cond, List, [], ◌∷◌, ◌++◌, Option, Some, None, String, Bor, IfErr, IfSome, MatchOption, Result, Ok, Err, subst, length, map, take, slice_index, string_bytes, refl, sym, ap, arith}
use Rattle.std.specs.Prelude.{◌&&◌}
use Rattle.std.specs.Io.BufRead.{ends_with_byte, strip_last}
use Rattle.std.specs.List.{cons_option, filter_map}
use Rattle.std.specs.Path.{path_join}
use Rattle.std.specs.declared.alloc.Global.{Global}
use Rattle.std.proofs.lemmas.Bool.{eqb-true, ltb-true}
use Rattle.std.proofs.lemmas.List.{append-nil, map-append, take_all, take_more}
use Rattle.std.proofs.lemmas.List.Elements.{filter_map-append}
use Rattle.std.specs.IoError.{error_kind}
use Rattle.std.specs.declared.io.Error.{Error}
use Rattle.rb_report.specs.declared.check.failure.Failure.{Failure}
use Rattle.rb_report.specs.declared.check.failure.Failure.TheVariants as failures
use Rattle.rb_files.specs.Ignored.{named_by}
use Rattle.rb_files.specs.PathErrors.{IsOfOpening, IsOfReading, reading_failure}
use Rattle.rb_files.specs.declared.path_error.PathError.{PathError}

both : (s t : Bool) → (s && t) ≡ true → (s ≡ true) × (t ≡ true)
both true t h = (refl, h)
both false t h = absurd cc

whole_where : (b : Bool) (whole part : List ℕ) → (b ≡ true → ⊥) → whole ≡ cond b part whole
whole_where true whole part h = absurd (h refl)
whole_where false whole part h = refl

split_end : (byte : ℕ) (bs : List ℕ) → 0 < length bs → slice_index bs (length bs - 1) ≡ byte → bs ≡ take (length bs - 1) bs ++ byte ∷ []
split_end byte bs some last =
    let n = length bs - 1 in
    let all : take (n + 1) bs ≡ bs = take_all (n + 1) bs (omega (arith, some)) in
    sym all ∙ take_more bs n 0 (omega (arith, some)) ∙ ap (λ (b : ℕ). take n bs ++ b ∷ []) last

pub stays_whole : (byte : ℕ) (bs : List ℕ) → ((front : List ℕ) → bs ≡ front ++ byte ∷ [] → ⊥) → bs ≡ strip_last byte bs
stays_whole byte bs none = whole_where (ends_with_byte byte bs) bs (take (length bs - 1) bs) (λ t.
    let parts = both _ _ t in
    none (take (length bs - 1) bs) (split_end byte bs (ltb-true 0 (length bs) parts.0) (eqb-true _ byte parts.1)))

-- the paths that some lines of a folder's file name
abbrev pub named : List ℕ → List (Bor (List ℕ)) → List (List ℕ)
named folder lines = map (path_join folder) (filter_map named_by (map (λ t. t.now) lines))

one_more : (folder : List ℕ) (lines : List (Bor (List ℕ))) (line : Bor (List ℕ)) → named folder (lines ++ line ∷ []) ≡ named folder lines ++ named folder (line ∷ [])
one_more folder lines line =
    ap (λ ls. map (path_join folder) (filter_map named_by ls)) (map-append (λ t. t.now) lines (line ∷ []))
    ∙ ap (map (path_join folder)) (filter_map-append named_by (map (λ t. t.now) lines) (line.now ∷ []))
    ∙ map-append (path_join folder) (filter_map named_by (map (λ t. t.now) lines)) (filter_map named_by (line.now ∷ []))

-- a line that names a path, and one that names none
pub names_one : (folder : List ℕ) (lines : List (Bor (List ℕ))) (line : Bor (List ℕ)) (name : List ℕ) (paths : List (String Global)) (path : String Global) → map string_bytes paths ≡ named folder lines → named_by line.now ≡ Some name → string_bytes path ≡ path_join folder name → map string_bytes (paths ++ path ∷ []) ≡ named folder (lines ++ line ∷ [])
names_one folder lines line name paths path before is joined =
    map-append string_bytes paths (path ∷ [])
    ∙ ap (λ ps. ps ++ string_bytes path ∷ []) before
    ∙ ap (λ p. named folder lines ++ p ∷ []) joined
    ∙ ap (λ (o : Option (List ℕ)). named folder lines ++ map (path_join folder) (cons_option o [])) (sym is)
    ∙ sym (one_more folder lines line)

pub names_none : (folder : List ℕ) (lines : List (Bor (List ℕ))) (line : Bor (List ℕ)) (paths : List (String Global)) → map string_bytes paths ≡ named folder lines → named_by line.now ≡ None → map string_bytes paths ≡ named folder (lines ++ line ∷ [])
names_none folder lines line paths before is =
    before
    ∙ sym (append-nil (named folder lines))
    ∙ ap (λ (o : Option (List ℕ)). named folder lines ++ map (path_join folder) (cons_option o [])) (sym is)
    ∙ sym (one_more folder lines line)

of_reading : (cause : Option Error) (f : Failure) → MatchOption cause (f ≡ failures.NoFile) (λ error. f ≡ reading_failure (error_kind error)) → IfSome cause (λ error. f ≡ reading_failure (error_kind error))
of_reading None f h = tt
of_reading (Some error) f h = h

-- why an ignore file isn't read: one that is missing is none
pub still_of_reading : (r : Result (Option (String Global)) PathError) (error : PathError) (missing : Bool) → IsOfOpening error → (missing ≡ true → r ≡ Ok None) → (missing ≡ false → r ≡ Err error) → IfErr r IsOfReading
still_of_reading r error true h none same = subst (λ (q : Result (Option (String Global)) PathError). IfErr q IsOfReading) (sym (none refl)) tt
still_of_reading r error false h none same = subst (λ (q : Result (Option (String Global)) PathError). IfErr q IsOfReading) (sym (same refl)) (of_reading error.cause error.failure h)
