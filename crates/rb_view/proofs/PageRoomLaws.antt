-- What has no room in a page has none with more.
use Rattle.std.proofs.Common.{◌≡◌, ◌∙◌, ℕ, ◌≤◌, Bool, true, false, List, [], ◌++◌, Option, Some, None, refl, ap, sym, subst, arith}
use Rattle.std.specs.Prelude.{IfSome, MatchOption, if◌then◌else◌}
use Rattle.std.proofs.lemmas.Bool.{cond-false, cond-true, le-leb, leb-false, lt-leb}
use Rattle.std.proofs.lemmas.Option.{cond_some}
use Rattle.rb_script.specs.Lines.{Line}
use Rattle.rb_script.proofs.LengthLaws.{text-append-length}
use Rattle.rb_view.specs.declared.steps.room.TheConstants.{MAX_PAGE}
use Rattle.rb_view.specs.PageRoom.{has_room, held, held_with, size_of}

larger : (few many : List Line) → size_of few ≤ size_of many → has_room few ≡ false → has_room many ≡ false
larger few many fits full = lt-leb (size_of many) MAX_PAGE (omega (arith, fits, leb-false (size_of few) MAX_PAGE full))

-- texts and more after them
pub full_after : (texts more : List Line) → has_room texts ≡ false → has_room (texts ++ more) ≡ false
full_after texts more full = larger texts (texts ++ more) (omega (arith, text-append-length texts more)) full

-- the rows of a step, of which a part has no room
pub full_step : (texts script observed changes hints : List Line) → has_room (observed ++ changes) ≡ false → has_room (texts ++ (script ++ (observed ++ (changes ++ hints)))) ≡ false
full_step texts script observed changes hints full =
    larger (observed ++ changes) (texts ++ (script ++ (observed ++ (changes ++ hints))))
    (omega (
      arith,
      text-append-length observed changes,
      text-append-length texts (script ++ (observed ++ (changes ++ hints))),
      text-append-length script (observed ++ (changes ++ hints)),
      text-append-length observed (changes ++ hints),
      text-append-length changes hints,
    )) full

-- ---- what is held

by_room : (room : Bool) (texts more : List Line) → has_room texts ≡ room → held_with (if room then Some texts else None) more ≡ held (texts ++ more)
by_room true texts more e = refl
by_room false texts more e = sym (cond-false _ _ _ (full_after texts more e))

-- what is held, and more of it
pub held_more : (texts more : List Line) → held_with (held texts) more ≡ held (texts ++ more)
held_more texts more = by_room (has_room texts) texts more refl

pub none_held : Some [] ≡ held []
none_held = sym (cond-true (has_room []) (Some []) None (le-leb 0 MAX_PAGE (omega arith)))

-- what holds of what there is, if there is any
pub in_some : {T : Type 0} (P : T → Type 0) (o : Option T) (x : T) → o ≡ Some x → IfSome o P → P x
in_some {T = T} P o x is h = subst (λ (p : Option T). IfSome p P) is h

pub in_none : {T : Type 0} (N : Type 0) (P : T → Type 0) (o : Option T) → o ≡ None → MatchOption o N P → N
in_none {T = T} N P o is h = subst (λ (p : Option T). MatchOption p N P) is h

none_by : (room : Bool) (texts : List Line) → None ≡ (if room then Some texts else None) → room ≡ false
none_by true texts e = absurd cc
none_by false texts e = refl

-- nothing is held only if there is no room, and else all is
pub none_full : (texts : List Line) (kept : Option (List Line)) → kept ≡ held texts → kept ≡ None → has_room texts ≡ false
none_full texts kept e none = none_by (has_room texts) texts (sym none ∙ e)

pub some_is : (texts held_texts : List Line) (kept : Option (List Line)) → kept ≡ held texts → kept ≡ Some held_texts → held_texts ≡ texts
some_is texts held_texts kept e some = sym (cond_some (has_room texts) texts held_texts (sym e ∙ some)).1
