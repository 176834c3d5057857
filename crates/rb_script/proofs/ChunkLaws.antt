-- Laws of lists in chunks.
use Rattle.std.proofs.Common.{◌≡◌, ℕ, ◌+◌, ◌-◌, ◌<◌, ◌≤◌, List, [], ◌∷◌, ◌++◌, length, get_or, take, drop, reverse, Some, refl, ap, sym, subst, ◌∙◌, arith, append_assoc, append-nil, length-append, inl, inr}
use Rattle.std.specs.Prelude.{slice_get, slice_index}
use Rattle.std.specs.declared.rc.Rc.{Rc}
use Rattle.std.specs.declared.alloc.Global.{Global}
use Rattle.std.proofs.Math.Seq.{take-append-add}
use Rattle.std.proofs.lemmas.Bool.{cases_lt}
use Rattle.std.proofs.lemmas.List.{take-append-drop, take_more, drop_more, drop-drop, drop-append-le, drop_at, take-append-le, take_all, take_rest, take-map, drop-map, map-append, get_or-map, length_push, get_or_push, get_or_append_left, get_or_read, nil_from_length, reverse-append}
use Rattle.std.proofs.lemmas.List.Concat.{flat_map-append, get_or-flat_map}
use Rattle.std.proofs.lemmas.Option.{slice_get_read}
use Rattle.rb_script.specs.Shared.{values}
use Rattle.rb_script.specs.Chunks.{flattened, before, AreStarts, IsInChunks, index_of, IsPlace}
use Rattle.rb_script.specs.declared.chunk_position.ChunkPosition.{ChunkPosition}
use Rattle.rb_script.proofs.SharedLaws.{values-length}

-- ---- chunks one after another

flattened-append : {X : Type 0} (gs hs : List (List X)) → flattened (gs ++ hs) ≡ flattened gs ++ flattened hs
flattened-append {X} gs hs = flat_map-append (λ (g : List X). g) gs hs

pub flattened_end : {X : Type 0} (gs : List (List X)) (g : List X) → flattened (gs ++ g ∷ []) ≡ flattened gs ++ g
flattened_end {X} gs g = flattened-append gs (g ∷ []) ∙ ap (λ (l : List X). flattened gs ++ l) (append-nil g)

split : {X : Type 0} (gs : List (List X)) (k : ℕ) → flattened gs ≡ flattened (take k gs) ++ flattened (drop k gs)
split {X} gs k = ap flattened (sym (take-append-drop k gs)) ∙ flattened-append (take k gs) (drop k gs)

-- no more stand before a chunk than in all
pub before_within : {X : Type 0} (gs : List (List X)) (k : ℕ) → before gs k ≤ length (flattened gs)
before_within {X} gs k = let e = ap length (split gs k) ∙ length-append (flattened (take k gs)) (flattened (drop k gs)) in omega arith

pub before_all : {X : Type 0} (gs : List (List X)) (k : ℕ) → length gs ≤ k → before gs k ≡ length (flattened gs)
before_all {X} gs k h = ap (λ (l : List (List X)). length (flattened l)) (take_all k gs h)

module _ {X : Type 0} (gs : List (List X)) (k : ℕ) (g : List X) (within : k < length gs) (is : g ≡ get_or gs k g) where
  -- before the next chunk stand those of this one too
  pub before_more : before gs (k + 1) ≡ before gs k + length g
  before_more =
      ap (λ (l : List (List X)). length (flattened l)) (take_more gs k g within) ∙ ap length (flattened_end (take k gs) (get_or gs k g))
      ∙ length-append (flattened (take k gs)) (get_or gs k g) ∙ ap (λ (l : List X). before gs k + length l) (sym is)

  -- the chunks before it, the chunk, and those behind it
  whole : flattened gs ≡ flattened (take k gs) ++ (g ++ flattened (drop (k + 1) gs))
  whole =
      split gs k ∙ ap (λ (l : List (List X)). flattened (take k gs) ++ flattened l) (drop_more gs k g within)
      ∙ ap (λ (l : List X). flattened (take k gs) ++ (l ++ flattened (drop (k + 1) gs))) (sym is)

  module _ (r : ℕ) (r_within : r ≤ length g) where
    -- what stands before a place of the chunk
    pub front_is : take (before gs k + r) (flattened gs) ≡ flattened (take k gs) ++ take r g
    front_is =
        ap (take (before gs k + r)) whole ∙ take-append-add (flattened (take k gs)) (g ++ flattened (drop (k + 1) gs)) r
        ∙ ap (λ (l : List X). flattened (take k gs) ++ l) (take-append-le r g (flattened (drop (k + 1) gs)) r_within)

    -- and what stands behind it
    pub rest_is : drop (before gs k + r) (flattened gs) ≡ drop r g ++ flattened (drop (k + 1) gs)
    rest_is =
        sym (drop-drop r (before gs k) (flattened gs)) ∙ ap (λ (l : List X). drop r (drop (before gs k) l)) whole
        ∙ ap (drop r) (drop_at (flattened (take k gs)) (g ++ flattened (drop (k + 1) gs)) (before gs k) refl)
        ∙ drop-append-le r g (flattened (drop (k + 1) gs)) r_within

-- ---- where chunks begin

-- one more group's beginning
pub starts_more : {X : Type 0} (gs : List (List X)) (starts next : List ℕ) (k at : ℕ) → AreStarts starts gs k → at ≡ before gs k → next ≡ starts ++ at ∷ [] → AreStarts next gs (k + 1)
starts_more {X} gs starts next k at h is e = record {
  count = ap length e ∙ length_push starts at ∙ ap (λ (n : ℕ). n + 1) h.count;
  each = λ j low.
      elim (cases_lt j k) as (λ _. slice_index next j ≡ before gs j) [
        | inl under ↦ ap (λ (l : List ℕ). slice_index l j) e ∙ get_or_append_left starts (at ∷ []) 0 j (let n = h.count in omega (arith, under)) ∙ h.each j under
        | inr above ↦
            let last : k ≡ j = omega (arith, above, low) in
            ap (λ (l : List ℕ). slice_index l j) e ∙ get_or_push starts at 0 j (h.count ∙ last) ∙ is ∙ ap (before gs) last
      ];
}

-- the beginning that was read
pub start_read : {X : Type 0} (gs : List (List X)) (starts : List ℕ) (n k start : ℕ) → AreStarts starts gs n → k < n → start ≡ get_or starts k start → start ≡ before gs k
start_read {X} gs starts n k start h low is = get_or_read starts k start (let c = h.count in omega (arith, low)) is 0 ∙ h.each k low

-- ---- looking for a chunk

module _ {T : Type 0} (gs : List (List T)) (starts : List ℕ) (at k start : ℕ) (h : AreStarts starts gs (length gs)) (found : IsInChunks gs at k (k + 1)) (start_is : start ≡ get_or starts k start) where
  in_chunks : k < length gs
  in_chunks = let w = found.within in omega (arith, w)

  begins : start ≡ before gs k
  begins = start_read gs starts (length gs) k start h in_chunks start_is

  -- it doesn't begin behind what was looked for
  pub start_within : start ≤ at
  start_within = let e = begins in let from = found.from in omega (arith, e, from)

  module _ (g : List T) (is : g ≡ get_or gs k g) where
    -- and holds it
    pub in_group : at - start < length g
    in_group = let e = begins in let from = found.from in let to = found.to in let more = before_more gs k g in_chunks is in omega (arith, e, from, to, more)

    -- what was looked for stands there
    pub item_is : (ps : List (Rc T Global)) (p : Rc T Global) → values ps ≡ g → p ≡ get_or ps (at - start) p → slice_get (flattened gs) at ≡ Some p.value
    item_is ps p same p_is =
        let e = begins in
        let low = start_within in
        let r : ℕ = at - start in
        let within : r < length g = in_group in
        let r_within : r < length (get_or gs k g) = subst (λ (l : List T). r < length l) is within in
        let in_ps : r < length ps = subst (λ (m : ℕ). r < m) (ap length (sym same) ∙ values-length ps) within in
        let index : before gs k + r ≡ at = omega (arith, e, low) in
        let there : get_or (flattened gs) at p.value ≡ p.value =
        ap (λ (m : ℕ). get_or (flattened gs) m p.value) (sym index)
        ∙ get_or-flat_map (λ (l : List T). l) gs k r g p.value in_chunks r_within
        ∙ ap (λ (l : List T). get_or l r p.value) (sym is ∙ sym same)
        ∙ get_or-map (λ (q : Rc T Global). q.value) ps r p p.value in_ps
        ∙ ap (λ (q : Rc T Global). q.value) (sym p_is) in
        let in_all : at < length (flattened gs) = let to = found.to in let all = before_within gs (k + 1) in omega (arith, to, all) in
        slice_get_read (flattened gs) (length (flattened gs)) at p.value refl in_all (sym there)

-- ---- a place between

-- a place lies within its chunk
pub place_within : {X : Type 0} (gs : List (List X)) (place : ChunkPosition) (g : List X) → IsPlace gs place → g ≡ get_or gs place.chunk g → place.within ≤ length g
place_within {X} gs place g h is = let more = before_more gs place.chunk g h.chunk is in let within = h.within in omega (arith, more, within)

-- what stands before a place, by the pointers of its chunk
pub front_of : {T : Type 0} (gs : List (List T)) (place : ChunkPosition) (g : List T) (ps front : List (Rc T Global)) → IsPlace gs place → g ≡ get_or gs place.chunk g → values ps ≡ g → front ≡ take place.within ps
    → take (index_of gs place) (flattened gs) ≡ flattened (take place.chunk gs) ++ values front
front_of {T} gs place g ps front h is same e =
    front_is gs place.chunk g h.chunk is place.within (place_within gs place g h is)
    ∙ ap (λ (l : List T). flattened (take place.chunk gs) ++ l) (ap (take place.within) (sym same) ∙ take-map (λ (q : Rc T Global). q.value) place.within ps ∙ ap values (sym e))

-- and behind it
pub rest_of : {T : Type 0} (gs : List (List T)) (place : ChunkPosition) (g : List T) (ps rest : List (Rc T Global)) → IsPlace gs place → g ≡ get_or gs place.chunk g → values ps ≡ g → rest ≡ take (length ps - place.within) (drop place.within ps)
    → drop (index_of gs place) (flattened gs) ≡ values rest ++ flattened (drop (place.chunk + 1) gs)
rest_of {T} gs place g ps rest h is same e =
    rest_is gs place.chunk g h.chunk is place.within (place_within gs place g h is)
    ∙ ap (λ (l : List T). l ++ flattened (drop (place.chunk + 1) gs)) (ap (drop place.within) (sym same) ∙ drop-map (λ (q : Rc T Global). q.value) place.within ps ∙ ap values (sym (e ∙ take_rest ps place.within)))

-- chunks in front, a front of one, new items, a rest of one, and chunks behind
pub five_parts : {X : Type 0} (a b new c d middle made : List X) → middle ≡ b ++ (new ++ c) → made ≡ a ++ (middle ++ d) → made ≡ (a ++ b) ++ (new ++ (c ++ d))
five_parts {X} a b new c d middle made is made_is =
    made_is ∙ ap (λ (l : List X). a ++ (l ++ d)) is ∙ ap (λ (l : List X). a ++ l) (append_assoc b (new ++ c) d ∙ ap (λ (l : List X). b ++ l) (append_assoc new c d))
    ∙ sym (append_assoc a b (new ++ (c ++ d)))

-- chunks with something new between two places
pub part_is : {X : Type 0} (gs : List (List X)) (k l : ℕ) (front new rest middle made before_it behind : List X) → middle ≡ front ++ (new ++ rest) → made ≡ flattened (take k gs) ++ (middle ++ flattened (take (length gs - (l + 1)) (drop (l + 1) gs)))
    → before_it ≡ flattened (take k gs) ++ front → behind ≡ rest ++ flattened (drop (l + 1) gs) → made ≡ before_it ++ (new ++ behind)
part_is {X} gs k l front new rest middle made before_it behind is made_is before_is behind_is =
    let a = flattened (take k gs) in
    let d = flattened (drop (l + 1) gs) in
    five_parts a front new rest d middle made is (made_is ∙ ap (λ (hs : List (List X)). a ++ (middle ++ flattened hs)) (take_rest gs (l + 1)))
    ∙ ap (λ (x : List X). x ++ (new ++ (rest ++ d))) (sym before_is) ∙ ap (λ (x : List X). before_it ++ (new ++ x)) (sym behind_is)

-- lists added one after another
pub three_parts : {X : Type 0} (front new rest first second third last : List X) → first ≡ [] → second ≡ first ++ front → third ≡ second ++ new → last ≡ third ++ rest → last ≡ front ++ (new ++ rest)
three_parts {X} front new rest first second third last e1 e2 e3 e4 =
    e4 ∙ ap (λ (l : List X). l ++ rest) (e3 ∙ ap (λ (l : List X). l ++ new) (e2 ∙ ap (λ (l : List X). l ++ front) e1)) ∙ append_assoc front new rest

-- ---- making chunks

-- the values of pointers, cut in two
values_cut : {T : Type 0} (blocks kept last : List (Rc T Global)) (g : List T) (at : ℕ) → kept ≡ take at blocks → last ≡ drop at blocks → g ≡ values last → values kept ++ g ≡ values blocks
values_cut {T} blocks kept last g at kept_is last_is g_is =
    ap (λ (l : List T). values kept ++ l) (g_is ∙ ap values last_is) ∙ ap (λ (l : List (Rc T Global)). values l ++ values (drop at blocks)) kept_is
    ∙ sym (map-append (λ (q : Rc T Global). q.value) (take at blocks) (drop at blocks)) ∙ ap values (take-append-drop at blocks)

-- the last blocks became a chunk
pub grouped_more : {T : Type 0} (blocks kept last : List (Rc T Global)) (chunks next : List (List T)) (g all : List T) (at : ℕ) → kept ≡ take at blocks → last ≡ drop at blocks → g ≡ values last → next ≡ chunks ++ g ∷ []
    → values blocks ++ flattened (reverse chunks) ≡ all → values kept ++ flattened (reverse next) ≡ all
grouped_more {T} blocks kept last chunks next g all at kept_is last_is g_is next_is so_far =
    let turned : flattened (reverse next) ≡ g ++ flattened (reverse chunks) = ap (λ (l : List (List T)). flattened (reverse l)) next_is ∙ ap flattened (reverse-append chunks (g ∷ [])) in
    ap (λ (l : List T). values kept ++ l) turned ∙ sym (append_assoc (values kept) g (flattened (reverse chunks))) ∙ ap (λ (l : List T). l ++ flattened (reverse chunks)) (values_cut blocks kept last g at kept_is last_is g_is) ∙ so_far

-- all of them
pub grouped_all : {T : Type 0} (blocks : List (Rc T Global)) (chunks turned : List (List T)) (all : List T) → length blocks ≡ 0 → turned ≡ reverse chunks → values blocks ++ flattened (reverse chunks) ≡ all → flattened turned ≡ all
grouped_all {T} blocks chunks turned all none e so_far = ap flattened e ∙ sym (ap (λ (l : List (Rc T Global)). values l ++ flattened (reverse chunks)) (nil_from_length blocks none)) ∙ so_far
