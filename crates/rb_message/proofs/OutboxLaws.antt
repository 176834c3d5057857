-- Laws of messages in pages.
use Rattle.std.proofs.Common.{◌≡◌, ℕ, ◌+◌, ◌-◌, ◌*◌, ◌/◌, ◌%◌, ◌<◌, ◌≤◌, List, [], ◌∷◌, ◌++◌, length, get_or, take, slice_get, Some, ap, sym, subst, ◌∙◌, arith, length-append, append-nil}
use Rattle.std.proofs.lemmas.List.{length_push, get_or_append_left, get_or-append_right, get_or_default}
use Rattle.std.proofs.lemmas.List.Concat.{get_or-flat_map}
use Rattle.std.proofs.lemmas.Option.{slice_get-get_or}
use Rattle.rb_raftlog.specs.Packed.{joined}
use Rattle.rb_raftlog.proofs.PartLaws.{AreOf, taken_size, parts_size, one_more, with_more, same_cuts}
use Rattle.rb_message.specs.declared.limits.TheConstants.{PAGE, MAX_PAGES}
use Rattle.rb_message.specs.Paged.{IsPaged}

-- how many messages there are
pub paged_size : {X : Type 0} (ps : List (List X)) (t : List X) → IsPaged ps t → length (joined ps ++ t) ≡ length ps * PAGE + length t
paged_size {X} ps t paged = omega (arith, length-append (joined ps) t, parts_size PAGE ps paged.full)

-- ---- the message at a place

in_page : {X : Type 0} (ps : List (List X)) (t d : List X) (k : ℕ) → IsPaged ps t → k / PAGE < length ps → k % PAGE < length (get_or ps (k / PAGE) d)
in_page {X} ps t d k paged low =
    omega (arith, paged.full (k / PAGE) low, ap length (get_or_default ps (k / PAGE) d [] low))

pub page_at : {X : Type 0} (ps : List (List X)) (t v slice d : List X) (k : ℕ) (x : X) → IsPaged ps t → joined ps ++ t ≡ v → k / PAGE < length ps → slice ≡ get_or ps (k / PAGE) d → x ≡ get_or slice (k % PAGE) x → slice_get v k ≡ Some x
page_at {X} ps t v slice d k x paged view low from is =
    let size : length (joined ps) ≡ PAGE * length ps = parts_size PAGE ps paged.full in
    let under : k < length (joined ps) = omega arith in
    let place : length (joined (take (k / PAGE) ps)) + k % PAGE ≡ k = omega (arith, taken_size PAGE ps (k / PAGE) paged.full (omega arith)) in
    ap (λ (l : List X). slice_get l k) (sym view)
    ∙ slice_get-get_or (joined ps ++ t) k x (omega (arith, length-append (joined ps) t))
    ∙ ap Some (get_or_append_left (joined ps) t x k under
    ∙ ap (λ (n : ℕ). get_or (joined ps) n x) (sym place)
    ∙ get_or-flat_map (λ (p : List X). p) ps (k / PAGE) (k % PAGE) d x low (in_page ps t d k paged low)
    ∙ ap (λ (l : List X). get_or l (k % PAGE) x) (sym from)
    ∙ sym is)

pub tail_at : {X : Type 0} (ps : List (List X)) (t v : List X) (k n : ℕ) (x : X) → IsPaged ps t → joined ps ++ t ≡ v → k < length v → length ps ≤ k / PAGE → n ≡ k - length ps * PAGE → x ≡ get_or t n x → slice_get v k ≡ Some x
tail_at {X} ps t v k n x paged view within past place is =
    let low : k < length (joined ps ++ t) = omega (arith, ap length view) in
    ap (λ (l : List X). slice_get l k) (sym view)
    ∙ slice_get-get_or (joined ps ++ t) k x low
    ∙ ap Some (get_or-append_right (joined ps) t (length ps * PAGE) k x (omega (arith, parts_size PAGE ps paged.full)) (omega arith)
    ∙ ap (λ (i : ℕ). get_or t i x) (sym place) ∙ sym is)

pub in_tail : {X : Type 0} (ps : List (List X)) (t v : List X) (k : ℕ) → IsPaged ps t → joined ps ++ t ≡ v → k < length v → length ps ≤ k / PAGE → k - length ps * PAGE < length t
in_tail {X} ps t v k paged view within past = omega (arith, paged_size ps t paged, ap length view)

-- ---- a page more

pub page_put : {X : Type 0} (ps qs : List (List X)) (t left page : List X) (x : X) → IsPaged ps t → PAGE ≤ length t + 1 → length ps < MAX_PAGES → page ≡ t ++ x ∷ [] → qs ≡ ps ++ page ∷ [] → left ≡ [] → IsPaged qs left × (joined qs ++ left ≡ (joined ps ++ t) ++ x ∷ [])
page_put {X} ps qs t left page x paged full few e f g =
    let size : length page ≡ PAGE = omega (arith, ap length e, length_push t x, paged.short) in
    let P : List (List X) → Type 0 = λ l. AreOf PAGE l in (
      record {
        full = subst P (sym f) (one_more PAGE ps page paged.full size);
        short = omega (arith, ap length g);
        few = omega (arith, ap length f, length_push ps page);
      },
      ap (λ (l : List X). joined qs ++ l) g ∙ ap (λ (l : List (List X)). joined l ++ []) f ∙ with_more ps page [] t (x ∷ []) (append-nil page ∙ e),
    )

-- ---- equal lists are cut at the same places

pub paged_same : {X : Type 0} (ps qs : List (List X)) (r s : List X) → IsPaged ps r → IsPaged qs s → joined ps ++ r ≡ joined qs ++ s → (ps ≡ qs) × (r ≡ s)
paged_same {X} ps qs r s paged other e =
    let size : length ps * PAGE + length r ≡ length qs * PAGE + length s = sym (paged_size ps r paged) ∙ ap length e ∙ paged_size qs s other in
    let n : length ps ≡ length qs = omega (arith, paged.short, other.short) in
    same_cuts PAGE ps qs r s paged.full other.full n e
