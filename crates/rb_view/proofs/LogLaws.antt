-- Logs that are compared entry by entry.
use Rattle.std.proofs.Common.{◌≡◌, ◌∙◌, ℕ, zero, suc, ◌+◌, ◌-◌, ◌<◌, ◌≤◌, inl, inr, Bool, true, false, List, [], ◌∷◌, ◌++◌, length, length-drop, drop, Option, Some, None, Result, Ok, IsOk, refl, ap, ap₂, sym, subst, arith, Err}
use Rattle.std.specs.Prelude.{◌&&◌, ◌==◌, max, min, if◌then◌else◌, codes, slice_get, Decides, nat_le}
use Rattle.std.specs.Cmp.Lexicographic.{pointwise}
use Rattle.std.specs.Str.{bytes_eq}
use Rattle.std.proofs.lemmas.Slice.Eq.{bytes_eq-Decides, slice_eq-Decides}
use Rattle.std.proofs.lemmas.Bool.{le-leb}
use Rattle.std.proofs.lemmas.Bool.Decides.{Decides-and, Decides-eqb, Decides-like, leb_tells, nat_tests}
use Rattle.std.proofs.lemmas.List.{drop_all}
use Rattle.std.proofs.lemmas.List.Sums.{common_prefix_len-le}
use Rattle.std.proofs.lemmas.Option.{slice_get_within}
use Rattle.rb_raftlog.specs.declared.entry.Body.{Body}
use Rattle.rb_raftlog.specs.declared.entry.Body.TheVariants as bodies
use Rattle.rb_raftlog.specs.declared.entry.Entry.{Entry}
use Rattle.rb_vocab.specs.declared.change.Transition.{Transition}
use Rattle.rb_vocab.specs.declared.change.Transition.TheVariants as transitions
use Rattle.rb_vocab.specs.declared.change.Word.{Word}
use Rattle.rb_vocab.specs.declared.change.WordKind.{WordKind}
use Rattle.rb_vocab.specs.declared.change.WordKind.TheVariants as kinds
use Rattle.rb_raftlog.specs.declared.raft_log.LogFault.{LogFault}
use Rattle.rb_raftlog.specs.Log.{LogValue, last, entries_after, entry_at, found}
use Rattle.rb_script.specs.Lines.{Line}
use Rattle.rb_texts.specs.Entries.{transition_text, letter}
use Rattle.rb_view.specs.ItemRows.{entry_row}
use Rattle.rb_view.specs.Kept.{texts_of}
use Rattle.rb_view.specs.Rows.{next_text}
use Rattle.rb_view.proofs.KeptLaws.{left_some}
use Rattle.rb_calls.proofs.ListLaws.{some_at}
use Rattle.rb_view.proofs.KeepLaws.{one_part}
use Rattle.rb_view.specs.Logs.{common, entry_rows, held_after, is_same_log, nearest, same_up_to, same_word, same_body, same_entry, stays, stays_since}

-- ---- which entries are the same

-- values whose texts can be read back are the same where these are
told_apart : {X : Type 0} (text_of : X → List ℕ) (read : List ℕ → X) → ((x : X) → read (text_of x) ≡ x) → (a b : X) → Decides (bytes_eq (text_of a) (text_of b)) (a ≡ b)
told_apart text_of read back a b =
    Decides-like (bytes_eq (text_of a) (text_of b)) (λ e. sym (back a) ∙ ap read e ∙ back b) (ap text_of) (bytes_eq-Decides (text_of a) (text_of b))

transition_of : List ℕ → Transition
transition_of text =
    if bytes_eq text (transition_text transitions.Auto) then transitions.Auto
    else (if bytes_eq text (transition_text transitions.Explicit) then transitions.Explicit else transitions.Implicit)

transition_back : (t : Transition) → transition_of (transition_text t) ≡ t
unfolding transition_of
transition_back transitions.Auto = refl
transition_back transitions.Explicit = refl
transition_back transitions.Implicit = refl

kind_of : List ℕ → WordKind
kind_of text =
    if bytes_eq text (letter kinds.Voter) then kinds.Voter
    else (if bytes_eq text (letter kinds.Learner) then kinds.Learner else (if bytes_eq text (letter kinds.Remove) then kinds.Remove else kinds.Update))

kind_back : (k : WordKind) → kind_of (letter k) ≡ k
unfolding kind_of
kind_back kinds.Voter = refl
kind_back kinds.Learner = refl
kind_back kinds.Remove = refl
kind_back kinds.Update = refl

same_word-Decides : (a b : Word) → Decides (same_word a b) (a ≡ b)
same_word-Decides a b =
    Decides-like (same_word a b) (λ p. ap₂ (λ (kind : WordKind) (id : ℕ). record { kind = kind; id = id }) p.0 p.1) (λ e. (ap (λ (w : Word). w.kind) e, ap (λ (w : Word). w.id) e))
    (Decides-and (bytes_eq (letter a.kind) (letter b.kind)) (a.id == b.id) (told_apart letter kind_of kind_back a.kind b.kind) (Decides-eqb a.id b.id))

same_body-Decides : (a b : Body) → Decides (same_body a b) (a ≡ b)
same_body-Decides (bodies.Payload a) (bodies.Payload b) = Decides-like (bytes_eq a b) (ap bodies.Payload) (λ e. let is : a ≡ b = cc in is) (bytes_eq-Decides a b)
same_body-Decides (bodies.Payload a) (bodies.Change t ws) = (λ e. absurd cc, λ e. absurd cc)
same_body-Decides (bodies.Change t ws) (bodies.Payload b) = (λ e. absurd cc, λ e. absurd cc)
same_body-Decides (bodies.Change t ws) (bodies.Change u vs) =
    Decides-like (same_body (bodies.Change t ws) (bodies.Change u vs)) (λ p. ap₂ bodies.Change p.0 p.1)
    (λ e. (let is : t ≡ u = cc in is, let is : ws ≡ vs = cc in is))
    (Decides-and (bytes_eq (transition_text t) (transition_text u)) (pointwise same_word ws vs) (told_apart transition_text transition_of transition_back t u)
    (slice_eq-Decides same_word-Decides ws vs (pointwise same_word ws vs) refl))

pub same_entry-Decides : (a b : Entry) → Decides (same_entry a b) (a ≡ b)
same_entry-Decides a b =
    Decides-like (same_entry a b) (λ p. ap₂ (λ (term : ℕ) (body : Body). record { term = term; body = body }) p.0 p.1) (λ e. (ap (λ (x : Entry). x.term) e, ap (λ (x : Entry). x.body) e))
    (Decides-and (a.term == b.term) (same_body a.body b.body) (Decides-eqb a.term b.term) (same_body-Decides a.body b.body))

same_entry-refl : (a : Entry) → same_entry a a ≡ true
same_entry-refl a = (same_entry-Decides a a).1 refl

-- ---- entry by entry

-- the entries past an index are those after the first one of them
pub after_first : (v : LogValue) (i : ℕ) (e : Entry) → v.base ≤ i → slice_get v.entries (i + 1 - v.base - 1) ≡ Some e → entries_after v i ≡ e ∷ entries_after v (i + 1)
after_first v i e above got =
    let at : i + 1 - v.base - 1 ≡ i - v.base = omega (arith, above) in
    let next : i - v.base + 1 ≡ i + 1 - v.base = omega (arith, above) in
    left_some v.entries (i - v.base) e (ap (λ (k : ℕ). slice_get v.entries k) (sym at) ∙ got) ∙ ap (λ (k : ℕ). e ∷ drop k v.entries) next

pub after_last : (v : LogValue) (i : ℕ) → last v ≤ i → entries_after v i ≡ []
after_last v i past = drop_all (i - v.base) v.entries (omega (arith, past))

entry_past : (v : LogValue) (i : ℕ) → v.base < i → entry_at v i ≡ found (slice_get v.entries (i - v.base - 1))
entry_past v i h = grind (arith, nat_tests)

found_is : (o : Option Entry) (e : Entry) → found o ≡ Ok e → o ≡ Some e
found_is None e h = absurd cc
found_is (Some d) e h = let same : d ≡ e = cc in ap (λ x. Some x) same

pub entry_there : (v : LogValue) (i : ℕ) (e : Entry) → v.base < i → entry_at v i ≡ Ok e → slice_get v.entries (i - v.base - 1) ≡ Some e
entry_there v i e h is = found_is (slice_get v.entries (i - v.base - 1)) e (sym (entry_past v i h) ∙ is)

-- there is an entry at each index past the base, up to the last
pub entry_held : (v : LogValue) (i : ℕ) → v.base < i → i ≤ last v → IsOk (entry_at v i)
entry_held v i above below =
    let t = some_at v.entries (i - v.base - 1) (omega arith) in
    let ok : entry_at v i ≡ Ok t.0 = entry_past v i above ∙ ap found t.1 in
    subst (λ (r : Result Entry LogFault). IsOk r) (sym ok) refl

-- ---- where the comparison begins, goes on and ends

pub stays_from : (old new : LogValue) → old.base ≤ new.base → stays old new ≡ new.base + common (entries_after old new.base) (entries_after new new.base)
stays_from old new le =
    let none : new.base - new.base ≡ 0 = omega arith in
    ap (λ (t : Bool). new.base + common (if t then entries_after old new.base else []) new.entries) (le-leb old.base new.base le)
    ∙ ap (λ (k : ℕ). new.base + common (entries_after old new.base) (drop k new.entries)) (sym none)

pub stays_on : (old new : LogValue) (whole i : ℕ) (x y : Entry) → old.base ≤ i → new.base ≤ i → slice_get old.entries (i + 1 - old.base - 1) ≡ Some x → slice_get new.entries (i + 1 - new.base - 1) ≡ Some y → same_entry x y ≡ true
    → whole ≡ i + common (entries_after old i) (entries_after new i) → whole ≡ i + 1 + common (entries_after old (i + 1)) (entries_after new (i + 1))
stays_on old new whole i x y above past got other same inv =
    let here : common (entries_after old i) (entries_after new i) ≡ 1 + common (entries_after old (i + 1)) (entries_after new (i + 1)) =
    ap₂ common (after_first old i x above got) (after_first new i y past other) ∙ (rw same refl) in
    omega (arith, here, inv)

pub stays_over : (old new : LogValue) (whole i : ℕ) (x y : Entry) → old.base ≤ i → new.base ≤ i → slice_get old.entries (i + 1 - old.base - 1) ≡ Some x → slice_get new.entries (i + 1 - new.base - 1) ≡ Some y → same_entry x y ≡ false
    → whole ≡ i + common (entries_after old i) (entries_after new i) → i ≡ whole
stays_over old new whole i x y above past got other is_other inv =
    let here : common (entries_after old i) (entries_after new i) ≡ 0 = ap₂ common (after_first old i x above got) (after_first new i y past other) ∙ (rw is_other refl) in
    omega (arith, here, inv)

-- where the old log has entries past an index, and where it begins above it
pub past_is : (old new : LogValue) (index : ℕ) → old.base ≤ index → same_up_to old new index ≡ index + common (entries_after old index) (entries_after new index)
past_is old new index le = ap (λ (t : Bool). index + common (if t then entries_after old index else []) (entries_after new index)) (le-leb old.base index le)

pub past_none : (old new : LogValue) (index : ℕ) → index < old.base → same_up_to old new index ≡ index
past_none old new index low =
    let no : nat_le old.base index ≡ false = grind (arith, nat_tests) in
    ap (λ (t : Bool). index + common (if t then entries_after old index else []) (entries_after new index)) no ∙ (let e : index + 0 ≡ index = omega arith in e)

-- where one of the logs ends
pub stays_end : (old new : LogValue) (whole i : ℕ) → min (last new) (last old) ≤ i → whole ≡ i + common (entries_after old i) (entries_after new i) → i ≡ whole
stays_end old new whole i past inv =
    let few = common_prefix_len-le same_entry (entries_after old i) (entries_after new i) in
    omega (arith, past, inv, few.0, few.1, length-drop (i - old.base) old.entries, length-drop (i - new.base) new.entries)

-- ---- where the first entries are known to be the same

-- the comparison passes an entry that is the same
pub stays_known : (old new : LogValue) (i : ℕ) → old.base ≤ i → new.base ≤ i → i < last new → entry_at new (i + 1) ≡ entry_at old (i + 1)
    → stays old new ≡ i + common (entries_after old i) (entries_after new i) → stays old new ≡ i + 1 + common (entries_after old (i + 1)) (entries_after new (i + 1))
stays_known old new i above past held same inv =
    let there = some_at new.entries (i + 1 - new.base - 1) (omega arith) in
    let x = there.0 in
    let is_new : entry_at new (i + 1) ≡ Ok x = entry_past new (i + 1) (omega arith) ∙ ap found there.1 in
    let was : slice_get old.entries (i + 1 - old.base - 1) ≡ Some x = entry_there old (i + 1) x (omega arith) (sym same ∙ is_new) in
    stays_on old new (stays old new) i x x above past was there.1 (same_entry-refl x) inv

stays_far : (old new : LogValue) (to d : ℕ) → old.base ≤ new.base → ((i : ℕ) → i ≤ to → new.base < i → entry_at new i ≡ entry_at old i) → new.base + d ≤ to → to ≤ last new
    → stays old new ≡ new.base + d + common (entries_after old (new.base + d)) (entries_after new (new.base + d))
stays_far old new to zero le known at held = let same : new.base ≡ new.base + 0 = omega arith in subst (λ (i : ℕ). stays old new ≡ i + common (entries_after old i) (entries_after new i)) same (stays_from old new le)
stays_far old new to (suc d) le known at held =
    let i = new.base + d in
    let next : i + 1 ≡ new.base + suc d = omega arith in
    subst (λ (j : ℕ). stays old new ≡ j + common (entries_after old j) (entries_after new j)) next
    (stays_known old new i (omega (arith, le)) (omega arith) (omega (arith, at, held)) (known (i + 1) (omega (arith, at)) (omega arith)) (stays_far old new to d le known (omega (arith, at)) held))

pub since_known : (old new : LogValue) (known : ℕ) → old.base ≤ new.base → ((i : ℕ) → i ≤ known → new.base < i → entry_at new i ≡ entry_at old i) → stays_since old new known ≡ stays old new
since_known old new known le same =
    let to = nearest new known in
    let d = to - new.base in
    let back : new.base + d ≡ to = omega arith in
    let all = stays_far old new to d le (λ i low past. same i (omega (arith, low, past)) past) (omega (arith, back)) (omega arith) in
    past_is old new to (omega (arith, le))
    ∙ sym (subst (λ (j : ℕ). stays old new ≡ j + common (entries_after old j) (entries_after new j)) back all)

-- where nothing is known to stay
pub since_nothing : (old new : LogValue) → stays_since old new 0 ≡ stays old new
since_nothing old new =
    let begins : nearest new 0 ≡ new.base = omega arith in
    let none : new.base - new.base ≡ 0 = omega arith in
    ap (same_up_to old new) begins ∙ ap (λ (k : ℕ). new.base + common (held_after old new.base) (drop k new.entries)) none

-- one entry more is there, and one less is left
pub entries_more : (v : LogValue) (i : ℕ) (e : Entry) (before after all : List Line) → v.base < i → slice_get v.entries (i - v.base - 1) ≡ Some e → after ≡ before ++ next_text (entry_row (codes "entry") i e) ∷ []
    → before ++ texts_of (entry_rows i (entries_after v (i - 1))) ≡ all → after ++ texts_of (entry_rows (i + 1) (entries_after v (i + 1 - 1))) ≡ all
entries_more v i e before after all above got adds inv =
    let prior : i - 1 + 1 ≡ i = omega (arith, above) in
    let next : i + 1 - 1 ≡ i = omega arith in
    let there : slice_get v.entries (i - 1 + 1 - v.base - 1) ≡ Some e = ap (λ (k : ℕ). slice_get v.entries (k - v.base - 1)) prior ∙ got in
    let split : entries_after v (i - 1) ≡ e ∷ entries_after v (i + 1 - 1) = after_first v (i - 1) e (omega (arith, above)) there ∙ ap (λ (k : ℕ). e ∷ entries_after v k) (prior ∙ sym next) in
    one_part before after (next_text (entry_row (codes "entry") i e) ∷ []) (texts_of (entry_rows i (entries_after v (i - 1)))) (texts_of (entry_rows (i + 1) (entries_after v (i + 1 - 1)))) all
    (ap (λ (es : List Entry). texts_of (entry_rows i es)) split) adds inv

-- ---- a log that stays, and how many rows a log has

common_own : (es : List Entry) → common es es ≡ length es
common_own [] = refl
common_own (e ∷ es) =
    let one : common (e ∷ es) (e ∷ es) ≡ 1 + common es es = ap (λ (t : Bool). if t then 1 + common es es else 0) (same_entry-refl e) in
    omega (arith, one, common_own es)

stays_own : (v : LogValue) → stays v v ≡ last v
stays_own v =
    let none : v.base - v.base ≡ 0 = omega arith in
    stays_from v v (omega arith) ∙ ap (λ (k : ℕ). v.base + common (drop k v.entries) (drop k v.entries)) none ∙ ap (λ (n : ℕ). v.base + n) (common_own v.entries)

pub own_same : (v : LogValue) → is_same_log v v ≡ true
own_same v =
    let base : (v.base == v.base) ≡ true = (Decides-eqb v.base v.base).1 refl in
    let term : (v.base_term == v.base_term) ≡ true = (Decides-eqb v.base_term v.base_term).1 refl in
    let all : (stays v v == last v) ≡ true = (Decides-eqb (stays v v) (last v)).1 (stays_own v) in
    ap (λ (t : Bool). t && v.base_term == v.base_term && stays v v == last v && stays v v == last v) base
    ∙ ap (λ (t : Bool). true && t && stays v v == last v && stays v v == last v) term ∙ ap (λ (t : Bool). true && true && t && t) all

pub entries_count : (index : ℕ) (es : List Entry) → length (entry_rows index es) ≡ length es
entries_count index [] = refl
entries_count index (e ∷ es) = ap (λ (k : ℕ). suc k) (entries_count (index + 1) es)
