-- Lemmas on changes: what a word does to each set, told of one id at a time
use Rattle.std.proofs.Common.{◌≡◌, ℕ, ◌<◌, ◌≤◌, Bool, true, false, not, ◌&&◌, ◌||◌, List, [], ◌∷◌, length, refl, ap, sym, ◌∙◌, subst, arith, if◌then◌else◌, nat_lt, ◌==◌, Result, Ok}
use Rattle.std.proofs.lemmas.Bool.{or_parts}
use Rattle.std.proofs.lemmas.Bool.Decides.{nat_tests}
use Rattle.rb_tracker.specs.Sets.{has, with_id, without, union, IsAscending}
use Rattle.rb_tracker.specs.Configs.{is_joint}
use Rattle.rb_tracker.specs.Quorum.{IsMajority, IsQuorum, ShareVoter}
use Rattle.rb_tracker.specs.Changes.{with_voter, with_learner, without_member, word_applied, words_applied, differing, simple, entering, enter_joint, left, leave_joint, is_explicit, changed, IsConfig}
use Rattle.rb_vocab.specs.Transitions.{is_auto}
use Rattle.rb_tracker.specs.declared.config.Config.{Config}
use Rattle.rb_tracker.specs.declared.changes.ChangeFault.{ChangeFault}
use Rattle.rb_vocab.specs.declared.change.Transition.{Transition}
use Rattle.rb_vocab.specs.declared.change.Word.{Word}
use Rattle.rb_vocab.specs.declared.change.WordKind.{WordKind}
use Rattle.rb_vocab.specs.declared.change.WordKind.TheVariants as kind
use Rattle.rb_tracker.proofs.SetLaws.{if_both, same_id, not_false, ascending_with_id, ascending_filter, ascending_union}
use Rattle.rb_tracker.proofs.QuorumLaws.{majorities_meet, near_majorities_meet, incoming_shares, incoming_majority, outgoing_majority}

-- which ids a set has after an edit

with_id_step : (x id y : ℕ) (xs put : List ℕ) → has put y ≡ (if id == y then true else has xs y)
    → has (if nat_lt x id then x ∷ put else (if x == id then x ∷ xs else id ∷ x ∷ xs)) y ≡ (if id == y then true else has (x ∷ xs) y)
with_id_step x id y xs put h = grind (arith, nat_tests)

pub has_with_id : (xs : List ℕ) (id y : ℕ) → has (with_id xs id) y ≡ (if id == y then true else has xs y)
has_with_id [] id y = refl
has_with_id (x ∷ xs) id y = with_id_step x id y xs (with_id xs id) (has_with_id xs id y)

without_step : (x id y : ℕ) (xs rest : List ℕ) → has rest y ≡ (if id == y then false else has xs y)
    → has (if not (x == id) then x ∷ rest else rest) y ≡ (if id == y then false else has (x ∷ xs) y)
without_step x id y xs rest h = grind (arith, nat_tests)

pub has_without : (xs : List ℕ) (id y : ℕ) → has (without xs id) y ≡ (if id == y then false else has xs y)
has_without [] id y = if_both (λ b. false ≡ b) (id == y) false false (λ _. refl) (λ _. refl)
has_without (x ∷ xs) id y = without_step x id y xs (without xs id) (has_without xs id y)

union_step : (b a r : Bool) → ((if b then true else a) || r) ≡ (a || (if b then true else r))
union_step b a r = grind arith

pub has_union : (xs ys : List ℕ) (y : ℕ) → has (union xs ys) y ≡ (has xs y || has ys y)
has_union xs [] y = elim (has xs y) as (λ b. b ≡ (b || false)) [ true ↦ refl | false ↦ refl ]
has_union xs (z ∷ zs) y = rw (has_union (with_id xs z) zs y, has_with_id xs z y) (union_step (z == y) (has xs y) (has zs y))

-- an id that is another's has what that has
pub same_has : (xs : List ℕ) (id y : ℕ) (b : Bool) → has xs id ≡ b → (id == y) ≡ true → has xs y ≡ b
same_has xs id y b h e = let same = same_id id y e in rw (← same) h

-- what a word leaves of one id

module _ (c : Config) (id : ℕ) (is : IsConfig c) where
  as_voter : IsConfig (with_voter c id)
  as_voter = record {
    incoming = ascending_with_id c.incoming id is.incoming;
    outgoing = is.outgoing;
    learners = ascending_filter (λ x. not (x == id)) c.learners is.learners;
    next = ascending_filter (λ x. not (x == id)) c.next is.next;
    apart = λ y h. grind (arith, nat_tests, is.apart y, has_with_id c.incoming id y, has_without c.learners id y);
    staged = λ y h. grind (arith, nat_tests, is.staged y, has_with_id c.incoming id y, has_without c.next id y);
  }

  removed : IsConfig (without_member c id)
  removed = record {
    incoming = ascending_filter (λ x. not (x == id)) c.incoming is.incoming;
    outgoing = is.outgoing;
    learners = ascending_filter (λ x. not (x == id)) c.learners is.learners;
    next = ascending_filter (λ x. not (x == id)) c.next is.next;
    apart = λ y h. grind (arith, nat_tests, is.apart y, has_without c.incoming id y, has_without c.learners id y);
    staged = λ y h. grind (arith, nat_tests, is.staged y, has_without c.incoming id y, has_without c.next id y);
  }

  learns_later : has c.outgoing id ≡ true → IsConfig (record c { incoming = without c.incoming id; next = with_id (without c.next id) id })
  learns_later there = record {
    incoming = ascending_filter (λ x. not (x == id)) c.incoming is.incoming;
    outgoing = is.outgoing;
    learners = is.learners;
    next = ascending_with_id (without c.next id) id (ascending_filter (λ x. not (x == id)) c.next is.next);
    apart = λ y h. grind (arith, nat_tests, is.apart y, has_without c.incoming id y);
    staged = λ y h. grind (arith, nat_tests, is.staged y, has_without c.incoming id y, has_with_id (without c.next id) id y, has_without c.next id y, there);
  }

  learns_now : has c.outgoing id ≡ false → IsConfig (record c { incoming = without c.incoming id; next = without c.next id; learners = with_id c.learners id })
  learns_now absent = record {
    incoming = ascending_filter (λ x. not (x == id)) c.incoming is.incoming;
    outgoing = is.outgoing;
    learners = ascending_with_id c.learners id is.learners;
    next = ascending_filter (λ x. not (x == id)) c.next is.next;
    apart = λ y h. grind (arith, nat_tests, is.apart y, has_without c.incoming id y, has_with_id c.learners id y, absent);
    staged = λ y h. grind (arith, nat_tests, is.staged y, has_without c.incoming id y, has_without c.next id y);
  }

  as_learner_is : IsConfig (with_learner c id)
  as_learner_is = if_both IsConfig (has c.learners id) _ _ (λ _. is) (λ _. if_both IsConfig (has c.outgoing id) _ _ learns_later learns_now)

word_is : (w : WordKind) (c : Config) (id : ℕ) → IsConfig c → IsConfig (word_applied w c id)
word_is kind.Voter c id is = as_voter c id is
word_is kind.Learner c id is = as_learner_is c id is
word_is kind.Remove c id is = removed c id is
word_is kind.Update c id is = is

done_is : (c : Config) (ws : List Word) → IsConfig c → IsConfig (words_applied c ws)
done_is c [] is = is
done_is c (w ∷ ws) is = done_is (word_applied w.kind c w.id) ws (word_is w.kind c w.id is)

-- no word touches the outgoing voters, or whether a joint configuration is left by itself
word_keeps : (w : WordKind) (c : Config) (id : ℕ) → ((word_applied w c id).outgoing ≡ c.outgoing) × ((word_applied w c id).auto ≡ c.auto)
word_keeps kind.Learner c id =
    let P : Config → Type 0 = λ d. (d.outgoing ≡ c.outgoing) × (d.auto ≡ c.auto) in
    if_both P (has c.learners id) _ _ (λ _. (refl, refl)) (λ _. if_both P (has c.outgoing id) _ _ (λ _. (refl, refl)) (λ _. (refl, refl)))
word_keeps _ c id = (refl, refl)

pub done_keeps : (c : Config) (ws : List Word) → ((words_applied c ws).outgoing ≡ c.outgoing) × ((words_applied c ws).auto ≡ c.auto)
done_keeps c [] = (refl, refl)
done_keeps c (w ∷ ws) =
    let word = word_keeps w.kind c w.id in
    let rest = done_keeps (word_applied w.kind c w.id) ws in
    (rest.0 ∙ word.0, rest.1 ∙ word.1)

-- entering and leaving

plain_has : (out : List ℕ) (y : ℕ) → not (length out == 0) ≡ false → has out y ≡ false
plain_has [] y h = refl
plain_has (x ∷ xs) y h = absurd (let none : length (x ∷ xs) ≡ 0 = same_id (length (x ∷ xs)) 0 (not_false (length (x ∷ xs) == 0) h) in omega arith)

entering_is : (c : Config) (auto : Bool) → is_joint c ≡ false → IsConfig c → IsConfig (entering c auto)
entering_is c auto plain is = record {
  incoming = is.incoming;
  outgoing = is.incoming;
  learners = is.learners;
  next = is.next;
  apart = λ y h. grind (arith, is.apart y);
  staged = λ y h. grind (arith, is.staged y, plain_has c.outgoing y plain);
}

left_is : (c : Config) → IsConfig c → IsConfig (left c)
left_is c is = record {
  incoming = is.incoming;
  outgoing = tt;
  learners = ascending_union c.learners c.next is.learners;
  next = tt;
  apart = λ y h. grind (arith, is.apart y, is.staged y, has_union c.learners c.next y);
  staged = λ y h. cc;
}

-- what each kind of change gives

at_most_one : (n : ℕ) → nat_lt 1 n ≡ false → n ≤ 1
at_most_one n h = grind (arith, nat_tests)

some_of : (n : ℕ) → (n == 0) ≡ false → 0 < n
some_of n h = grind (arith, nat_tests)

-- what a simple change that isn't refused says
pub record IsSimple (c d : Config) (ws : List Word) : Type 0 where
  pub is : words_applied c ws ≡ d
  pub some : 0 < length d.incoming
  pub near : differing c.incoming d.incoming ≤ 1

pub simple_ok : (c d : Config) (ws : List Word) → simple c ws ≡ Ok d → IsSimple c d ws
simple_ok c d ws =
    let new = words_applied c ws in
    let P : Result Config ChangeFault → Type 0 = λ r. r ≡ Ok d → IsSimple c d ws in
    if_both P (is_joint c) _ _ (λ _ e. cc)
    (λ _. if_both P (length new.incoming == 0) _ _ (λ _ e. cc)
    (λ some. if_both P (nat_lt 1 (differing c.incoming new.incoming)) _ _ (λ _ e. cc)
    (λ near e.
    let is : words_applied c ws ≡ d = cc in
    record { is = is; some = rw (← is) (some_of (length new.incoming) some); near = rw (← is) (at_most_one (differing c.incoming new.incoming) near) })))

pub record IsEntered (c d : Config) (auto : Bool) (ws : List Word) : Type 0 where
  pub plain : is_joint c ≡ false
  pub is : words_applied (entering c auto) ws ≡ d
  pub some : 0 < length d.incoming
  pub old : 0 < length d.outgoing

pub enter_ok : (c d : Config) (auto : Bool) (ws : List Word) → enter_joint c auto ws ≡ Ok d → IsEntered c d auto ws
enter_ok c d auto ws =
    let new = words_applied (entering c auto) ws in
    let P : Result Config ChangeFault → Type 0 = λ r. r ≡ Ok d → IsEntered c d auto ws in
    if_both P (is_joint c) _ _ (λ _ e. cc)
    (λ plain. if_both P (length new.outgoing == 0 || length new.incoming == 0) _ _ (λ _ e. cc)
    (λ some e.
    let is : new ≡ d = cc in
    let both = or_parts (length new.outgoing == 0) (length new.incoming == 0) some in
    record { plain = plain; is = is; some = rw (← is) (some_of (length new.incoming) both.1); old = rw (← is) (some_of (length new.outgoing) both.0) }))

pub leave_ok : (c d : Config) → leave_joint c ≡ Ok d → left c ≡ d
leave_ok c d = let P : Result Config ChangeFault → Type 0 = λ r. r ≡ Ok d → left c ≡ d in if_both P (is_joint c) _ _ (λ _ e. cc) (λ _ e. cc)

-- each change keeps what holds of configurations
simple_is : (c d : Config) (ws : List Word) → IsConfig c → simple c ws ≡ Ok d → IsConfig d
simple_is c d ws is e = subst IsConfig (simple_ok c d ws e).is (done_is c ws is)

enter_is : (c d : Config) (auto : Bool) (ws : List Word) → IsConfig c → enter_joint c auto ws ≡ Ok d → IsConfig d
enter_is c d auto ws is e =
    let entered = enter_ok c d auto ws e in
    subst IsConfig entered.is (done_is (entering c auto) ws (entering_is c auto entered.plain is))

leave_is : (c d : Config) → IsConfig c → leave_joint c ≡ Ok d → IsConfig d
leave_is c d is e = subst IsConfig (leave_ok c d e) (left_is c is)

pub changed_is : (c d : Config) (t : Transition) (ws : List Word) → IsConfig c → changed c t ws ≡ Ok d → IsConfig d
unfolding changed
changed_is c d t ws is =
    let P : Result Config ChangeFault → Type 0 = λ r. r ≡ Ok d → IsConfig d in
    if_both P (length ws == 0) _ _ (λ _. leave_is c d is)
    (λ _. if_both P (is_auto t && length ws == 1) _ _ (λ _. simple_is c d ws is) (λ _. enter_is c d (not (is_explicit t)) ws is))

-- a quorum before a change and one after it share a voter
pub simple_meets : (c d : Config) (ws : List Word) (p q : ℕ → Bool) → IsConfig c → simple c ws ≡ Ok d → IsQuorum c p → IsQuorum d q → ShareVoter c p q
simple_meets c d ws p q is e first second =
    let simply = simple_ok c d ws e in
    let up : IsAscending d.incoming = (simple_is c d ws is e).incoming in
    incoming_shares c p q (has d.incoming) (near_majorities_meet c.incoming d.incoming p q is.incoming up simply.near (incoming_majority c p first) (incoming_majority d q second))

pub enter_meets : (c d : Config) (auto : Bool) (ws : List Word) (p q : ℕ → Bool) → enter_joint c auto ws ≡ Ok d → IsQuorum c p → IsQuorum d q → ShareVoter c p q
enter_meets c d auto ws p q e first second =
    let entered = enter_ok c d auto ws e in
    let same : d.outgoing ≡ c.incoming = ap (λ (x : Config). x.outgoing) (sym entered.is) ∙ (done_keeps (entering c auto) ws).0 in
    let old : IsMajority c.incoming q = rw (← same) (outgoing_majority d q entered.old second) in
    incoming_shares c p q (λ _. true) (majorities_meet c.incoming p q (incoming_majority c p first) old)

pub leave_meets : (c d : Config) (p q : ℕ → Bool) → leave_joint c ≡ Ok d → IsQuorum c p → IsQuorum d q → ShareVoter c p q
leave_meets c d p q e first second =
    let same : c.incoming ≡ d.incoming = ap (λ (x : Config). x.incoming) (leave_ok c d e) in
    let new : IsMajority c.incoming q = rw same (incoming_majority d q second) in
    incoming_shares c p q (λ _. true) (majorities_meet c.incoming p q (incoming_majority c p first) new)

pub changed_meets : (c d : Config) (t : Transition) (ws : List Word) (p q : ℕ → Bool) → IsConfig c → changed c t ws ≡ Ok d → IsQuorum c p → IsQuorum d q → ShareVoter c p q
unfolding changed
changed_meets c d t ws p q is e first second =
    let P : Result Config ChangeFault → Type 0 = λ r. r ≡ Ok d → ShareVoter c p q in
    if_both P (length ws == 0) _ _ (λ _ e. leave_meets c d p q e first second)
    (λ _. if_both P (is_auto t && length ws == 1) _ _ (λ _ e. simple_meets c d ws p q is e first second) (λ _ e. enter_meets c d (not (is_explicit t)) ws p q e first second)) e
