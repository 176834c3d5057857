-- What words do to members, and what further answers do to votes
use Rattle.std.proofs.Common.{◌≡◌, ◌↔◌, ◌⊎◌, inl, inr, ℕ, ◌+◌, ◌*◌, ◌<◌, ◌≤◌, Bool, true, false, not, ◌&&◌, ◌||◌, List, [], ◌∷◌, refl, ap, sym, subst, ◌∙◌, arith, if◌then◌else◌, ◌==◌, Ok}
use Rattle.std.proofs.lemmas.Bool.{ne_eqb, cases_Bool, and_parts, and_from, or_parts, or_left, or_right, not-true, false_from_ne_true, true_from_ne_false, false≢true}
use Rattle.std.proofs.lemmas.Bool.Decides.{Decides-or}
use Rattle.rb_tracker.specs.Sets.{has, with_id, without}
use Rattle.rb_tracker.specs.Configs.{voters}
use Rattle.rb_tracker.specs.Quorum.{is_majority, is_quorum}
use Rattle.rb_tracker.specs.Changes.{as_learner, word_applied, simple, entering, enter_joint, leave_joint, IsConfig}
use Rattle.rb_tracker.specs.Ballots.{has_answered, answered, is_won, is_open, vote_result, IsOnce}
use Rattle.rb_tracker.specs.Moves.{Moves, IsLeft, answered_all, grants_of}
use Rattle.rb_tracker.specs.declared.config.Config.{Config}
use Rattle.rb_tracker.specs.declared.votes.Votes.{Votes}
use Rattle.rb_tracker.specs.declared.votes.VoteResult.{VoteResult}
use Rattle.rb_tracker.specs.declared.votes.VoteResult.TheVariants.{Won, Lost}
use Rattle.rb_vocab.specs.declared.change.Word.{Word}
use Rattle.rb_vocab.specs.declared.change.WordKind.TheVariants as kind
use Rattle.rb_tracker.proofs.SetLaws.{if_both, self_id, same_id}
use Rattle.rb_tracker.proofs.ChangeLaws.{has_with_id, has_without, has_union, enter_ok, simple_ok, leave_ok, done_keeps}
use Rattle.rb_tracker.proofs.VoteLaws.{most_more, is_won_won, lost_is, won_is_open, both_more, answer_grants_more, answered_once}

-- ---- one id, and another

here_with : (xs : List ℕ) (id : ℕ) → has (with_id xs id) id ≡ true
here_with xs id = has_with_id xs id id ∙ ap (λ b. if b then true else has xs id) (self_id id)

other_with : (xs : List ℕ) (id y : ℕ) → (id ≡ y → ⊥) → has (with_id xs id) y ≡ has xs y
other_with xs id y apart = has_with_id xs id y ∙ ap (λ b. if b then true else has xs y) (ne_eqb id y apart)

here_without : (xs : List ℕ) (id : ℕ) → has (without xs id) id ≡ false
here_without xs id = has_without xs id id ∙ ap (λ b. if b then false else has xs id) (self_id id)

other_without : (xs : List ℕ) (id y : ℕ) → (id ≡ y → ⊥) → has (without xs id) y ≡ has xs y
other_without xs id y apart = has_without xs id y ∙ ap (λ b. if b then false else has xs y) (ne_eqb id y apart)

-- ---- words

pub voter_moves : (c : Config) (id : ℕ) → Moves c (word_applied kind.Voter c id) id true false false
voter_moves c id = record {
  voting = here_with c.incoming id;
  learning = here_without c.learners id;
  waiting = here_without c.next id;
  other_voters = other_with c.incoming id;
  other_learners = other_without c.learners id;
  others_waiting = other_without c.next id;
  outgoing = refl;
}

pub removed_moves : (c : Config) (id : ℕ) → Moves c (word_applied kind.Remove c id) id false false false
removed_moves c id = record {
  voting = here_without c.incoming id;
  learning = here_without c.learners id;
  waiting = here_without c.next id;
  other_voters = other_without c.incoming id;
  other_learners = other_without c.learners id;
  others_waiting = other_without c.next id;
  outgoing = refl;
}

-- who learns already is to learn neither now nor later, and votes nowhere
learner_is : (c : Config) (id : ℕ) → IsConfig c → has c.learners id ≡ true → Moves c c id false (not (has c.outgoing id)) (has c.outgoing id)
learner_is c id is learns =
    let none = or_parts (has c.incoming id) (has c.outgoing id) (is.apart id learns) in
    let waits : has c.next id ≡ false = grind (arith, is.staged id, none.1) in
    record {
      voting = none.0;
      learning = learns ∙ sym (ap not none.1);
      waiting = waits ∙ sym none.1;
      other_voters = λ y apart. refl;
      other_learners = λ y apart. refl;
      others_waiting = λ y apart. refl;
      outgoing = refl;
    }

pub learner_moves : (c : Config) (id : ℕ) → IsConfig c → Moves c (word_applied kind.Learner c id) id false (not (has c.outgoing id)) (has c.outgoing id)
learner_moves c id is =
    let P : Config → Type 0 = λ d. Moves c d id false (not (has c.outgoing id)) (has c.outgoing id) in
    if_both P (has c.learners id) c (as_learner c id) (learner_is c id is)
    (λ fresh. if_both P (has c.outgoing id) _ _
    (λ out. record {
      voting = here_without c.incoming id;
      learning = fresh ∙ sym (ap not out);
      waiting = here_with (without c.next id) id ∙ sym out;
      other_voters = other_without c.incoming id;
      other_learners = λ y apart. refl;
      others_waiting = λ y apart. other_with (without c.next id) id y apart ∙ other_without c.next id y apart;
      outgoing = refl;
    })
    (λ free. record {
      voting = here_without c.incoming id;
      learning = here_with c.learners id ∙ sym (ap not free);
      waiting = here_without c.next id ∙ sym free;
      other_voters = other_without c.incoming id;
      other_learners = other_with c.learners id;
      others_waiting = other_without c.next id;
      outgoing = refl;
    }))

-- ---- entering and leaving

pub entered_auto : (c d : Config) (auto : Bool) (ws : List Word) → enter_joint c auto ws ≡ Ok d → d.auto ≡ auto
entered_auto c d auto ws e = sym (ap (λ (x : Config). x.auto) (enter_ok c d auto ws e).is) ∙ (done_keeps (entering c auto) ws).1

pub simple_halves : (c d : Config) (ws : List Word) → simple c ws ≡ Ok d → (d.outgoing ≡ c.outgoing) × (d.auto ≡ c.auto)
simple_halves c d ws e =
    let is = (simple_ok c d ws e).is in
    (sym (ap (λ (x : Config). x.outgoing) is) ∙ (done_keeps c ws).0, sym (ap (λ (x : Config). x.auto) is) ∙ (done_keeps c ws).1)

pub leaving_is : (c d : Config) → leave_joint c ≡ Ok d → IsLeft c d
leaving_is c d e =
    subst (IsLeft c) (leave_ok c d e) (record {
      alone = refl;
      nobody_waits = refl;
      not_auto = refl;
      learns = λ id. rw (has_union c.learners c.next id) (Decides-or (has c.learners id) (has c.next id) (λ h. h, λ h. h) (λ h. h, λ h. h));
    })

-- ---- votes that are lost

more_refuse : (b r : Bool) → not (if b then true else r) ≡ true → not r ≡ true
more_refuse true r h = cc
more_refuse false r h = h

-- a further answer takes no refusal back
refusals_stay : (v : Votes) (id : ℕ) (granted : Bool) (y : ℕ) → not (has (answered v id granted).refused y) ≡ true → not (has v.refused y) ≡ true
unfolding answered
refusals_stay v id granted y =
    let P : Votes → Type 0 = λ w. not (has w.refused y) ≡ true → not (has v.refused y) ≡ true in
    if_both P (has_answered v id) _ _ (λ _ h. h)
    (λ _. if_both P granted _ _ (λ _ h. h)
    (λ _ h. more_refuse (id == y) (has v.refused y) (sym (ap not (has_with_id v.refused id y)) ∙ h)))

closed_stays : (c : Config) (v : Votes) (id : ℕ) (granted : Bool) → is_open c v ≡ false → is_open c (answered v id granted) ≡ false
closed_stays c v id granted closed =
    let w = answered v id granted in
    false_from_ne_true (is_open c w)
    (λ opened. false≢true (sym closed ∙ both_more c (λ y. not (has w.refused y)) (λ y. not (has v.refused y)) (refusals_stay v id granted) opened))

-- of nobody who both granted and refused, a vote that isn't open is lost
closed_is_lost : (c : Config) (v : Votes) → IsOnce v → is_open c v ≡ false → vote_result c v ≡ Lost
unfolding vote_result
closed_is_lost c v once closed =
    let P : VoteResult → Type 0 = λ r. r ≡ Lost in
    if_both P (is_won c v) _ _ (λ won. absurd (false≢true (sym closed ∙ won_is_open c v once won)))
    (λ _. if_both P (is_open c v) _ _ (λ opened. absurd (false≢true (sym closed ∙ opened))) (λ _. refl))

closed_on : (c : Config) (v : Votes) (answers : List (ℕ × Bool)) → IsOnce v → is_open c v ≡ false → vote_result c (answered_all v answers) ≡ Lost
closed_on c v [] once closed = closed_is_lost c v once closed
closed_on c v (a ∷ answers) once closed =
    closed_on c (answered v a.0 a.1) answers (answered_once v a.0 a.1 once) (closed_stays c v a.0 a.1 closed)

pub lost_stays : (c : Config) (v : Votes) (answers : List (ℕ × Bool)) → IsOnce v → vote_result c v ≡ Lost → vote_result c (answered_all v answers) ≡ Lost
lost_stays c v answers once lost = closed_on c v answers once (lost_is c v lost)

-- ---- votes that aren't lost

-- grants of some ids take no grant back, and make none refuse
grants_stay : (v : Votes) (answers : List (ℕ × Bool)) (y : ℕ) → has v.granted y ≡ true → has (answered_all v answers).granted y ≡ true
grants_stay v [] y h = h
grants_stay v (a ∷ answers) y h = grants_stay (answered v a.0 a.1) answers y (answer_grants_more v a.0 a.1 y h)

grant_refuses_none : (v : Votes) (id y : ℕ) → has v.refused y ≡ false → has (answered v id true).refused y ≡ false
unfolding answered
grant_refuses_none v id y h =
    let P : Votes → Type 0 = λ w. has w.refused y ≡ false in
    if_both P (has_answered v id) _ _ (λ _. h) (λ _. h)

granted_or : (a b : Bool) → (a || b) ≡ true → b ≡ false → a ≡ true
granted_or true b h never = refl
granted_or false b h never = absurd (false≢true (sym never ∙ h))

-- who hasn't refused has then granted
grant_counts : (v : Votes) (id : ℕ) → has v.refused id ≡ false → has (answered v id true).granted id ≡ true
unfolding answered
grant_counts v id free =
    let P : Votes → Type 0 = λ w. has w.granted id ≡ true in
    if_both P (has_answered v id) _ _ (λ old. granted_or (has v.granted id) (has v.refused id) old free) (λ _. here_with v.granted id)

all_grant : (v : Votes) (ids : List ℕ) (y : ℕ) → has ids y ≡ true → has v.refused y ≡ false → has (answered_all v (grants_of ids)).granted y ≡ true
all_grant v [] y h free = absurd (false≢true h)
all_grant v (z ∷ zs) y h free =
    elim (cases_Bool (z == y)) as (λ _. has (answered_all v (grants_of (z ∷ zs))).granted y ≡ true) [
      | inl same ↦
          let is : z ≡ y = same_id z y same in
          grants_stay (answered v z true) (grants_of zs) y (subst (λ (i : ℕ). has (answered v i true).granted y ≡ true) (sym is) (grant_counts v y free))
      | inr other ↦
          all_grant (answered v z true) zs y (sym (ap (λ b. if b then true else has zs y) other) ∙ h) (grant_refuses_none v z y free)
    ]

not_lost_is : (c : Config) (v : Votes) → IsOnce v → (vote_result c v ≡ Lost → ⊥) → is_open c v ≡ true
not_lost_is c v once alive = true_from_ne_false (is_open c v) (λ closed. alive (closed_is_lost c v once closed))

-- where all voters that may still grant do, a vote that isn't lost is won
pub winnable : (c : Config) (v : Votes) → IsOnce v → (vote_result c v ≡ Lost → ⊥) → vote_result c (answered_all v (grants_of (voters c))) ≡ Won
winnable c v once alive =
    let w = answered_all v (grants_of (voters c)) in
    let p : ℕ → Bool = λ id. not (has v.refused id) in
    let q : ℕ → Bool = λ id. has w.granted id in
    let opened : is_quorum c p ≡ true = not_lost_is c v once alive in
    let counts : (id : ℕ) → has (voters c) id ≡ true → p id ≡ true → q id ≡ true =
    λ id votes free. all_grant v (voters c) id votes (not-true (has v.refused id) free) in
    let halves = and_parts (is_majority c.incoming p) (is_majority c.outgoing p) opened in
    is_won_won c w
    (and_from (is_majority c.incoming q) (is_majority c.outgoing q)
    (most_more p q c.incoming (λ id votes. counts id (has_union c.outgoing c.incoming id ∙ or_right (has c.outgoing id) (has c.incoming id) votes)) halves.0)
    (most_more p q c.outgoing (λ id votes. counts id (has_union c.outgoing c.incoming id ∙ or_left (has c.outgoing id) (has c.incoming id) votes)) halves.1))
