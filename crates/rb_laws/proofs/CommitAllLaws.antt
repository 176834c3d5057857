-- What a quorum holds is committed (Ongaro's thesis, section 3.6.2): no call of a leader leaves an index that it may commit
use Rattle.std.proofs.Common.{◌≡◌, ℕ, ◌+◌, ◌<◌, ◌≤◌, Bool, true, false, ◌&&◌, ◌==◌, nat_le, nat_lt, min, List, [], ◌∷◌, ◌++◌, length, length-append, Option, Some, None, Result, refl, ap, sym, subst, ◌∙◌, arith, inl, inr}
use Rattle.std.proofs.lemmas.Bool.{false≢true, cases_Bool, cases_lt, leb-true, le-leb, lt-ltb}
use Rattle.std.proofs.lemmas.Bool.Decides.{nat_tests}
use Rattle.rb_raftlog.proofs.PlaceLaws.{own-term_held}
use Rattle.rb_raftlog.specs.declared.entry.Entry.{Entry}
use Rattle.rb_raftlog.specs.declared.raft_log.LogFault.{LogFault}
use Rattle.rb_raftlog.specs.Log.{LogValue, last, term_at, is_term, own}
use Rattle.rb_tracker.proofs.CommitLaws.{commit_is_held, commit_is_greatest}
use Rattle.rb_tracker.proofs.SetLaws.{if_both}
use Rattle.rb_tracker.proofs.VoteLaws.{both_more}
use Rattle.rb_tracker.specs.Active.{with_active_by, with_active_at}
use Rattle.rb_tracker.specs.Commits.{commit_of, match_of, is_held, holds}
use Rattle.rb_tracker.specs.Progresses.{PlainProgress, paused, is_news, acked, freed_through, with_active}
use Rattle.rb_tracker.specs.Quorum.{is_quorum}
use Rattle.rb_tracker.specs.Trackers.{PlainTracker, place, view_at}
use Rattle.rb_tracker.specs.declared.config.Config.{Config}
use Rattle.rb_message.specs.declared.message.Message.{Message}
use Rattle.rb_node.specs.Acknowledging.{transfer_finished_to, commit_or_sent, reason_after, match_advanced, old_response_handled, append_response_handled_by, append_response_handled_with, append_response_handled_at, append_response_handled, marked_active}
use Rattle.rb_node.specs.Leading.{can_commit, checked_commit}
use Rattle.rb_node.specs.Node.{PlainNode, NodeStep}
use Rattle.rb_node.specs.Sends.{with_view_at}
use Rattle.rb_node.specs.declared.sends.SendReason.{SendReason}
use Rattle.rb_laws.specs.Committing.{IsHeldUpTo, HasCommittedAll}
use Rattle.rb_calls.proofs.MatchViewLaws.{of, place_set, heard_place}
use Rattle.rb_calls.proofs.Moves.{Whole, TellMove, Idle, Sent, Viewed, Commits, Allows, over_way}
use Rattle.rb_calls.proofs.ProgressLaws.{same_match, acked_matched, freed_matched, sound_freed, sound_marked}
use Rattle.rb_calls.proofs.TellWays.{append_broadcast_way, sends_way, tells_way}

-- ---- what a quorum holds

-- no member is known to hold more than the log
abbrev pub IsWithin : PlainNode → Type 0
IsWithin n = (id : ℕ) → of n id ≤ last n.log

held_again : (a b : PlainNode) (i : ℕ) → b.tracker.config ≡ a.tracker.config → ((id : ℕ) → of b id ≡ of a id) → is_held b.tracker i ≡ true → is_held a.tracker i ≡ true
held_again a b i config same held =
    both_more a.tracker.config (λ id. holds b.tracker.views i id) (λ id. holds a.tracker.views i id) (λ id h. subst (λ (k : ℕ). nat_le i k ≡ true) (same id) h)
    (subst (λ (c : Config). is_quorum c (λ id. holds b.tracker.views i id) ≡ true) config held)

up_to_again : (a b : PlainNode) (i : ℕ) → b.tracker.config ≡ a.tracker.config → ((id : ℕ) → of b id ≡ of a id) → IsHeldUpTo b.tracker i → IsHeldUpTo a.tracker i
up_to_again a b i config same h = record {
  some = subst (λ (c : Config). 0 < length c.incoming) config h.some;
  held = held_again a b i config same h.held;
  last = elim (cases_Bool (is_held a.tracker (i + 1))) as (λ _. is_held a.tracker (i + 1) ≡ false) [
    | inl held ↦ absurd (false≢true (sym h.last ∙ held_again b a (i + 1) (sym config) (λ id. sym (same id)) held))
    | inr none ↦ none
  ];
}

-- a quorum holds no more than all its members
held_within : (t : PlainTracker) (i most : ℕ) → ((id : ℕ) → match_of t.views id ≤ most) → IsHeldUpTo t i → i ≤ most
held_within t i most within h =
    elim (cases_lt most i) as (λ _. i ≤ most) [
      | inl past ↦ absurd (false≢true (sym h.last ∙ both_more t.config (λ id. holds t.views i id) (λ id. holds t.views (i + 1) id)
          (λ id has. (let low = leb-true i (match_of t.views id) has in let high = within id in absurd (omega (arith, low, high, past)))) h.held))
      | inr low ↦ low
    ]

-- where nothing of that changes, and the log is as it was past the commit
pub still_all : (a b : PlainNode) → b.tracker.config ≡ a.tracker.config → ((id : ℕ) → of b id ≡ of a id) → a.commit ≤ b.commit → b.term ≡ a.term → last a.log ≤ last b.log
    → ((i : ℕ) → b.commit < i → i ≤ last a.log → term_at b.log i ≡ term_at a.log i) → HasCommittedAll a → HasCommittedAll b
still_all a b config same up term longer terms h = record {
  within = λ id. (let e = same id in let low = h.within id in omega (arith, e, low, longer));
  all = λ i past held.
      (let was = up_to_again a b i config same held in
      let low = held_within a.tracker i (last a.log) h.within was in
      ap (λ (r : Result ℕ LogFault). is_term r b.term) (terms i past low) ∙ ap (λ (x : ℕ). is_term (term_at a.log i) x) term ∙ h.all i (omega (arith, past, up)) was);
}

-- ---- a check of the commit

second_false : (a b : Bool) → a ≡ true → (a && b) ≡ false → b ≡ false
second_false true b is e = e
second_false false b is e = absurd (false≢true is)

pub checked_all : (n : PlainNode) → IsWithin n → can_commit n (commit_of n.tracker) ≡ false → HasCommittedAll n
checked_all n within none =
    let top = commit_of n.tracker in
    record {
      within = within;
      all = λ i past h.
          (let low = commit_is_greatest n.tracker i h.some h.held in
          let high : top ≤ i = elim (cases_lt i top) as (λ _. top ≤ i) [
            | inl more ↦ absurd (false≢true (sym h.last ∙ both_more n.tracker.config (λ id. holds n.tracker.views top id) (λ id. holds n.tracker.views (i + 1) id)
                (λ id has. (let reach = leb-true top (of n id) has in le-leb (i + 1) (of n id) (omega (arith, reach, more)))) (commit_is_held n.tracker)))
            | inr most ↦ most
          ] in
          let same : top ≡ i = omega (arith, low, high) in
          subst (λ (k : ℕ). is_term (term_at n.log k) n.term ≡ false) same
          (second_false (nat_lt n.commit top) (is_term (term_at n.log top) n.term) (lt-ltb n.commit top (omega (arith, past, same))) none));
    }

not_past : (x : ℕ) (b : Bool) → (nat_lt x x && b) ≡ false
not_past x b = grind (arith, nat_tests)

committed_all : (n : PlainNode) → IsWithin n → HasCommittedAll (record n { commit = commit_of n.tracker })
committed_all n within =
    let i = commit_of n.tracker in
    checked_all (record n { commit = i }) within (not_past i (is_term (term_at n.log i) n.term))

-- ---- telling

pub telling_all : {a b : PlainNode} → TellMove a b → HasCommittedAll a → HasCommittedAll b
telling_all (Idle a b e) h =
    (let commit = ap (λ (x : Whole). x.core.commit) e in
    let log = ap (λ (x : Whole). x.core.log) e in
    let length_same : last b.log ≡ last a.log = ap (λ (v : LogValue). last v) log in
    still_all a b (ap (λ (x : Whole). x.tracker.config) e) (λ id. ap (λ (x : Whole). match_of x.tracker.views id) e) (omega (arith, commit)) (ap (λ (x : Whole). x.core.term) e)
    (omega (arith, length_same)) (λ i _ _. ap (λ (v : LogValue). term_at v i) log) h)
telling_all (Sent n m own says) h = record { within = h.within; all = h.all }
telling_all (Viewed n at view new is same sound) h =
    still_all n (with_view_at n at new) refl (λ id. same_match n.tracker.views at view new id is same) (omega arith) refl (omega arith) (λ i _ _. refl) h
telling_all (Commits n can) h = committed_all n h.within

pub tells_all : Allows TellMove (λ a b. HasCommittedAll a → HasCommittedAll b)
tells_all = record { nothing = λ n h. h; chain = λ a b c p q h. q (p h); each = λ a b m h. telling_all m h }

pub commit_or_sent_all : (n : PlainNode) (to : ℕ) (how : SendReason) → IsWithin n → HasCommittedAll (commit_or_sent n to how)
unfolding commit_or_sent
commit_or_sent_all n to how within =
    let i = commit_of n.tracker in
    if_both HasCommittedAll (can_commit n i) _ _ (λ _. over_way tells_all (append_broadcast_way (record n { commit = i })) (committed_all n within))
    (λ no. over_way tells_all (sends_way n to how) (checked_all n within no))

pub checked_commit_all : (n : PlainNode) (ids : List ℕ) → IsWithin n → HasCommittedAll (checked_commit n ids)
unfolding checked_commit
checked_commit_all n ids within =
    let i = commit_of n.tracker in
    if_both HasCommittedAll (can_commit n i) _ _ (λ _. over_way tells_all (append_broadcast_way (record n { commit = i })) (committed_all n within))
    (λ no. over_way tells_all (tells_way n ids) (checked_all n within no))

-- ---- a member's answer

acked_within : (n : PlainNode) (at from i : ℕ) (view : PlainProgress) → place n.tracker.views from ≡ Some at → i ≤ last n.log → IsWithin n → IsWithin (with_view_at n at (acked view i))
acked_within n at from i view here low within id =
    elim (place_set n.tracker.views at from id (acked view i) here) as (λ _. of (with_view_at n at (acked view i)) id ≤ last n.log) [
      | inl same ↦ (let was = within id in omega (arith, same, was))
      | inr now ↦ (let it = now.1 ∙ acked_matched view.state view i in omega (arith, it, low))
    ]

handed_all : (n : PlainNode) (to i : ℕ) → HasCommittedAll n → HasCommittedAll (transfer_finished_to n to i)
handed_all n to i h = if_both HasCommittedAll (to == n.transferee && i == last n.log) _ _ (λ _. record { within = h.within; all = h.all }) (λ _. h)

news_all : (o : Option PlainProgress) (n : PlainNode) (at from i : ℕ) → place n.tracker.views from ≡ Some at → i ≤ last n.log → HasCommittedAll n → HasCommittedAll (match_advanced o n at from i)
news_all None n at from i here low h = h
news_all (Some view) n at from i here low h =
    let x : PlainNode = with_view_at n at (acked view i) in
    let how = reason_after (paused view) in
    handed_all (commit_or_sent x from how) from i (commit_or_sent_all x from how (acked_within n at from i view here low h.within))

old_all : (o : Option PlainProgress) (n : PlainNode) (at i : ℕ) → view_at n.tracker.views at ≡ o → HasCommittedAll n → HasCommittedAll (old_response_handled o n at i)
old_all None n at i is h = h
old_all (Some view) n at i is h = telling_all (Viewed n at view (freed_through view i) is (freed_matched view.state view i) (λ _ g. sound_freed view i g)) h

accepted_by_all : (b : Bool) (n : PlainNode) (at from i : ℕ) → place n.tracker.views from ≡ Some at → i ≤ last n.log → HasCommittedAll n → HasCommittedAll (append_response_handled_by b n at from i)
accepted_by_all true n at from i here low h = news_all (view_at n.tracker.views at) n at from i here low h
accepted_by_all false n at from i here low h = old_all (view_at n.tracker.views at) n at i refl h

accepted_with_all : (o : Option PlainProgress) (n : PlainNode) (at from i : ℕ) → place n.tracker.views from ≡ Some at → i ≤ last n.log → HasCommittedAll n → HasCommittedAll (append_response_handled_with o n at from i)
accepted_with_all None n at from i here low h = h
accepted_with_all (Some view) n at from i here low h = accepted_by_all (is_news view i) n at from i here low h

marked_with_all : (o : Option PlainProgress) (n : PlainNode) (at : ℕ) → view_at n.tracker.views at ≡ o → HasCommittedAll n → HasCommittedAll (record n { tracker = with_active_by o n.tracker at true })
marked_with_all None n at is h = record { within = h.within; all = h.all }
marked_with_all (Some view) n at is h = telling_all (Viewed n at view (with_active view true) is refl (λ _ g. sound_marked view true g)) h

marked_all : (n : PlainNode) (at : ℕ) → HasCommittedAll n → HasCommittedAll (marked_active n at)
unfolding with_active_at
marked_all n at h = marked_with_all (view_at n.tracker.views at) n at refl h

accepted_at_all : (o : Option ℕ) (t : NodeStep) (m : Message) (i : ℕ) → place t.node.tracker.views m.from ≡ o → HasCommittedAll t.node → HasCommittedAll (append_response_handled_at o t m i).node
accepted_at_all None t m i is h = h
accepted_at_all (Some at) t m i is h =
    let n : PlainNode = marked_active t.node at in
    accepted_with_all (view_at n.tracker.views at) n at m.from (min i (last t.node.log)) (heard_place t.node at m.from is) (omega arith) (marked_all t.node at h)

pub accepted_all : (t : NodeStep) (m : Message) (i : ℕ) → HasCommittedAll t.node → HasCommittedAll (append_response_handled t m i).node
unfolding append_response_handled
accepted_all t m i h = accepted_at_all (place t.node.tracker.views m.from) t m i refl h

-- an entry of its own changes nothing yet
pub own_all : (n : PlainNode) (e : Entry) → HasCommittedAll n → HasCommittedAll (record n { log = own n.log e })
own_all n e h =
    let longer : length (n.log.entries ++ e ∷ []) ≡ length n.log.entries + 1 = length-append n.log.entries (e ∷ []) in
    still_all n (record n { log = own n.log e }) refl (λ id. refl) (omega arith) refl (omega (arith, longer)) (λ i _ low. own-term_held n.log e i low) h
