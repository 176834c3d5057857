-- An entry that a quorum has answered is committed (Ongaro's thesis, section 3.6.2)
use Rattle.std.proofs.Common.{◌≡◌, ◌⊎◌, ℕ, ◌+◌, ◌<◌, ◌≤◌, Bool, true, false, not, ◌&&◌, ◌||◌, ◌==◌, nat_lt, min, List, [], ◌∷◌, length, Option, Some, None, Ok, refl, sym, ap, subst, ◌∙◌, arith, inl, inr, eqb-true, eq-eqb}
use Rattle.std.specs.Map.{keys_of}
use Rattle.std.specs.List.{count_by, position_or_len}
use Rattle.std.proofs.lemmas.Bool.{false≢true, cases_Bool, cases_lt, cond-true, cond-false, and_left, or_parts, lt-ltb, ltb-false, leb-true, le-leb, or_cases, or_left, or_right}
use Rattle.std.proofs.lemmas.List.Quantifiers.{position-Some}
use Rattle.std.proofs.lemmas.Option.{same_Some}
use Rattle.rb_raftlog.specs.declared.entry.Body.TheVariants.{Payload}
use Rattle.rb_raftlog.specs.declared.entry.Entry.{Entry}
use Rattle.rb_raftlog.specs.Log.{LogValue, last, term_at, entry_at, is_term, own}
use Rattle.rb_raftlog.proofs.PlaceLaws.{own-last}
use Rattle.rb_raftlog.proofs.TermLaws.{is_term_from}
use Rattle.rb_tracker.proofs.CountLaws.{count_none}
use Rattle.rb_tracker.proofs.SetLaws.{if_both}
use Rattle.rb_tracker.proofs.VoteLaws.{both_more}
use Rattle.rb_tracker.specs.Active.{with_active_by, with_active_at}
use Rattle.rb_tracker.specs.Commits.{match_of, is_held, holds}
use Rattle.rb_tracker.specs.Configs.{is_member}
use Rattle.rb_tracker.specs.Progresses.{PlainProgress, with_active, acked, freed_through, is_news, is_probing, paused}
use Rattle.rb_tracker.specs.Quorum.{is_majority, is_quorum}
use Rattle.rb_tracker.specs.Sets.{has}
use Rattle.rb_tracker.specs.Trackers.{place, view_at}
use Rattle.rb_tracker.specs.declared.config.Config.{Config}
use Rattle.rb_message.specs.declared.kind.MessageKind.TheVariants as kind
use Rattle.rb_message.specs.declared.message.Message.{Message}
use Rattle.rb_message.specs.declared.role.Role.{Role}
use Rattle.rb_message.specs.declared.role.Role.TheVariants as role
use Rattle.rb_node.specs.Acknowledging.{marked_active, transfer_finished_to, commit_or_sent, reason_after, match_advanced, old_response_handled, append_response_handled_by, append_response_handled_with, append_response_handled_at, append_response_handled}
use Rattle.rb_node.specs.Node.{PlainNode, NodeStep, message}
use Rattle.rb_node.specs.Proposing.{proposal_appended, proposal_handled}
use Rattle.rb_node.specs.Sends.{with_view_at}
use Rattle.rb_node.specs.Step.{as_leader, by_role_of, stepped}
use Rattle.rb_calls.specs.Calling.{Step, Propose, after, run}
use Rattle.rb_laws.specs.Committing.{HasCommittedAll, HasCommittedEntry, CommitsAll, AwaitsAnswers, ack_from, acks, IsHeldWith}
use Rattle.rb_laws.specs.Proposals.{TakesProposals}
use Rattle.rb_calls.specs.Sound.{IsSound, HasViewsOfMembers}
use Rattle.rb_laws.proofs.ActiveLaws.{view_there}
use Rattle.rb_calls.proofs.CallLaws.{calls}
use Rattle.rb_laws.proofs.CommitCallLaws.{call_all}
use Rattle.rb_laws.proofs.ConfigLaws.{keeps_config}
use Rattle.rb_calls.proofs.Goes.{core}
use Rattle.rb_laws.proofs.LinkedLogs.{entry_term}
use Rattle.rb_calls.proofs.MatchViewLaws.{of, place_set, place_here, heard_place}
use Rattle.rb_laws.proofs.MemberMoveLaws.{called_members}
use Rattle.rb_calls.proofs.Moves.{Way, TellMove, over_way}
use Rattle.rb_calls.proofs.ProgressLaws.{same_match, acked_matched, freed_matched}
use Rattle.rb_laws.proofs.ProposalLaws.{at_leader, taken, with_room, payload_is_next}
use Rattle.rb_laws.proofs.StepCases.{by_term}
use Rattle.rb_calls.proofs.TellWays.{Rest, rest, keeps_rest, keeps_match, commit_or_sent_way, append_broadcast_way}
use Rattle.rb_calls.proofs.Turns.{own_size}
use Rattle.rb_laws.proofs.WinLaws.{no_majority}

-- ---- who has a view has a place

has_rest : (x : ℕ) (xs : List ℕ) (id : ℕ) → (id == x) ≡ false → has (x ∷ xs) id ≡ true → has xs id ≡ true
has_rest x xs id other there =
    if_both (λ (b : Bool). b ≡ true → has xs id ≡ true) (x == id) true (has xs id)
    (λ same _. absurd (false≢true (sym other ∙ eq-eqb id x (sym (eqb-true x id same))))) (λ _ h. h) there

place_low : (xs : List ℕ) (id : ℕ) → has xs id ≡ true → position_or_len (λ k. id == k) xs < length xs
place_low [] id there = absurd (false≢true there)
place_low (x ∷ xs) id there =
    elim (cases_Bool (id == x)) as (λ _. position_or_len (λ k. id == k) (x ∷ xs) < length (x ∷ xs)) [
      | inl same ↦
          let first : position_or_len (λ k. id == k) (x ∷ xs) ≡ 0 = cond-false (not (id == x)) (1 + position_or_len (λ k. id == k) xs) 0 (ap not same) in
          omega (arith, first)
      | inr other ↦
          let later : position_or_len (λ k. id == k) (x ∷ xs) ≡ 1 + position_or_len (λ k. id == k) xs = cond-true (not (id == x)) (1 + position_or_len (λ k. id == k) xs) 0 (ap not other) in
          let low = place_low xs id (has_rest x xs id other there) in
          omega (arith, later, low)
    ]

place_found : (views : List (ℕ × PlainProgress)) (id : ℕ) → has (keys_of views) id ≡ true → place views id ≡ Some (position_or_len (λ k. id == k) (keys_of views))
place_found views id there =
    let at : ℕ = position_or_len (λ k. id == k) (keys_of views) in
    cond-true (nat_lt at (length (keys_of views))) (Some at) None (lt-ltb at (length (keys_of views)) (place_low (keys_of views) id there))

-- what its view says, it is known to hold
place_match : (views : List (ℕ × PlainProgress)) (at from : ℕ) (view : PlainProgress) → place views from ≡ Some at → view_at views at ≡ Some view → match_of views from ≡ view.matched
place_match views at from view here is = sym (same_match views at view view from is refl) ∙ place_here views at from view here

no_view : (n : PlainNode) (at from : ℕ) → place n.tracker.views from ≡ Some at → view_at n.tracker.views at ≡ None → ⊥
no_view n at from here = view_there n.tracker.views at (position-Some (λ (k : ℕ). from == k) (keys_of n.tracker.views) at 0 here).0

-- ---- an answer comes

-- A leader has heard that a member holds the log up to an index: any other is known to hold what it did, or that index too.
record Heard (a b : PlainNode) (from i : ℕ) : Type 0 where
  same : rest (core b) ≡ rest (core a)
  config : b.tracker.config ≡ a.tracker.config
  others : (id : ℕ) → (i ≤ of b id) ⊎ (of b id ≡ of a id)
  heard : i ≤ of b from

-- telling changes none of that
record Tells (a b : PlainNode) : Type 0 where
  same : rest (core b) ≡ rest (core a)
  config : b.tracker.config ≡ a.tracker.config
  matches : (id : ℕ) → of b id ≡ of a id

tells_by : {a b : PlainNode} → Way TellMove a b → Tells a b
tells_by w = record { same = over_way keeps_rest w; config = over_way keeps_config w; matches = λ id. over_way (keeps_match id) w }

-- a mark changes none of that
marked_with : (o : Option PlainProgress) (n : PlainNode) (at : ℕ) → view_at n.tracker.views at ≡ o → Tells n (record n { tracker = with_active_by o n.tracker at true })
marked_with None n at is = record { same = refl; config = refl; matches = λ id. refl }
marked_with (Some view) n at is = record { same = refl; config = refl; matches = λ id. same_match n.tracker.views at view (with_active view true) id is refl }

marked : (n : PlainNode) (at : ℕ) → Tells n (marked_active n at)
unfolding with_active_at
marked n at = marked_with (view_at n.tracker.views at) n at refl

then_heard : (a b c : PlainNode) (from i : ℕ) → Tells a b → Heard b c from i → Heard a c from i
then_heard a b c from i p q = record {
  same = q.same ∙ p.same;
  config = q.config ∙ p.config;
  others = λ id. elim (q.others id) as (λ _. (i ≤ of c id) ⊎ (of c id ≡ of a id)) [ inl high ↦ inl high | inr old ↦ inr (old ∙ p.matches id) ];
  heard = q.heard;
}

handed_heard : (n y : PlainNode) (from i : ℕ) → Heard n y from i → Heard n (transfer_finished_to y from i) from i
handed_heard n y from i h =
    if_both (λ (z : PlainNode). Heard n z from i) (from == y.transferee && i == last y.log) _ _
    (λ _. record { same = h.same; config = h.config; others = h.others; heard = h.heard }) (λ _. h)

news_heard : (o : Option PlainProgress) (n : PlainNode) (at from i : ℕ) → view_at n.tracker.views at ≡ o → place n.tracker.views from ≡ Some at → (o ≡ None → ⊥) → Heard n (match_advanced o n at from i) from i
news_heard None n at from i is here there = absurd (there refl)
news_heard (Some view) n at from i is here there =
    let x : PlainNode = with_view_at n at (acked view i) in
    let y : PlainNode = commit_or_sent x from (reason_after (paused view)) in
    let t = tells_by (commit_or_sent_way x from (reason_after (paused view))) in
    let said = acked_matched view.state view i in
    let own = place_here n.tracker.views at from (acked view i) here in
    let now = t.matches from in
    handed_heard n y from i (record {
      same = t.same;
      config = t.config;
      others = λ id. elim (place_set n.tracker.views at from id (acked view i) here) as (λ _. (i ≤ of y id) ⊎ (of y id ≡ of n id)) [
        | inl old ↦ inr (t.matches id ∙ old)
        | inr new ↦ (let e = t.matches id in let it = new.1 in inl (omega (arith, e, it, said)))
      ];
      heard = omega (arith, now, own, said);
    })

old_heard : (o : Option PlainProgress) (n : PlainNode) (at from i : ℕ) → view_at n.tracker.views at ≡ o → place n.tracker.views from ≡ Some at → ((view : PlainProgress) → view_at n.tracker.views at ≡ Some view → i ≤ view.matched) → Heard n (old_response_handled o n at i) from i
old_heard None n at from i is here high = record { same = refl; config = refl; others = λ id. inr refl; heard = absurd (no_view n at from here is) }
old_heard (Some view) n at from i is here high =
    let same : (id : ℕ) → of (with_view_at n at (freed_through view i)) id ≡ of n id = λ id. same_match n.tracker.views at view (freed_through view i) id is (freed_matched view.state view i) in
    let here_same = same from in
    let held = place_match n.tracker.views at from view here is in
    let low = high view is in
    record { same = refl; config = refl; others = λ id. inr (same id); heard = omega (arith, here_same, held, low) }

no_news : (view : PlainProgress) (i : ℕ) → is_news view i ≡ false → i ≤ view.matched
no_news view i old = ltb-false view.matched i (or_parts (nat_lt view.matched i) (view.matched == i && is_probing view.state) old).0

by_heard : (b : Bool) (n : PlainNode) (at from i : ℕ) → place n.tracker.views from ≡ Some at → (view_at n.tracker.views at ≡ None → ⊥) → (b ≡ false → (view : PlainProgress) → view_at n.tracker.views at ≡ Some view → i ≤ view.matched) → Heard n (append_response_handled_by b n at from i) from i
by_heard true n at from i here there high = news_heard (view_at n.tracker.views at) n at from i refl here there
by_heard false n at from i here there high = old_heard (view_at n.tracker.views at) n at from i refl here (high refl)

with_heard : (o : Option PlainProgress) (n : PlainNode) (at from i : ℕ) → view_at n.tracker.views at ≡ o → place n.tracker.views from ≡ Some at → (view_at n.tracker.views at ≡ None → ⊥) → Heard n (append_response_handled_with o n at from i) from i
with_heard None n at from i is here there = absurd (there is)
with_heard (Some view) n at from i is here there =
    by_heard (is_news view i) n at from i here there (λ old other e. (let same : view ≡ other = same_Some view other (sym is ∙ e) in subst (λ (v : PlainProgress). i ≤ v.matched) same (no_news view i old)))

at_heard : (t : NodeStep) (m : Message) (i at : ℕ) → place t.node.tracker.views m.from ≡ Some at → Heard t.node (append_response_handled_at (Some at) t m i).node m.from (min i (last t.node.log))
at_heard t m i at here =
    let n : PlainNode = marked_active t.node at in
    let there = heard_place t.node at m.from here in
    then_heard t.node n _ m.from (min i (last t.node.log)) (marked t.node at)
    (with_heard (view_at n.tracker.views at) n at m.from (min i (last t.node.log)) refl there (no_view n at m.from there))

accepted_heard : (t : NodeStep) (m : Message) (i : ℕ) → has (keys_of t.node.tracker.views) m.from ≡ true → Heard t.node (append_response_handled t m i).node m.from (min i (last t.node.log))
unfolding append_response_handled
accepted_heard t m i member =
    let found = place_found t.node.tracker.views m.from member in
    subst (λ (o : Option ℕ). Heard t.node (append_response_handled_at o t m i).node m.from (min i (last t.node.log))) (sym found)
    (at_heard t m i (position_or_len (λ k. m.from == k) (keys_of t.node.tracker.views)) found)

-- ---- a leader waits for answers

record Waits (n : PlainNode) (ids : List ℕ) (u : NodeStep) : Type 0 where
  sound : IsSound u.node
  members : HasViewsOfMembers u.node
  leads : u.node.role ≡ role.Leader
  term : u.node.term ≡ n.term
  log : u.node.log ≡ n.log
  config : u.node.tracker.config ≡ n.tracker.config
  all : HasCommittedAll u.node
  of_members : (id : ℕ) → has ids id ≡ true → is_member n.tracker.config id ≡ true
  enough : is_quorum n.tracker.config (λ id. holds u.node.tracker.views (last n.log) id || has ids id) ≡ true

leader_role : (P : NodeStep → Type 0) (r : Role) (t : NodeStep) (m : Message) → r ≡ role.Leader → P (as_leader m.kind t m) → P (by_role_of r t m)
leader_role P role.Leader t m leads p = p
leader_role P role.Follower t m leads p = cc
leader_role P role.Precandidate t m leads p = cc
leader_role P role.Candidate t m leads p = cc

ack_heard : (n : PlainNode) (id : ℕ) (u : NodeStep) → u.node.role ≡ role.Leader → u.node.term ≡ n.term → has (keys_of u.node.tracker.views) id ≡ true → Heard u.node (stepped u (ack_from n id)).node id (min (last n.log) (last u.node.log))
ack_heard n id u leads term member =
    let m : Message = ack_from n id in
    let P : NodeStep → Type 0 = λ v. Heard u.node v.node id (min (last n.log) (last u.node.log)) in
    by_term P u m
    (λ _. leader_role P u.node.role u m leads (accepted_heard u m (last n.log) member))
    (λ low. absurd (omega (arith, low, term)))
    (λ past _. absurd (omega (arith, past, term)))
    (λ past _. absurd (omega (arith, past, term)))

first_has : (id : ℕ) (ids : List ℕ) → has (id ∷ ids) id ≡ true
first_has id ids = cond-true (id == id) true (has ids id) (eq-eqb id id refl)

rest_has : (id : ℕ) (ids : List ℕ) (j : ℕ) → has ids j ≡ true → has (id ∷ ids) j ≡ true
rest_has id ids j there = if_both (λ (b : Bool). b ≡ true) (id == j) true (has ids j) (λ _. refl) (λ _. there)

-- who held the index, or was to answer, holds it or is to answer still
still_enough : (a b : PlainNode) (id : ℕ) (ids : List ℕ) (i j : ℕ) → Heard a b id i → (holds a.tracker.views i j || has (id ∷ ids) j) ≡ true → (holds b.tracker.views i j || has ids j) ≡ true
still_enough a b id ids i j h was =
    elim (h.others j) as (λ _. (holds b.tracker.views i j || has ids j) ≡ true) [
      | inl high ↦ or_left (holds b.tracker.views i j) (has ids j) (le-leb i (of b j) high)
      | inr old ↦ elim (or_cases (holds a.tracker.views i j) (has (id ∷ ids) j) was) as (λ _. (holds b.tracker.views i j || has ids j) ≡ true) [
        | inl held ↦ (let low = leb-true i (of a j) held in or_left (holds b.tracker.views i j) (has ids j) (le-leb i (of b j) (omega (arith, low, old))))
        | inr there ↦ elim (cases_Bool (id == j)) as (λ _. (holds b.tracker.views i j || has ids j) ≡ true) [
          | inl same ↦ (let e = eqb-true id j same in or_left (holds b.tracker.views i j) (has ids j) (le-leb i (of b j) (subst (λ (k : ℕ). i ≤ of b k) e h.heard)))
          | inr other ↦ or_right (holds b.tracker.views i j) (has ids j) (sym (cond-false (id == j) true (has ids j) other) ∙ there)
        ]
      ]
    ]

one_answer : (n : PlainNode) (id : ℕ) (ids : List ℕ) (u : NodeStep) → Waits n (id ∷ ids) u → Waits n ids (stepped u (ack_from n id))
one_answer n id ids u w =
    let m : Message = ack_from n id in
    let v : NodeStep = stepped u m in
    let size : last u.node.log ≡ last n.log = ap (λ (x : LogValue). last x) w.log in
    let member : has (keys_of u.node.tracker.views) id ≡ true = w.members.of_members w.leads id ∙ ap (λ (c : Config). is_member c id) w.config ∙ w.of_members id (first_has id ids) in
    let exact : min (last n.log) (last u.node.log) ≡ last n.log = omega (arith, size) in
    let h : Heard u.node v.node id (last n.log) = subst (λ (i : ℕ). Heard u.node v.node id i) exact (ack_heard n id u w.leads w.term member) in
    let leads : v.node.role ≡ role.Leader = ap (λ (r : Rest). r.role) h.same ∙ w.leads in
    let term : v.node.term ≡ u.node.term = ap (λ (r : Rest). r.term) h.same in
    record {
      sound = ((calls (Step m) u).goes w.sound).ordered;
      members = called_members (Step m) u w.members;
      leads = leads;
      term = term ∙ w.term;
      log = ap (λ (r : Rest). r.log) h.same ∙ w.log;
      config = h.config ∙ w.config;
      all = call_all (Step m) u w.members w.sound w.leads leads term w.all;
      of_members = λ j there. w.of_members j (rest_has id ids j there);
      enough = both_more n.tracker.config (λ j. holds u.node.tracker.views (last n.log) j || has (id ∷ ids) j) (λ j. holds v.node.tracker.views (last n.log) j || has ids j)
          (λ j was. still_enough u.node v.node id ids (last n.log) j h was) w.enough;
    }

-- ---- all have answered

nobody : (c : Config) (p : ℕ → Bool) → 0 < length c.incoming → ((id : ℕ) → p id ≡ false) → is_quorum c p ≡ false
nobody c p some none = and_left (is_majority c.incoming p) (is_majority c.outgoing p) (no_majority (length c.incoming) (count_by p c.incoming) some (count_none p c.incoming none))

none_past : (n : PlainNode) (i id : ℕ) → HasCommittedAll n → last n.log < i → holds n.tracker.views i id ≡ false
none_past n i id all past =
    elim (cases_Bool (holds n.tracker.views i id)) as (λ _. holds n.tracker.views i id ≡ false) [
      | inr none ↦ none
      | inl held ↦ (let low = leb-true i (of n id) held in let high = all.within id in absurd (omega (arith, low, high, past)))
    ]

none_left : (b : Bool) → (b || false) ≡ true → b ≡ true
none_left b is = grind arith

answered : (n : PlainNode) (u : NodeStep) → 0 < length n.tracker.config.incoming → is_term (term_at n.log (last n.log)) n.term ≡ true → Waits n [] u → u.node.commit ≡ last n.log
answered n u some own w =
    let x = u.node in
    let i : ℕ = last n.log in
    let size : last x.log ≡ i = ap (λ (v : LogValue). last v) w.log in
    let known = w.sound.is_held in
    let voters : 0 < length x.tracker.config.incoming = subst (λ (c : Config). 0 < length c.incoming) (sym w.config) some in
    let held : is_held x.tracker i ≡ true = subst (λ (c : Config). is_quorum c (λ id. holds x.tracker.views i id) ≡ true) (sym w.config)
    (both_more n.tracker.config (λ id. holds x.tracker.views i id || has [] id) (λ id. holds x.tracker.views i id) (λ id is. none_left (holds x.tracker.views i id) is) w.enough) in
    let last_held : is_held x.tracker (i + 1) ≡ false = nobody x.tracker.config (λ id. holds x.tracker.views (i + 1) id) voters (λ id. none_past x (i + 1) id w.all (omega (arith, size))) in
    elim (cases_lt x.commit i) as (λ _. x.commit ≡ i) [
      | inr high ↦ omega (arith, high, known, size)
      | inl low ↦
          let other = w.all.all i low (record { some = voters; held = held; last = last_held }) in
          let same : is_term (term_at x.log i) x.term ≡ is_term (term_at n.log i) n.term = ap (λ (v : LogValue). is_term (term_at v i) x.term) w.log ∙ ap (λ (term : ℕ). is_term (term_at n.log i) term) w.term in
          absurd (false≢true (sym other ∙ same ∙ own))
    ]

all_answer : (n : PlainNode) (ids : List ℕ) (u : NodeStep) → Waits n ids u → Waits n [] (run (acks n ids) u)
all_answer n [] u w = w
all_answer n (id ∷ ids) u w = all_answer n ids (stepped u (ack_from n id)) (one_answer n id ids u w)

all_wait : (t : NodeStep) (ids : List ℕ) → CommitsAll t.node → ((id : ℕ) → has ids id ≡ true → is_member t.node.tracker.config id ≡ true) → IsHeldWith t.node ids → Waits t.node [] (run (acks t.node ids) t)
all_wait t ids h of_members enough =
    all_answer t.node ids t
    (record { sound = h.sound; members = h.members; leads = h.leads; term = refl; log = refl; config = refl; all = h.all; of_members = of_members; enough = enough })

pub answered_is_committed : (t : NodeStep) (ids : List ℕ) → AwaitsAnswers t.node → ((id : ℕ) → has ids id ≡ true → is_member t.node.tracker.config id ≡ true) → IsHeldWith t.node ids → (run (acks t.node ids) t).node.commit ≡ last t.node.log
answered_is_committed t ids h of_members enough = answered t.node (run (acks t.node ids) t) h.leader.voters h.own (all_wait t ids h.leader of_members enough)

-- ---- what a leader is asked for

-- it leads on, with its members
record LeadsOn (n : PlainNode) (u : NodeStep) : Type 0 where
  role : u.node.role ≡ n.role
  term : u.node.term ≡ n.term
  config : u.node.tracker.config ≡ n.tracker.config

asked_leads : (t : NodeStep) (bytes : List ℕ) → TakesProposals t.node → LeadsOn t.node (proposal_handled t (Payload bytes))
asked_leads t bytes may =
    let P : NodeStep → Type 0 = LeadsOn t.node in
    let u : NodeStep = proposal_appended (Payload bytes) t in
    let put : P u = with_room P t _ _ may.room (record { role = refl; term = refl; config = refl }) in
    let way = append_broadcast_way u.node in
    let same = over_way keeps_rest way in
    taken P t (Payload bytes) may (record { role = ap (λ (r : Rest). r.role) same ∙ put.role; term = ap (λ (r : Rest). r.term) same ∙ put.term; config = over_way keeps_config way ∙ put.config })

pub asked_is_committed : (t : NodeStep) (bytes ids : List ℕ) → TakesProposals t.node → CommitsAll t.node → ((id : ℕ) → has ids id ≡ true → is_member t.node.tracker.config id ≡ true) → IsHeldWith (after (Propose (Payload bytes)) t).node ids
    → HasCommittedEntry (run (Propose (Payload bytes) ∷ acks (after (Propose (Payload bytes)) t).node ids) t).node (last t.node.log + 1) (record { term = t.node.term; body = Payload bytes })
asked_is_committed t bytes ids may h of_members enough =
    let m : Message = message t.node.id t.node.id 0 (kind.Proposal (Payload bytes)) in
    let u : NodeStep = stepped t m in
    let e : Entry = record { term = t.node.term; body = Payload bytes } in
    let next : ℕ = last t.node.log + 1 in
    let put : u.node.log ≡ own t.node.log e = payload_is_next t m bytes may refl in
    let on : LeadsOn t.node u = at_leader (LeadsOn t.node) t m (Payload bytes) refl may.leads (asked_leads t bytes may) in
    let leads : u.node.role ≡ role.Leader = on.role ∙ h.leads in
    let size : last u.node.log ≡ next = ap (λ (v : LogValue). last v) put ∙ own_size t.node.log e in
    let held : entry_at u.node.log next ≡ Ok e = ap (λ (v : LogValue). entry_at v next) put ∙ own-last t.node.log e in
    let term : term_at u.node.log (last u.node.log) ≡ Ok u.node.term = ap (term_at u.node.log) size ∙ entry_term u.node.log next e held ∙ ap (λ (i : ℕ). Ok i) (sym on.term) in
    let all : CommitsAll u.node = record {
      sound = ((calls (Propose (Payload bytes)) t).goes h.sound).ordered;
      members = called_members (Propose (Payload bytes)) t h.members;
      leads = leads;
      voters = subst (λ (c : Config). 0 < length c.incoming) (sym on.config) h.voters;
      all = call_all (Propose (Payload bytes)) t h.members h.sound h.leads leads on.term h.all;
    } in
    let w : Waits u.node [] (run (acks u.node ids) u) = all_wait u ids all (λ id there. ap (λ (c : Config). is_member c id) on.config ∙ of_members id there) enough in
    let commit = answered u.node (run (acks u.node ids) u) all.voters (is_term_from (term_at u.node.log (last u.node.log)) u.node.term term) w in
    record { known = omega (arith, commit, size); held = ap (λ (v : LogValue). entry_at v next) w.log ∙ held }
