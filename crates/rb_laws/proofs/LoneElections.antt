-- A node that alone times out is elected, once all messages are delivered
use Rattle.std.proofs.Common.{◌≡◌, ◌⊎◌, ℕ, zero, suc, ◌+◌, ◌-◌, ◌<◌, ◌≤◌, Bool, true, false, not, ◌&&◌, ◌||◌, ◌==◌, nat_le, if◌then◌else◌, List, [], ◌∷◌, ◌++◌, Option, Some, None, refl, sym, ap, subst, ◌∙◌, arith, eqb-true, inl, inr}
use Rattle.std.specs.Prelude.{Contains, slice_get}
use Rattle.std.proofs.lemmas.Bool.{false≢true, le-leb, eq-eqb, or_cases, or_left, or_right, cond-false}
use Rattle.std.proofs.lemmas.List.Elements.{Contains-append_left, Contains-append_right, Contains-push, Contains-push_cases}
use Rattle.rb_raftlog.specs.declared.entry.Entry.{Entry}
use Rattle.rb_raftlog.specs.Log.{last, last_term, between}
use Rattle.rb_raftlog.specs.declared.limits.TheConstants.{MAX_TERM}
use Rattle.rb_tracker.proofs.ChangeLaws.{has_union}
use Rattle.rb_tracker.proofs.SetLaws.{if_both, has_here, also}
use Rattle.rb_tracker.proofs.VoteLaws.{both_more}
use Rattle.rb_tracker.specs.Configs.{is_joint, is_voter, voters}
use Rattle.rb_tracker.specs.Quorum.{is_quorum}
use Rattle.rb_tracker.specs.Sets.{has}
use Rattle.rb_tracker.specs.Trackers.{PlainTracker}
use Rattle.rb_tracker.specs.declared.config.Config.{Config}
use Rattle.rb_message.specs.declared.event.WhyNoCampaign.{WhyNoCampaign}
use Rattle.rb_message.specs.declared.kind.MessageKind.{MessageKind}
use Rattle.rb_message.specs.declared.kind.MessageKind.TheVariants as kind
use Rattle.rb_message.specs.declared.message.Message.{Message}
use Rattle.rb_message.specs.declared.role.Role.{Role}
use Rattle.rb_message.specs.declared.role.Role.TheVariants as role
use Rattle.rb_node.specs.Campaigns.{asked_one, asked, asked_for_votes, candidate, became_candidate, became_precandidate, campaigned_unless, campaigned}
use Rattle.rb_node.specs.Changing.{leaves_joint, joint_left, applied_all}
use Rattle.rb_node.specs.Node.{PlainNode, NodeStep, message, node_step, with_node, with_elapsed, is_leader}
use Rattle.rb_node.specs.Readying.{saved, applying, own_answers_stepped, advanced}
use Rattle.rb_node.specs.Step.{stepped}
use Rattle.rb_node.specs.Ticking.{next_count, is_due, non_leader_ticked, ticked}
use Rattle.rb_calls.specs.Calling.{Step, Tick, Advance, after}
use Rattle.rb_calls.specs.Sound.{IsSound, IsOrdered}
use Rattle.rb_calls.proofs.CallLaws.{calls}
use Rattle.rb_calls.proofs.Goes.{Core, core}
use Rattle.rb_calls.proofs.ListLaws.{set_here, set_elsewhere, in_nothing, in_first, in_rest}
use Rattle.rb_calls.proofs.StepWays.{asked_one_same}
use Rattle.rb_laws.specs.Choices.{MayCampaign, HasNothing}
use Rattle.rb_laws.specs.LoneElections.{call_at, ticks_at, requests_come, votes_come, in_next_term, lone_election, ids_at, AreApart, TimesOutAlone}
use Rattle.rb_laws.specs.Network.{Network, Happening, put_out, happened_to, happened, run, Leads}
use Rattle.rb_laws.specs.Safety.{IsTrueHappening, AreTrue}
use Rattle.rb_laws.specs.Timing.{CanTimeOut}
use Rattle.rb_laws.specs.Winning.{request_to, yes_from, WouldVoteFor, VotesFor, LeadsIn}
use Rattle.rb_laws.proofs.CampaignLaws.{nothing_keeps, others_ticked, tick_counts, two_true, all_asked}
use Rattle.rb_laws.proofs.PreVoteLaws.{asked_same}
use Rattle.rb_laws.proofs.WinLaws.{vote_is_given, leads_on, Goes_on_with, yes_comes, asked_ballot, stood_undecided, none_kept}

-- ---- what happens at a place

elsewhere_to : (o : Option PlainNode) (s : Network) (h : Happening) (j : ℕ) → (j ≡ h.place → ⊥) → slice_get (happened_to o s h).nodes j ≡ slice_get s.nodes j
elsewhere_to None s h j other = refl
elsewhere_to (Some n) s h j other = set_elsewhere s.nodes h.place j (after h.call (node_step n h.told)).node other

elsewhere : (s : Network) (h : Happening) (j : ℕ) → (j ≡ h.place → ⊥) → slice_get (happened s h).nodes j ≡ slice_get s.nodes j
elsewhere s h j other = elsewhere_to (slice_get s.nodes h.place) s h j other

here : (s : Network) (h : Happening) (n : PlainNode) → slice_get s.nodes h.place ≡ Some n → slice_get (happened s h).nodes h.place ≡ Some (after h.call (node_step n h.told)).node
here s h n at =
    let x = (after h.call (node_step n h.told)).node in
    subst (λ (o : Option PlainNode). slice_get (happened_to o s h).nodes h.place ≡ Some x) (sym at) (set_here s.nodes h.place n x at)

still_to : (o : Option PlainNode) (s : Network) (h : Happening) (m : Message) → Contains s.said m → Contains (happened_to o s h).said m
still_to None s h m among = among
still_to (Some n) s h m among = Contains-append_left s.said (put_out h.call n) m among

still : (s : Network) (h : Happening) (m : Message) → Contains s.said m → Contains (happened s h).said m
still s h m among = still_to (slice_get s.nodes h.place) s h m among

goes_out : (s : Network) (h : Happening) (n : PlainNode) (m : Message) → slice_get s.nodes h.place ≡ Some n → Contains (put_out h.call n) m → Contains (happened s h).said m
goes_out s h n m at out =
    subst (λ (o : Option PlainNode). Contains (happened_to o s h).said m) (sym at) (Contains-append_right s.said (put_out h.call n) m out)

-- a node is elected by what happens, and each message that comes was put out
abbrev Elects : ℕ → ℕ → List Happening → Network → Type 0
Elects id term hs s = Leads (run hs s).nodes id term × AreTrue hs s

next : (id term : ℕ) (h : Happening) (hs : List Happening) (s : Network) → IsTrueHappening s h → Elects id term hs (happened s h) → Elects id term (h ∷ hs) s
next id term h hs s true_then w = (w.0, (true_then, w.1))

-- ---- ids among some

has_rest : (x y : ℕ) (xs : List ℕ) → has xs y ≡ true → has (x ∷ xs) y ≡ true
has_rest x y xs among = also (x == y) (has xs y) among

has_apart : (x y : ℕ) (xs : List ℕ) → has xs x ≡ false → has xs y ≡ true → y ≡ x → ⊥
has_apart x y xs none among same = false≢true (sym none ∙ ap (has xs) (sym same) ∙ among)

has_cases : (x y : ℕ) (xs : List ℕ) → has (x ∷ xs) y ≡ true → (x ≡ y) ⊎ (has xs y ≡ true)
has_cases x y xs among =
    if_both (λ (b : Bool). b ≡ true → (x ≡ y) ⊎ (has xs y ≡ true)) (x == y) true (has xs y) (λ same _. inl (eqb-true x y same)) (λ _ rest. inr rest) among

has_none : (x y : ℕ) (xs : List ℕ) → has (x ∷ xs) y ≡ false → (x ≡ y → ⊥) × (has xs y ≡ false)
has_none x y xs none =
    if_both (λ (b : Bool). b ≡ false → (x ≡ y → ⊥) × (has xs y ≡ false)) (x == y) true (has xs y)
    (λ _ no. absurd (false≢true (sym no)))
    (λ other no. (λ same. false≢true (sym other ∙ eq-eqb x y same), no)) none

all_vote : (c : Config) (id : ℕ) → is_voter c id ≡ true → has (voters c) id ≡ true
all_vote c id votes =
    has_union c.outgoing c.incoming id
    ∙ elim (or_cases (has c.incoming id) (has c.outgoing id) votes) as (λ _. (has c.outgoing id || has c.incoming id) ≡ true) [
      | inl new ↦ or_right (has c.outgoing id) (has c.incoming id) new
      | inr old ↦ or_left (has c.outgoing id) (has c.incoming id) old
    ]

-- ---- the votes come

anew : (term : ℕ) (c : Config) (ids : List ℕ) (t : NodeStep) → Goes_on_with term c ids t → Goes_on_with term c ids (node_step t.node [])
anew term c ids t (inl h) = inl (record { role = h.role; of_term = h.of_term })
anew term c ids t (inr h) = inr (record { role = h.role; of_term = h.of_term; config = h.config; unrefused = h.unrefused; undecided = h.undecided; enough = h.enough })

comes : (n : PlainNode) (id : ℕ) (ids : List ℕ) (c : Config) (t : NodeStep) → Goes_on_with n.term c (id ∷ ids) t → Goes_on_with n.term c ids (stepped t (yes_from n id))
comes n id ids c t (inl h) = inl (leads_on n id t h)
comes n id ids c t (inr h) = yes_comes n id ids c t h

-- with none left, it leads
decided_then : (term : ℕ) (c : Config) (t : NodeStep) → Goes_on_with term c [] t → LeadsIn t.node term
decided_then term c t (inl h) = h
decided_then term c t (inr h) =
    absurd (false≢true (sym h.undecided ∙ both_more c (λ j. has t.node.votes.granted j || has [] j) (λ j. has t.node.votes.granted j) (λ j is. none_kept (has t.node.votes.granted j) is) h.enough))

all_votes_come : (n : PlainNode) (at : ℕ) (c : Config) (places : List ℕ) (s : Network) (y : PlainNode) → n.id ≡ at + 1 → slice_get s.nodes at ≡ Some y → y.id ≡ n.id → IsSound y
    → ((place : ℕ) → has places place ≡ true → Contains s.said (yes_from n (place + 1))) → Goes_on_with n.term c (ids_at places) (node_step y []) → Elects n.id n.term (votes_come n at places) s
all_votes_come n at c [] s y own stands id sound said h =
    let leads = decided_then n.term c (node_step y []) h in
    (record { place = at; node = y; stands = stands; leads = leads.role; of_term = leads.of_term; of_id = id }, tt)
all_votes_come n at c (place ∷ places) s y own stands id sound said h =
    let m = yes_from n (place + 1) in
    let v = call_at at (Step m) in
    let t : NodeStep = node_step y [] in
    let goes = (calls (Step m) t).goes sound in
    next n.id n.term v (votes_come n at places) s (inl (inl (said place (has_here place places), own)))
    (all_votes_come n at c places (happened s v) (stepped t m).node own (here s v y stands) (goes.id ∙ id) goes.ordered
    (λ j among. still s v (yes_from n (j + 1)) (said j (has_rest place j places among)))
    (anew n.term c (ids_at places) (stepped t m) (comes n (place + 1) (ids_at places) c t h)))

-- ---- the requests come

-- who was asked, and who is left
record Asking (n : PlainNode) (all left : List ℕ) (s : Network) : Type 0 where
  voters : (place : ℕ) → has left place ≡ true → (m : PlainNode) × (slice_get s.nodes place ≡ Some m) × (m.id ≡ place + 1) × WouldVoteFor m n
  asks : (place : ℕ) → has left place ≡ true → Contains s.said (request_to n (place + 1))
  given : (place : ℕ) → has all place ≡ true → (has left place ≡ true) ⊎ Contains s.said (yes_from n (place + 1))

-- what one voter says
vote_goes_out : (s : Network) (place : ℕ) (n m : PlainNode) → slice_get s.nodes place ≡ Some m → m.id ≡ place + 1 → WouldVoteFor m n
    → Contains (happened (happened s (call_at place (Step (request_to n (place + 1))))) (call_at place Advance)).said (yes_from n (place + 1))
vote_goes_out s place n m stands own would =
    let asked_then = call_at place (Step (request_to n (place + 1))) in
    let t : NodeStep = node_step m [] in
    let x = (stepped t (request_to n (place + 1))).node in
    let given : VotesFor m x n = subst (λ (i : ℕ). VotesFor m (stepped t (request_to n i)).node n) own (vote_is_given t n would) in
    let yes = yes_from n (place + 1) in
    let waits : Contains x.waiting yes =
    subst (λ (l : List Message). Contains l yes) (sym given.says)
    (subst (λ (i : ℕ). Contains (m.waiting ++ yes_from n m.id ∷ []) (yes_from n i)) own (Contains-push m.waiting (yes_from n m.id))) in
    goes_out (happened s asked_then) (call_at place Advance) x yes (here s asked_then m stands) (Contains-append_right x.sent x.waiting yes waits)

asked_next : (n : PlainNode) (all : List ℕ) (place : ℕ) (places : List ℕ) (s : Network) → has places place ≡ false → Asking n all (place ∷ places) s
    → Asking n all places (happened (happened s (call_at place (Step (request_to n (place + 1))))) (call_at place Advance))
asked_next n all place places s apart a =
    let one = call_at place (Step (request_to n (place + 1))) in
    let two = call_at place Advance in
    let after_one = happened s one in
    let kept : (m : Message) → Contains s.said m → Contains (happened after_one two).said m = λ m among. still after_one two m (still s one m among) in
    let first = a.voters place (has_here place places) in
    record {
      voters = λ j among.
          (let other = has_apart place j places apart among in
          let it = a.voters j (has_rest place j places among) in
          (it.0, elsewhere after_one two j other ∙ elsewhere s one j other ∙ it.1, it.2, it.3));
      asks = λ j among. kept (request_to n (j + 1)) (a.asks j (has_rest place j places among));
      given = λ j among. elim (a.given j among) as (λ _. (has places j ≡ true) ⊎ Contains (happened after_one two).said (yes_from n (j + 1))) [
        | inr said ↦ inr (kept (yes_from n (j + 1)) said)
        | inl left ↦ elim (has_cases place j places left) as (λ _. (has places j ≡ true) ⊎ Contains (happened after_one two).said (yes_from n (j + 1))) [
          | inr rest ↦ inl rest
          | inl same ↦ inr (subst (λ (k : ℕ). Contains (happened after_one two).said (yes_from n (k + 1))) same (vote_goes_out s place n first.0 first.1 first.2 first.3))
        ]
      ];
    }

all_requests_come : (n : PlainNode) (at : ℕ) (c : Config) (all places : List ℕ) (s : Network) (y : PlainNode) → n.id ≡ at + 1 → slice_get s.nodes at ≡ Some y → y.id ≡ n.id → IsSound y → AreApart places → has places at ≡ false → Asking n all places s
    → Goes_on_with n.term c (ids_at all) (node_step y []) → Elects n.id n.term (requests_come n places ++ votes_come n at all) s
all_requests_come n at c all [] s y own stands id sound apart none a h =
    all_votes_come n at c all s y own stands id sound
    (λ place among. elim (a.given place among) as (λ _. Contains s.said (yes_from n (place + 1))) [ inl left ↦ absurd (false≢true left) | inr said ↦ said ]) h
all_requests_come n at c all (place ∷ places) s y own stands id sound apart none a h =
    let one = call_at place (Step (request_to n (place + 1))) in
    let two = call_at place Advance in
    let rest = requests_come n places ++ votes_come n at all in
    let not_here = has_none place at places none in
    let other : at ≡ place → ⊥ = λ same. not_here.0 (sym same) in
    next n.id n.term one (two ∷ rest) s (inl (inl (a.asks place (has_here place places), refl)))
    (next n.id n.term two rest (happened s one) (inl tt)
    (all_requests_come n at c all places (happened (happened s one) two) y own (elsewhere (happened s one) two at other ∙ elsewhere s one at other ∙ stands) id sound apart.1 not_here.1
    (asked_next n all place places s apart.0 a) h))

-- ---- the candidate takes its own vote

own_one : (n : PlainNode) (to term : ℕ) (question answer : MessageKind) (m : Message) → Contains (asked_one n to term question answer).waiting m → Contains n.waiting m ⊎ (m ≡ message n.id n.id term answer)
own_one n to term question answer m among =
    if_both (λ (x : PlainNode). Contains x.waiting m → Contains n.waiting m ⊎ (m ≡ message n.id n.id term answer)) (to == n.id) _ _
    (λ own waits. elim (Contains-push_cases n.waiting (message n.id to term answer) m waits) as (λ _. Contains n.waiting m ⊎ (m ≡ message n.id n.id term answer)) [
      | inl before ↦ inl before
      | inr same ↦ inr (sym same ∙ ap (λ (i : ℕ). message n.id i term answer) (eqb-true to n.id own))
    ])
    (λ _ waits. inl waits) among

own_alone_waits : (n : PlainNode) (ids : List ℕ) (term : ℕ) (question answer : MessageKind) (m : Message) → Contains (asked n ids term question answer).waiting m → Contains n.waiting m ⊎ (m ≡ message n.id n.id term answer)
own_alone_waits n [] term question answer m among = inl among
own_alone_waits n (x ∷ xs) term question answer m among =
    let y : PlainNode = asked_one n x term question answer in
    let same : y.id ≡ n.id = ap (λ (c : Core). c.id) (asked_one_same n x term question answer) in
    elim (own_alone_waits y xs term question answer m among) as (λ _. Contains n.waiting m ⊎ (m ≡ message n.id n.id term answer)) [
      | inl before ↦ own_one n x term question answer m before
      | inr is ↦ inr (is ∙ ap (λ (i : ℕ). message i i term answer) same)
    ]

waits_on_one : (n : PlainNode) (to term : ℕ) (question answer : MessageKind) (m : Message) → Contains n.waiting m → Contains (asked_one n to term question answer).waiting m
waits_on_one n to term question answer m among =
    if_both (λ (x : PlainNode). Contains x.waiting m) (to == n.id) _ _ (λ _. Contains-append_left n.waiting (message n.id to term answer ∷ []) m among) (λ _. among)

waits_on : (n : PlainNode) (ids : List ℕ) (term : ℕ) (question answer : MessageKind) (m : Message) → Contains n.waiting m → Contains (asked n ids term question answer).waiting m
waits_on n [] term question answer m among = among
waits_on n (x ∷ xs) term question answer m among = waits_on (asked_one n x term question answer) xs term question answer m (waits_on_one n x term question answer m among)

own_waits_one : (n : PlainNode) (to term : ℕ) (question answer : MessageKind) → to ≡ n.id → Contains (asked_one n to term question answer).waiting (message n.id n.id term answer)
own_waits_one n to term question answer own =
    if_both (λ (x : PlainNode). Contains x.waiting (message n.id n.id term answer)) (to == n.id) _ _
    (λ _. subst (λ (i : ℕ). Contains (n.waiting ++ message n.id i term answer ∷ []) (message n.id n.id term answer)) (sym own) (Contains-push n.waiting (message n.id n.id term answer)))
    (λ other. absurd (false≢true (sym other ∙ eq-eqb to n.id own)))

own_waits : (n : PlainNode) (ids : List ℕ) (term : ℕ) (question answer : MessageKind) → has ids n.id ≡ true → Contains (asked n ids term question answer).waiting (message n.id n.id term answer)
own_waits n [] term question answer among = absurd (false≢true among)
own_waits n (x ∷ xs) term question answer among =
    let y : PlainNode = asked_one n x term question answer in
    let same : y.id ≡ n.id = ap (λ (c : Core). c.id) (asked_one_same n x term question answer) in
    elim (has_cases x n.id xs among) as (λ _. Contains (asked y xs term question answer).waiting (message n.id n.id term answer)) [
      | inl is ↦ waits_on y xs term question answer (message n.id n.id term answer) (own_waits_one n x term question answer is)
      | inr rest ↦
          subst (λ (i : ℕ). Contains (asked y xs term question answer).waiting (message i i term answer)) same
          (own_waits y xs term question answer (ap (has xs) same ∙ rest))
    ]

-- one vote more that may come changes nothing
again : (term : ℕ) (c : Config) (id : ℕ) (ids : List ℕ) (t : NodeStep) → Goes_on_with term c ids t → Goes_on_with term c (id ∷ ids) t
again term c id ids t (inl h) = inl h
again term c id ids t (inr h) = inr (record {
  role = h.role;
  of_term = h.of_term;
  config = h.config;
  unrefused = h.unrefused;
  undecided = h.undecided;
  enough = both_more c (λ j. has t.node.votes.granted j || has ids j) (λ j. has t.node.votes.granted j || has (id ∷ ids) j)
      (λ j is. elim (or_cases (has t.node.votes.granted j) (has ids j) is) as (λ _. (has t.node.votes.granted j || has (id ∷ ids) j) ≡ true) [
        | inl granted ↦ or_left (has t.node.votes.granted j) (has (id ∷ ids) j) granted
        | inr later ↦ or_right (has t.node.votes.granted j) (has (id ∷ ids) j) (has_rest id j ids later)
      ])
      h.enough;
})

own_come : (n : PlainNode) (c : Config) (ids : List ℕ) (ms : List Message) (t : NodeStep) → ((m : Message) → Contains ms m → m ≡ yes_from n n.id) → Goes_on_with n.term c ids t → Goes_on_with n.term c ids (own_answers_stepped n.id t ms)
own_come n c ids [] t own h = h
own_come n c ids (m ∷ ms) t own h =
    let is = own m (in_first m ms) in
    own_come n c ids ms (if m.to == n.id then stepped t m else t) (λ x among. own x (in_rest m ms x among))
    (if_both (Goes_on_with n.term c ids) (m.to == n.id) (stepped t m) t
    (λ _. subst (λ (x : Message). Goes_on_with n.term c ids (stepped t x)) (sym is) (comes n n.id ids c t (again n.term c n.id ids t h)))
    (λ _. h))

own_comes : (n : PlainNode) (c : Config) (ids : List ℕ) (ms : List Message) (t : NodeStep) → Contains ms (yes_from n n.id) → ((m : Message) → Contains ms m → m ≡ yes_from n n.id) → Goes_on_with n.term c (n.id ∷ ids) t
    → Goes_on_with n.term c ids (own_answers_stepped n.id t ms)
own_comes n c ids [] t some own h = absurd (in_nothing [] (yes_from n n.id) refl some)
own_comes n c ids (m ∷ ms) t some own h =
    let is = own m (in_first m ms) in
    own_come n c ids ms (if m.to == n.id then stepped t m else t) (λ x among. own x (in_rest m ms x among))
    (if_both (Goes_on_with n.term c ids) (m.to == n.id) (stepped t m) t
    (λ _. subst (λ (x : Message). Goes_on_with n.term c ids (stepped t x)) (sym is) (comes n n.id ids c t h))
    (λ other. absurd (false≢true (sym other ∙ eq-eqb m.to n.id (ap (λ (x : Message). x.to) is)))))

-- ---- the candidate puts its requests out

abbrev stood : PlainNode → PlainNode
stood n = asked_for_votes (candidate n) false

stood_core : (n : PlainNode) → core (stood n) ≡ core (candidate n)
stood_core n =
    let x : PlainNode = candidate n in
    asked_same x (voters x.tracker.config) x.term (kind.Vote (last_term x.log) (last x.log) false) (kind.VoteResponse true)

stays_joint : (t : NodeStep) → t.node.role ≡ role.Candidate → joint_left t ≡ t
unfolding joint_left
stays_joint t stands =
    let n = t.node in
    let no : leaves_joint n ≡ false = subst (λ (r : Role). (is_leader r && is_joint n.tracker.config && n.tracker.config.auto && n.transferee == 0 && nat_le n.pending_change n.applied) ≡ false) (sym stands) refl in
    cond-false (leaves_joint n) _ t no

-- its own vote counts once that is saved
takes_own : (n : PlainNode) (ids : List ℕ) → is_voter n.tracker.config n.id ≡ true → HasNothing n → is_quorum n.tracker.config (λ id. has (n.id ∷ ids) id) ≡ true
    → Goes_on_with (n.term + 1) n.tracker.config ids (advanced (node_step (stood n) []))
unfolding advanced
takes_own n ids votes idle quorum =
    let c = in_next_term n in
    let g = n.tracker.config in
    let x = stood n in
    let t : NodeStep = node_step x [] in
    let y : PlainNode = candidate n in
    let question = kind.Vote (last_term y.log) (last y.log) false in
    let same = stood_core n in
    let id : x.id ≡ n.id = ap (λ (k : Core). k.id) same in
    let none : applying x ≡ [] = ap (λ (k : Core). between k.log k.applied k.commit) same ∙ idle.apply in
    let stands = stood_undecided (node_step n []) votes in
    let ballot = asked_ballot y (voters y.tracker.config) y.term question (kind.VoteResponse true) in
    let u : NodeStep = with_node t (saved x) in
    let own : (m : Message) → Contains x.waiting m → m ≡ yes_from c n.id = λ m among.
    (elim (own_alone_waits y (voters y.tracker.config) y.term question (kind.VoteResponse true) m among) as (λ _. m ≡ yes_from c n.id) [
      | inl before ↦ absurd (in_nothing n.waiting m idle.waiting before)
      | inr is ↦ is
    ]) in
    let some : Contains x.waiting (yes_from c n.id) = own_waits y (voters y.tracker.config) y.term question (kind.VoteResponse true) (all_vote g n.id votes) in
    let begins : Goes_on_with c.term g (n.id ∷ ids) u = inr (record {
      role = stands.role;
      of_term = ap (λ (k : Core). k.term) same;
      config = ap (λ (k : PlainTracker). k.config) ballot.1;
      unrefused = stands.unrefused;
      undecided = subst (λ (k : Config). is_quorum k (λ i. has x.votes.granted i) ≡ false) (ap (λ (k : PlainTracker). k.config) ballot.1) stands.undecided;
      enough = both_more g (λ i. has (n.id ∷ ids) i) (λ i. has x.votes.granted i || has (n.id ∷ ids) i) (λ i is. or_right (has x.votes.granted i) (has (n.id ∷ ids) i) is) quorum;
    }) in
    let left : Goes_on_with c.term g (n.id ∷ ids) (joint_left (applied_all u x.applied (applying x))) =
    subst (λ (es : List Entry). Goes_on_with c.term g (n.id ∷ ids) (joint_left (applied_all u x.applied es))) (sym none)
    (subst (Goes_on_with c.term g (n.id ∷ ids)) (sym (stays_joint u stands.role)) begins) in
    subst (λ (i : ℕ). Goes_on_with c.term g ids (own_answers_stepped i (joint_left (applied_all u x.applied (applying x))) x.waiting)) (sym id)
    (own_comes c g ids x.waiting (joint_left (applied_all u x.applied (applying x))) some own left)

-- ---- the timeout passes

campaigned_stood : (t : NodeStep) → MayCampaign t.node → t.node.term < MAX_TERM → t.node.options.pre_vote ≡ false → (campaigned t false).node ≡ stood t.node
unfolding campaigned
campaigned_stood t may low direct =
    subst (λ (o : Option WhyNoCampaign). (campaigned_unless o t false).node ≡ stood t.node) (sym (nothing_keeps t.node may low))
    (subst (λ (b : Bool). (if b && not false then became_precandidate t else became_candidate t false).node ≡ stood t.node) (sym direct) refl)

campaigns : (t : NodeStep) → CanTimeOut t.node → t.node.options.pre_vote ≡ false → t.node.clock.timeout ≤ t.node.clock.elapsed + 1 → (non_leader_ticked t).node ≡ stood t.node
unfolding non_leader_ticked
campaigns t can direct late =
    let x = t.node.clock.elapsed in
    let n : PlainNode = with_elapsed t.node (next_count x) in
    let v : NodeStep = with_node t (with_elapsed n 0) in
    let short = can.timeout in
    let due : is_due n ≡ true = two_true (is_voter n.tracker.config n.id) (nat_le t.node.clock.timeout (next_count x)) can.may.votes (le-leb t.node.clock.timeout (next_count x) (omega (arith, short, late))) in
    let may : MayCampaign v.node = record { follows = can.may.follows; votes = can.may.votes; saved = can.may.saved; no_change = can.may.no_change } in
    if_both (λ (u : NodeStep). u.node ≡ stood t.node) (is_due n) (campaigned v false) (with_node t n)
    (λ _. campaigned_stood v may can.term direct)
    (λ no. absurd (false≢true (sym no ∙ due)))

times_out : (t : NodeStep) → CanTimeOut t.node → t.node.options.pre_vote ≡ false → t.node.clock.timeout ≤ t.node.clock.elapsed + 1 → (ticked t).node ≡ stood t.node
times_out t can direct late = others_ticked (λ (u : NodeStep). u.node ≡ stood t.node) t.node.role t can.may.follows (campaigns t can direct late)

all_ticks_come : (id term at : ℕ) (rest : List Happening) (k : ℕ) (n : PlainNode) (s : Network) → CanTimeOut n → n.options.pre_vote ≡ false → slice_get s.nodes at ≡ Some n → n.clock.elapsed + suc k ≡ n.clock.timeout
    → ((z : Network) → slice_get z.nodes at ≡ Some (stood n) → ((j : ℕ) → (j ≡ at → ⊥) → slice_get z.nodes j ≡ slice_get s.nodes j) → Elects id term rest z)
    → Elects id term (ticks_at at (suc k) ++ rest) s
all_ticks_come id term at rest zero n s can direct stands left end =
    let h = call_at at Tick in
    next id term h rest s (inl tt)
    (end (happened s h) (here s h n stands ∙ ap (λ (x : PlainNode). Some x) (times_out (node_step n []) can direct (omega (arith, left)))) (λ j other. elsewhere s h j other))
all_ticks_come id term at rest (suc k) n s can direct stands left end =
    let h = call_at at Tick in
    let m = with_elapsed n (n.clock.elapsed + 1) in
    let may : MayCampaign m = record { follows = can.may.follows; votes = can.may.votes; saved = can.may.saved; no_change = can.may.no_change } in
    let counts = tick_counts (node_step n []) can.may.follows can.timeout (omega (arith, left)) in
    next id term h (ticks_at at (suc k) ++ rest) s (inl tt)
    (all_ticks_come id term at rest k m (happened s h) (record { may = may; term = can.term; timeout = can.timeout }) direct (here s h n stands ∙ ap (λ (u : NodeStep). Some u.node) counts) (omega (arith, left))
    (λ z at_z others. end z at_z (λ j other. others j other ∙ elsewhere s h j other)))

-- ---- the whole of it

pub lone_is_elected : (s : Network) (at : ℕ) (n : PlainNode) (places : List ℕ) → TimesOutAlone s at n places → Elects n.id (n.term + 1) (lone_election at n places) s
lone_is_elected s at n places a =
    let c = in_next_term n in
    let g = n.tracker.config in
    let two = call_at at Advance in
    let rest = two ∷ (requests_come c places ++ votes_come c at places) in
    let early = a.early in
    let k : ℕ = n.clock.timeout - n.clock.elapsed - 1 in
    let long : n.clock.timeout - n.clock.elapsed ≡ suc k = omega (arith, early) in
    let y : PlainNode = candidate n in
    subst (λ (l : ℕ). Elects n.id (n.term + 1) (ticks_at at l ++ rest) s) (sym long)
    (all_ticks_come n.id (n.term + 1) at rest k n s a.can a.direct a.stands (omega (arith, early))
    (λ z stands others.
    (let x = stood n in
    let t : NodeStep = node_step x [] in
    let same = stood_core n in
    let sound : IsSound x = subst (λ (i : Core). IsOrdered i.log i.commit i.applied) (sym same) a.sound in
    let goes = (calls Advance t).goes sound in
    let asks : (place : ℕ) → has places place ≡ true → Contains (happened z two).said (request_to c (place + 1)) = λ place among.
    (let it = a.each place among in
    goes_out z two x (request_to c (place + 1)) stands
    (Contains-append_left x.sent x.waiting (request_to c (place + 1))
    (all_asked y (voters y.tracker.config) y.term (kind.Vote (last_term y.log) (last y.log) false) (kind.VoteResponse true) (place + 1) it.votes (λ own. has_apart at place places a.apart.0 among (let mine = a.own in omega (arith, own, mine)))))) in
    next n.id (n.term + 1) two (requests_come c places ++ votes_come c at places) z (inl tt)
    (all_requests_come c at g places places (happened z two) (advanced t).node a.own (here z two x stands) (goes.id ∙ ap (λ (i : Core). i.id) same) goes.ordered a.apart.1 a.apart.0
    (record {
      voters = λ place among.
          (let it = a.each place among in
          let other = has_apart at place places a.apart.0 among in
          (it.node, elsewhere z two place other ∙ others place other ∙ it.stands, it.own, it.would));
      asks = asks;
      given = λ place among. inl among;
    })
    (anew (n.term + 1) g (ids_at places) (advanced t) (takes_own n (ids_at places) a.can.may.votes a.idle a.quorum))))))
