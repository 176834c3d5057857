-- How an election is won: who is asked votes, and a candidate with a quorum's votes leads (Ongaro's thesis, section 3.4)
use Rattle.std.proofs.Common.{◌≡◌, ℕ, ◌<◌, Bool, true, false, not, ◌&&◌, ◌||◌, ◌==◌, ◌*◌, nat_lt, if◌then◌else◌, List, [], ◌∷◌, length, Option, refl, sym, ap, subst, ◌∙◌, ◌⊎◌, inl, inr, arith, eqb-true}
use Rattle.std.proofs.lemmas.Bool.{false≢true, cases_Bool, and_left, and_right, and_from, or_cases}
use Rattle.std.proofs.lemmas.Bool.Decides.{nat_tests}
use Rattle.std.specs.List.{count_by}
use Rattle.rb_raftlog.specs.declared.entry.Body.TheVariants.{Payload}
use Rattle.rb_raftlog.specs.declared.limits.TheConstants.{MAX_TERM}
use Rattle.rb_raftlog.specs.Log.{last, last_term}
use Rattle.rb_tracker.proofs.ChangeLaws.{has_with_id}
use Rattle.rb_tracker.proofs.CountLaws.{count_none}
use Rattle.rb_tracker.proofs.SetLaws.{if_both}
use Rattle.rb_tracker.proofs.VoteLaws.{both_more, lost_is, is_won_won}
use Rattle.rb_tracker.specs.Ballots.{has_answered, answered, is_won, is_open, vote_result}
use Rattle.rb_tracker.specs.Configs.{is_voter, voters}
use Rattle.rb_tracker.specs.Quorum.{is_majority, is_quorum}
use Rattle.rb_tracker.specs.Sets.{has, with_id}
use Rattle.rb_tracker.specs.Trackers.{PlainTracker}
use Rattle.rb_tracker.specs.declared.config.Config.{Config}
use Rattle.rb_tracker.specs.declared.votes.Votes.{Votes}
use Rattle.rb_tracker.specs.declared.votes.VoteResult.{VoteResult}
use Rattle.rb_tracker.specs.declared.votes.VoteResult.TheVariants as result
use Rattle.rb_message.specs.declared.event.EventKind.TheVariants as event
use Rattle.rb_message.specs.Events.{event_at}
use Rattle.rb_message.specs.declared.event.WhyNoCampaign.{WhyNoCampaign}
use Rattle.rb_message.specs.declared.kind.MessageKind.{MessageKind}
use Rattle.rb_message.specs.declared.kind.MessageKind.TheVariants as kind
use Rattle.rb_message.specs.declared.message.Message.{Message}
use Rattle.rb_message.specs.declared.role.Role.{Role}
use Rattle.rb_message.specs.declared.role.Role.TheVariants as role
use Rattle.rb_node.specs.Campaigns.{asked_one, asked, candidate, became_candidate, became_precandidate, campaigned_unless, campaigned}
use Rattle.rb_node.specs.Leading.{leading, is_log_full, appended, all_sent_append, became_leader}
use Rattle.rb_node.specs.Node.{PlainNode, NodeStep, with_event, with_node}
use Rattle.rb_node.specs.Step.{by_role_of, stepped}
use Rattle.rb_node.specs.Terms.{became_follower, hears_leader}
use Rattle.rb_node.specs.Votes.{grants, decided, vote_counted}
use Rattle.rb_calls.specs.Calling.{Campaign, after, run}
use Rattle.rb_laws.specs.Choices.{MayCampaign}
use Rattle.rb_laws.specs.Winning.{request_to, yes_from, yeses, WouldVoteFor, VotesFor, StillStands, HasQuorumWith, LeadsIn}
use Rattle.rb_laws.proofs.CampaignLaws.{nothing_keeps}
use Rattle.rb_laws.proofs.EarlierLaws.{no_lease_hears}
use Rattle.rb_calls.proofs.Goes.{Core}
use Rattle.rb_calls.proofs.LeaderLaws.{leading_same}
use Rattle.rb_laws.proofs.PreVoteLaws.{asked_same}
use Rattle.rb_laws.proofs.StepCases.{by_term}
use Rattle.rb_calls.proofs.TellWays.{Rest, keeps_rest, append_broadcast_way}
use Rattle.rb_calls.proofs.Moves.{over_way}

-- ---- a vote is given

second_of_three : (a b c : Bool) → b ≡ true → (a || b || c) ≡ true
second_of_three true b c is = refl
second_of_three false true c is = refl
second_of_three false false c is = absurd (false≢true is)

nobody_yet : (v from : ℕ) (x : Bool) → v ≡ 0 → (v == from || (v == 0 && 0 == 0) || (false && x)) ≡ true
nobody_yet v from x none = second_of_three (v == from) (v == 0 && 0 == 0) (false && x) (ap (λ (i : ℕ). i == 0 && 0 == 0) none)

later_vote : (old new vote : ℕ) → old < new → (if old == new then vote else 0) ≡ 0
later_vote old new vote past = if_both (λ (v : ℕ). v ≡ 0) (old == new) vote 0 (λ same. (let is = eqb-true old new same in absurd (omega (arith, is, past)))) (λ _. refl)

pub vote_is_given : (t : NodeStep) (n : PlainNode) → WouldVoteFor t.node n → VotesFor t.node (stepped t (request_to n t.node.id)).node n
vote_is_given t n would =
    let m : Message = request_to n t.node.id in
    let P : NodeStep → Type 0 = λ u. VotesFor t.node u.node n in
    let past = would.earlier in
    let u : NodeStep = became_follower t n.term 0 in
    let may = nobody_yet u.node.vote n.id (nat_lt u.node.term n.term) (later_vote t.node.term n.term t.node.vote past) in
    by_term P t m
    (λ same. (let now = same refl in absurd (omega (arith, now, past))))
    (λ low. absurd (omega (arith, low, past)))
    (λ _ disturbs. absurd (false≢true (sym (and_left (hears_leader t.node) true (no_lease_hears t.node would.free)) ∙ disturbs)))
    (λ _ _. if_both P (grants u.node m (last_term n.log) (last n.log) false) _ _
    (λ _. record { vote = refl; term = refl; says = refl })
    (λ no. absurd (false≢true (sym no ∙ and_from _ _ may would.log))))

-- ---- who leads leads on

led_role : (n : PlainNode) (id : ℕ) (r : Role) (t : NodeStep) → r ≡ role.Leader → LeadsIn t.node n.term → LeadsIn (by_role_of r t (yes_from n id)).node n.term
led_role n id role.Follower t leads h = absurd (let no : role.Follower ≡ role.Leader = leads in cc)
led_role n id role.Precandidate t leads h = absurd (let no : role.Precandidate ≡ role.Leader = leads in cc)
led_role n id role.Candidate t leads h = absurd (let no : role.Candidate ≡ role.Leader = leads in cc)
led_role n id role.Leader t leads h = h

pub leads_on : (n : PlainNode) (id : ℕ) (t : NodeStep) → LeadsIn t.node n.term → LeadsIn (stepped t (yes_from n id)).node n.term
leads_on n id t h =
    let term = h.of_term in
    by_term (λ (u : NodeStep). LeadsIn u.node n.term) t (yes_from n id)
    (λ _. led_role n id t.node.role t h.role h)
    (λ low. absurd (omega (arith, low, term)))
    (λ past _. absurd (omega (arith, past, term)))
    (λ past _. absurd (omega (arith, past, term)))

all_lead_on : (n : PlainNode) (ids : List ℕ) (t : NodeStep) → LeadsIn t.node n.term → LeadsIn (run (yeses n ids) t).node n.term
all_lead_on n [] t h = h
all_lead_on n (id ∷ ids) t h = all_lead_on n ids (stepped t (yes_from n id)) (leads_on n id t h)

-- ---- who wins leads

told_leads : (t : NodeStep) (term : ℕ) → LeadsIn t.node term → LeadsIn (all_sent_append t).node term
told_leads t term h =
    let same = over_way keeps_rest (append_broadcast_way t.node) in
    record { role = ap (λ (x : Rest). x.role) same ∙ h.role; of_term = ap (λ (x : Rest). x.term) same ∙ h.of_term }

appended_leads : (t : NodeStep) (term : ℕ) → LeadsIn t.node term → LeadsIn (appended t (Payload [])).node term
appended_leads t term h = if_both (λ (u : NodeStep). LeadsIn u.node term) (is_log_full t.node) _ _ (λ _. record { role = h.role; of_term = h.of_term }) (λ _. record { role = h.role; of_term = h.of_term })

winner_leads : (t : NodeStep) → LeadsIn (became_leader t).node t.node.term
unfolding became_leader
winner_leads t =
    let u : NodeStep = with_event (with_node t (leading t.node)) (event_at t.node.id (event.Became role.Leader t.node.term)) in
    let same = leading_same t.node in
    let leads : LeadsIn u.node t.node.term = record { role = ap (λ (c : Core). c.role) same; of_term = ap (λ (c : Core). c.term) same } in
    told_leads (appended u (Payload [])) t.node.term (appended_leads u t.node.term leads)

-- ---- votes that come

-- a candidate of a term and a configuration
pub record Stands (term : ℕ) (c : Config) (ids : List ℕ) (t : NodeStep) : Type 0 where
  pub role : t.node.role ≡ role.Candidate
  pub of_term : t.node.term ≡ term
  pub config : t.node.tracker.config ≡ c
  pub unrefused : t.node.votes.refused ≡ []
  pub undecided : is_won c t.node.votes ≡ false
  pub enough : is_quorum c (λ id. has t.node.votes.granted id || has ids id) ≡ true

seen : (g e gi ri : Bool) → ri ≡ false → (gi || ri) ≡ true → (e ≡ true → gi ≡ g) → (g || (if e then true else false)) ≡ true → g ≡ true
seen g e gi ri none before same is = grind arith

added : (g e : Bool) → (g || (if e then true else false)) ≡ true → (if e then true else g) ≡ true
added g e is = grind arith

either : (g e r new : Bool) → ((g || (if e then true else false)) ≡ true → new ≡ true) → (g || (if e then true else r)) ≡ true → (new || r) ≡ true
either g e r new counts is = grind arith

pub none_kept : (g : Bool) → (g || false) ≡ true → g ≡ true
none_kept g is = grind arith

none_refused : (xs : List ℕ) (id : ℕ) → xs ≡ [] → has xs id ≡ false
none_refused xs id none = ap (λ (ys : List ℕ). has ys id) none

-- a yes is counted
yes_counts : (v : Votes) (id j : ℕ) → v.refused ≡ [] → (has v.granted j || (if id == j then true else false)) ≡ true → has (answered v id true).granted j ≡ true
unfolding answered
yes_counts v id j none is =
    if_both (λ (w : Votes). has w.granted j ≡ true) (has_answered v id) v (record v { granted = with_id v.granted id })
    (λ before. seen (has v.granted j) (id == j) (has v.granted id) (has v.refused id) (none_refused v.refused id none) before (λ same. ap (λ (i : ℕ). has v.granted i) (eqb-true id j same)) is)
    (λ _. has_with_id v.granted id j ∙ added (has v.granted j) (id == j) is)

refused_stays : (v : Votes) (id : ℕ) → (answered v id true).refused ≡ v.refused
unfolding answered
refused_stays v id = if_both (λ (w : Votes). w.refused ≡ v.refused) (has_answered v id) v (record v { granted = with_id v.granted id }) (λ _. refl) (λ _. refl)

-- what becomes of a candidate to which a yes comes
abbrev pub Goes_on_with : ℕ → Config → List ℕ → NodeStep → Type 0
Goes_on_with term c ids u = LeadsIn u.node term ⊎ Stands term c ids u

-- the votes with one more yes: nobody refused, and those to come are enough
record Counted (c : Config) (ids : List ℕ) (w : Votes) : Type 0 where
  unrefused : w.refused ≡ []
  enough : is_quorum c (λ j. has w.granted j || has ids j) ≡ true
  still_open : is_open c w ≡ true

counts : (c : Config) (id : ℕ) (ids : List ℕ) (v : Votes) → v.refused ≡ [] → is_quorum c (λ j. has v.granted j || has (id ∷ ids) j) ≡ true → Counted c ids (answered v id true)
counts c id ids v none quorum =
    let w = answered v id true in
    let unrefused : w.refused ≡ [] = refused_stays v id ∙ none in
    let enough : is_quorum c (λ j. has w.granted j || has ids j) ≡ true =
    both_more c (λ j. has v.granted j || has (id ∷ ids) j) (λ j. has w.granted j || has ids j) (λ j is. either (has v.granted j) (id == j) (has ids j) (has w.granted j) (yes_counts v id j none) is) quorum in
    record {
      unrefused = unrefused;
      enough = enough;
      still_open = both_more c (λ j. has w.granted j || has ids j) (λ j. not (has w.refused j)) (λ j _. ap not (none_refused w.refused j unrefused)) enough;
    }

not_won : (c : Config) (w : Votes) → vote_result c w ≡ result.Pending → is_won c w ≡ false
not_won c w is = elim (cases_Bool (is_won c w)) as (λ _. is_won c w ≡ false) [ inl won ↦ absurd (let no : result.Pending ≡ result.Won = sym is ∙ is_won_won c w won in cc) | inr never ↦ never ]

decides : (n : PlainNode) (id : ℕ) (ids : List ℕ) (c : Config) (t : NodeStep) (r : VoteResult) → Stands n.term c (id ∷ ids) t → vote_result c (answered t.node.votes id true) ≡ r
    → Goes_on_with n.term c ids (decided r (vote_counted t (yes_from n id) true))
decides n id ids c t result.Won s is = inl (subst (LeadsIn (became_leader (vote_counted t (yes_from n id) true)).node) s.of_term (winner_leads (vote_counted t (yes_from n id) true)))
decides n id ids c t result.Pending s is =
    let w = answered t.node.votes id true in
    let counted = counts c id ids t.node.votes s.unrefused s.enough in
    inr (record { role = s.role; of_term = s.of_term; config = s.config; unrefused = counted.unrefused; undecided = not_won c w is; enough = counted.enough })
decides n id ids c t result.Lost s is =
    let w = answered t.node.votes id true in
    let counted = counts c id ids t.node.votes s.unrefused s.enough in
    absurd (false≢true (sym (lost_is c w is) ∙ counted.still_open))

stood_role : (n : PlainNode) (id : ℕ) (ids : List ℕ) (c : Config) (r : Role) (t : NodeStep) → r ≡ role.Candidate → Stands n.term c (id ∷ ids) t → Goes_on_with n.term c ids (by_role_of r t (yes_from n id))
stood_role n id ids c role.Follower t stands s = absurd (let no : role.Follower ≡ role.Candidate = stands in cc)
stood_role n id ids c role.Precandidate t stands s = absurd (let no : role.Precandidate ≡ role.Candidate = stands in cc)
stood_role n id ids c role.Leader t stands s = absurd (let no : role.Leader ≡ role.Candidate = stands in cc)
stood_role n id ids c role.Candidate t stands s =
    decides n id ids c t (vote_result t.node.tracker.config (answered t.node.votes id true)) s (ap (λ (x : Config). vote_result x (answered t.node.votes id true)) (sym s.config))

pub yes_comes : (n : PlainNode) (id : ℕ) (ids : List ℕ) (c : Config) (t : NodeStep) → Stands n.term c (id ∷ ids) t → Goes_on_with n.term c ids (stepped t (yes_from n id))
yes_comes n id ids c t s =
    let term = s.of_term in
    by_term (Goes_on_with n.term c ids) t (yes_from n id)
    (λ _. stood_role n id ids c t.node.role t s.role s)
    (λ low. absurd (omega (arith, low, term)))
    (λ past _. absurd (omega (arith, past, term)))
    (λ past _. absurd (omega (arith, past, term)))

all_come : (n : PlainNode) (ids : List ℕ) (c : Config) (t : NodeStep) → Stands n.term c ids t → LeadsIn (run (yeses n ids) t).node n.term
all_come n [] c t s =
    let v = t.node.votes in
    let won : is_won c v ≡ true = both_more c (λ j. has v.granted j || has [] j) (λ j. has v.granted j) (λ j is. none_kept (has v.granted j) is) s.enough in
    absurd (false≢true (sym s.undecided ∙ won))
all_come n (id ∷ ids) c t s =
    let u : NodeStep = stepped t (yes_from n id) in
    elim (yes_comes n id ids c t s) as (λ _. LeadsIn (run (yeses n ids) u).node n.term) [ inl leads ↦ all_lead_on n ids u leads | inr stands ↦ all_come n ids c u stands ]

pub election_is_won : (t : NodeStep) (ids : List ℕ) → StillStands t.node → HasQuorumWith t.node ids → LeadsIn (run (yeses t.node ids) t).node t.node.term
election_is_won t ids s quorum =
    all_come t.node ids t.node.tracker.config t (record { role = s.role; of_term = refl; config = refl; unrefused = s.unrefused; undecided = s.undecided; enough = quorum })

-- ---- who campaigns stands

asked_one_ballot : (n : PlainNode) (to term : ℕ) (question answer : MessageKind) → ((asked_one n to term question answer).votes ≡ n.votes) × ((asked_one n to term question answer).tracker ≡ n.tracker)
asked_one_ballot n to term question answer = if_both (λ (x : PlainNode). (x.votes ≡ n.votes) × (x.tracker ≡ n.tracker)) (to == n.id) _ _ (λ _. (refl, refl)) (λ _. (refl, refl))

pub asked_ballot : (n : PlainNode) (ids : List ℕ) (term : ℕ) (question answer : MessageKind) → ((asked n ids term question answer).votes ≡ n.votes) × ((asked n ids term question answer).tracker ≡ n.tracker)
asked_ballot n [] term question answer = (refl, refl)
asked_ballot n (id ∷ ids) term question answer =
    let one = asked_one_ballot n id term question answer in
    let rest = asked_ballot (asked_one n id term question answer) ids term question answer in
    (rest.0 ∙ one.0, rest.1 ∙ one.1)

pub no_majority : (len count : ℕ) → 0 < len → count ≡ 0 → (len == 0 || nat_lt len (2 * count)) ≡ false
no_majority len count some none = grind (arith, nat_tests)

none_majority : (xs : List ℕ) (id : ℕ) → has xs id ≡ true → is_majority xs (λ j. has [] j) ≡ false
none_majority [] id is = absurd (false≢true is)
none_majority (x ∷ xs) id is = no_majority (length (x ∷ xs)) (count_by (λ j. has [] j) (x ∷ xs)) (omega arith) (count_none (λ j. has [] j) (x ∷ xs) (λ _. refl))

no_quorum : (c : Config) (id : ℕ) → is_voter c id ≡ true → is_quorum c (λ j. has [] j) ≡ false
no_quorum c id votes =
    elim (or_cases (has c.incoming id) (has c.outgoing id) votes) as (λ _. is_quorum c (λ j. has [] j) ≡ false) [
      | inl old ↦ and_left (is_majority c.incoming (λ j. has [] j)) (is_majority c.outgoing (λ j. has [] j)) (none_majority c.incoming id old)
      | inr other ↦ and_right (is_majority c.incoming (λ j. has [] j)) (is_majority c.outgoing (λ j. has [] j)) (none_majority c.outgoing id other)
    ]

pub stood_undecided : (t : NodeStep) → is_voter t.node.tracker.config t.node.id ≡ true → StillStands (became_candidate t false).node
stood_undecided t votes =
    let n : PlainNode = candidate t.node in
    let question : MessageKind = kind.Vote (last_term n.log) (last n.log) false in
    let x : PlainNode = asked n (voters n.tracker.config) n.term question (kind.VoteResponse true) in
    let same = asked_same n (voters n.tracker.config) n.term question (kind.VoteResponse true) in
    let ballot = asked_ballot n (voters n.tracker.config) n.term question (kind.VoteResponse true) in
    record {
      role = ap (λ (c : Core). c.role) same;
      unrefused = ap (λ (v : Votes). v.refused) ballot.0;
      undecided = ap (λ (k : PlainTracker). is_quorum k.config (λ id. has x.votes.granted id)) ballot.1
          ∙ ap (λ (v : Votes). is_quorum n.tracker.config (λ id. has v.granted id)) ballot.0 ∙ no_quorum t.node.tracker.config t.node.id votes;
    }

pub campaign_stands : (t : NodeStep) → MayCampaign t.node → t.node.term < MAX_TERM → t.node.options.pre_vote ≡ false → StillStands (after Campaign t).node
unfolding campaigned
campaign_stands t may low off =
    subst (λ (o : Option WhyNoCampaign). StillStands (campaigned_unless o t false).node) (sym (nothing_keeps t.node may low))
    (subst (λ (b : Bool). StillStands (if b && not false then became_precandidate t else became_candidate t false).node) (sym off) (stood_undecided t may.votes))
