-- A message, as a way of moves: terms, campaigns, votes, what a follower does, and the table of roles
use Rattle.std.proofs.Common.{[], ℕ, ◌≤◌, ◌≡◌, ◌<◌, arith, refl, false, ◌==◌, eqb-true, List, ◌∷◌, subst, sym, Bool, true, ap, ◌∙◌, ◌+◌, None, Option, Some, ◌&&◌, not, min, max, nat_le, ◌||◌, nat_lt, if◌then◌else◌, ◌⊎◌, ◌++◌, append-nil, Ok, inl, inr}
use Rattle.std.proofs.lemmas.Bool.{cases_lt, and_parts, false≢true, leb-false, ltb-false, eqb-false, or_parts}
use Rattle.rb_raftlog.proofs.TermLaws.{held_in, is_term_is, is_term_from}
use Rattle.rb_raftlog.proofs.AnswerLaws.{matched-says, committed-says}
use Rattle.rb_raftlog.proofs.AppendLaws.{by_append, in_place, put_term_below, matched-term}
use Rattle.rb_raftlog.specs.declared.entry.Entry.{Entry}
use Rattle.rb_raftlog.specs.Log.{last_term, last, is_up_to_date, answer, given_way, appended, is_term, term_at, LogValue}
use Rattle.rb_raftlog.specs.declared.raft_log.Appended.{Appended}
use Rattle.rb_raftlog.specs.declared.raft_log.Appended.TheVariants.{Matched, Refused, BelowCommit}
use Rattle.rb_raftlog.specs.declared.snapshot.Snapshot.{Snapshot}
use Rattle.rb_tracker.proofs.SetLaws.{if_both}
use Rattle.rb_tracker.specs.Ballots.{answered, vote_result}
use Rattle.rb_tracker.specs.Configs.{voters}
use Rattle.rb_tracker.specs.declared.votes.VoteResult.{VoteResult}
use Rattle.rb_tracker.specs.declared.votes.VoteResult.TheVariants as vote
use Rattle.rb_message.specs.Appends.{PlainAppend}
use Rattle.rb_message.specs.Messages.{has_term}
use Rattle.rb_message.specs.declared.event.Event.{Event}
use Rattle.rb_message.specs.declared.event.EventKind.TheVariants as event
use Rattle.rb_message.specs.Events.{event_at}
use Rattle.rb_message.specs.declared.event.WhyNoCampaign.{WhyNoCampaign}
use Rattle.rb_message.specs.declared.kind.MessageKind.{MessageKind}
use Rattle.rb_message.specs.declared.kind.MessageKind.TheVariants as kind
use Rattle.rb_message.specs.declared.message.Message.{Message}
use Rattle.rb_message.specs.declared.role.Role.{Role}
use Rattle.rb_message.specs.declared.role.Role.TheVariants as role
use Rattle.rb_node.specs.Campaigns.{asked_one, asked, why_no_campaign, became_candidate, candidate, asked_for_votes, became_precandidate, precandidate, asked_for_pre_votes, campaigned_unless, campaigned, became_candidate_unless, campaigned_after_pre_vote}
use Rattle.rb_node.specs.Following.{after_log, commits_to, removal, removal_reported, append_entries_handled, with_appended, snapshot_handled, restored_to, with_match, forwarded_to_leader, heartbeat_handled, leader_contact_recorded}
use Rattle.rb_message.specs.declared.event.WhyIgnored.TheVariants.{HearsLeader}
use Rattle.rb_node.specs.Node.{NodeStep, with_node, message, answered_with, PlainNode, ignored}
use Rattle.rb_node.specs.Step.{as_follower, leader_followed, as_precandidate, as_candidate, as_leader, by_role_of, at_term_by, stepped, at_term}
use Rattle.rb_node.specs.Terms.{became_follower, stepped_later_by, term_revealed, answers_earlier, stepped_earlier_by, stepped_later, stepped_earlier, ignores_campaign}
use Rattle.rb_node.specs.Votes.{vote_request_handled, voted_for, grants, can_vote_for, pre_vote_request_handled, decided, pre_decided, vote_counted, count_of}
use Rattle.rb_calls.specs.Elections.{IsGranted, IsElected}
use Rattle.rb_calls.specs.Learning.{IsLeaders}
use Rattle.rb_calls.specs.Matches.{IsAccepted}
use Rattle.rb_calls.specs.Sound.{IsSound}
use Rattle.rb_calls.specs.Words.{Answers, Sends}
use Rattle.rb_calls.proofs.FollowerLaws.{Reaches, answer_reaches}
use Rattle.rb_calls.proofs.Goes.{Ways, Core, core}
use Rattle.rb_calls.proofs.LeaderWays.{acks_same, telling_path, nothing_done, telling, led_way, proposed_way, accepted_way, refused_way, heartbeat_response_handled_way, transferred_way}
use Rattle.rb_calls.proofs.Moves.{Path, StepMove, Came, CameNow, HoldsAppend, MaySay, Learned, Known, By_append, By_beat, By_snapshot, IsNoProposal, Onward, Goes_on, One, Follows, Shows, following, Waits, Way, StepTells, Sent, Passes, Idle, Then, Stands, Asks, Votes_for, Counts, Learns, Takes, Restores}
use Rattle.rb_calls.proofs.Saying.{different}

-- ---- terms

followed_way : {w : Ways} (t : NodeStep) (term lead : ℕ) → t.node.term ≤ term → (t.node.role ≡ role.Leader → t.node.term < term) → Path (StepMove w) t (became_follower t term lead)
followed_way t term lead up past =
    Onward (Goes_on t (One (Follows t.node term lead up past))) (Shows (with_node t (following t.node term lead)) (event_at t.node.id (event.Became role.Follower term)))

-- who doesn't lead may follow in its term
joins : {w : Ways} (t : NodeStep) (lead : ℕ) → (t.node.role ≡ role.Leader → ⊥) → Path (StepMove w) t (became_follower t t.node.term lead)
joins t lead never = followed_way t t.node.term lead (omega arith) (λ leads. absurd (never leads))

takes_up : {w : Ways} (t : NodeStep) (term lead : ℕ) → t.node.term < term → Path (StepMove w) t (became_follower t term lead)
takes_up t term lead later = followed_way t term lead (omega (arith, later)) (λ _. later)

stays : {w : Ways} (t : NodeStep) → Path (StepMove w) t t
stays t = telling_path (nothing_done t)

raised_way : {w : Ways} (k : MessageKind) (t : NodeStep) (m : Message) → t.node.term < m.term → Path (StepMove w) t (stepped_later_by k t m)
raised_way (kind.PreVote last_term last_index) t m up = stays t
raised_way {w} (kind.PreVoteResponse granted) t m up = if_both (Path (StepMove w) t) granted _ _ (λ _. stays t) (λ _. takes_up t m.term 0 up)
raised_way (kind.Append append) t m up = takes_up t m.term m.from up
raised_way (kind.Heartbeat commit) t m up = takes_up t m.term m.from up
raised_way (kind.Snapshot snapshot) t m up = takes_up t m.term m.from up
raised_way _ t m up = takes_up t m.term 0 up

waits : {w : Ways} (t : NodeStep) (to term : ℕ) (answer : MessageKind) → (IsSound t.node → Answers t.node (message t.node.id to term answer))
    → ((i : ℕ) → answer ≡ kind.AppendResponse i → MaySay w t.node i) → Path (StepMove w) t (with_node t (answered_with t.node to term answer))
waits t to term answer says may = Goes_on t (One (Waits t.node (message t.node.id to term answer) says may))

shown_way : {w : Ways} (t : NodeStep) (m : Message) → Path (StepMove w) t (term_revealed t m)
shown_way {w} t m =
    if_both (Path (StepMove w) t) (answers_earlier t.node) _ _
    (λ _. waits t m.from t.node.term (kind.AppendResponse 0) (λ _. (refl, (refl, omega arith, λ _. refl)))
    (λ i says. (let same = acks_same 0 i says in inl (omega (arith, same))))) (λ _. Shows t _)

lowered_way : {w : Ways} (k : MessageKind) (t : NodeStep) (m : Message) → Path (StepMove w) t (stepped_earlier_by k t m)
lowered_way (kind.PreVote last_term last_index) t m = Onward (waits t m.from t.node.term (kind.PreVoteResponse false) (λ _. (refl, tt)) (λ i no. cc)) (Shows _ _)
lowered_way (kind.Append append) t m = shown_way t m
lowered_way (kind.Heartbeat commit) t m = shown_way t m
lowered_way _ t m = Shows t _

-- ---- campaigns

-- what may be asked of others, and answered to itself, by all that a question leaves as it is
record May (c : Core) (term : ℕ) (question answer : MessageKind) : Type 0 where
  own : IsNoProposal question
  others : (x : PlainNode) (to : ℕ) → core x ≡ c → (to ≡ x.id → ⊥) → Sends x (message x.id to term question)
  itself : (x : PlainNode) (to : ℕ) → core x ≡ c → to ≡ x.id → Answers x (message x.id to term answer)
  no_ack : (i : ℕ) → answer ≡ kind.AppendResponse i → ⊥

asked_one_way : {w : Ways} (n : PlainNode) (to term : ℕ) (question answer : MessageKind) → May (core n) term question answer
    → Way (StepMove w) n (asked_one n to term question answer)
asked_one_way {w} n to term question answer may =
    if_both (Way (StepMove w) n) (to == n.id) _ _
    (λ is. One (Waits n (message n.id to term answer) (λ _. may.itself n to refl (eqb-true to n.id is)) (λ i no. absurd (may.no_ack i no))))
    (λ no. One (StepTells (Sent n (message n.id to term question) may.own (λ _. may.others n to refl (different to n.id no)))))

pub asked_one_same : (n : PlainNode) (to term : ℕ) (question answer : MessageKind) → core (asked_one n to term question answer) ≡ core n
asked_one_same n to term question answer = if_both (λ (x : PlainNode). core x ≡ core n) (to == n.id) _ _ (λ _. refl) (λ _. refl)

asked_way : {w : Ways} (n : PlainNode) (ids : List ℕ) (term : ℕ) (question answer : MessageKind) → May (core n) term question answer
    → Way (StepMove w) n (asked n ids term question answer)
asked_way n [] term question answer may = telling (One (Idle n n refl))
asked_way n (id ∷ ids) term question answer may =
    Then (asked_one_way n id term question answer may)
    (asked_way (asked_one n id term question answer) ids term question answer
    (subst (λ (c : Core). May c term question answer) (sym (asked_one_same n id term question answer)) may))

may_ask : (n : PlainNode) (transfer : Bool) → n.vote ≡ n.id → n.role ≡ role.Candidate → May (core n) n.term (kind.Vote (last_term n.log) (last n.log) transfer) (kind.VoteResponse true)
may_ask n transfer itself stands = record {
  own = tt;
  others = λ x to e other. (refl, (sym (ap (λ (c : Core). c.term) e), other, sym (ap (λ (c : Core). last_term c.log) e), sym (ap (λ (c : Core). last c.log) e), ap (λ (c : Core). c.role) e ∙ stands));
  itself = λ x to e own. (refl, (sym (ap (λ (c : Core). c.term) e), λ _. ap (λ (c : Core). c.vote) e ∙ itself ∙ sym (ap (λ (c : Core). c.id) e) ∙ sym own));
  no_ack = λ i no. cc;
}

may_ask_first : (n : PlainNode) → May (core n) (n.term + 1) (kind.PreVote (last_term n.log) (last n.log)) (kind.PreVoteResponse true)
may_ask_first n = record {
  own = tt;
  others = λ x to e other. (refl, (sym (ap (λ (c : Core). c.term + 1) e), other, sym (ap (λ (c : Core). last_term c.log) e), sym (ap (λ (c : Core). last c.log) e)));
  itself = λ x to e own. (refl, tt);
  no_ack = λ i no. cc;
}

stood_way : {w : Ways} (t : NodeStep) (transfer : Bool) → why_no_campaign t.node ≡ None → Path (StepMove w) t (became_candidate t transfer)
stood_way t transfer may =
    let n = candidate t.node in
    let asks = asked_way n (voters n.tracker.config) n.term (kind.Vote (last_term n.log) (last n.log) transfer) (kind.VoteResponse true) (may_ask n transfer refl refl) in
    Onward (Goes_on t (Then (One (Stands t.node may)) asks)) (Shows (with_node t (asked_for_votes n transfer)) (event_at t.node.id (event.Became role.Candidate (t.node.term + 1))))

pre_vote_way : {w : Ways} (t : NodeStep) → why_no_campaign t.node ≡ None → Path (StepMove w) t (became_precandidate t)
pre_vote_way t may =
    let n = precandidate t.node in
    let asks = asked_way n (voters n.tracker.config) (n.term + 1) (kind.PreVote (last_term n.log) (last n.log)) (kind.PreVoteResponse true) (may_ask_first n) in
    Onward (Goes_on t (Then (One (Asks t.node may)) asks)) (Shows (with_node t (asked_for_pre_votes n)) (event_at t.node.id (event.Became role.Precandidate t.node.term)))

campaigned_way_unless : {w : Ways} (o : Option WhyNoCampaign) (t : NodeStep) (transfer : Bool) → why_no_campaign t.node ≡ o
    → Path (StepMove w) t (campaigned_unless o t transfer)
campaigned_way_unless (Some reason) t transfer is = Shows t _
campaigned_way_unless {w} None t transfer is =
    if_both (Path (StepMove w) t) (t.node.options.pre_vote && not transfer) _ _ (λ _. pre_vote_way t is) (λ _. stood_way t transfer is)

pub campaigned_way : {w : Ways} (t : NodeStep) (transfer : Bool) → Path (StepMove w) t (campaigned t transfer)
unfolding campaigned
campaigned_way t transfer = campaigned_way_unless (why_no_campaign t.node) t transfer refl

stood_way_unless : {w : Ways} (o : Option WhyNoCampaign) (t : NodeStep) → why_no_campaign t.node ≡ o → Path (StepMove w) t (became_candidate_unless o t)
stood_way_unless (Some reason) t is = Shows t _
stood_way_unless None t is = stood_way t false is

after_pre_vote_way : {w : Ways} (t : NodeStep) → Path (StepMove w) t (campaigned_after_pre_vote t)
unfolding campaigned_after_pre_vote
after_pre_vote_way t = stood_way_unless (why_no_campaign t.node) t refl

-- ---- votes

vote_way : {w : Ways} (t : NodeStep) (m : Message) (last_term last_index : ℕ) (transfer : Bool) → w.came m → m.kind ≡ kind.Vote last_term last_index transfer → m.term ≡ t.node.term
    → (is_up_to_date t.node.log last_index last_term ≡ true → w.given m.from t.node.term)
    → Path (StepMove w) t (vote_request_handled t m last_term last_index)
vote_way {w} t m last_term last_index transfer came asks of_term grant =
    let n = t.node in
    let x : PlainNode = voted_for n m.from in
    if_both (Path (StepMove w) t) (grants n m last_term last_index false) _ _
    (λ gives. (let new = (and_parts (can_vote_for n m false) (is_up_to_date n.log last_index last_term) gives).1 in
    Onward (Goes_on t (One (Votes_for n m last_term last_index transfer gives (grant new) came asks of_term)))
    (waits (with_node t x) m.from m.term (kind.VoteResponse true) (λ _. (refl, (of_term, λ _. refl))) (λ i no. cc))))
    (λ _. Onward (waits t m.from n.term (kind.VoteResponse false) (λ _. (refl, (refl, λ no. absurd (false≢true no)))) (λ i no. cc)) (Shows _ _))

pre_vote_request_handled_way : {w : Ways} (t : NodeStep) (m : Message) (last_term last_index : ℕ)
    → Path (StepMove w) t (pre_vote_request_handled t m last_term last_index)
pre_vote_request_handled_way {w} t m last_term last_index =
    if_both (Path (StepMove w) t) (grants t.node m last_term last_index true) _ _
    (λ _. waits t m.from m.term (kind.PreVoteResponse true) (λ _. (refl, tt)) (λ i no. cc))
    (λ _. Onward (waits t m.from t.node.term (kind.PreVoteResponse false) (λ _. (refl, tt)) (λ i no. cc)) (Shows _ _))

only_stands : (t : NodeStep) → t.node.role ≡ role.Candidate → t.node.role ≡ role.Leader → ⊥
only_stands t stands leads = let no : role.Candidate ≡ role.Leader = sym stands ∙ leads in cc

asks_first : (t : NodeStep) → t.node.role ≡ role.Precandidate → t.node.role ≡ role.Leader → ⊥
asks_first t is leads = let no : role.Precandidate ≡ role.Leader = sym is ∙ leads in cc

decided_way : {w : Ways} (v : VoteResult) (t : NodeStep) → t.node.role ≡ role.Candidate → (v ≡ vote.Won → w.elected t.node.term)
    → vote_result t.node.tracker.config t.node.votes ≡ v → Path (StepMove w) t (decided v t)
decided_way vote.Won t stands elect won = led_way t stands (elect refl) won
decided_way vote.Pending t stands elect is = stays t
decided_way vote.Lost t stands elect is = joins t 0 (only_stands t stands)

pre_decided_way : {w : Ways} (v : VoteResult) (t : NodeStep) → (t.node.role ≡ role.Leader → ⊥) → Path (StepMove w) t (pre_decided v t)
pre_decided_way vote.Won t never = after_pre_vote_way t
pre_decided_way vote.Pending t never = stays t
pre_decided_way vote.Lost t never = joins t 0 never

counted_way : {w : Ways} (t : NodeStep) (m : Message) (granted : Bool) → w.came m
    → (t.node.role ≡ role.Candidate → (m.kind ≡ kind.VoteResponse granted) × (m.term ≡ t.node.term)) → Path (StepMove w) t (vote_counted t m granted)
counted_way t m granted came answers =
    Onward (Goes_on t (One (Counts t.node m granted came answers))) (Shows (with_node t (record t.node { votes = answered t.node.votes m.from granted })) _)

-- ---- a follower

holds_up_to : {w : Ways} (t : NodeStep) (from i : ℕ) → t.node.role ≡ role.Follower → (IsSound t.node → i ≤ last t.node.log) → MaySay w t.node i
    → Path (StepMove w) t (with_node t (answered_with t.node from t.node.term (kind.AppendResponse i)))
holds_up_to {w} t from i follows held may =
    waits t from t.node.term (kind.AppendResponse i)
    (λ s. (refl, (refl, held s, λ stands. (let never : role.Follower ≡ role.Candidate = sym follows ∙ stands in cc))))
    (λ j says. subst (MaySay w t.node) (acks_same i j says) may)

-- an index that an append is answered is what is committed, or the append's end, up to which the log has it
abbrev IsMatchedBy : Ways → PlainNode → PlainAppend → ℕ → Type 0
IsMatchedBy w n append i = (i ≡ n.commit) ⊎ ((h : HoldsAppend w n i) × (h.append ≡ append))

learned_by : (w : Ways) (n : PlainNode) (append : PlainAppend) (i : ℕ) → IsMatchedBy w n append i → Learned w n (max n.commit (min append.commit i))
learned_by w n append i matched =
    elim (cases_lt n.commit (min append.commit i)) as (λ _. Learned w n (max n.commit (min append.commit i))) [
      | inr known ↦ Known (omega (arith, known))
      | inl news ↦ elim matched as (λ _. Learned w n (max n.commit (min append.commit i))) [
        | inl same ↦ Known (omega (arith, same))
        | inr h ↦ By_append i h.0 (omega (arith, news)) (let is = ap (λ (a : PlainAppend). a.commit) h.1 in omega (arith, news, is))
      ]
    ]

after_log_way : {w : Ways} (a : Appended) (t : NodeStep) (from : ℕ) (append : PlainAppend) → t.node.role ≡ role.Follower → Reaches a t.node.log t.node.commit
    → ((i : ℕ) → a ≡ Matched i → IsMatchedBy w t.node append i) → Path (StepMove w) t (after_log a t from append)
unfolding Reaches
after_log_way {w} (Matched i) t from append follows reach matched =
    let n = t.node in
    let x : PlainNode = commits_to n (min append.commit i) in
    let may : MaySay w x i =
    elim (matched i refl) as (λ _. MaySay w x i) [
      | inl same ↦ inl (omega (arith, same))
      | inr h ↦ (let k = h.0 in inr (inr (record { append = k.append; came = record { came = k.came.came; of_term = k.came.of_term }; end = k.end; first = k.first; held = k.held })))
    ] in
    Onward (Goes_on t (One (Learns n (max n.commit (min append.commit i)) follows (omega arith) (λ s. (let held = s.is_held in omega (arith, held, reach))) (learned_by w n append i (matched i refl)))))
    (holds_up_to (with_node t x) from i follows (λ s. (let held = s.is_held in omega (arith, held, reach))) may)
after_log_way (Refused hint) t from append follows reach matched = waits t from t.node.term (kind.AppendRefusal append.prev hint) (λ _. (refl, refl)) (λ i no. cc)
after_log_way (BelowCommit i) t from append follows reach matched = Shows t _

-- the entry before an append's stays, where it was found
prev_stays : (v : LogValue) (prev term commit : ℕ) (es : List Entry) → term_at v prev ≡ Ok term → term_at (appended v prev term es commit) prev ≡ Ok term
prev_stays v prev term commit es at =
    by_append v prev term commit es (λ (x : LogValue). term_at x prev ≡ Ok term) at
    (λ c over holds e. (let there = in_place v prev term c es holds e in let from = there.1 in put_term_below v prev c prev es (omega (arith, from)) there.2 ∙ at))

answer_holds : {w : Ways} (n : PlainNode) (from : ℕ) (append : PlainAppend) (i : ℕ) → CameNow w n (kind.Append append)
    → answer n.log append.prev append.prev_term append.entries n.commit ≡ Matched i → IsMatchedBy w (with_appended n from append) append i
answer_holds {w} n from append i came says =
    elim (cases_lt append.prev n.commit) as (λ _. IsMatchedBy w (with_appended n from append) append i) [
      | inl under ↦ inl (committed-says n.log append.prev append.prev_term n.commit i append.entries under says).0
      | inr over ↦
          let said = matched-says n.log append.prev append.prev_term n.commit i append.entries over says in
          let h : HoldsAppend w (with_appended n from append) i = record {
            append = append;
            came = record { came = came.came; of_term = came.of_term };
            end = said.1;
            first = prev_stays n.log append.prev append.prev_term n.commit append.entries said.0;
            held = λ k e at. matched-term n.log append.prev append.prev_term n.commit k append.entries e over said.0 at;
          } in
          inr (h, refl)
    ]

-- entries that are removed are shown, if there are any
removal_way : {w : Ways} (t : NodeStep) (gone : List Entry) → Path (StepMove w) t (record t { events = t.events ++ removal t.node.id t.node.log gone })
removal_way {w} t [] = subst (λ (es : List Event). Path (StepMove w) t (record t { events = es })) (sym (append-nil t.events)) (stays t)
removal_way t (e ∷ es) = Shows t _

append_way : {w : Ways} (t : NodeStep) (from : ℕ) (append : PlainAppend) → t.node.role ≡ role.Follower → CameNow w t.node (kind.Append append)
    → Path (StepMove w) t (append_entries_handled t from append)
unfolding append_entries_handled
append_way t from append follows came =
    let n = t.node in
    let v : NodeStep = removal_reported t append in
    let u : NodeStep = with_node v (with_appended n from append) in
    Onward (removal_way t (given_way n.log append.prev append.prev_term append.entries n.commit))
    (Onward (Goes_on v (One (Takes n from append follows came)))
    (after_log_way (answer n.log append.prev append.prev_term append.entries n.commit) u from append follows
    (answer_reaches n.log append.prev append.prev_term append.entries n.commit) (λ i says. answer_holds n from append i came says)))

snapshot_way : {w : Ways} (t : NodeStep) (from : ℕ) (s : Snapshot) → t.node.role ≡ role.Follower → CameNow w t.node (kind.Snapshot s)
    → Path (StepMove w) t (snapshot_handled t from s)
unfolding snapshot_handled
snapshot_way {w} t from s follows came =
    let n = t.node in
    let P : NodeStep → Type 0 = Path (StepMove w) t in
    let x : PlainNode = record n { commit = s.index } in
    let y : NodeStep = with_node t (restored_to n s) in
    if_both P (nat_le s.index n.commit) _ _ (λ _. holds_up_to t from n.commit follows (λ o. o.is_held) (inl (omega arith)))
    (λ past. (let above = leb-false s.index n.commit past in
    if_both P (is_term (term_at n.log s.index) s.term) _ _
    (λ holds. (let at = is_term_is (term_at n.log s.index) s.term holds in
    let held = held_in n.log s.index s.term at in
    Onward (Goes_on t (One (Learns n s.index follows (omega (arith, above)) (λ _. held.1) (By_snapshot s came refl at))))
    (holds_up_to (with_node t x) from s.index follows (λ o. o.is_held) (inl (omega arith)))))
    (λ fails. Onward (Goes_on t (One (Restores n s follows above came (λ at. false≢true (sym fails ∙ is_term_from (term_at n.log s.index) s.term at)))))
    (Onward (holds_up_to y from s.index follows (λ o. o.is_held) (inl (omega arith))) (Shows (with_node t (with_match (restored_to n s) from)) _)))))

-- what is for its leader
passed_way : {w : Ways} (t : NodeStep) (what : MessageKind) → Came w what → Sends t.node (message t.node.id t.node.lead 0 what)
    → Path (StepMove w) t (with_node t (forwarded_to_leader t.node what))
passed_way t what came says = Goes_on t (One (Passes t.node (message t.node.id t.node.lead 0 what) came (λ _. says)))

beaten_way : {w : Ways} (n : PlainNode) (from commit : ℕ) → n.role ≡ role.Follower → CameNow w n (kind.Heartbeat commit) → Way (StepMove w) n (heartbeat_handled n from commit)
beaten_way {w} n from commit follows came =
    let h : PlainNode = leader_contact_recorded n from in
    let x : PlainNode = commits_to h (min commit (last n.log)) in
    let now : CameNow w h (kind.Heartbeat commit) = record { came = came.came; of_term = came.of_term } in
    let why : Learned w h (max n.commit (min commit (last n.log))) =
    elim (cases_lt n.commit (min commit (last n.log))) as (λ _. Learned w h (max n.commit (min commit (last n.log)))) [
      | inr known ↦ Known (omega (arith, known))
      | inl news ↦ By_beat commit now (omega (arith, news)) (omega (arith, news))
    ] in
    Then {b = h} (One (StepTells (Idle n h refl)))
    (Then {b = x} (One (Learns h (max n.commit (min commit (last n.log))) follows (omega arith) (λ s. (let held = s.is_held in omega (arith, held))) why))
    (One (StepTells (Sent x (message x.id from x.term kind.HeartbeatResponse) tt (λ _. (refl, refl))))))

-- ---- a message

-- what is known of a message where it is stepped: votes, elections and answers that it may bring
pub record Brings (w : Ways) (t : NodeStep) (m : Message) : Type 0 where
  pub came : w.came m
  pub now : IsLeaders m.kind → m.term ≡ t.node.term
  pub of_term : (granted : Bool) → m.kind ≡ kind.VoteResponse granted → m.term ≡ t.node.term
  pub votes : (last_term last_index : ℕ) (transfer : Bool) → m.kind ≡ kind.Vote last_term last_index transfer
      → (m.term ≡ t.node.term) × (is_up_to_date t.node.log last_index last_term ≡ true → w.given m.from t.node.term)
  pub elects : t.node.role ≡ role.Candidate → (granted : Bool) → m.kind ≡ kind.VoteResponse granted → count_of t.node m.from granted ≡ vote.Won → w.elected t.node.term
  pub tells : t.node.role ≡ role.Leader → (i : ℕ) → m.kind ≡ kind.AppendResponse i → w.matched t.node.term m.from (min i (last t.node.log))

abbrev of_message : {w : Ways} (m : Message) → w.came m → Came w m.kind
of_message m came = record { message = m; comes = came; is = refl }

in_term : {w : Ways} (n : PlainNode) (k : MessageKind) → (c : Came w k) → c.message.term ≡ n.term → CameNow w n k
in_term n k c same = record { came = c; of_term = same }

follower_way : {w : Ways} (k : MessageKind) (t : NodeStep) (m : Message) → t.node.role ≡ role.Follower → (c : Came w k) → (IsLeaders k → c.message.term ≡ t.node.term) → Path (StepMove w) t (as_follower k t m)
follower_way (kind.Append append) t m is came now = append_way t m.from append is (in_term t.node (kind.Append append) came (now tt))
follower_way (kind.Heartbeat commit) t m is came now = Goes_on t (beaten_way t.node m.from commit is (in_term t.node (kind.Heartbeat commit) came (now tt)))
follower_way (kind.Snapshot snapshot) t m is came now =
    let n : PlainNode = leader_contact_recorded t.node m.from in
    Onward (Goes_on t (One (StepTells (Idle t.node n refl)))) (snapshot_way (with_node t n) m.from snapshot is (in_term n (kind.Snapshot snapshot) came (now tt)))
follower_way {w} (kind.Proposal body) t m is came now =
    if_both (Path (StepMove w) t) (t.node.lead == 0) _ _ (λ _. Shows t _) (λ _. passed_way t (kind.Proposal body) came (refl, (refl, refl)))
follower_way {w} (kind.TransferLeader target) t m is came now =
    if_both (Path (StepMove w) t) (t.node.lead == 0) _ _ (λ _. Shows t _) (λ _. passed_way t (kind.TransferLeader target) came (refl, (refl, refl)))
follower_way kind.TimeoutNow t m is came now = campaigned_way t true
follower_way _ t m is came now = Shows t _

leader_followed_way : {w : Ways} (t : NodeStep) (m : Message) → (t.node.role ≡ role.Leader → ⊥) → w.came m → (IsLeaders m.kind → m.term ≡ t.node.term) → Path (StepMove w) t (leader_followed t m)
leader_followed_way t m never came now = let u = became_follower t t.node.term m.from in Onward (joins t m.from never) (follower_way m.kind u m refl (of_message m came) now)

precandidate_way : {w : Ways} (k : MessageKind) (t : NodeStep) (m : Message) → t.node.role ≡ role.Precandidate → w.came m → (IsLeaders m.kind → m.term ≡ t.node.term) → Path (StepMove w) t (as_precandidate k t m)
precandidate_way (kind.PreVoteResponse granted) t m is came now =
    Onward (counted_way t m granted came (λ stands. (let no : role.Precandidate ≡ role.Candidate = sym is ∙ stands in cc)))
    (pre_decided_way (count_of t.node m.from granted) (vote_counted t m granted) (asks_first t is))
precandidate_way (kind.Append append) t m is came now = leader_followed_way t m (asks_first t is) came now
precandidate_way (kind.Heartbeat commit) t m is came now = leader_followed_way t m (asks_first t is) came now
precandidate_way (kind.Snapshot snapshot) t m is came now = leader_followed_way t m (asks_first t is) came now
precandidate_way _ t m is came now = Shows t _

candidate_way : {w : Ways} (k : MessageKind) (t : NodeStep) (m : Message) → m.kind ≡ k → t.node.role ≡ role.Candidate → Brings w t m
    → Path (StepMove w) t (as_candidate k t m)
candidate_way (kind.VoteResponse granted) t m it is b =
    Onward (counted_way t m granted b.came (λ _. (it, b.of_term granted it)))
    (decided_way (count_of t.node m.from granted) (vote_counted t m granted) is (b.elects is granted it) refl)
candidate_way (kind.Append append) t m it is b = leader_followed_way t m (only_stands t is) b.came b.now
candidate_way (kind.Heartbeat commit) t m it is b = leader_followed_way t m (only_stands t is) b.came b.now
candidate_way (kind.Snapshot snapshot) t m it is b = leader_followed_way t m (only_stands t is) b.came b.now
candidate_way _ t m it is b = Shows t _

leader_way : {w : Ways} (k : MessageKind) (t : NodeStep) (m : Message) → t.node.role ≡ role.Leader → Came w k
    → ((i : ℕ) → k ≡ kind.AppendResponse i → w.matched t.node.term m.from (min i (last t.node.log))) → Path (StepMove w) t (as_leader k t m)
leader_way (kind.Proposal body) t m is came tells = proposed_way t body is (inr (inl came))
leader_way (kind.AppendResponse i) t m is came tells = accepted_way t m i is (tells i refl)
leader_way (kind.AppendRefusal refused hint) t m is came tells = telling_path (refused_way t m refused hint)
leader_way kind.HeartbeatResponse t m is came tells = telling_path (heartbeat_response_handled_way t m)
leader_way (kind.TransferLeader target) t m is came tells = telling_path (transferred_way t m target is)
leader_way _ t m is came tells = Shows t _

role_way : {w : Ways} (r : Role) (t : NodeStep) (m : Message) → t.node.role ≡ r → Brings w t m → Path (StepMove w) t (by_role_of r t m)
role_way role.Follower t m is b = follower_way m.kind t m is (of_message m b.came) b.now
role_way role.Precandidate t m is b = precandidate_way m.kind t m is b.came b.now
role_way role.Candidate t m is b = candidate_way m.kind t m refl is b
role_way role.Leader t m is b = leader_way m.kind t m is (of_message m b.came) (b.tells is)

pub term_way : {w : Ways} (k : MessageKind) (t : NodeStep) (m : Message) → m.kind ≡ k → Brings w t m → Path (StepMove w) t (at_term_by k t m)
term_way (kind.Vote last_term last_index transfer) t m is b = (let v = b.votes last_term last_index transfer is in vote_way t m last_term last_index transfer b.came is v.0 v.1)
term_way (kind.PreVote last_term last_index) t m is b = pre_vote_request_handled_way t m last_term last_index
term_way _ t m is b = role_way t.node.role t m refl b

-- ---- the term

of_term_if : (has same : Bool) → has ≡ true → (not has || same) ≡ true → same ≡ true
of_term_if true same e now = now
of_term_if false same e now = cc

-- what has a term is of the node's where it is taken at once
pub of_term : (t : NodeStep) (m : Message) → has_term m.kind ≡ true → (not (has_term m.kind) || m.term == t.node.term) ≡ true → m.term ≡ t.node.term
of_term t m has now = eqb-true m.term t.node.term (of_term_if (has_term m.kind) (m.term == t.node.term) has now)

raised_log : (k : MessageKind) (t : NodeStep) (m : Message) → (stepped_later_by k t m).node.log ≡ t.node.log
raised_log (kind.PreVoteResponse granted) t m = if_both (λ (u : NodeStep). u.node.log ≡ t.node.log) granted _ _ (λ _. refl) (λ _. refl)
raised_log _ t m = refl

-- an answer of a later term, to a candidate or a leader, makes a follower
no_answer_later : (t : NodeStep) (m : Message) (k : MessageKind) (r : Role) → m.kind ≡ k → (stepped_later_by k t m).node.role ≡ role.Follower → r ≡ (stepped_later t m).node.role
    → (r ≡ role.Follower → ⊥) → ⊥
no_answer_later t m k r is follows e other = other (e ∙ ap (λ (x : MessageKind). (stepped_later_by x t m).node.role) is ∙ follows)

pub above : (a b : ℕ) → nat_lt b a ≡ false → (b == a) ≡ false → a < b
above a b low apart = let le = ltb-false b a low in let ne = eqb-false b a apart in let lt : (a ≡ b → ⊥) → a < b = λ no. omega (arith, le, no) in lt (λ e. ne (sym e))

-- a leader's message has a term, and makes a follower of it where that is later
pub leaders_have_term : (k : MessageKind) → IsLeaders k → has_term k ≡ true
leaders_have_term (kind.Append append) is = refl
leaders_have_term (kind.Heartbeat commit) is = refl
leaders_have_term (kind.Snapshot snapshot) is = refl
leaders_have_term _ is = absurd is

leaders_raise : (k : MessageKind) (t : NodeStep) (m : Message) → IsLeaders k → m.term ≡ (stepped_later_by k t m).node.term
leaders_raise (kind.Append append) t m is = refl
leaders_raise (kind.Heartbeat commit) t m is = refl
leaders_raise (kind.Snapshot snapshot) t m is = refl
leaders_raise _ t m is = absurd is

brings_now : {w : Ways} (t : NodeStep) (m : Message) → w.came m → (not (has_term m.kind) || m.term == t.node.term) ≡ true
    → (IsGranted t.node m → w.given m.from m.term) → (IsElected t.node m → w.elected t.node.term) → ((i : ℕ) → IsAccepted t.node m i → w.matched t.node.term m.from i)
    → Brings w t m
brings_now {w} t m came now grant elect accept = record {
  came = came;
  now = λ leaders. of_term t m (leaders_have_term m.kind leaders) now;
  of_term = λ granted answers. of_term t m (ap has_term answers) now;
  votes = λ last_term last_index transfer asks. (let same = of_term t m (ap has_term asks) now in
      (same, λ new. subst (w.given m.from) same (grant (record { last_term = last_term; last_index = last_index; transfer = transfer; asks = asks; is_new = new }))));
  elects = λ stands granted answers won. elect
      (record { stands = stands; of_term = of_term t m (ap has_term answers) now; granted = granted; answers = answers; won = won });
  tells = λ leads i says. accept (min i (last t.node.log))
      (record { leads = leads; of_term = of_term t m (ap has_term says) now; index = i; says = says; at_most = omega arith; held = omega arith });
}

pub brings_later : {w : Ways} (t : NodeStep) (m : Message) → w.came m → (IsGranted t.node m → w.given m.from m.term) → Brings w (stepped_later t m) m
brings_later {w} t m came grant = record {
  came = came;
  now = λ leaders. leaders_raise m.kind t m leaders;
  of_term = λ granted answers. sym (ap (λ (x : MessageKind). (stepped_later_by x t m).node.term) answers);
  votes = λ last_term last_index transfer asks.
      (let same : m.term ≡ (stepped_later t m).node.term = sym (ap (λ (x : MessageKind). (stepped_later_by x t m).node.term) asks) in (
        same,
        λ new. subst (w.given m.from) same (grant (record {
          last_term = last_term;
          last_index = last_index;
          transfer = transfer;
          asks = asks;
          is_new = subst (λ (v : LogValue). is_up_to_date v last_index last_term ≡ true) (raised_log m.kind t m) new;
        })),
      ));
  elects = λ stands granted answers won. absurd
      (no_answer_later t m (kind.VoteResponse granted) (stepped_later t m).node.role answers refl refl (λ f. (let never : role.Candidate ≡ role.Follower = sym stands ∙ f in cc)));
  tells = λ leads i says. absurd (no_answer_later t m (kind.AppendResponse i) (stepped_later t m).node.role says refl refl (λ f. (let never : role.Leader ≡ role.Follower = sym leads ∙ f in cc)));
}

pub stepped_way : {w : Ways} (t : NodeStep) (m : Message) → w.came m
    → (IsGranted t.node m → w.given m.from m.term) → (IsElected t.node m → w.elected t.node.term) → ((i : ℕ) → IsAccepted t.node m i → w.matched t.node.term m.from i)
    → Path (StepMove w) t (stepped t m)
unfolding stepped
stepped_way {w} t m came grant elect accept =
    let P : NodeStep → Type 0 = Path (StepMove w) t in
    if_both P (not (has_term m.kind) || m.term == t.node.term) (at_term t m)
    (if nat_lt m.term t.node.term then stepped_earlier t m else (if ignores_campaign m.kind t.node then ignored t m (HearsLeader t.node.lead) else at_term (stepped_later t m) m))
    (λ now. term_way m.kind t m refl (brings_now t m came now grant elect accept))
    (λ apart. if_both P (nat_lt m.term t.node.term) (stepped_earlier t m) (if ignores_campaign m.kind t.node then ignored t m (HearsLeader t.node.lead) else at_term (stepped_later t m) m)
    (λ _. lowered_way m.kind t m)
    (λ later. if_both P (ignores_campaign m.kind t.node) (ignored t m (HearsLeader t.node.lead)) (at_term (stepped_later t m) m)
    (λ _. Shows t _)
    (λ _. Onward (raised_way m.kind t m (above t.node.term m.term later (or_parts (not (has_term m.kind)) (m.term == t.node.term) apart).1))
    (term_way m.kind (stepped_later t m) m refl (brings_later t m came grant)))))
