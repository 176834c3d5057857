-- What holds of each node holds after each of its moves (rb_laws' Moves), if the messages that come to it were put out
use Rattle.std.proofs.Common.{◌≡◌, ◌⊎◌, ℕ, ◌-◌, ◌≤◌, arith, Bool, true, false, not, List, [], length, min, None, Result, Ok, Err, refl, sym, ap, subst, ◌∙◌, inl, inr, if◌then◌else◌, ◌==◌}
use Rattle.std.specs.Prelude.{All}
use Rattle.std.proofs.lemmas.Bool.{false≢true}
use Rattle.std.proofs.lemmas.List.Elements.{All-nil, All-append, All-take, All-drop}
use Rattle.rb_vocab.specs.declared.conf_state.ConfState.{ConfState}
use Rattle.rb_raftlog.proofs.AppendLaws.{by_append}
use Rattle.rb_raftlog.specs.Bodies.{is_change}
use Rattle.rb_raftlog.specs.declared.entry.Body.{Body}
use Rattle.rb_raftlog.specs.declared.entry.Entry.{Entry}
use Rattle.rb_raftlog.specs.declared.raft_log.LogFault.{LogFault}
use Rattle.rb_raftlog.specs.declared.snapshot.Snapshot.{Snapshot}
use Rattle.rb_raftlog.specs.Log.{LogValue, term_at, compact_fault, compacted, made_durable, appended, restored}
use Rattle.rb_tracker.proofs.ChangeLaws.{has_with_id}
use Rattle.rb_tracker.proofs.SetLaws.{if_both, same_id}
use Rattle.rb_tracker.specs.Active.{others_marked_inactive}
use Rattle.rb_tracker.specs.Ballots.{has_answered, answered, vote_result}
use Rattle.rb_tracker.specs.Configs.{is_voter, is_joint, members, config_of, state_of}
use Rattle.rb_tracker.specs.Sets.{has}
use Rattle.rb_tracker.specs.declared.config.Config.{Config}
use Rattle.rb_tracker.specs.declared.votes.Votes.{Votes}
use Rattle.rb_tracker.specs.declared.votes.VoteResult.TheVariants as vote
use Rattle.rb_message.specs.Appends.{PlainAppend}
use Rattle.rb_message.specs.declared.kind.MessageKind.{MessageKind}
use Rattle.rb_message.specs.declared.kind.MessageKind.TheVariants as kind
use Rattle.rb_message.specs.declared.message.Message.{Message}
use Rattle.rb_message.specs.declared.role.Role.TheVariants as role
use Rattle.rb_node.specs.Campaigns.{candidate, precandidate}
use Rattle.rb_node.specs.Following.{leader_contact_recorded, with_appended, restored_to}
use Rattle.rb_node.specs.Leading.{in_lead, leading}
use Rattle.rb_node.specs.Node.{PlainNode}
use Rattle.rb_node.specs.Readying.{saved}
use Rattle.rb_calls.specs.Calling.{compacted_at}
use Rattle.rb_calls.specs.Sound.{IsSound}
use Rattle.rb_calls.specs.Words.{SendsBy, AnswersBy}
use Rattle.rb_laws.proofs.ChoiceLaws.{may_campaign}
use Rattle.rb_calls.proofs.Goes.{Ways, anyone}
use Rattle.rb_calls.proofs.LeaderLaws.{with_views_only}
use Rattle.rb_calls.proofs.MoveLaws.{call_keeps, compact_within}
use Rattle.rb_calls.proofs.Moves.{Whole, Allows, TellMove, Idle, Sent, IsNoProposal, following, StepMove, StepTells, Came, Puts, Passes, Waits, Follows, Asks, Stands as Campaigns, Leads, Counts, Appends, Takes, Restores, CallMove, CallChanges, CallSteps, Gives_up, Saves, Compacts}
use Rattle.rb_laws.specs.Honesty.{IsPlain, KeepsBy, Keeps}
use Rattle.rb_laws.specs.Votes.{IsCast}
use Rattle.rb_laws.proofs.Links.{Link, IsLinked, still_linked}
use Rattle.rb_laws.proofs.LinkedLogs.{log_from, none_linked, part_linked, part_plain, appended_linked, compacted_linked}
use Rattle.rb_laws.proofs.Holding.{World, Stands, IsElect, IsOwn, IsChainBy, IsChain, IsFine, Essence, Fits, Holds, essence, becomes, turned, still_fits, with_log, says, waits, follower_stands, follower_leads, precandidate_stands, precandidate_leads, candidate_leads, leader_stands}
use Rattle.rb_laws.proofs.Making.{own_entry_holds, elected_new}

-- ---- incoming messages

-- an answer that gives the node a vote was cast
abbrev pub Gives : World → Message → Type 0
Gives w m = m.kind ≡ kind.VoteResponse true → IsCast w.said m.from m.term w.id

abbrev pub IsHeard : World → Message → Type 0
IsHeard w m = IsFine w m.kind × Gives w m

abbrev pub Hears : World → Ways → Type 0
Hears w v = (m : Message) → v.came m → IsHeard w m

fine : (w : World) {v : Ways} (k : MessageKind) → Hears w v → Came v k → IsFine w k
fine w k hears came = subst (IsFine w) came.is (hears came.message came.comes).0

-- ---- what is said

sends_keep : {w : World} (k : MessageKind) (n : PlainNode) (m : Message) → IsNoProposal k → SendsBy k n m → Holds w n → KeepsBy w.setting.config k
sends_keep (kind.Append append) n m own sent h = part_plain n.log append.prev append.entries sent.3.entries h.log
sends_keep {w} (kind.Snapshot snapshot) n m own sent h =
    ap (λ (s : ConfState). config_of s) sent.3.config ∙ ap (λ (c : Config). config_of (state_of c)) h.config ∙ w.setting.back
sends_keep (kind.Proposal body) n m own sent h = absurd own
sends_keep _ n m own sent h = tt

sends_chain : (ls : List Link) (k : MessageKind) (n : PlainNode) (m : Message) → SendsBy k n m → IsLinked ls n.log → IsChainBy ls k
sends_chain ls (kind.Append append) n m sent linked =
    (let is = sent.3 in part_linked ls n.log append.prev append.prev_term append.entries is.past_base is.prev_term is.entries linked)
sends_chain ls _ n m sent linked = tt

-- an answer is no append, no snapshot and no proposal
answers_fine : (c : Config) (k : MessageKind) (n : PlainNode) (m : Message) → AnswersBy k n m → KeepsBy c k × ((ls : List Link) → IsChainBy ls k)
answers_fine c (kind.Append append) n m answer = absurd answer
answers_fine c (kind.Snapshot snapshot) n m answer = absurd answer
answers_fine c (kind.Proposal body) n m answer = absurd answer
answers_fine c _ n m answer = (tt, λ ls. tt)

abbrev of_whole : Whole → Essence
of_whole x = record {
  id = x.core.id;
  term = x.core.term;
  role = x.core.role;
  votes = x.votes;
  config = x.tracker.config;
  log = x.core.log;
  sent = x.words.sent;
  waiting = x.words.waiting;
}

telling_holds : {w : World} {a b : PlainNode} → TellMove a b → IsSound a → Holds w a → Holds w b
telling_holds {w} (Idle a b e) s h = subst (Fits w) (ap of_whole (sym e)) h
telling_holds (Sent n m own sent) s h =
    (let said = (sent s).1 in says n m (sends_keep m.kind n m own said h) (λ ls linked. sends_chain ls m.kind n m said linked) h)
telling_holds _ s h = h

-- ---- terms, campaigns and votes

follows_holds : {w : World} (n : PlainNode) (term lead : ℕ) → n.term ≤ term → Holds w n → Holds w (following n term lead)
follows_holds n term lead later h =
    turned (essence n) term role.Follower (following n term lead).votes later (λ no. absurd (follower_stands no)) (λ no. absurd (follower_leads no)) h

precandidate_holds : {w : World} (n : PlainNode) → Holds w n → Holds w (precandidate n)
precandidate_holds n h =
    turned (essence n) n.term role.Precandidate (precandidate n).votes (omega arith) (λ no. absurd (precandidate_stands no)) (λ no. absurd (precandidate_leads no)) h

-- a candidate has counted nothing yet
candidate_holds : {w : World} (n : PlainNode) → is_voter n.tracker.config n.id ≡ true → Holds w n → Holds w (candidate n)
candidate_holds {w} n may h =
    let first : is_voter w.setting.config n.id ≡ true = subst (λ (c : Config). is_voter c n.id ≡ true) h.config may in
    let now : is_voter w.setting.config w.id ≡ true = subst (λ (id : ℕ). is_voter w.setting.config id ≡ true) h.itself first in
    turned (essence n) (candidate n).term role.Candidate (candidate n).votes (omega arith)
    (λ _. (inl (omega arith), record { may = now; counted = λ v none. absurd (false≢true none) })) (λ no. absurd (candidate_leads no)) h

one_more : (from id : ℕ) (old granted : Bool) → granted ≡ true → (if from == id then true else old) ≡ true → (old ≡ true) ⊎ ((from ≡ id) × (granted ≡ true))
one_more from id old granted gives =
    let P : Bool → Type 0 = λ b. b ≡ true → (old ≡ true) ⊎ ((from ≡ id) × (granted ≡ true)) in
    if_both P (from == id) true old (λ same _. inr (same_id from id same, gives)) (λ _ was. inl was)

-- who grants after an answer granted before it, or is who gave it
grants_after : (v : Votes) (from : ℕ) (granted : Bool) (id : ℕ) → has (answered v from granted).granted id ≡ true → (has v.granted id ≡ true) ⊎ ((from ≡ id) × (granted ≡ true))
unfolding answered
grants_after v from granted id =
    let P : Votes → Type 0 = λ x. has x.granted id ≡ true → (has v.granted id ≡ true) ⊎ ((from ≡ id) × (granted ≡ true)) in
    if_both P (has_answered v from) _ _ (λ _ was. inl was)
    (λ _. if_both P granted _ _ (λ yes now. one_more from id (has v.granted id) granted yes (rw (has_with_id v.granted from id) at now)) (λ _ was. inl was))

counts_holds : {w : World} (n : PlainNode) (m : Message) (granted : Bool) → Gives w m
    → (n.role ≡ role.Candidate → (m.kind ≡ kind.VoteResponse granted) × (m.term ≡ n.term)) → Holds w n → Holds w (record n { votes = answered n.votes m.from granted })
counts_holds {w} n m granted gives answers h =
    let new : Votes = answered n.votes m.from granted in
    let cast : n.role ≡ role.Candidate → granted ≡ true → IsCast w.said m.from n.term w.id = λ is yes.
    (let a = answers is in subst (λ (term : ℕ). IsCast w.said m.from term w.id) a.1 (gives (a.0 ∙ ap (λ (b : Bool). kind.VoteResponse b) yes))) in
    let counted : n.role ≡ role.Candidate → Stands w n.term new = λ is.
    (let s : Stands w n.term n.votes = h.stands is in record {
      may = s.may;
      counted = λ v given. elim (grants_after n.votes m.from granted v given) as (λ _. IsCast w.said v n.term w.id) [
        | inl old ↦ s.counted v old
        | inr now ↦ subst (λ (i : ℕ). IsCast w.said i n.term w.id) now.0 (cast is now.1)
      ];
    }) in
    turned (essence n) n.term n.role new (omega arith) (λ is. (inr (is, refl), counted is)) (λ is. inl (is, refl)) h

-- ---- the lead

in_lead_holds : {w : World} (n : PlainNode) → n.role ≡ role.Candidate → IsElect w n.term → Holds w n → Holds w (in_lead n)
in_lead_holds n stands elected h =
    turned (essence n) n.term role.Leader (in_lead n).votes (omega arith) (λ no. absurd (leader_stands no)) (λ _. inr (elected_new (essence n) stands elected)) h

leading_holds : {w : World} (n : PlainNode) → n.role ≡ role.Candidate → vote_result n.tracker.config n.votes ≡ vote.Won → Holds w n → Holds w (leading n)
leading_holds {w} n stands won h =
    let s : Stands w n.term n.votes = h.stands stands in
    let first : vote_result w.setting.config n.votes ≡ vote.Won = subst (λ (c : Config). vote_result c n.votes ≡ vote.Won) h.config won in
    subst (Holds w) (sym (with_views_only (in_lead n) (members n.tracker.config) (not n.options.check_quorum)))
    (in_lead_holds n stands (record { may = s.may; by = record { votes = n.votes; won = first; cast = s.counted } }) h)

-- ---- logs

-- a leader appends no change, since none is proposed, and a configuration that isn't joint is not left
pub puts_plain : {w : World} {v : Ways} (n : PlainNode) (body : Body) → Hears w v → Puts v n body → Holds w n → is_change body ≡ false
puts_plain {w} n body hears puts h =
    let single : n.tracker.config.outgoing ≡ [] = ap (λ (c : Config). c.outgoing) h.config ∙ w.setting.single in
    let never : is_joint n.tracker.config ≡ false = ap (λ (ids : List ℕ). not (length ids == 0)) single in
    elim puts as (λ _. is_change body ≡ false) [
      | inl empty ↦ ap is_change empty
      | inr other ↦ elim other as (λ _. is_change body ≡ false) [
        | inl came ↦ (fine w (kind.Proposal body) hears came).0
        | inr joint ↦ absurd (false≢true (sym never ∙ joint.1))
      ]
    ]

-- who follows doesn't lead
never_leads : (n : PlainNode) → n.role ≡ role.Follower → n.role ≡ role.Leader → ⊥
never_leads n is leads = follower_leads (sym is ∙ leads)

appended_plain : (v : LogValue) (prev term commit : ℕ) (es : List Entry) → All IsPlain v.entries → All IsPlain es → All IsPlain (appended v prev term es commit).entries
appended_plain v prev term commit es old new =
    by_append v prev term commit es (λ (x : LogValue). All IsPlain x.entries) old
    (λ c _ _ _. All-append IsPlain _ _ (All-take IsPlain (c - 1 - v.base) v.entries old) (All-drop IsPlain (c - 1 - prev) es new))

takes_holds : {w : World} (n : PlainNode) (from : ℕ) (append : PlainAppend) → n.role ≡ role.Follower → IsFine w (kind.Append append) → Holds w n
    → Holds w (with_appended n from append)
takes_holds {w} n from append is came h =
    let log = appended n.log append.prev append.prev_term append.entries n.commit in
    let sent = log_from append.prev append.prev_term append.entries in
    with_log (leader_contact_recorded n from) log (appended_plain n.log append.prev append.prev_term n.commit append.entries h.log came.0)
    (λ strict ls since linked. appended_linked ls n.log append.prev append.prev_term n.commit append.entries linked (still_linked w.links ls sent since (came.1 strict)))
    (λ leads. absurd (never_leads n is leads)) h

restores_holds : {w : World} (n : PlainNode) (s : Snapshot) → n.role ≡ role.Follower → KeepsBy w.setting.config (kind.Snapshot s) → Holds w n → Holds w (restored_to n s)
restores_holds n s is same h =
    let log : LogValue = restored n.log s in
    let x = with_log n log (All-nil IsPlain) (λ _ ls _ _. none_linked ls log refl) (λ leads. absurd (never_leads n is leads)) h in
    record {
      itself = x.itself;
      config = same;
      log = x.log;
      sent = x.sent;
      waiting = x.waiting;
      stands = x.stands;
      leads = x.leads;
      linking = becomes (essence (record n { log = log })) (essence (restored_to n s)) refl refl refl (omega arith) (λ is. inr (is, refl)) (λ is. inl (is, refl)) x.linking;
    }

saved_holds : {w : World} (n : PlainNode) → Holds w n → Holds w (saved n)
saved_holds {w} n h =
    still_fits (essence n) (made_durable n.log) [] [] h.log (All-nil (Keeps w.setting.config)) (All-nil (IsOwn w))
    (λ _ ls _ c. record { logged = c.logged; sent = All-nil (IsChain ls); waiting = All-nil (IsChain ls) }) (λ _. omega arith) h

compacted_plain : (v : LogValue) (i : ℕ) (r : Result ℕ LogFault) → All IsPlain v.entries → All IsPlain (compacted v i r).entries
compacted_plain v i (Ok term) plain = All-drop IsPlain (i - v.base) v.entries plain
compacted_plain v i (Err fault) plain = plain

compacts_holds : {w : World} (n : PlainNode) (i : ℕ) → compact_fault n.log i (min n.applied n.log.durable) ≡ None → IsSound n → Holds w n
    → Holds w (compacted_at n i)
compacts_holds n i is s h =
    let low = (compact_within n.log i (min n.applied n.log.durable) is).0 in
    with_log n (compacted n.log i (term_at n.log i)) (compacted_plain n.log i (term_at n.log i) h.log)
    (λ _ ls _ linked. compacted_linked ls n.log i (term_at n.log i) low refl linked)
    (λ leads. (((call_keeps {sound = Unit {0}} {w = anyone} tt (Compacts n i is)).goes s).own leads leads refl).longer) h

-- ---- each move

step_holds : {w : World} {v : Ways} → Hears w v → {a b : PlainNode} → StepMove v a b → IsSound a → Holds w a → Holds w b
step_holds hears (StepTells m) s h = telling_holds m s h
step_holds {w} hears (Passes n m came sent) s h = says n m (fine w m.kind hears came).0 (λ ls linked. sends_chain ls m.kind n m (sent s).1 linked) h
step_holds {w} hears (Waits n m answer may) s h =
    (let said = answer s in let is = answers_fine w.setting.config m.kind n m said.1 in waits n m said.0 is.0 is.1 h)
step_holds hears (Follows n term lead up past) s h = follows_holds n term lead up h
step_holds hears (Asks n may) s h = precandidate_holds n h
step_holds hears (Campaigns n may) s h = candidate_holds n (may_campaign n may).votes h
step_holds hears (Leads n stands elected won) s h = leading_holds n stands won h
step_holds hears (Counts n m granted came answers) s h = counts_holds n m granted (hears m came).1 answers h
step_holds hears (Appends n body pending leads puts marks) s h =
    own_entry_holds n (record { term = n.term; body = body }) refl (puts_plain n body hears puts h) leads h
step_holds {w} hears (Takes n from append is came) s h = takes_holds n from append is (fine w (kind.Append append) hears came.came) h
step_holds {w} hears (Restores n snapshot is past came other) s h = restores_holds n snapshot is (fine w (kind.Snapshot snapshot) hears came.came).0 h
step_holds hears _ s h = h

pub call_holds : {w : World} {v : Ways} {sound : Type 0} → Hears w v → {a b : PlainNode} → CallMove sound v a b → IsSound a → Holds w a → Holds w b
unfolding others_marked_inactive
call_holds hears (CallChanges m has) s h = absurd (has h.log)
call_holds hears (CallSteps m) s h = step_holds hears m s h
call_holds hears (Gives_up n) s h = follows_holds n n.term 0 (omega arith) h
call_holds hears (Saves n known) s h = saved_holds n h
call_holds hears (Compacts n i is) s h = compacts_holds n i is s h
call_holds hears _ s h = h

pub moves_hold : {w : World} {v : Ways} {sound : Type 0} → sound → Hears w v → Allows (CallMove sound v) (λ a b. IsSound a × Holds w a → IsSound b × Holds w b)
moves_hold known hears = record {
  nothing = λ n p. p;
  chain = λ a b c p q r. q (p r);
  each = λ a b m p. (((call_keeps known m).goes p.0).ordered, call_holds hears m p.0 p.1);
}
