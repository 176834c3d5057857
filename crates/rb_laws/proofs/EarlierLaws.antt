-- Terms (Ongaro's thesis, section 3.3): a message of an earlier term changes nothing, one of a later term is taken up
use Rattle.std.proofs.Common.{◌≡◌, ◌⊎◌, ℕ, ◌<◌, ◌≤◌, Bool, true, false, not, ◌&&◌, ◌||◌, ◌==◌, nat_lt, [], ◌∷◌, ◌++◌, refl, sym, ap, subst, ◌∙◌, arith, inl, inr}
use Rattle.std.proofs.lemmas.Bool.{false≢true, and_parts, and_left, eq-eqb, le-ltb}
use Rattle.rb_raftlog.specs.Log.{is_up_to_date}
use Rattle.rb_tracker.proofs.SetLaws.{if_both}
use Rattle.rb_message.specs.Messages.{has_term}
use Rattle.rb_message.specs.declared.kind.MessageKind.{MessageKind}
use Rattle.rb_message.specs.declared.kind.MessageKind.TheVariants as kind
use Rattle.rb_message.specs.declared.message.Message.{Message}
use Rattle.rb_node.specs.Node.{PlainNode, NodeStep, message}
use Rattle.rb_node.specs.Step.{at_term_by, stepped}
use Rattle.rb_node.specs.Terms.{stepped_earlier_by, stepped_later, stepped_later_by, term_revealed, answers_earlier, ignores_campaign, hears_leader}
use Rattle.rb_node.specs.Votes.{pre_vote_request_handled, grants, can_vote_for}
use Rattle.rb_node.specs.declared.limits.TheConstants.{ELECTION_TICKS}
use Rattle.rb_laws.specs.Rules.{ShowsTerm, KeepsFollowers, ShowsItsTerm, HasNoLease}
use Rattle.rb_calls.proofs.Goes.{Core, Ways, anyone}
use Rattle.rb_calls.proofs.LeaderLaws.{leading_same}
use Rattle.rb_calls.proofs.Moves.{Whole, TellMove, Idle, StepMove, StepTells, Follows, Stands, Leads, Allows, over}
use Rattle.rb_laws.proofs.StepCases.{by_term}
use Rattle.rb_calls.proofs.StepWays.{term_way, brings_later}

-- ---- an earlier term

-- a node but for what waits
abbrev ButWaiting : PlainNode → NodeStep → Type 0
ButWaiting old t = t.node ≡ record old { waiting = t.node.waiting }

shown_leaves : (t : NodeStep) (m : Message) → ButWaiting t.node (term_revealed t m)
shown_leaves t m = if_both (ButWaiting t.node) (answers_earlier t.node) _ _ (λ _. refl) (λ _. refl)

lowered_leaves : (k : MessageKind) (t : NodeStep) (m : Message) → ButWaiting t.node (stepped_earlier_by k t m)
lowered_leaves (kind.PreVote last_term last_index) t m = refl
lowered_leaves (kind.Append append) t m = shown_leaves t m
lowered_leaves (kind.Heartbeat commit) t m = shown_leaves t m
lowered_leaves _ t m = refl

pub earlier_leaves : (t : NodeStep) (m : Message) → has_term m.kind ≡ true → m.term < t.node.term → (stepped t m).node ≡ record t.node { waiting = (stepped t m).node.waiting }
earlier_leaves t m has low =
    by_term (ButWaiting t.node) t m
    (λ same. (let now = same has in absurd (omega (arith, now, low))))
    (λ _. lowered_leaves m.kind t m)
    (λ past _. absurd (omega (arith, past, low)))
    (λ past _. absurd (omega (arith, past, low)))

-- a question before the vote gets a no
pub earlier_question_refused : (t : NodeStep) (m : Message) (last_term last_index : ℕ) → m.kind ≡ kind.PreVote last_term last_index → m.term < t.node.term → (stepped t m).node.waiting ≡ t.node.waiting ++ message t.node.id m.from t.node.term (kind.PreVoteResponse false) ∷ []
earlier_question_refused t m last_term last_index is low =
    let P : NodeStep → Type 0 = λ u. u.node.waiting ≡ t.node.waiting ++ message t.node.id m.from t.node.term (kind.PreVoteResponse false) ∷ [] in
    by_term P t m
    (λ same. (let now = same (ap has_term is) in absurd (omega (arith, now, low))))
    (λ _. subst (λ (k : MessageKind). P (stepped_earlier_by k t m)) (sym is) refl)
    (λ past _. absurd (omega (arith, past, low)))
    (λ past _. absurd (omega (arith, past, low)))

-- a leader is shown the term
abbrev IsShown : PlainNode → Message → NodeStep → Type 0
IsShown old m u = u.node.waiting ≡ old.waiting ++ message old.id m.from old.term (kind.AppendResponse 0) ∷ []

shows_it : (a b : Bool) → (a ≡ true) ⊎ (b ≡ true) → (a || b) ≡ true
shows_it true b either = refl
shows_it false true either = refl
shows_it false false either = elim either as (λ _. false ≡ true) [ inl e ↦ e | inr e ↦ e ]

reveals : (t : NodeStep) (m : Message) → answers_earlier t.node ≡ true → IsShown t.node m (term_revealed t m)
reveals t m shows = if_both (IsShown t.node m) (answers_earlier t.node) _ _ (λ _. refl) (λ no. absurd (false≢true (sym no ∙ shows)))

reveals_by : (k : MessageKind) (t : NodeStep) (m : Message) → KeepsFollowers k → answers_earlier t.node ≡ true → IsShown t.node m (stepped_earlier_by k t m)
reveals_by (kind.Append append) t m keeps shows = reveals t m shows
reveals_by (kind.Heartbeat commit) t m keeps shows = reveals t m shows
reveals_by _ t m keeps shows = absurd keeps

keeps_has_term : (k : MessageKind) → KeepsFollowers k → has_term k ≡ true
keeps_has_term (kind.Append append) keeps = refl
keeps_has_term (kind.Heartbeat commit) keeps = refl
keeps_has_term _ keeps = absurd keeps

pub earlier_leader_shown : (t : NodeStep) (m : Message) → KeepsFollowers m.kind → ShowsItsTerm t.node.options → m.term < t.node.term → (stepped t m).node.waiting ≡ t.node.waiting ++ message t.node.id m.from t.node.term (kind.AppendResponse 0) ∷ []
earlier_leader_shown t m keeps shows low =
    by_term (IsShown t.node m) t m
    (λ same. (let now = same (keeps_has_term m.kind keeps) in absurd (omega (arith, now, low))))
    (λ _. reveals_by m.kind t m keeps (shows_it t.node.options.pre_vote t.node.options.check_quorum shows))
    (λ past _. absurd (omega (arith, past, low)))
    (λ past _. absurd (omega (arith, past, low)))

-- ---- a later term

tell_rises : {a b : PlainNode} → TellMove a b → a.term ≤ b.term
tell_rises (Idle a b e) = (let same : b.term ≡ a.term = ap (λ (w : Whole). w.core.term) e in omega (arith, same))
tell_rises _ = omega arith

step_rises : {w : Ways} {a b : PlainNode} → StepMove w a b → a.term ≤ b.term
step_rises (StepTells m) = tell_rises m
step_rises (Follows n term lead up past) = up
step_rises (Stands n may) = omega arith
step_rises (Leads n stands elected won) = (let same = ap (λ (c : Core). c.term) (leading_same n) in omega (arith, same))
step_rises _ = omega arith

rises : (w : Ways) → Allows (StepMove w) (λ a b. a.term ≤ b.term)
rises w = record { nothing = λ n. omega arith; chain = λ a b c p q. omega (arith, p, q); each = λ a b m. step_rises m }

-- the message's term is taken up first, by one that shows a term
shows_later : (k : MessageKind) (t : NodeStep) (m : Message) → ShowsTerm k → m.term ≤ (stepped_later_by k t m).node.term
shows_later (kind.PreVote last_term last_index) t m shows = absurd shows
shows_later (kind.PreVoteResponse granted) t m shows = if_both (λ (u : NodeStep). m.term ≤ u.node.term) granted t _ (λ yes. absurd (false≢true (sym shows ∙ yes))) (λ _. omega arith)
shows_later (kind.Append append) t m shows = omega arith
shows_later (kind.Heartbeat commit) t m shows = omega arith
shows_later (kind.Snapshot snapshot) t m shows = omega arith
shows_later (kind.Proposal body) t m shows = absurd shows
shows_later (kind.TransferLeader target) t m shows = absurd shows
shows_later _ t m shows = omega arith

votes_later : (t : NodeStep) (m : Message) (last_term last_index : ℕ) (transfer : Bool) → m.kind ≡ kind.Vote last_term last_index transfer → m.term ≤ (stepped_later t m).node.term
votes_later t m last_term last_index transfer is = subst (λ (k : MessageKind). m.term ≤ (stepped_later_by k t m).node.term) (sym is) (omega arith)

takes_up : (t : NodeStep) (m : Message) → t.node.term < m.term → has_term m.kind ≡ true → ignores_campaign m.kind t.node ≡ false → m.term ≤ (stepped_later t m).node.term → m.term ≤ (stepped t m).node.term
takes_up t m past has free up =
    by_term (λ (u : NodeStep). m.term ≤ u.node.term) t m
    (λ same. (let now = same has in absurd (omega (arith, now, past))))
    (λ low. absurd (omega (arith, low, past)))
    (λ _ disturbs. absurd (false≢true (sym free ∙ disturbs)))
    (λ _ _. (let rest = over (rises anyone) (term_way m.kind (stepped_later t m) m refl (brings_later t m tt (λ _. tt))) in omega (arith, up, rest)))

shows_has_term : (k : MessageKind) → ShowsTerm k → has_term k ≡ true
shows_has_term (kind.Proposal body) shows = absurd shows
shows_has_term (kind.TransferLeader target) shows = absurd shows
shows_has_term _ shows = refl

handed_on : (a b : Bool) → b ≡ true → (a && not b) ≡ false
handed_on true true e = refl
handed_on false b e = refl
handed_on true false e = absurd (false≢true e)

shows_freely : (k : MessageKind) (n : PlainNode) → ShowsTerm k → ignores_campaign k n ≡ false
shows_freely (kind.Vote last_term last_index transfer) n shows = handed_on (hears_leader n) transfer shows
shows_freely (kind.PreVote last_term last_index) n shows = absurd shows
shows_freely _ n shows = refl

pub later_term_taken_up : (t : NodeStep) (m : Message) → ShowsTerm m.kind → t.node.term < m.term → m.term ≤ (stepped t m).node.term
later_term_taken_up t m shows past =
    takes_up t m past (shows_has_term m.kind shows) (shows_freely m.kind t.node shows) (shows_later m.kind t m shows)

-- a node without a lease takes up a candidate's term
no_three : (a b c : Bool) → (a ≡ false) ⊎ ((b ≡ true) ⊎ (c ≡ false)) → (a && not b && c) ≡ false
no_three false b c h = refl
no_three true true c h = refl
no_three true false false h = refl
no_three true false true h =
    elim h as (λ _. true ≡ false) [
      | inl off ↦ off
      | inr rest ↦ elim rest as (λ _. true ≡ false) [ inl none ↦ sym none | inr over ↦ over ]
    ]

pub no_lease_hears : (n : PlainNode) → HasNoLease n → hears_leader n ≡ false
no_lease_hears n none =
    no_three n.options.check_quorum (n.lead == 0) (nat_lt n.clock.elapsed ELECTION_TICKS)
    (elim none as (λ _. (n.options.check_quorum ≡ false) ⊎ (((n.lead == 0) ≡ true) ⊎ (nat_lt n.clock.elapsed ELECTION_TICKS ≡ false))) [
      | inl off ↦ inl off
      | inr rest ↦ elim rest as (λ _. (n.options.check_quorum ≡ false) ⊎ (((n.lead == 0) ≡ true) ⊎ (nat_lt n.clock.elapsed ELECTION_TICKS ≡ false))) [
        | inl nobody ↦ inr (inl (eq-eqb n.lead 0 nobody))
        | inr long ↦ inr (inr (le-ltb n.clock.elapsed ELECTION_TICKS long))
      ]
    ])

pub lease_ends : (t : NodeStep) (m : Message) (last_term last_index : ℕ) (transfer : Bool) → m.kind ≡ kind.Vote last_term last_index transfer → HasNoLease t.node → t.node.term < m.term → m.term ≤ (stepped t m).node.term
lease_ends t m last_term last_index transfer is none past =
    takes_up t m past (ap has_term is)
    (ap (λ (k : MessageKind). ignores_campaign k t.node) is ∙ and_left (hears_leader t.node) (not transfer) (no_lease_hears t.node none))
    (votes_later t m last_term last_index transfer is)

-- ---- the question before the vote

-- a question from a candidate whose log is older is refused, or gets no answer
abbrev GetsNo : PlainNode → Message → NodeStep → Type 0
GetsNo old m t =
    (t.node.waiting ≡ old.waiting) ⊎ (t.node.waiting ≡ old.waiting ++ message old.id m.from old.term (kind.PreVoteResponse false) ∷ [])

old_log_gets_no : (t : NodeStep) (m : Message) (last_term last_index : ℕ) → is_up_to_date t.node.log last_index last_term ≡ false → GetsNo t.node m (pre_vote_request_handled t m last_term last_index)
old_log_gets_no t m last_term last_index old =
    if_both (GetsNo t.node m) (grants t.node m last_term last_index true) _ _
    (λ gives. absurd (false≢true (sym old ∙ (and_parts (can_vote_for t.node m true) (is_up_to_date t.node.log last_index last_term) gives).1)))
    (λ _. inr refl)

pub old_log_refused : (t : NodeStep) (m : Message) (last_term last_index : ℕ) → m.kind ≡ kind.PreVote last_term last_index → is_up_to_date t.node.log last_index last_term ≡ false → GetsNo t.node m (stepped t m)
old_log_refused t m last_term last_index is old =
    by_term (GetsNo t.node m) t m
    (λ _. subst (λ (k : MessageKind). GetsNo t.node m (at_term_by k t m)) (sym is) (old_log_gets_no t m last_term last_index old))
    (λ _. subst (λ (k : MessageKind). GetsNo t.node m (stepped_earlier_by k t m)) (sym is) (inr refl))
    (λ _ _. inl refl)
    (λ _ _. subst (λ (k : MessageKind). GetsNo t.node m (at_term_by k (stepped_later_by k t m) m)) (sym is) (old_log_gets_no t m last_term last_index old))
