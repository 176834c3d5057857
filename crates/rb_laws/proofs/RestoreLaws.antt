-- A snapshot that comes: it is restored whole, or leaves the log, the applied index, the content and the configuration (Ongaro's thesis, section 5.3)
use Rattle.std.proofs.Common.{[], ◌∷◌, ◌++◌, ◌≡◌, ◌⊎◌, ℕ, ◌<◌, ◌≤◌, true, false, refl, sym, ap, subst, ◌∙◌, arith, inl, inr, nat_le, Some, None}
use Rattle.std.proofs.lemmas.Bool.{leb-true, cond-true, false≢true}
use Rattle.rb_raftlog.specs.declared.snapshot.Snapshot.{Snapshot}
use Rattle.rb_raftlog.specs.Log.{term_at, is_term}
use Rattle.rb_tracker.proofs.SetLaws.{if_both}
use Rattle.rb_message.specs.Messages.{has_term}
use Rattle.rb_message.specs.declared.event.WhyIgnored.{WhyIgnored}
use Rattle.rb_message.specs.declared.event.WhyIgnored.TheVariants.{EarlierTerm, NoUse}
use Rattle.rb_message.specs.declared.kind.MessageKind.{MessageKind}
use Rattle.rb_message.specs.declared.kind.MessageKind.TheVariants as kind
use Rattle.rb_message.specs.declared.message.Message.{Message}
use Rattle.rb_message.specs.declared.role.Role.{Role}
use Rattle.rb_message.specs.declared.role.Role.TheVariants as role
use Rattle.rb_node.specs.Following.{snapshot_handled, new_snapshot_handled, leader_contact_recorded}
use Rattle.rb_node.specs.Node.{PlainNode, NodeStep, with_node, ignored, message}
use Rattle.rb_node.specs.Readying.{ready}
use Rattle.rb_node.specs.Step.{as_follower, as_precandidate, as_candidate, as_leader, by_role_of, at_term_by, stepped}
use Rattle.rb_node.specs.Terms.{became_follower, stepped_later_by, stepped_earlier_by, ignores_campaign}
use Rattle.rb_calls.specs.Learning.{IsRestored, KeepsState}
use Rattle.rb_laws.proofs.StepCases.{by_term}

abbrev TakesSnapshot : PlainNode → Snapshot → NodeStep → Type 0
TakesSnapshot old s t = IsRestored t.node s ⊎ KeepsState old t.node

-- one more answer waits, with the commit that the node then has
abbrev AnswersCommit : PlainNode → ℕ → NodeStep → Type 0
AnswersCommit old from t = t.node.waiting ≡ old.waiting ++ message old.id from t.node.term (kind.AppendResponse t.node.commit) ∷ []

kept : (n : PlainNode) → KeepsState n n
kept n = record { log = refl; applied = refl; content = refl; config = refl }

all_taken : (t : NodeStep) (from : ℕ) (s : Snapshot) → IsRestored (new_snapshot_handled t from s).node s
all_taken t from s = record { base = refl; base_term = refl; empty = refl; commit = refl; applied = refl; content = refl; config = refl; unsaved = refl }

taken_or_kept : (old : PlainNode) (t : NodeStep) (from : ℕ) (s : Snapshot) → KeepsState old t.node → TakesSnapshot old s (snapshot_handled t from s)
unfolding snapshot_handled
taken_or_kept old t from s k =
    let P : NodeStep → Type 0 = TakesSnapshot old s in
    if_both P (nat_le s.index t.node.commit) _ _ (λ _. inr (record { log = k.log; applied = k.applied; content = k.content; config = k.config }))
    (λ _. if_both P (is_term (term_at t.node.log s.index) s.term) _ (new_snapshot_handled t from s)
    (λ _. inr (record { log = k.log; applied = k.applied; content = k.content; config = k.config }))
    (λ _. inl (all_taken t from s)))

-- one past the commit, of an entry that the log hasn't
taken_news : (t : NodeStep) (from : ℕ) (s : Snapshot) → t.node.commit < s.index → is_term (term_at t.node.log s.index) s.term ≡ false → IsRestored (snapshot_handled t from s).node s
unfolding snapshot_handled
taken_news t from s past other =
    let P : NodeStep → Type 0 = λ u. IsRestored u.node s in
    if_both P (nat_le s.index t.node.commit) _ _ (λ low. (let under = leb-true s.index t.node.commit low in absurd (omega (arith, under, past))))
    (λ _. if_both P (is_term (term_at t.node.log s.index) s.term) _ (new_snapshot_handled t from s)
    (λ holds. absurd (false≢true (sym other ∙ holds)))
    (λ _. all_taken t from s))

-- ---- at every role, and of every term

abbrev taken_by : NodeStep → Message → Snapshot → NodeStep
taken_by t m s = snapshot_handled (with_node t (leader_contact_recorded t.node m.from)) m.from s

-- a leader of its term ignores a snapshot, and so does each node of a later term
abbrev PassesOver : NodeStep → Message → Type 0
PassesOver t m = ((t.node.role ≡ role.Leader) × (m.term ≡ t.node.term)) ⊎ (m.term < t.node.term)

role_snapshot : (P : NodeStep → Type 0) (r : Role) (t : NodeStep) (m : Message) (s : Snapshot) → m.kind ≡ kind.Snapshot s
    → P (taken_by t m s) → P (taken_by (became_follower t t.node.term m.from) m s) → ((why : WhyIgnored) → r ≡ role.Leader → P (ignored t m why)) → P (by_role_of r t m)
role_snapshot P role.Follower t m s is taken followed_taken passed = subst (λ (k : MessageKind). P (as_follower k t m)) (sym is) taken
role_snapshot P role.Precandidate t m s is taken followed_taken passed =
    subst (λ (k : MessageKind). P (as_precandidate k t m)) (sym is) (subst (λ (k : MessageKind). P (as_follower k (became_follower t t.node.term m.from) m)) (sym is) followed_taken)
role_snapshot P role.Candidate t m s is taken followed_taken passed =
    subst (λ (k : MessageKind). P (as_candidate k t m)) (sym is) (subst (λ (k : MessageKind). P (as_follower k (became_follower t t.node.term m.from) m)) (sym is) followed_taken)
role_snapshot P role.Leader t m s is taken followed_taken passed = subst (λ (k : MessageKind). P (as_leader k t m)) (sym is) (passed (NoUse role.Leader) refl)

not_disturbed : (t : NodeStep) (m : Message) (s : Snapshot) → m.kind ≡ kind.Snapshot s → ignores_campaign m.kind t.node ≡ true → ⊥
not_disturbed t m s is disturbs = false≢true (sym (ap (λ (k : MessageKind). ignores_campaign k t.node) is) ∙ disturbs)

by_snapshot : (P : NodeStep → Type 0) (t : NodeStep) (m : Message) (s : Snapshot) → m.kind ≡ kind.Snapshot s
    → P (taken_by t m s) → P (taken_by (became_follower t t.node.term m.from) m s) → P (taken_by (became_follower t m.term m.from) m s)
    → ((why : WhyIgnored) → PassesOver t m → P (ignored t m why)) → P (stepped t m)
by_snapshot P t m s is taken followed_taken raised_taken passed =
    by_term P t m
    (λ same. subst (λ (k : MessageKind). P (at_term_by k t m)) (sym is)
    (role_snapshot P t.node.role t m s is taken followed_taken (λ why leads. passed why (inl (leads, same (ap has_term is))))))
    (λ low. subst (λ (k : MessageKind). P (stepped_earlier_by k t m)) (sym is) (passed (EarlierTerm m.term t.node.term) (inr low)))
    (λ _ disturbs. absurd (not_disturbed t m s is disturbs))
    (λ _ _. subst (λ (k : MessageKind). P (at_term_by k (stepped_later_by k t m) m)) (sym is)
    (subst (λ (k : MessageKind). P (as_follower k (became_follower t m.term m.from) m)) (sym is) raised_taken))

pub restored_or_kept : (t : NodeStep) (m : Message) (s : Snapshot) → m.kind ≡ kind.Snapshot s → IsRestored (stepped t m).node s ⊎ KeepsState t.node (stepped t m).node
restored_or_kept t m s is =
    let by : (u : NodeStep) → KeepsState t.node (leader_contact_recorded u.node m.from) → TakesSnapshot t.node s (taken_by u m s) = λ u k. taken_or_kept t.node (with_node u (leader_contact_recorded u.node m.from)) m.from s k in
    by_snapshot (TakesSnapshot t.node s) t m s is
    (by t (record { log = refl; applied = refl; content = refl; config = refl }))
    (by (became_follower t t.node.term m.from) (record { log = refl; applied = refl; content = refl; config = refl }))
    (by (became_follower t m.term m.from) (record { log = refl; applied = refl; content = refl; config = refl }))
    (λ _ _. inr (kept t.node))

-- who follows the sender restores what is past its commit and not in its log
pub news_restored : (t : NodeStep) (m : Message) (s : Snapshot) → m.kind ≡ kind.Snapshot s → t.node.term ≤ m.term → (t.node.role ≡ role.Leader → t.node.term < m.term)
    → t.node.commit < s.index → is_term (term_at t.node.log s.index) s.term ≡ false → IsRestored (stepped t m).node s
news_restored t m s is reached steps_down past other =
    by_snapshot (λ (u : NodeStep). IsRestored u.node s) t m s is
    (taken_news (with_node t (leader_contact_recorded t.node m.from)) m.from s past other)
    (taken_news (with_node (became_follower t t.node.term m.from) (leader_contact_recorded (became_follower t t.node.term m.from).node m.from)) m.from s past other)
    (taken_news (with_node (became_follower t m.term m.from) (leader_contact_recorded (became_follower t m.term m.from).node m.from)) m.from s past other)
    (λ why passes. elim passes as (λ _. IsRestored (ignored t m why).node s) [
      | inl leads ↦ (let later = steps_down leads.0 in let same = leads.1 in absurd (omega (arith, later, same)))
      | inr low ↦ absurd (omega (arith, low, reached))
    ])

-- and answers with its commit
taken_answers : (t : NodeStep) (from : ℕ) (s : Snapshot) → AnswersCommit t.node from (snapshot_handled t from s)
unfolding snapshot_handled
taken_answers t from s =
    let P : NodeStep → Type 0 = AnswersCommit t.node from in
    if_both P (nat_le s.index t.node.commit) _ _ (λ _. refl)
    (λ _. if_both P (is_term (term_at t.node.log s.index) s.term) _ (new_snapshot_handled t from s) (λ _. refl) (λ _. refl))

pub snapshot_answered : (t : NodeStep) (m : Message) (s : Snapshot) → m.kind ≡ kind.Snapshot s → t.node.term ≤ m.term → (t.node.role ≡ role.Leader → t.node.term < m.term)
    → AnswersCommit t.node m.from (stepped t m)
snapshot_answered t m s is reached steps_down =
    by_snapshot (AnswersCommit t.node m.from) t m s is
    (taken_answers (with_node t (leader_contact_recorded t.node m.from)) m.from s)
    (taken_answers (with_node (became_follower t t.node.term m.from) (leader_contact_recorded (became_follower t t.node.term m.from).node m.from)) m.from s)
    (taken_answers (with_node (became_follower t m.term m.from) (leader_contact_recorded (became_follower t m.term m.from).node m.from)) m.from s)
    (λ why passes. elim passes as (λ _. AnswersCommit t.node m.from (ignored t m why)) [
      | inl leads ↦ (let later = steps_down leads.0 in let same = leads.1 in absurd (omega (arith, later, same)))
      | inr low ↦ absurd (omega (arith, low, reached))
    ])

-- and hands it over to be saved
pub unsaved_is_ready : (n : PlainNode) → n.restored ≡ true → (ready n).snapshot ≡ Some (n.log.base_term, n.log.base)
unsaved_is_ready n is = cond-true n.restored (Some (n.log.base_term, n.log.base)) None is
