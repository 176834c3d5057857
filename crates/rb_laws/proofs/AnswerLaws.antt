-- What an append is answered: the entries that an answer speaks of are held
use Rattle.std.proofs.Common.{◌≡◌, ℕ, zero, suc, ◌+◌, ◌-◌, ◌<◌, ◌≤◌, ◌⊎◌, inl, inr, not, ◌||◌, max, List, [], ◌∷◌, length, Option, Some, None, Result, Ok, Err, refl, sym, ap, subst, ◌∙◌, arith, eqb-true, nat_lt, ◌==◌, if◌then◌else◌}
use Rattle.std.proofs.lemmas.Bool.{cases_Bool, cases_lt, eqb-false}
use Rattle.std.specs.Prelude.{slice_get}
use Rattle.rb_raftlog.specs.declared.entry.Entry.{Entry}
use Rattle.rb_raftlog.specs.declared.raft_log.Appended.{Appended}
use Rattle.rb_raftlog.specs.declared.raft_log.Appended.TheVariants.{Matched, Refused, BelowCommit}
use Rattle.rb_raftlog.specs.declared.raft_log.LogFault.{LogFault}
use Rattle.rb_raftlog.specs.Log.{LogValue, last, term_at, term_of, appended, answer}
use Rattle.rb_raftlog.specs.Laws.{IsConflicting, AreMatching, AreOfLog}
use Rattle.rb_raftlog.proofs.TermLaws.{term_past}
use Rattle.rb_raftlog.proofs.AppendLaws.{appended_below, matched-term}
use Rattle.rb_raftlog.proofs.AnswerLaws.{matched-says, committed-says}
use Rattle.rb_raftlog.proofs.MatchLaws.{either_way, appended-matches}
use Rattle.rb_tracker.proofs.SetLaws.{if_both}
use Rattle.rb_message.specs.Appends.{PlainAppend}
use Rattle.rb_message.specs.Messages.{has_term}
use Rattle.rb_message.specs.declared.kind.MessageKind.{MessageKind}
use Rattle.rb_message.specs.declared.kind.MessageKind.TheVariants as kind
use Rattle.rb_message.specs.declared.message.Message.{Message}
use Rattle.rb_message.specs.declared.role.Role.{Role}
use Rattle.rb_message.specs.declared.role.Role.TheVariants as role
use Rattle.rb_message.specs.declared.event.WhyIgnored.TheVariants.{HearsLeader}
use Rattle.rb_node.specs.Node.{PlainNode, NodeStep, with_node, ignored}
use Rattle.rb_node.specs.Terms.{became_follower, stepped_later, stepped_later_by, stepped_earlier, stepped_earlier_by, term_revealed, answers_earlier, ignores_campaign}
use Rattle.rb_node.specs.Following.{after_log, with_appended, removal_reported, append_entries_handled}
use Rattle.rb_node.specs.Step.{as_follower, leader_followed, as_precandidate, as_candidate, as_leader, by_role_of, at_term_by, at_term, stepped}
use Rattle.rb_calls.specs.Sound.{IsSound}
use Rattle.rb_calls.specs.Words.{HasEntries, IsAnswered}

-- ---- a log

no_gap : (es : List Entry) (k : ℕ) → slice_get es k ≡ None → k < length es → ⊥
no_gap [] k e low = omega (arith, low)
no_gap (x ∷ es) zero e low = cc
no_gap (x ∷ es) (suc k) e low = no_gap es k e (omega (arith, low))

some_term : (o : Option Entry) (es : List Entry) (k : ℕ) (fault : LogFault) → slice_get es k ≡ o → k < length es → term_of o ≡ Err fault → ⊥
some_term None es k fault is low e = no_gap es k is low
some_term (Some x) es k fault is low e = cc

-- an index between the base and the last has a term
has_term_at : (v : LogValue) (i : ℕ) (fault : LogFault) → v.base < i → i ≤ last v → term_at v i ≡ Err fault → ⊥
has_term_at v i fault above held e =
    let at : v.base + 1 + (i - v.base - 1) ≡ i = omega (arith, above) in
    let low : i - v.base - 1 < length v.entries = omega (arith, above, held) in
    some_term (slice_get v.entries (i - v.base - 1)) v.entries (i - v.base - 1) fault refl low (sym (term_past v (i - v.base - 1)) ∙ ap (term_at v) at ∙ e)

-- where what is committed doesn't conflict it is the same
agrees : (r : Result ℕ LogFault) (v : LogValue) (prev commit k : ℕ) (es : List Entry) (e : Entry) → term_at v (prev + 1 + k) ≡ r → slice_get es k ≡ Some e → v.base < prev + 1 + k → prev + 1 + k ≤ commit → commit ≤ last v → (IsConflicting v prev es commit k → ⊥) → term_at v (prev + 1 + k) ≡ Ok e.term
agrees (Ok held) v prev commit k es e at is above low within none =
    elim (cases_Bool (held == e.term)) as (λ _. term_at v (prev + 1 + k) ≡ Ok e.term) [
      | inl same ↦ at ∙ ap (λ (x : ℕ). Ok x) (eqb-true held e.term same)
      | inr other ↦ absurd (none (record { sent = e; is_sent = is; held = held; is_held = at; differs = eqb-false held e.term other; above_base = above; committed = low }))
    ]
agrees (Err fault) v prev commit k es e at is above low within none = absurd (has_term_at v (prev + 1 + k) fault above (omega (arith, low, within)) at)

answer_has : (v : LogValue) (append : PlainAppend) (commit i : ℕ) → commit ≤ last v → answer v append.prev append.prev_term append.entries commit ≡ Matched i → HasEntries (appended v append.prev append.prev_term append.entries commit) append i
answer_has v append commit i within says k e is low above =
    let prev : ℕ = append.prev in
    let es : List Entry = append.entries in
    elim (cases_lt prev commit) as (λ _. term_at (appended v prev append.prev_term es commit) (prev + 1 + k) ≡ Ok e.term) [
      | inr over ↦ matched-term v prev append.prev_term commit k es e over (matched-says v prev append.prev_term commit i es over says).0 is
      | inl under ↦
          let said = committed-says v prev append.prev_term commit i es under says in
          let at : i ≡ commit = said.0 in
          let same : appended v prev append.prev_term es commit ≡ v = appended_below v prev append.prev_term commit es under in
          let here : v.base < prev + 1 + k = subst (λ (x : LogValue). x.base < prev + 1 + k) same above in
          ap (λ (x : LogValue). term_at x (prev + 1 + k)) same
          ∙ agrees (term_at v (prev + 1 + k)) v prev commit k es e refl is here (omega (arith, low, at)) within (said.1 k)
    ]

-- no more is answered than was sent, or is committed
answer_within : (v : LogValue) (append : PlainAppend) (commit i : ℕ) → answer v append.prev append.prev_term append.entries commit ≡ Matched i → i ≤ max commit (append.prev + length append.entries)
answer_within v append commit i says =
    elim (cases_lt append.prev commit) as (λ _. i ≤ max commit (append.prev + length append.entries)) [
      | inr over ↦ (let at = (matched-says v append.prev append.prev_term commit i append.entries over says).1 in omega (arith, at))
      | inl under ↦ (let at = (committed-says v append.prev append.prev_term commit i append.entries under says).0 in omega (arith, at))
    ]

-- ---- a node

abbrev LogOf : LogValue → ℕ → PlainAppend → LogValue → Type 0
LogOf old commit append new = (new ≡ old) ⊎ (new ≡ appended old append.prev append.prev_term append.entries commit)

-- the log is as it was, or takes the append; and that is answered, or the append is passed over
abbrev Taken : LogValue → ℕ → List Message → ℕ → PlainAppend → PlainNode → Type 0
Taken old commit before from append new = LogOf old commit append new.log × ((new.waiting ≡ before) ⊎ IsAnswered before from append new)

after_taken : (a : Appended) (t : NodeStep) (from : ℕ) (append : PlainAppend) → answer t.node.log append.prev append.prev_term append.entries t.node.commit ≡ a → t.node.commit ≤ last t.node.log → Taken t.node.log t.node.commit t.node.waiting from append (after_log a (with_node t (with_appended t.node from append)) from append).node
after_taken (Matched i) t from append says within =
    (let low = answer_within t.node.log append t.node.commit i says in
    (inr refl, inr (record { answer = kind.AppendResponse i; waits = refl; tells = (omega (arith, low), answer_has t.node.log append t.node.commit i within says) })))
after_taken (Refused hint) t from append says within = (inr refl, inr (record { answer = kind.AppendRefusal append.prev hint; waits = refl; tells = tt }))
after_taken (BelowCommit i) t from append says within = (inr refl, inl refl)

taken : (t : NodeStep) (from : ℕ) (append : PlainAppend) → t.node.commit ≤ last t.node.log → Taken t.node.log t.node.commit t.node.waiting from append (append_entries_handled t from append).node
unfolding append_entries_handled
taken t from append within = after_taken (answer t.node.log append.prev append.prev_term append.entries t.node.commit) (removal_reported t append) from append refl within

given_taken : (t : NodeStep) (m : Message) (append : PlainAppend) → m.kind ≡ kind.Append append → t.node.commit ≤ last t.node.log → Taken t.node.log t.node.commit t.node.waiting m.from append (leader_followed t m).node
given_taken t m append asks within =
    let u = became_follower t t.node.term m.from in
    subst (λ (k : MessageKind). Taken t.node.log t.node.commit t.node.waiting m.from append (as_follower k u m).node) (sym asks) (taken u m.from append within)

role_taken : (r : Role) (t : NodeStep) (m : Message) (append : PlainAppend) → m.kind ≡ kind.Append append → t.node.commit ≤ last t.node.log → Taken t.node.log t.node.commit t.node.waiting m.from append (by_role_of r t m).node
role_taken role.Follower t m append asks within =
    subst (λ (k : MessageKind). Taken t.node.log t.node.commit t.node.waiting m.from append (as_follower k t m).node) (sym asks) (taken t m.from append within)
role_taken role.Precandidate t m append asks within =
    subst (λ (k : MessageKind). Taken t.node.log t.node.commit t.node.waiting m.from append (as_precandidate k t m).node) (sym asks) (given_taken t m append asks within)
role_taken role.Candidate t m append asks within =
    subst (λ (k : MessageKind). Taken t.node.log t.node.commit t.node.waiting m.from append (as_candidate k t m).node) (sym asks) (given_taken t m append asks within)
role_taken role.Leader t m append asks within =
    subst (λ (k : MessageKind). Taken t.node.log t.node.commit t.node.waiting m.from append (as_leader k t m).node) (sym asks) (inl refl, inl refl)

term_taken : (t : NodeStep) (m : Message) (append : PlainAppend) → m.kind ≡ kind.Append append → t.node.commit ≤ last t.node.log → Taken t.node.log t.node.commit t.node.waiting m.from append (at_term t m).node
term_taken t m append asks within =
    subst (λ (k : MessageKind). Taken t.node.log t.node.commit t.node.waiting m.from append (at_term_by k t m).node) (sym asks) (role_taken t.node.role t m append asks within)

-- one of an earlier term may be answered with 0, below which there are no entries
shown_taken : (t : NodeStep) (m : Message) (append : PlainAppend) → Taken t.node.log t.node.commit t.node.waiting m.from append (term_revealed t m).node
shown_taken t m append =
    if_both (λ (u : NodeStep). Taken t.node.log t.node.commit t.node.waiting m.from append u.node) (answers_earlier t.node) _ _
    (λ _. (inl refl, inr (record { answer = kind.AppendResponse 0; waits = refl; tells = (omega arith, λ k e is low above. absurd (omega (arith, low))) })))
    (λ _. (inl refl, inl refl))

raised_taken : (t : NodeStep) (m : Message) (append : PlainAppend) → m.kind ≡ kind.Append append → t.node.commit ≤ last t.node.log → Taken t.node.log t.node.commit t.node.waiting m.from append (at_term (stepped_later t m) m).node
raised_taken t m append asks within =
    subst (λ (k : MessageKind). Taken t.node.log t.node.commit t.node.waiting m.from append (at_term (stepped_later_by k t m) m).node) (sym asks)
    (term_taken (became_follower t m.term m.from) m append asks within)

stepped_taken : (t : NodeStep) (m : Message) (append : PlainAppend) → m.kind ≡ kind.Append append → t.node.commit ≤ last t.node.log → Taken t.node.log t.node.commit t.node.waiting m.from append (stepped t m).node
unfolding stepped
stepped_taken t m append asks within =
    let P : NodeStep → Type 0 = λ u. Taken t.node.log t.node.commit t.node.waiting m.from append u.node in
    if_both P (not (has_term m.kind) || m.term == t.node.term) (at_term t m)
    (if nat_lt m.term t.node.term then stepped_earlier t m else (if ignores_campaign m.kind t.node then ignored t m (HearsLeader t.node.lead) else at_term (stepped_later t m) m))
    (λ _. term_taken t m append asks within)
    (λ _. if_both P (nat_lt m.term t.node.term) (stepped_earlier t m) (if ignores_campaign m.kind t.node then ignored t m (HearsLeader t.node.lead) else at_term (stepped_later t m) m)
    (λ _. subst (λ (k : MessageKind). Taken t.node.log t.node.commit t.node.waiting m.from append (stepped_earlier_by k t m).node) (sym asks) (shown_taken t m append))
    (λ _. if_both P (ignores_campaign m.kind t.node) (ignored t m (HearsLeader t.node.lead)) (at_term (stepped_later t m) m)
    (λ _. (inl refl, inl refl))
    (λ _. raised_taken t m append asks within)))

pub appends_answered : (t : NodeStep) (m : Message) (append : PlainAppend) → IsSound t.node → m.kind ≡ kind.Append append → ((stepped t m).node.waiting ≡ t.node.waiting) ⊎ IsAnswered t.node.waiting m.from append (stepped t m).node
appends_answered t m append s asks = (stepped_taken t m append asks s.is_held).1

-- ---- logs that match

self_matches : (v : LogValue) → AreMatching v v
self_matches v = record { terms = λ i j t at there low above over. refl; entries = λ i j t at there low above over. refl }

still_matches : (leader old new : LogValue) (commit : ℕ) (append : PlainAppend) → AreMatching leader old → term_at leader append.prev ≡ Ok append.prev_term → AreOfLog leader append.prev append.entries → LogOf old commit append new → AreMatching leader new
still_matches leader old new commit append matching at of is =
    elim is as (λ _. AreMatching leader new) [
      | inl same ↦ subst (AreMatching leader) (sym same) matching
      | inr more ↦ subst (AreMatching leader) (sym more) (appended-matches leader old leader append.prev append.prev_term commit append.entries matching (self_matches leader) (either_way leader old matching) at of)
    ]

pub appends_match : (t : NodeStep) (m : Message) (append : PlainAppend) (leader : LogValue) → IsSound t.node → m.kind ≡ kind.Append append → AreMatching leader t.node.log → term_at leader append.prev ≡ Ok append.prev_term → AreOfLog leader append.prev append.entries → AreMatching leader (stepped t m).node.log
appends_match t m append leader s asks matching at of =
    still_matches leader t.node.log (stepped t m).node.log t.node.commit append matching at of (stepped_taken t m append asks s.is_held).0
