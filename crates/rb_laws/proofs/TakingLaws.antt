-- A follower takes what its leader sends (Ongaro's thesis, section 3.5)
use Rattle.std.proofs.Common.{◌≡◌, ℕ, ◌+◌, ◌≤◌, Bool, true, false, if◌then◌else◌, nat_lt, max, min, List, [], ◌∷◌, ◌++◌, length, Ok, Option, Some, None, refl, sym, ap, subst, ◌∙◌, arith, inl, inr}
use Rattle.std.specs.Prelude.{Contains}
use Rattle.std.proofs.lemmas.Bool.{false≢true, cases_Bool, ltb-true}
use Rattle.std.proofs.lemmas.List.Elements.{Contains-push}
use Rattle.rb_raftlog.proofs.AppendLaws.{matched-term}
use Rattle.rb_raftlog.proofs.TermLaws.{is_term_from}
use Rattle.rb_raftlog.proofs.VoteLaws.{hint-is}
use Rattle.rb_raftlog.specs.Laws.{IsHint}
use Rattle.rb_raftlog.specs.declared.entry.Entry.{Entry}
use Rattle.rb_raftlog.specs.declared.raft_log.Appended.{Appended}
use Rattle.rb_raftlog.specs.declared.raft_log.Appended.TheVariants.{Matched, Refused, BelowCommit}
use Rattle.rb_raftlog.specs.Log.{LogValue, last, term_at, is_term, answer, answer_below, conflict, hint}
use Rattle.rb_tracker.proofs.SetLaws.{if_both}
use Rattle.rb_message.specs.Appends.{PlainAppend}
use Rattle.rb_message.specs.Events.{event_at}
use Rattle.rb_message.specs.declared.event.Event.{Event}
use Rattle.rb_message.specs.declared.event.EventKind.TheVariants as event
use Rattle.rb_message.specs.Messages.{has_term}
use Rattle.rb_message.specs.declared.kind.MessageKind.{MessageKind}
use Rattle.rb_message.specs.declared.kind.MessageKind.TheVariants as kind
use Rattle.rb_message.specs.declared.message.Message.{Message}
use Rattle.rb_message.specs.declared.role.Role.{Role}
use Rattle.rb_message.specs.declared.role.Role.TheVariants as role
use Rattle.rb_node.specs.Following.{after_log, with_appended, removal_reported, append_entries_handled}
use Rattle.rb_node.specs.Node.{PlainNode, NodeStep, with_node, message}
use Rattle.rb_node.specs.Step.{as_follower, as_precandidate, as_candidate, by_role_of, at_term_by, stepped}
use Rattle.rb_node.specs.Terms.{became_follower, stepped_later_by, ignores_campaign}
use Rattle.rb_calls.specs.Learning.{HasTaken, MayFollow}
use Rattle.rb_laws.proofs.StepCases.{by_term}

-- ---- a message of a leader comes to who follows it

append_role : (P : NodeStep → Type 0) (r : Role) (t : NodeStep) (m : Message) (append : PlainAppend) → m.kind ≡ kind.Append append → P (as_follower (kind.Append append) t m) → P (as_follower (kind.Append append) (became_follower t t.node.term m.from) m)
    → (r ≡ role.Leader → ⊥) → P (by_role_of r t m)
append_role P role.Follower t m append is taken followed never = subst (λ (k : MessageKind). P (as_follower k t m)) (sym is) taken
append_role P role.Precandidate t m append is taken followed never =
    subst (λ (k : MessageKind). P (as_precandidate k t m)) (sym is) (subst (λ (k : MessageKind). P (as_follower k (became_follower t t.node.term m.from) m)) (sym is) followed)
append_role P role.Candidate t m append is taken followed never =
    subst (λ (k : MessageKind). P (as_candidate k t m)) (sym is) (subst (λ (k : MessageKind). P (as_follower k (became_follower t t.node.term m.from) m)) (sym is) followed)
append_role P role.Leader t m append is taken followed never = absurd (never refl)

by_append : (P : NodeStep → Type 0) (t : NodeStep) (m : Message) (append : PlainAppend) → m.kind ≡ kind.Append append → MayFollow t.node m.term → P (as_follower (kind.Append append) t m) → P (as_follower (kind.Append append) (became_follower t t.node.term m.from) m)
    → P (as_follower (kind.Append append) (became_follower t m.term m.from) m) → P (stepped t m)
by_append P t m append is may taken followed raised =
    let reached = may.reached in
    by_term P t m
    (λ same. subst (λ (k : MessageKind). P (at_term_by k t m)) (sym is)
    (append_role P t.node.role t m append is taken followed (λ leads. (let now = same (ap has_term is) in let later = may.steps_down leads in omega (arith, now, later)))))
    (λ low. absurd (omega (arith, low, reached)))
    (λ _ disturbs. absurd (false≢true (sym (ap (λ (k : MessageKind). ignores_campaign k t.node) is) ∙ disturbs)))
    (λ _ _. subst (λ (k : MessageKind). P (at_term_by k (stepped_later_by k t m) m)) (sym is)
    (subst (λ (k : MessageKind). P (as_follower k (became_follower t m.term m.from) m)) (sym is) raised))

heartbeat_role : (P : NodeStep → Type 0) (r : Role) (t : NodeStep) (m : Message) (commit : ℕ) → m.kind ≡ kind.Heartbeat commit → P (as_follower (kind.Heartbeat commit) t m) → P (as_follower (kind.Heartbeat commit) (became_follower t t.node.term m.from) m)
    → (r ≡ role.Leader → ⊥) → P (by_role_of r t m)
heartbeat_role P role.Follower t m commit is taken followed never = subst (λ (k : MessageKind). P (as_follower k t m)) (sym is) taken
heartbeat_role P role.Precandidate t m commit is taken followed never =
    subst (λ (k : MessageKind). P (as_precandidate k t m)) (sym is) (subst (λ (k : MessageKind). P (as_follower k (became_follower t t.node.term m.from) m)) (sym is) followed)
heartbeat_role P role.Candidate t m commit is taken followed never =
    subst (λ (k : MessageKind). P (as_candidate k t m)) (sym is) (subst (λ (k : MessageKind). P (as_follower k (became_follower t t.node.term m.from) m)) (sym is) followed)
heartbeat_role P role.Leader t m commit is taken followed never = absurd (never refl)

by_heartbeat : (P : NodeStep → Type 0) (t : NodeStep) (m : Message) (commit : ℕ) → m.kind ≡ kind.Heartbeat commit → MayFollow t.node m.term → P (as_follower (kind.Heartbeat commit) t m) → P (as_follower (kind.Heartbeat commit) (became_follower t t.node.term m.from) m)
    → P (as_follower (kind.Heartbeat commit) (became_follower t m.term m.from) m) → P (stepped t m)
by_heartbeat P t m commit is may taken followed raised =
    let reached = may.reached in
    by_term P t m
    (λ same. subst (λ (k : MessageKind). P (at_term_by k t m)) (sym is)
    (heartbeat_role P t.node.role t m commit is taken followed (λ leads. (let now = same (ap has_term is) in let later = may.steps_down leads in omega (arith, now, later)))))
    (λ low. absurd (omega (arith, low, reached)))
    (λ _ disturbs. absurd (false≢true (sym (ap (λ (k : MessageKind). ignores_campaign k t.node) is) ∙ disturbs)))
    (λ _ _. subst (λ (k : MessageKind). P (at_term_by k (stepped_later_by k t m) m)) (sym is)
    (subst (λ (k : MessageKind). P (as_follower k (became_follower t m.term m.from) m)) (sym is) raised))

-- ---- an append

pub matches : (v : LogValue) (append : PlainAppend) (commit : ℕ) → commit ≤ append.prev → term_at v append.prev ≡ Ok append.prev_term → answer v append.prev append.prev_term append.entries commit ≡ Matched (append.prev + length append.entries)
matches v append commit over at =
    let prev = append.prev in
    let es = append.entries in
    let past : nat_lt prev commit ≡ false = elim (cases_Bool (nat_lt prev commit)) as (λ _. nat_lt prev commit ≡ false) [ inl low ↦ absurd (let under = ltb-true prev commit low in omega (arith, under, over)) | inr fine ↦ fine ] in
    let holds : is_term (term_at v prev) append.prev_term ≡ true = is_term_from (term_at v prev) append.prev_term at in
    ap (λ (b : Bool). if b then answer_below (conflict v (prev + 1) es commit) commit else (if is_term (term_at v prev) append.prev_term then Matched (prev + length es) else Refused (hint v prev append.prev_term))) past
    ∙ ap (λ (b : Bool). if b then Matched (prev + length es) else Refused (hint v prev append.prev_term)) holds

follower_takes : (old : PlainNode) (t : NodeStep) (from : ℕ) (append : PlainAppend) → t.node.log ≡ old.log → t.node.commit ≡ old.commit → t.node.waiting ≡ old.waiting → t.node.id ≡ old.id → old.commit ≤ append.prev → term_at old.log append.prev ≡ Ok append.prev_term
    → HasTaken old (append_entries_handled t from append).node append from
unfolding append_entries_handled
follower_takes old t from append log commit waiting id over at =
    let n = t.node in
    let upto = append.prev + length append.entries in
    let past : n.commit ≤ append.prev = omega (arith, commit, over) in
    let held : term_at n.log append.prev ≡ Ok append.prev_term = ap (λ (v : LogValue). term_at v append.prev) log ∙ at in
    let u : NodeStep = with_node (removal_reported t append) (with_appended n from append) in
    subst (λ (a : Appended). HasTaken old (after_log a u from append).node append from) (sym (matches n.log append n.commit past held))
    (record {
      term = λ k e is. matched-term n.log append.prev append.prev_term n.commit k append.entries e past held is;
      commit = ap (λ (i : ℕ). max i (min append.commit upto)) commit;
      says = ap (λ (ms : List Message). ms ++ message n.id from n.term (kind.AppendResponse upto) ∷ []) waiting
          ∙ ap (λ (i : ℕ). old.waiting ++ message i from n.term (kind.AppendResponse upto) ∷ []) id;
    })

pub append_taken : (t : NodeStep) (m : Message) (append : PlainAppend) → m.kind ≡ kind.Append append → MayFollow t.node m.term → t.node.commit ≤ append.prev → term_at t.node.log append.prev ≡ Ok append.prev_term → HasTaken t.node (stepped t m).node append m.from
append_taken t m append is may over at =
    let by : (u : NodeStep) → u.node.log ≡ t.node.log → u.node.commit ≡ t.node.commit → u.node.waiting ≡ t.node.waiting → u.node.id ≡ t.node.id → HasTaken t.node (append_entries_handled u m.from append).node append m.from =
    λ u log commit waiting id. follower_takes t.node u m.from append log commit waiting id over at in
    by_append (λ (u : NodeStep). HasTaken t.node u.node append m.from) t m append is may (by t refl refl refl refl)
    (by (became_follower t t.node.term m.from) refl refl refl refl) (by (became_follower t m.term m.from) refl refl refl refl)

-- ---- a heartbeat

pub heartbeat_taken : (t : NodeStep) (m : Message) (commit : ℕ) → m.kind ≡ kind.Heartbeat commit → MayFollow t.node m.term → (stepped t m).node.commit ≡ max t.node.commit (min commit (last t.node.log))
heartbeat_taken t m commit is may = by_heartbeat (λ (u : NodeStep). u.node.commit ≡ max t.node.commit (min commit (last t.node.log))) t m commit is may refl refl refl

-- ---- what isn't taken

-- the log's answer to an append is that of another node with this log and commit
says_as : (old n : PlainNode) (append : PlainAppend) (a : Appended) → n.log ≡ old.log → n.commit ≡ old.commit → answer old.log append.prev append.prev_term append.entries old.commit ≡ a
    → answer n.log append.prev append.prev_term append.entries n.commit ≡ a
says_as old n append a log commit is =
    ap (λ (v : LogValue). answer v append.prev append.prev_term append.entries n.commit) log ∙ ap (λ (c : ℕ). answer old.log append.prev append.prev_term append.entries c) commit ∙ is

-- the refusal waits, after all that waited
abbrev IsRefused : PlainNode → ℕ → PlainAppend → ℕ → NodeStep → Type 0
IsRefused old from append h u = u.node.waiting ≡ old.waiting ++ message old.id from u.node.term (kind.AppendRefusal append.prev h) ∷ []

follower_refuses : (old : PlainNode) (t : NodeStep) (from : ℕ) (append : PlainAppend) (h : ℕ) → t.node.log ≡ old.log → t.node.commit ≡ old.commit → t.node.waiting ≡ old.waiting → t.node.id ≡ old.id
    → answer old.log append.prev append.prev_term append.entries old.commit ≡ Refused h → IsRefused old from append h (append_entries_handled t from append)
unfolding append_entries_handled
follower_refuses old t from append h log commit waiting id is =
    let n = t.node in
    let u : NodeStep = with_node (removal_reported t append) (with_appended n from append) in
    subst (λ (a : Appended). IsRefused old from append h (after_log a u from append)) (sym (says_as old n append (Refused h) log commit is))
    (ap (λ (ms : List Message). ms ++ message n.id from n.term (kind.AppendRefusal append.prev h) ∷ []) waiting
    ∙ ap (λ (i : ℕ). old.waiting ++ message i from n.term (kind.AppendRefusal append.prev h) ∷ []) id)

pub append_refused : (t : NodeStep) (m : Message) (append : PlainAppend) (h : ℕ) → m.kind ≡ kind.Append append → MayFollow t.node m.term → answer t.node.log append.prev append.prev_term append.entries t.node.commit ≡ Refused h
    → IsRefused t.node m.from append h (stepped t m)
append_refused t m append h is may says =
    by_append (IsRefused t.node m.from append h) t m append is may (follower_refuses t.node t m.from append h refl refl refl refl says)
    (follower_refuses t.node (became_follower t t.node.term m.from) m.from append h refl refl refl refl says)
    (follower_refuses t.node (became_follower t m.term m.from) m.from append h refl refl refl refl says)

-- the conflict is shown, and nothing waits that didn't
abbrev IsShown : PlainNode → ℕ → NodeStep → Type 0
IsShown old index u = (u.node.waiting ≡ old.waiting) × Contains u.events (event_at old.id (event.Conflict index old.commit))

follower_shows : (old : PlainNode) (t : NodeStep) (from : ℕ) (append : PlainAppend) (index : ℕ) → t.node.log ≡ old.log → t.node.commit ≡ old.commit → t.node.waiting ≡ old.waiting → t.node.id ≡ old.id
    → answer old.log append.prev append.prev_term append.entries old.commit ≡ BelowCommit index → IsShown old index (append_entries_handled t from append)
unfolding append_entries_handled
follower_shows old t from append index log commit waiting id is =
    let n = t.node in
    let u : NodeStep = with_node (removal_reported t append) (with_appended n from append) in
    let e : Event = event_at n.id (event.Conflict index n.commit) in
    let same : e ≡ event_at old.id (event.Conflict index old.commit) = ap (λ (i : ℕ). event_at i (event.Conflict index n.commit)) id ∙ ap (λ (c : ℕ). event_at old.id (event.Conflict index c)) commit in
    subst (λ (a : Appended). IsShown old index (after_log a u from append)) (sym (says_as old n append (BelowCommit index) log commit is))
    (waiting, subst (λ (x : Event). Contains (u.events ++ e ∷ []) x) same (Contains-push u.events e))

pub conflict_shown : (t : NodeStep) (m : Message) (append : PlainAppend) (index : ℕ) → m.kind ≡ kind.Append append → MayFollow t.node m.term → answer t.node.log append.prev append.prev_term append.entries t.node.commit ≡ BelowCommit index
    → IsShown t.node index (stepped t m)
conflict_shown t m append index is may says =
    by_append (IsShown t.node index) t m append is may (follower_shows t.node t m.from append index refl refl refl refl says)
    (follower_shows t.node (became_follower t t.node.term m.from) m.from append index refl refl refl refl says)
    (follower_shows t.node (became_follower t m.term m.from) m.from append index refl refl refl refl says)

-- what a refusal hints at
below_hints : (o : Option ℕ) (commit h : ℕ) (P : Type 0) → answer_below o commit ≡ Refused h → P
below_hints None commit h P is = (let no : Matched commit ≡ Refused h = is in cc)
below_hints (Some i) commit h P is = (let no : BelowCommit i ≡ Refused h = is in cc)

pub refusal_hints : (v : LogValue) (prev term commit h : ℕ) (es : List Entry) → v.base ≤ prev → answer v prev term es commit ≡ Refused h → IsHint v prev term h
refusal_hints v prev term commit h es base =
    let Q : Appended → Type 0 = λ a. a ≡ Refused h → IsHint v prev term h in
    if_both Q (nat_lt prev commit) (answer_below (conflict v (prev + 1) es commit) commit) (if is_term (term_at v prev) term then Matched (prev + length es) else Refused (hint v prev term))
    (λ _ is. below_hints (conflict v (prev + 1) es commit) commit h (IsHint v prev term h) is)
    (λ _. if_both Q (is_term (term_at v prev) term) (Matched (prev + length es)) (Refused (hint v prev term)) (λ _ is. cc)
    (λ _ is. (let same : hint v prev term ≡ h = cc in subst (λ (x : ℕ). IsHint v prev term x) same (hint-is v prev term base))))
