-- What a node sends and answers is true in the history
use Rattle.std.proofs.Common.{◌≡◌, ◌⊎◌, ℕ, ◌+◌, ◌-◌, ◌<◌, ◌≤◌, List, length, Option, Result, Ok, Err, refl, sym, ap, subst, ◌∙◌, arith, inl, inr}
use Rattle.std.proofs.lemmas.Bool.{cases_lt}
use Rattle.rb_raftlog.specs.declared.entry.Entry.{Entry}
use Rattle.rb_raftlog.specs.declared.raft_log.LogFault.{LogFault}
use Rattle.rb_raftlog.specs.declared.snapshot.Snapshot.{Snapshot}
use Rattle.rb_raftlog.specs.Laws.{AreOfLog}
use Rattle.rb_raftlog.specs.Log.{LogValue, last, last_term, term_at, term_of}
use Rattle.rb_raftlog.proofs.TermLaws.{term_base, term_past, held_in}
use Rattle.rb_tracker.specs.Commits.{match_of}
use Rattle.rb_tracker.specs.Progresses.{PlainProgress}
use Rattle.rb_message.specs.Appends.{PlainAppend}
use Rattle.rb_message.specs.declared.kind.MessageKind.{MessageKind}
use Rattle.rb_message.specs.declared.kind.MessageKind.TheVariants as kind
use Rattle.rb_message.specs.declared.message.Message.{Message}
use Rattle.rb_message.specs.declared.role.Role.{Role}
use Rattle.rb_message.specs.declared.role.Role.TheVariants as role
use Rattle.rb_node.specs.Node.{PlainNode}
use Rattle.rb_calls.specs.Sound.{IsSound, HasSoundViews}
use Rattle.rb_calls.specs.Words.{IsOfLog, IsOfState, SendsBy, Sends}
use Rattle.rb_laws.proofs.Links.{held_term}
use Rattle.rb_laws.proofs.LinkedLogs.{log_from, entry_term, part_linked}
use Rattle.rb_calls.proofs.ListLaws.{some_at}
use Rattle.rb_laws.proofs.Spots.{spot, line, lower}
use Rattle.rb_laws.proofs.Contents.{IsContentAt}
use Rattle.rb_laws.proofs.LeaderLogs.{History, IsTip, IsOfTerm}
use Rattle.rb_laws.proofs.Completeness.{IsSettled}
use Rattle.rb_laws.proofs.Tips.{tip, base_spot, last_is, log_descends}
use Rattle.rb_laws.proofs.Histories.{HasStood}
use Rattle.rb_laws.proofs.NodeKnowledge.{Ground, election, mine, TellsAppend, TellsCommit, TellsBy, TellsTrue, Knows}
use Rattle.rb_laws.proofs.FollowerMoves.{IsWhole, behind_settled}

-- ---- an append

-- the last of the entries that stand in a log behind an index
part_end : (v : LogValue) (prev term : ℕ) (es : List Entry) → v.base ≤ prev → prev ≤ last v → ((x : ℕ) → term_at v prev ≡ Ok x → term ≡ x) → AreOfLog v prev es → term_at v (prev + length es) ≡ Ok (last_term (log_from prev term es))
part_end v prev term es above within first among =
    let w = log_from prev term es in
    elim (cases_lt 0 (length es)) as (λ _. term_at v (prev + length es) ≡ Ok (last_term w)) [
      | inr none ↦
          let size : prev + length es ≡ prev = omega (arith, none) in
          let h = held_term v prev above within in
          let mine : term_at w (last w) ≡ Ok term = ap (term_at w) size ∙ term_base w in
          ap (term_at v) size ∙ h.1 ∙ ap (λ (t : ℕ). Ok t) (sym (first h.0 h.1)) ∙ ap (λ (t : ℕ). Ok t) (sym (last_is w term mine))
      | inl some ↦
          let k : ℕ = length es - 1 in
          let x = some_at es k (omega (arith, some)) in
          let index : prev + 1 + k ≡ prev + length es = omega (arith, some) in
          let mine : term_at w (last w) ≡ Ok x.0.term = ap (term_at w) (sym index) ∙ term_past w k ∙ ap (λ (o : Option Entry). term_of o) x.1 in
          ap (term_at v) (sym index) ∙ entry_term v (prev + 1 + k) x.0 (among k x.0 x.1) ∙ ap (λ (t : ℕ). Ok t) (sym (last_is w x.0.term mine))
    ]

-- past the end no term is named
past_term : (r : Result ℕ LogFault) (v : LogValue) (prev term : ℕ) → term_at v prev ≡ r → last v < prev → ((fault : LogFault) → term_at v prev ≡ Err fault → term ≡ 0) → term ≡ 0
past_term (Ok t) v prev term is past none = absurd (let within = (held_in v prev t is).1 in omega (arith, within, past))
past_term (Err fault) v prev term is past none = none fault is

tells_append : (g : Ground) (said : List Message) (st : History) (id : ℕ) (n : PlainNode) (term : ℕ) (append : PlainAppend) → IsWhole g said st → n.role ≡ role.Leader → term ≡ n.term → IsOfLog n append → Knows g st id n → TellsAppend g st term append
tells_append g said st id n term append w leads same is h =
    let v = n.log in
    let prev = append.prev in
    let sent = log_from prev append.prev_term append.entries in
    let top : IsTip st n.term (tip v) = (h.log.leads leads).ends in
    let start = lower st.links (base_spot v) g.root h.log.rooted in
    let base = is.past_base in
    record {
      ends = elim (cases_lt (last v) prev) as (λ _. IsOfTerm st term (tip sent) ⊎ ((append.prev_term ≡ 0) × (g.root.index < prev))) [
        | inl past ↦ inr (past_term (term_at v prev) v prev append.prev_term refl past is.no_term, omega (arith, start, base, past))
        | inr within ↦
            let held = part_end v prev append.prev_term append.entries base within is.prev_term is.entries in
            inl (record {
              tip = tip v;
              ends = subst (λ (t : ℕ). IsTip st t (tip v)) (sym same) top;
              descends = log_descends st.links v (prev + length append.entries) (last_term sent) h.log.linked held;
            })
      ];
      linked = part_linked st.links v prev append.prev_term append.entries base is.prev_term is.entries h.log.linked;
      commit_term = h.log.commit_term;
      commit = subst (λ (i : ℕ). IsSettled g.root g.start st term (spot i h.log.commit_term)) (sym is.commit)
          (subst (λ (t : ℕ). IsSettled g.root g.start st t (spot n.commit h.log.commit_term)) (sym same) h.log.commit);
    }

-- ---- a heartbeat

pub leads_or_not : (r : Role) → (r ≡ role.Leader) ⊎ (r ≡ role.Leader → ⊥)
leads_or_not role.Follower = inr (λ no. cc)
leads_or_not role.Precandidate = inr (λ no. cc)
leads_or_not role.Candidate = inr (λ no. cc)
leads_or_not role.Leader = inl refl

tells_beat : (g : Ground) (st : History) (id : ℕ) (n : PlainNode) (term to commit : ℕ) → HasSoundViews n → term ≡ n.term → (to ≡ n.id → ⊥) → commit ≤ match_of n.tracker.views to → commit ≤ n.commit → Knows g st id n → (commit ≤ g.root.index) ⊎ TellsCommit g st term to commit
tells_beat g st id n term to commit views same other matched known h =
    elim (leads_or_not n.role) as (λ _. (commit ≤ g.root.index) ⊎ TellsCommit g st term to commit) [
      | inr never ↦
          let none : match_of n.tracker.views to ≡ 0 = ap (λ (vs : List (ℕ × PlainProgress)). match_of vs to) (views.only_leading never) in
          inl (omega (arith, matched, none))
      | inl leads ↦ elim (h.words.counts leads to) as (λ _. (commit ≤ g.root.index) ⊎ TellsCommit g st term to commit) [
        | inl low ↦ inl (omega (arith, low, matched))
        | inr rest ↦ elim rest as (λ _. (commit ≤ g.root.index) ⊎ TellsCommit g st term to commit) [
          | inl own ↦ absurd (other (own.0 ∙ sym h.log.itself))
          | inr said ↦
              let upto = said.upto in
              inr (record {
                held = record { ack = said.ack; among = said.among; by = said.by; of_term = said.of_term ∙ sym same; upto = omega (arith, upto, matched) };
                index = n.commit;
                high = known;
                index_term = h.log.commit_term;
                settled = subst (λ (t : ℕ). IsSettled g.root g.start st t (spot n.commit h.log.commit_term)) (sym same) h.log.commit;
              })
        ]
      ]
    ]

-- ---- a snapshot

-- what is applied is settled
pub applied_settled : (g : Ground) (said : List Message) (st : History) (id : ℕ) (n : PlainNode) → IsWhole g said st → IsSound n → Knows g st id n → (t : ℕ) × (term_at n.log n.applied ≡ Ok t) × IsSettled g.root g.start st n.term (spot n.applied t)
applied_settled g said st id n w s h =
    let above = s.past_base in
    let known = s.is_committed in
    let held = s.is_held in
    let start = lower st.links (base_spot n.log) g.root h.log.rooted in
    let t = held_term n.log n.applied above (omega (arith, known, held)) in
    let x = spot n.applied t.0 in
    let y = spot n.commit h.log.commit_term in
    let down = line g.root st.links (tip n.log) x y w.lawful.history.tree (log_descends st.links n.log n.applied t.0 h.log.linked t.1) (log_descends st.links n.log n.commit h.log.commit_term h.log.linked h.log.commit_held) known in
    (t.0, t.1, behind_settled g.root g.start said st n.term y x w.lawful (omega (arith, start, above)) h.log.commit down)

pub tells_snapshot : (g : Ground) (said : List Message) (st : History) (id : ℕ) (n : PlainNode) (term : ℕ) (snapshot : Snapshot) → IsWhole g said st → IsSound n → term ≡ n.term → IsOfState n snapshot → Knows g st id n
    → IsSettled g.root g.start st term (spot snapshot.index snapshot.term) × IsContentAt st.links g.root g.start (spot snapshot.index snapshot.term) snapshot.content
tells_snapshot g said st id n term snapshot w s same is h =
    let a = applied_settled g said st id n w s h in
    let f = h.log.filled in (
      subst (λ (i : ℕ). IsSettled g.root g.start st term (spot i snapshot.term)) (sym is.index)
          (subst (λ (t : ℕ). IsSettled g.root g.start st term (spot n.applied t)) (sym (is.term a.0 a.1))
          (subst (λ (t : ℕ). IsSettled g.root g.start st t (spot n.applied a.0)) (sym same) a.2)),
      subst (λ (i : ℕ). IsContentAt st.links g.root g.start (spot i snapshot.term) snapshot.content) (sym is.index)
          (subst (λ (t : ℕ). IsContentAt st.links g.root g.start (spot n.applied t) snapshot.content) (sym (is.term f.term f.held))
          (subst (λ (bytes : List ℕ). IsContentAt st.links g.root g.start (spot n.applied f.term) bytes) (sym is.content) f.is)),
    )

-- ---- a question for votes

tells_vote : (g : Ground) (st : History) (id : ℕ) (n : PlainNode) (term from last_t last_i : ℕ) → n.role ≡ role.Candidate → term ≡ n.term → from ≡ n.id → last_t ≡ last_term n.log → last_i ≡ last n.log → Knows g st id n → HasStood st (mine id) (election term from (spot last_i last_t))
tells_vote g st id n term from last_t last_i stands same own ends_term ends h =
    subst (λ (t : ℕ). HasStood st (mine id) (election t from (spot last_i last_t))) (sym same)
    (subst (λ (i : ℕ). HasStood st (mine id) (election n.term i (spot last_i last_t))) (sym (own ∙ h.log.itself))
    (subst (λ (i : ℕ). HasStood st (mine id) (election n.term id (spot i last_t))) (sym ends)
    (subst (λ (t : ℕ). HasStood st (mine id) (election n.term id (spot (last n.log) t))) (sym ends_term) (inr (refl, (h.log.stands stands).stood)))))

-- ---- what is sent

tells_by : (g : Ground) (said : List Message) (st : History) (id : ℕ) (n : PlainNode) (k : MessageKind) (m : Message) → IsWhole g said st → IsSound n → HasSoundViews n → m.from ≡ n.id → SendsBy k n m → Knows g st id n → TellsBy g st (mine id) k m
tells_by g said st id n (kind.Append append) m w s views own sent h = tells_append g said st id n m.term append w (sent.2 views) sent.0 sent.3 h
tells_by g said st id n (kind.Heartbeat commit) m w s views own sent h = tells_beat g st id n m.term m.to commit views sent.0 sent.1 sent.2 sent.3 h
tells_by g said st id n (kind.Snapshot snapshot) m w s views own sent h = tells_snapshot g said st id n m.term snapshot w s sent.0 sent.3 h
tells_by g said st id n (kind.Vote last_t last_i transfer) m w s views own sent h = tells_vote g st id n m.term m.from last_t last_i sent.4 sent.0 own sent.2 sent.3 h
tells_by g said st id n (kind.VoteResponse granted) m w s views own sent h = absurd sent
tells_by g said st id n (kind.AppendResponse matched) m w s views own sent h = absurd sent
tells_by g said st id n _ m w s views own sent h = tt

pub tells_sent : (g : Ground) (said : List Message) (st : History) (id : ℕ) (n : PlainNode) (m : Message) → IsWhole g said st → IsSound n → HasSoundViews n → Sends n m → Knows g st id n → TellsTrue g st (mine id) m
tells_sent g said st id n m w s views sent h = tells_by g said st id n m.kind m w s views sent.0 sent.1 h
