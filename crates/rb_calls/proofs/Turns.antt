-- The single steps of which each call is made: another term, vote or role, and another log, commit or applied index
use Rattle.std.proofs.Common.{◌≡◌, ℕ, zero, suc, ◌+◌, ◌-◌, ◌<◌, ◌≤◌, ◌⊎◌, true, List, [], ◌∷◌, ◌++◌, length, take, drop, refl, sym, ap, ◌∙◌, arith, inl, length-append, length-drop, Ok, Option, Some, inr}
use Rattle.std.specs.List.{slice_get}
use Rattle.std.proofs.lemmas.List.{length-take-le}
use Rattle.rb_raftlog.specs.declared.entry.Entry.{Entry}
use Rattle.rb_raftlog.specs.declared.snapshot.Snapshot.{Snapshot}
use Rattle.rb_raftlog.specs.Log.{LogValue, last, entry_at, term_at, term_of, found, is_term, own, made_durable, appended, replaced, compacted, restored, first_new}
use Rattle.rb_raftlog.proofs.TermLaws.{term_below, term_base, term_past, entry_below, entry_past, by_index, is_term_is, held_in}
use Rattle.rb_raftlog.proofs.AppendLaws.{by_append, new_within, new_after_last, committed-entry}
use Rattle.rb_raftlog.proofs.VoteLaws.{compacted-term, compacted-entry}
use Rattle.rb_message.specs.declared.role.Role.{Role}
use Rattle.rb_message.specs.declared.role.Role.TheVariants as role
use Rattle.rb_calls.specs.Sound.{IsOrdered, IsGrown}
use Rattle.rb_calls.proofs.Goes.{Ways, Core, Keeps, Voted, Led, grown_self, and_then}

-- ---- another term, vote or role

pub turned : {w : Ways} (c : Core) (term vote : ℕ) (r : Role) → c.term ≤ term → (term ≡ c.term → 0 < c.vote → vote ≡ c.vote) → (r ≡ role.Candidate → term ≡ c.term → c.role ≡ role.Candidate) → (r ≡ role.Leader → term ≡ c.term → (c.role ≡ role.Leader) ⊎ (c.role ≡ role.Candidate)) → Voted w c (record c { term = term; vote = vote; role = r }) → Led w c (record c { term = term; vote = vote; role = r }) → Keeps w c (record c { term = term; vote = vote; role = r })
turned c term vote r up given candidate leader voted led = record {
  goes = λ o. record {
    id = refl;
    term = up;
    vote = given;
    commit = omega arith;
    applied = omega arith;
    base = omega arith;
    durable = λ i _ d. d;
    kept = λ i _ _. refl;
    candidate = candidate;
    leader = leader;
    own = λ _ _ _. grown_self c.log;
    commits = λ _ _ _. inl refl;
    voted = voted;
    led = led;
    ordered = o;
  };
}

-- ---- another log, commit or applied index

-- what is to be shown of those
pub record IsLogged (c : Core) (log : LogValue) (commit applied : ℕ) : Type 0 where
  pub rises : c.commit ≤ commit
  pub applies : c.applied ≤ applied
  pub base : c.log.base ≤ log.base
  pub durable : (i : ℕ) → i ≤ c.commit → i ≤ c.log.durable → i ≤ log.durable
  pub kept : (i : ℕ) → i ≤ c.commit → log.base < i → entry_at log i ≡ entry_at c.log i
  pub own : c.role ≡ role.Leader → IsGrown c.log log
  pub commits : c.role ≡ role.Leader → (commit ≡ c.commit) ⊎ (is_term (term_at log commit) c.term ≡ true)
  pub ordered : IsOrdered log commit applied

pub logged : {w : Ways} (c : Core) (log : LogValue) (commit applied : ℕ) → (IsOrdered c.log c.commit c.applied → IsLogged c log commit applied) → Keeps w c (record c { log = log; commit = commit; applied = applied })
logged c log commit applied is = record {
  goes = λ o. (let l = is o in record {
    id = refl;
    term = omega arith;
    vote = λ _ _. refl;
    commit = l.rises;
    applied = l.applies;
    base = l.base;
    durable = l.durable;
    kept = l.kept;
    candidate = λ r _. r;
    leader = λ r _. inl r;
    own = λ r _ _. l.own r;
    commits = λ r _ _. l.commits r;
    voted = inr (inl (refl, refl));
    led = λ r. inl (r, refl);
    ordered = l.ordered;
  });
}

-- commit rises within the log; a leader's to an entry of its term
pub committed : {w : Ways} (c : Core) (i : ℕ) → c.commit ≤ i → (IsOrdered c.log c.commit c.applied → i ≤ last c.log) → (c.role ≡ role.Leader → (i ≡ c.commit) ⊎ (is_term (term_at c.log i) c.term ≡ true)) → Keeps w c (record c { commit = i })
committed c i up held by = logged c c.log i c.applied (λ o. record {
  rises = up;
  applies = omega arith;
  base = omega arith;
  durable = λ _ _ d. d;
  kept = λ _ _ _. refl;
  own = λ _. grown_self c.log;
  commits = by;
  ordered = record { past_base = o.past_base; is_durable = o.is_durable; within = o.within; is_committed = omega (arith, o.is_committed, up); is_held = held o };
})

-- applied rises within what is committed and durable
pub applied_to : {w : Ways} (c : Core) (i : ℕ) → c.applied ≤ i → i ≤ c.commit → i ≤ c.log.durable → Keeps w c (record c { applied = i })
applied_to c i up known durable = logged c c.log c.commit i (λ o. record {
  rises = omega arith;
  applies = up;
  base = omega arith;
  durable = λ _ _ d. d;
  kept = λ _ _ _. refl;
  own = λ _. grown_self c.log;
  commits = λ _. inl refl;
  ordered = record { past_base = omega (arith, o.past_base, up); is_durable = durable; within = o.within; is_committed = known; is_held = o.is_held };
})

-- all is durable
pub all_durable : {w : Ways} (c : Core) → Keeps w c (record c { log = made_durable c.log })
all_durable c = logged c (made_durable c.log) c.commit c.applied (λ o. record {
  rises = omega arith;
  applies = omega arith;
  base = omega arith;
  durable = λ i _ d. omega (arith, d, o.within);
  kept = λ _ _ _. refl;
  own = λ _. record { longer = omega arith; written = omega (arith, o.within); entries = λ _ _ _. refl; terms = λ _ _ _. refl };
  commits = λ _. inl refl;
  ordered = record { past_base = o.past_base; is_durable = omega (arith, o.is_durable, o.within); within = omega arith; is_committed = o.is_committed; is_held = o.is_held };
})

-- ---- an entry of its own

pub own_size : (v : LogValue) (e : Entry) → last (own v e) ≡ last v + 1
own_size v e = let size : length (v.entries ++ e ∷ []) ≡ length v.entries + 1 = length-append v.entries (e ∷ []) in omega (arith, size)

front : {X : Type 0} → (xs ys : List X) (k : ℕ) → k < length xs → slice_get (xs ++ ys) k ≡ slice_get xs k
front {X} [] ys k low = absurd (omega (arith, low))
front {X} (x ∷ xs) ys zero low = refl
front {X} (x ∷ xs) ys (suc k) low = front xs ys k (omega (arith, low))

own_entry : (v : LogValue) (e : Entry) (i : ℕ) → i ≤ last v → entry_at (own v e) i ≡ entry_at v i
own_entry v e i held =
    let P : ℕ → Type 0 = λ j. j ≤ last v → entry_at (own v e) j ≡ entry_at v j in
    by_index v.base P
    (λ j under at. entry_below (own v e) j (omega (arith, under)) ∙ sym (entry_below v j (omega (arith, under))))
    (λ at. entry_below (own v e) v.base (omega arith) ∙ sym (entry_below v v.base (omega arith)))
    (λ k at. entry_past (own v e) k ∙ ap (λ (o : Option Entry). found o) (front v.entries (e ∷ []) k (omega (arith, at))) ∙ sym (entry_past v k))
    i held

own_term : (v : LogValue) (e : Entry) (i : ℕ) → i ≤ last v → term_at (own v e) i ≡ term_at v i
own_term v e i held =
    let P : ℕ → Type 0 = λ j. j ≤ last v → term_at (own v e) j ≡ term_at v j in
    by_index v.base P
    (λ j under at. term_below (own v e) j under ∙ sym (term_below v j under))
    (λ at. term_base (own v e) ∙ sym (term_base v))
    (λ k at. term_past (own v e) k ∙ ap (λ (o : Option Entry). term_of o) (front v.entries (e ∷ []) k (omega (arith, at))) ∙ sym (term_past v k))
    i held

pub with_entry : {w : Ways} (c : Core) (e : Entry) → Keeps w c (record c { log = own c.log e })
with_entry c e = logged c (own c.log e) c.commit c.applied (λ o. record {
  rises = omega arith;
  applies = omega arith;
  base = omega arith;
  durable = λ _ _ d. d;
  kept = λ i at _. own_entry c.log e i (omega (arith, at, o.is_held));
  own = λ _. record { longer = omega (arith, own_size c.log e); written = omega arith; entries = λ i held _. own_entry c.log e i held; terms = λ i held _. own_term c.log e i held };
  commits = λ _. inl refl;
  ordered = record { past_base = o.past_base; is_durable = o.is_durable; within = omega (arith, own_size c.log e, o.within); is_committed = o.is_committed; is_held = omega (arith, own_size c.log e, o.is_held) };
})

-- ---- a leader's entries

-- what an append leaves of the log's indexes
pub record IsAppended (v w : LogValue) (commit : ℕ) : Type 0 where
  pub base : w.base ≡ v.base
  pub durable : (i : ℕ) → i ≤ commit → i ≤ v.durable → i ≤ w.durable
  pub held : commit ≤ last v → commit ≤ last w
  pub within : v.durable ≤ last v → w.durable ≤ last w

pub append_size : (v : LogValue) (prev term c : ℕ) (es : List Entry) → is_term (term_at v prev) term ≡ true → first_new v (prev + 1) es ≡ Some c → (prev + 1 ≤ c) × (last (replaced v prev es (Some c)) ≡ prev + length es) × (c ≤ prev + length es)
append_size v prev term c es holds e =
    let prev_in : (v.base ≤ prev) × (prev ≤ last v) = held_in v prev term (is_term_is (term_at v prev) term holds) in
    let within : (prev + 1 ≤ c) × (c < prev + 1 + length es) = new_within v es (prev + 1) c e in
    let high : c ≤ last v + 1 = new_after_last v es (prev + 1) c (omega (arith, prev_in.1)) e in
    let size : length (replaced v prev es (Some c)).entries ≡ c - 1 - v.base + (length es - (c - 1 - prev)) =
    length-append (take (c - 1 - v.base) v.entries) (drop (c - 1 - prev) es)
    ∙ ap (λ (n : ℕ). n + length (drop (c - 1 - prev) es)) (length-take-le (c - 1 - v.base) v.entries (omega (arith, high)))
    ∙ ap (λ (n : ℕ). c - 1 - v.base + n) (length-drop (c - 1 - prev) es) in
    (within.0, omega (arith, size, prev_in.0, within.0, within.1), omega (arith, within.1))

append_is : (v : LogValue) (prev term commit : ℕ) (es : List Entry) → IsAppended v (appended v prev term es commit) commit
append_is v prev term commit es =
    by_append v prev term commit es (λ w. IsAppended v w commit)
    (record { base = refl; durable = λ _ _ d. d; held = λ h. h; within = λ h. h })
    (λ c over holds e. (let sizes = append_size v prev term c es holds e in record {
      base = refl;
      durable = λ i at d. omega (arith, over, sizes.0, at, d);
      held = λ _. omega (arith, over, sizes.1);
      within = λ _. omega (arith, sizes.1, sizes.2);
    }))

pub with_append : {w : Ways} (c : Core) (prev term : ℕ) (es : List Entry) → (c.role ≡ role.Leader → ⊥) → Keeps w c (record c { log = appended c.log prev term es c.commit })
with_append c prev term es follows = logged c (appended c.log prev term es c.commit) c.commit c.applied (λ o. (let is = append_is c.log prev term c.commit es in record {
  rises = omega arith;
  applies = omega arith;
  base = omega (arith, is.base);
  durable = is.durable;
  kept = λ i at _. committed-entry c.log prev term c.commit i es at;
  own = λ r. absurd (follows r);
  commits = λ _. inl refl;
  ordered = record {
    past_base = omega (arith, is.base, o.past_base);
    is_durable = is.durable c.applied o.is_committed o.is_durable;
    within = is.within o.within;
    is_committed = o.is_committed;
    is_held = is.held o.is_held;
  };
}))

-- ---- a content

pub filled : {w : Ways} (c : Core) (content : List ℕ) → Keeps w c (record c { content = content })
filled c content = record {
  goes = λ o. record {
    id = refl;
    term = omega arith;
    vote = λ _ _. refl;
    commit = omega arith;
    applied = omega arith;
    base = omega arith;
    durable = λ i _ d. d;
    kept = λ i _ _. refl;
    candidate = λ r _. r;
    leader = λ r _. inl r;
    own = λ _ _ _. grown_self c.log;
    commits = λ _ _ _. inl refl;
    voted = inr (inl (refl, refl));
    led = λ r. inl (r, refl);
    ordered = o;
  };
}

-- ---- a snapshot past commit

snapshot_log : {w : Ways} (c : Core) (s : Snapshot) → c.commit < s.index → (c.role ≡ role.Leader → ⊥) → Keeps w c (record c { log = restored c.log s; commit = s.index; applied = s.index })
snapshot_log c s past follows = logged c (restored c.log s) s.index s.index (λ o. record {
  rises = omega (arith, past);
  applies = omega (arith, past, o.is_committed);
  base = omega (arith, past, o.is_committed, o.past_base);
  durable = λ i at d. omega (arith, past, at);
  kept = λ i at above. absurd (omega (arith, past, at, above));
  own = λ r. absurd (follows r);
  commits = λ r. absurd (follows r);
  ordered = record { past_base = omega arith; is_durable = omega arith; within = omega arith; is_committed = omega arith; is_held = omega arith };
})

pub with_snapshot : {w : Ways} (c : Core) (s : Snapshot) → c.commit < s.index → (c.role ≡ role.Leader → ⊥) → Keeps w c (record c { log = restored c.log s; commit = s.index; applied = s.index; content = s.content })
with_snapshot c s past follows = and_then (snapshot_log c s past follows) (filled (record c { log = restored c.log s; commit = s.index; applied = s.index }) s.content)

-- ---- compacting

pub without_front : {w : Ways} (c : Core) (i term : ℕ) → c.log.base < i → i ≤ c.applied → i ≤ c.log.durable → term_at c.log i ≡ Ok term → Keeps w c (record c { log = compacted c.log i (Ok term) })
without_front c i term low known durable at = logged c (compacted c.log i (Ok term)) c.commit c.applied (λ o. (let size : length (drop (i - c.log.base) c.log.entries) ≡ length c.log.entries - (i - c.log.base) = length-drop (i - c.log.base) c.log.entries in record {
  rises = omega arith;
  applies = omega arith;
  base = omega (arith, low);
  durable = λ _ _ d. d;
  kept = λ j _ above. compacted-entry c.log i term j low above;
  own = λ _. record {
    longer = omega (arith, size, low, known, o.is_committed, o.is_held);
    written = omega arith;
    entries = λ j _ above. compacted-entry c.log i term j low above;
    terms = λ j _ above. compacted-term c.log i term j low at above;
  };
  commits = λ _. inl refl;
  ordered = record {
    past_base = known;
    is_durable = o.is_durable;
    within = omega (arith, size, low, known, o.is_committed, o.is_held, o.within);
    is_committed = o.is_committed;
    is_held = omega (arith, size, low, known, o.is_committed, o.is_held);
  };
}))
