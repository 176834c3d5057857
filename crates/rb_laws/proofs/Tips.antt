-- The spots of a log: its last one, and which it has. What an append, an own entry and compacting do with them.
use Rattle.std.proofs.Common.{◌≡◌, ◌⊎◌, ℕ, zero, suc, ◌+◌, ◌-◌, ◌≤◌, List, [], ◌∷◌, length, Option, Some, None, Result, Ok, refl, sym, ap, subst, ◌∙◌, arith, inl, inr}
use Rattle.std.specs.List.{slice_get}
use Rattle.std.specs.Result.{result_unwrap_or}
use Rattle.std.proofs.lemmas.Bool.{cond-true}
use Rattle.std.proofs.lemmas.Option.{none-some}
use Rattle.rb_raftlog.specs.declared.entry.Entry.{Entry}
use Rattle.rb_raftlog.specs.declared.raft_log.LogFault.{LogFault}
use Rattle.rb_raftlog.specs.Log.{LogValue, last, last_term, term_at, term_of, is_term, first_new, appended, own, restored}
use Rattle.rb_raftlog.specs.declared.snapshot.Snapshot.{Snapshot}
use Rattle.rb_raftlog.proofs.TermLaws.{term_base, term_past, is_term_is, is_term_from, held_in}
use Rattle.rb_raftlog.proofs.AppendLaws.{put, by_append, in_place}
use Rattle.rb_raftlog.proofs.PlaceLaws.{ok_is, own-last}
use Rattle.rb_calls.proofs.Turns.{own_size}
use Rattle.rb_laws.proofs.Links.{Link, link, IsLinked, held_entry, held_term}
use Rattle.rb_laws.proofs.LinkedLogs.{log_from, entry_term, Puts, put_last, put_sent_term}
use Rattle.rb_calls.proofs.ListLaws.{some_at}
use Rattle.rb_laws.proofs.Spots.{Spot, spot, same_spot, site, under, Descends, IsTree, here, one_down, through, lower, one_at}

-- where a log ends, and where it begins
abbrev pub tip : LogValue → Spot
tip v = spot (last v) (last_term v)

abbrev pub base_spot : LogValue → Spot
base_spot v = spot v.base v.base_term

pub last_is : (v : LogValue) (t : ℕ) → term_at v (last v) ≡ Ok t → last_term v ≡ t
last_is v t e = ap (λ (r : Result ℕ LogFault). result_unwrap_or r v.base_term) e

pub last_held : (v : LogValue) → term_at v (last v) ≡ Ok (last_term v)
last_held v =
    let h = held_term v (last v) (omega arith) (omega arith) in
    h.1 ∙ ap (λ (t : ℕ). Ok t) (sym (last_is v h.0 h.1))

-- ---- which spots a log has

held_down : (ls : List Link) (v : LogValue) (j d t s : ℕ) → IsLinked ls v → v.base ≤ j → term_at v (j + d) ≡ Ok t → term_at v j ≡ Ok s → Descends ls (spot (j + d) t) (spot j s)
held_down ls v j zero t s linked above high low =
    let same : s ≡ t = ok_is (term_at v j) s t low (ap (term_at v) (let e : j ≡ j + zero = omega arith in e) ∙ high) in
    subst (λ (x : Spot). Descends ls (spot (j + zero) t) x) (same_spot (spot (j + zero) t) (spot j s) (omega arith) (sym same)) (here ls (spot (j + zero) t))
held_down ls v j (suc d) t s linked above high low =
    let next : j + suc d ≡ j + d + 1 = omega arith in
    let there : term_at v (j + d + 1) ≡ Ok t = sym (ap (term_at v) next) ∙ high in
    let x = held_entry v (j + d) t (omega (arith, above)) there in
    let within = (held_in v (j + d + 1) t there).1 in
    let b = held_term v (j + d) (omega (arith, above)) (omega (arith, within)) in
    let l = linked (j + d) x.0 b.0 x.1 b.1 in
    let r = held_down ls v j d b.0 s linked above b.1 low in
    let m : Link = link (j + d + 1) x.0 b.0 l.0 in
    let down : Descends ls (under m) (spot j s) = subst (λ (y : Spot). Descends ls y (spot j s)) (same_spot (spot (j + d) b.0) (under m) (omega arith) refl) r in
    subst (λ (y : Spot). Descends ls y (spot j s)) (same_spot (site m) (spot (j + suc d) t) (omega arith) x.2) (one_down ls m (spot j s) l.1 down)

-- a spot that a log holds is on the way down from its end
pub log_descends : (ls : List Link) (v : LogValue) (j s : ℕ) → IsLinked ls v → term_at v j ≡ Ok s → Descends ls (tip v) (spot j s)
log_descends ls v j s linked held =
    let within = held_in v j s held in
    let low = within.0 in
    let high = within.1 in
    let d : ℕ = last v - j in
    let index : last v ≡ j + d = omega (arith, high) in
    let r = held_down ls v j d (last_term v) s linked low (sym (ap (term_at v) index) ∙ last_held v) held in
    subst (λ (i : ℕ). Descends ls (spot i (last_term v)) (spot j s)) (sym index) r

-- and one on that way which isn't below its base, it holds
pub log_holds : (root : Spot) (ls : List Link) (v : LogValue) (j s : ℕ) → IsTree root ls → IsLinked ls v → v.base ≤ j → Descends ls (tip v) (spot j s) → term_at v j ≡ Ok s
log_holds root ls v j s tree linked above r =
    let high = lower ls (tip v) (spot j s) r in
    let h = held_term v j above high in
    let same : spot j s ≡ spot j h.0 = one_at root ls (tip v) (spot j h.0) (spot j s) tree (log_descends ls v j h.0 linked h.1) r refl in
    h.1 ∙ ap (λ (x : Spot). Ok x.term) (sym same)

pub tip_rooted : (root : Spot) (ls : List Link) (v : LogValue) → IsLinked ls v → Descends ls (base_spot v) root → Descends ls (tip v) root
tip_rooted root ls v linked rooted = through ls root (base_spot v) (tip v) (log_descends ls v v.base v.base_term linked (term_base v)) rooted

-- ---- an append

all_held : (v : LogValue) (es : List Entry) (i : ℕ) → ((k : ℕ) (x : Entry) → slice_get es k ≡ Some x → term_at v (i + k) ≡ Ok x.term) → first_new v i es ≡ None
all_held v [] i each = refl
all_held v (e ∷ es) i each =
    cond-true (is_term (term_at v i) e.term) (first_new v (i + 1) es) (Some i)
    (is_term_from (term_at v i) e.term (ap (term_at v) (let same : i ≡ i + 0 = omega arith in same) ∙ each 0 e refl))
    ∙ all_held v es (i + 1) (λ k x is. ap (term_at v) (let same : i + 1 + k ≡ i + suc k = omega arith in same) ∙ each (suc k) x is)

-- what was sent ends where the log does, and the log had not all of it
put_tip : (v : LogValue) (prev term c : ℕ) (es : List Entry) → Puts v prev term es c → tip (put v prev es c) ≡ tip (log_from prev term es)
put_tip v prev term c es p =
    let w = log_from prev term es in
    let u = put v prev es c in
    let size : last u ≡ prev + length es = put_last v prev term c es p in
    let from = p.from in
    let within = p.within in
    let k : ℕ = length es - 1 in
    let x = some_at es k (omega (arith, from, within)) in
    let index : prev + 1 + k ≡ prev + length es = omega (arith, from, within) in
    let mine : term_at u (last u) ≡ Ok x.0.term = ap (term_at u) (size ∙ sym index) ∙ put_sent_term v prev term c k es x.0 p x.1 in
    let sent : term_at w (last w) ≡ Ok x.0.term = ap (term_at w) (sym index) ∙ term_past w k ∙ ap (λ (o : Option Entry). term_of o) x.1 in
    same_spot (tip u) (tip w) size (last_is u x.0.term mine ∙ sym (last_is w x.0.term sent))

put_unreached : (root : Spot) (ls : List Link) (v : LogValue) (prev term c : ℕ) (es : List Entry) → IsTree root ls → IsLinked ls v → IsLinked ls (log_from prev term es) → Puts v prev term es c → Descends ls (tip v) (tip (log_from prev term es)) → ⊥
put_unreached root ls v prev term c es tree linked sent p r =
    let w = log_from prev term es in
    let above = p.above in
    let none : first_new v (prev + 1) es ≡ None = all_held v es (prev + 1) (λ k x is.
    (let there : term_at w (prev + 1 + k) ≡ Ok x.term = term_past w k ∙ ap (λ (o : Option Entry). term_of o) is in
    log_holds root ls v (prev + 1 + k) x.term tree linked (omega (arith, above))
    (through ls (spot (prev + 1 + k) x.term) (tip w) (tip v) r (log_descends ls w (prev + 1 + k) x.term sent there)))) in
    none-some c (sym none ∙ p.new)

-- an append leaves a log's end, or makes what was sent its end, which it had not
pub appended_tip : (root : Spot) (ls : List Link) (v : LogValue) (prev term commit : ℕ) (es : List Entry) → IsTree root ls → IsLinked ls v → IsLinked ls (log_from prev term es)
    → (tip (appended v prev term es commit) ≡ tip v) ⊎ ((tip (appended v prev term es commit) ≡ tip (log_from prev term es)) × (Descends ls (tip v) (tip (log_from prev term es)) → ⊥))
appended_tip root ls v prev term commit es tree linked sent =
    by_append v prev term commit es
    (λ (x : LogValue). (tip x ≡ tip v) ⊎ ((tip x ≡ tip (log_from prev term es)) × (Descends ls (tip v) (tip (log_from prev term es)) → ⊥)))
    (inl refl)
    (λ c over holds e.
    (let there = in_place v prev term c es holds e in
    let p : Puts v prev term es c = record {
      held = is_term_is (term_at v prev) term holds;
      new = e;
      above = there.0;
      from = there.1;
      high = there.2;
      within = there.3;
    } in
    inr (put_tip v prev term c es p, λ r. put_unreached root ls v prev term c es tree linked sent p r)))

-- ---- an entry of one's own, compacting, and a snapshot

pub own_tip : (v : LogValue) (e : Entry) → tip (own v e) ≡ spot (last v + 1) e.term
own_tip v e =
    let w = own v e in
    let size = own_size v e in
    let held : term_at w (last w) ≡ Ok e.term = ap (term_at w) size ∙ entry_term w (last v + 1) e (own-last v e) in
    same_spot (tip w) (spot (last v + 1) e.term) size (last_is w e.term held)

pub restored_tip : (v : LogValue) (s : Snapshot) → tip (restored v s) ≡ spot s.index s.term
restored_tip v s =
    let w = restored v s in
    let same : last w ≡ s.index = omega arith in
    same_spot (tip w) (spot s.index s.term) (omega arith) (last_is w s.term (ap (term_at w) same ∙ term_base w))
