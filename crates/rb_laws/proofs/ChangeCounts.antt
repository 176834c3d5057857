-- How many changes a log has past an index: at most one, or none. What an own entry, an append and compacting do with that.
use Rattle.std.proofs.Common.{◌≡◌, ◌⊎◌, ℕ, ◌+◌, ◌-◌, ◌<◌, ◌≤◌, true, false, max, min, List, [], length, Result, Ok, Err, sym, ap, ◌∙◌, arith, inl, inr}
use Rattle.std.proofs.lemmas.Bool.{cases_lt, false≢true}
use Rattle.rb_raftlog.specs.Bodies.{is_change}
use Rattle.rb_raftlog.specs.declared.entry.Entry.{Entry}
use Rattle.rb_raftlog.specs.declared.raft_log.LogFault.{LogFault}
use Rattle.rb_raftlog.specs.Laws.{AreOfLog}
use Rattle.rb_raftlog.specs.Log.{LogValue, last, term_at, entry_at, own, has_change, compacted}
use Rattle.rb_raftlog.proofs.AppendLaws.{put}
use Rattle.rb_raftlog.proofs.PlaceLaws.{ok_is, own-last, own-held}
use Rattle.rb_raftlog.proofs.VoteLaws.{compacted-entry}
use Rattle.rb_message.specs.Appends.{PlainAppend}
use Rattle.rb_laws.specs.Configurations.{HasOneChangePast}
use Rattle.rb_laws.specs.Rules.{NoChangePast}
use Rattle.rb_laws.proofs.Links.{Link, IsLinked, AreSingle, past_base, linked_match}
use Rattle.rb_laws.proofs.LinkedLogs.{log_from, entry_term, entry_within, Puts, put_last, put_sent_term, put_linked}
use Rattle.rb_calls.proofs.ListLaws.{some_at}
use Rattle.rb_laws.proofs.StateLaws.{change_is_seen}
use Rattle.rb_calls.proofs.Turns.{own_size}

pub one_further : (v : LogValue) (low high : ℕ) → low ≤ high → HasOneChangePast v low → HasOneChangePast v high
one_further v low high up one = λ i j e f past over. one i j e f (omega (arith, up, past)) (omega (arith, up, over))

-- where all that is committed and may be a change is applied
pub one_applied : (v : LogValue) (applied commit : ℕ) → v.base ≤ applied → has_change v applied commit ≡ false → HasOneChangePast v commit → HasOneChangePast v applied
one_applied v applied commit above none one = λ i j e f past over at there changes too.
    (let far : (k : ℕ) (x : Entry) → applied < k → entry_at v k ≡ Ok x → is_change x.body ≡ true → commit < k = λ k x low held change.
    (elim (cases_lt commit k) as (λ _. commit < k) [
      | inl beyond ↦ beyond
      | inr within ↦ absurd (false≢true (sym none ∙ change_is_seen v applied commit above (record { index = k; entry = x; past = low; within = within; held = held; changes = change })))
    ]) in
    one i j e f (far i e past at changes) (far j f over there too) at there changes too)

-- ---- an entry of its own

own_cases : (v : LogValue) (e : Entry) (i : ℕ) (x : Entry) → entry_at (own v e) i ≡ Ok x → (entry_at v i ≡ Ok x) ⊎ ((i ≡ last v + 1) × (e ≡ x))
own_cases v e i x at =
    elim (cases_lt (last v) i) as (λ _. (entry_at v i ≡ Ok x) ⊎ ((i ≡ last v + 1) × (e ≡ x))) [
      | inr within ↦ inl (sym (own-held v e i within) ∙ at)
      | inl over ↦
          let far = entry_within (own v e) i x at in
          let size = own_size v e in
          let place : i ≡ last v + 1 = omega (arith, over, far, size) in
          inr (place, ok_is (entry_at (own v e) (last v + 1)) e x (own-last v e) (ap (entry_at (own v e)) (sym place) ∙ at))
    ]

-- one that is no change adds none
plain_held : (v : LogValue) (e : Entry) (i : ℕ) (x : Entry) → is_change e.body ≡ false → entry_at (own v e) i ≡ Ok x → is_change x.body ≡ true → entry_at v i ≡ Ok x
plain_held v e i x plain at changes =
    elim (own_cases v e i x at) as (λ _. entry_at v i ≡ Ok x) [
      | inl old ↦ old
      | inr new ↦ absurd (false≢true (sym plain ∙ ap (λ (y : Entry). is_change y.body) new.1 ∙ changes))
    ]

pub plain_one : (v : LogValue) (e : Entry) (index : ℕ) → is_change e.body ≡ false → HasOneChangePast v index → HasOneChangePast (own v e) index
plain_one v e index plain one = λ i j x y past over at there changes too.
    one i j x y past over (plain_held v e i x plain at changes) (plain_held v e j y plain there too) changes too

-- after no others there is one
change_place : (v : LogValue) (e : Entry) (index i : ℕ) (x : Entry) → NoChangePast v index → index < i → entry_at (own v e) i ≡ Ok x → is_change x.body ≡ true → i ≡ last v + 1
change_place v e index i x none past at changes =
    elim (own_cases v e i x at) as (λ _. i ≡ last v + 1) [
      | inl old ↦ absurd (false≢true (sym (none i x past old) ∙ changes))
      | inr new ↦ new.0
    ]

pub change_one : (v : LogValue) (e : Entry) (index : ℕ) → NoChangePast v index → HasOneChangePast (own v e) index
change_one v e index none = λ i j x y past over at there changes too.
    (let first = change_place v e index i x none past at changes in
    let second = change_place v e index j y none over there too in
    omega (arith, first, second))

-- ---- other logs

pub empty_one : (v : LogValue) (index : ℕ) → v.entries ≡ [] → HasOneChangePast v index
empty_one v index none = λ i j e f past over at there changes too.
    (let low = past_base v i e at in
    let high = entry_within v i e at in
    absurd (omega (arith, low, high, ap length none)))

pub compacted_one : (v : LogValue) (i : ℕ) (r : Result ℕ LogFault) (index : ℕ) → v.base < i → HasOneChangePast v index → HasOneChangePast (compacted v i r) index
compacted_one v i (Err fault) index low one = one
compacted_one v i (Ok term) index low one = λ j k e f past over at there changes too.
    (let w = compacted v i (Ok term) in
    let held : (m : ℕ) (x : Entry) → entry_at w m ≡ Ok x → entry_at v m ≡ Ok x = λ m x is. sym (compacted-entry v i term m low (past_base w m x is)) ∙ is in
    one j k e f past over (held j e at) (held k f there) changes too)

-- ---- an append

-- An append's entries are of a log that the links have, with at most one change past the append's commit.
pub record IsPart (ls : List Link) (append : PlainAppend) : Type 0 where
  pub log : LogValue
  pub low : log.base ≤ append.commit
  pub linked : IsLinked ls log
  pub chain : IsLinked ls (log_from append.prev append.prev_term append.entries)
  pub entries : AreOfLog log append.prev append.entries
  pub one : HasOneChangePast log append.commit

-- The log that takes such entries matches the one that they are of, up to the last of them.
pub put_one : (ls : List Link) (v : LogValue) (append : PlainAppend) (c commit : ℕ) → AreSingle ls → IsLinked ls v → IsPart ls append → Puts v append.prev append.prev_term append.entries c
    → HasOneChangePast (put v append.prev append.entries c) (max commit (min append.commit (append.prev + length append.entries)))
put_one ls v append c commit single linked part p =
    let prev = append.prev in
    let es = append.entries in
    let from : LogValue = part.log in
    let u : LogValue = put v prev es c in
    let size = put_last v prev append.prev_term c es p in
    let low = p.from in
    let within = p.within in
    let k : ℕ = length es - 1 in
    let x = some_at es k (omega (arith, low, within)) in
    let top : ℕ = prev + 1 + k in
    let mine : term_at u top ≡ Ok x.0.term = put_sent_term v prev append.prev_term c k es x.0 p x.1 in
    let sent : term_at from top ≡ Ok x.0.term = entry_term from top x.0 (part.entries k x.0 x.1) in
    let match = linked_match ls u from single (put_linked ls v prev append.prev_term c es p linked part.chain) part.linked in
    let base = part.low in
    let same : (i : ℕ) (e : Entry) → max commit (min append.commit (prev + length es)) < i → entry_at u i ≡ Ok e → (append.commit < i) × (entry_at from i ≡ Ok e) = λ i e past at.
    (let high = entry_within u i e at in
    let beyond : append.commit < i = omega (arith, past, high, size) in
    (beyond, sym (match.entries top i x.0.term mine sent (omega (arith, high, size, low, within)) (past_base u i e at) (omega (arith, base, beyond))) ∙ at)) in
    λ i j e f past over at there changes too.
    (let a = same i e past at in
    let b = same j f over there in
    part.one i j e f a.0 b.0 a.1 b.1 changes too)
