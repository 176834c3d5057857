-- Laws of what is saved, and of restarts.
use Rattle.std.proofs.Common.{◌≡◌, ℕ, ◌+◌, ◌-◌, ◌<◌, ◌≤◌, List, [], ◌∷◌, ◌++◌, length, take, drop, Ok, Some, min, refl, ap, sym, ◌∙◌, arith, append_assoc, inl, inr}
use Rattle.std.proofs.lemmas.Bool.{cases_lt}
use Rattle.std.proofs.lemmas.List.{append-nil, take-append-drop, take-append-le, drop-append-le, take-take, drop-take, take_all, drop_all, length-take-le}
use Rattle.std.specs.List.{slice_get}
use Rattle.rb_raftlog.specs.declared.entry.Entry.{Entry}
use Rattle.rb_raftlog.specs.declared.limits.TheConstants.{MAX_INDEX}
use Rattle.rb_raftlog.specs.declared.snapshot.Snapshot.{Snapshot}
use Rattle.rb_raftlog.specs.Log.{LogValue, IsLog, last, entry_at, appended, own, made_durable, compacted, restored, restarted, saved_entries}
use Rattle.rb_raftlog.proofs.TermLaws.{IsSameUpTo, same_entry, slice_get_taken}
use Rattle.rb_raftlog.proofs.AppendLaws.{by_append, put, in_place}

-- ---- of lists

length-take : (n : ℕ) (es : List Entry) → length (take n es) ≤ n
length-take n es =
    elim (cases_lt n (length es)) as (λ _. length (take n es) ≤ n) [
      | inl low ↦ omega (arith, length-take-le n es (omega arith))
      | inr high ↦ omega (arith, ap length (take_all n es high))
    ]

-- past the durable entries there are none
pub none_durable : (base d n : ℕ) (es : List Entry) → d ≤ n → drop n (take (base + d - base) es) ≡ []
none_durable base d n es low = drop_all n (take (base + d - base) es) (omega (arith, length-take (base + d - base) es))

pub durable_rest : (base d n : ℕ) (es : List Entry) → n < d → drop n (take (base + d - base) es) ≡ take (d - n) (drop n es)
durable_rest base d n es low =
    let size : base + d - base ≡ n + (d - n) = omega arith in
    ap (λ (m : ℕ). drop n (take m es)) size ∙ drop-take n (d - n) es

pub all_taken : (n : ℕ) (es : List Entry) → length es ≤ n → take n es ≡ es
all_taken = take_all

take_front : (m k : ℕ) (es more : List Entry) → m ≤ k → k ≤ length es → take m (take k es ++ more) ≡ take m es
take_front m k es more low within =
    take-append-le m (take k es) more (omega (arith, length-take-le k es within)) ∙ take-take m k es low

-- the durable entries that stay, and those that go
parted : (k d m : ℕ) (es : List Entry) → m ≡ min d k → take m es ++ drop k (take d es) ≡ take d es
parted k d m es least =
    elim (cases_lt d k) as (λ _. take m es ++ drop k (take d es) ≡ take d es) [
      | inl low ↦
          let same : m ≡ d = omega arith in
          ap (λ (n : ℕ). take n es ++ drop k (take d es)) same
          ∙ ap (λ (l : List Entry). take d es ++ l) (drop_all k (take d es) (omega (arith, length-take d es))) ∙ append-nil (take d es)
      | inr high ↦
          let same : m ≡ k = omega arith in
          ap (λ (n : ℕ). take n es ++ drop k (take d es)) same
          ∙ ap (λ (l : List Entry). l ++ drop k (take d es)) (sym (take-take k d es high)) ∙ take-append-drop k (take d es)
    ]

-- ---- what is saved stays

put-saves : (v : LogValue) (prev c : ℕ) (es : List Entry) → v.base ≤ prev → prev + 1 ≤ c → c ≤ last v + 1 → saved_entries (put v prev es c) ≡ saved_entries v
put-saves v prev c es above low high =
    let k : ℕ = c - 1 - v.base in
    let d : ℕ = v.durable - v.base in
    let m : ℕ = min v.durable (c - 1) - v.base in
    let least : m ≡ min d k = omega arith in
    ap (λ (l : List Entry). l ++ (drop k (take d v.entries) ++ v.overwritten)) (take_front m k v.entries (drop (c - 1 - prev) es) (omega arith) (omega arith))
    ∙ sym (append_assoc (take m v.entries) (drop k (take d v.entries)) v.overwritten)
    ∙ ap (λ (l : List Entry). l ++ v.overwritten) (parted k d m v.entries least)

pub appended-saves : (v : LogValue) (prev term commit : ℕ) (es : List Entry) → saved_entries (appended v prev term es commit) ≡ saved_entries v
appended-saves v prev term commit es =
    by_append v prev term commit es (λ w. saved_entries w ≡ saved_entries v) refl
    (λ c over holds e. (let there = in_place v prev term c es holds e in put-saves v prev c es there.0 there.1 there.2))

pub own-saves : (v : LogValue) (e : Entry) → IsLog v → saved_entries (own v e) ≡ saved_entries v
own-saves v e is =
    ap (λ (l : List Entry). l ++ v.overwritten) (take-append-le (v.durable - v.base) v.entries (e ∷ []) (omega (arith, is.above_base, is.within)))

pub restored-saves : (v : LogValue) (s : Snapshot) → saved_entries (restored v s) ≡ saved_entries v
restored-saves v s = ap (λ (l : List Entry). l ++ saved_entries v) (take_all (s.index - s.index) [] (omega arith))

pub durable-saves : (v : LogValue) → saved_entries (made_durable v) ≡ v.entries
durable-saves v = append-nil (take (last v - v.base) v.entries) ∙ take_all (last v - v.base) v.entries (omega arith)

pub compacted-saves : (v : LogValue) (i term : ℕ) → IsLog v → v.base < i → i ≤ v.durable → saved_entries (compacted v i (Ok term)) ≡ drop (i - v.base) (saved_entries v)
compacted-saves v i term is above low =
    let n : ℕ = i - v.base in
    let d : ℕ = v.durable - v.base in
    let size : length (take d v.entries) ≡ d = length-take-le d v.entries (omega (arith, is.above_base, is.within)) in
    let split : d ≡ n + (v.durable - i) = omega arith in
    sym (drop-append-le n (take d v.entries) v.overwritten (omega arith)
    ∙ ap (λ (l : List Entry). l ++ v.overwritten) (ap (λ (m : ℕ). drop n (take m v.entries)) split ∙ drop-take n (v.durable - i) v.entries))

pub restored-is_log : (v : LogValue) (s : Snapshot) → s.index ≤ MAX_INDEX → IsLog (restored v s)
restored-is_log v s fits = record { above_base = omega arith; within = omega arith; fits = omega (arith, fits) }

-- ---- restarts

pub restarted-saves : (v : LogValue) (s : Snapshot) → saved_entries (restarted v s) ≡ saved_entries v
restarted-saves v s =
    let all : List Entry = saved_entries v in
    append-nil (take (s.index + length all - s.index) all) ∙ take_all (s.index + length all - s.index) all (omega arith)

pub restarted-is_log : (v : LogValue) (s : Snapshot) → s.index + length (saved_entries v) ≤ MAX_INDEX → IsLog (restarted v s)
restarted-is_log v s fits = record { above_base = omega arith; within = omega arith; fits = fits }

-- where nothing that was saved was replaced, the log is as it was up to durable
pub restarted-entries : (v : LogValue) (s : Snapshot) (i : ℕ) → IsLog v → v.overwritten ≡ [] → s.index ≡ v.base → s.term ≡ v.base_term → i ≤ v.durable → entry_at (restarted v s) i ≡ entry_at v i
restarted-entries v s i is none index term low =
    let d : ℕ = v.durable - v.base in
    let all : saved_entries v ≡ take d v.entries = ap (λ (l : List Entry). take d v.entries ++ l) none ∙ append-nil (take d v.entries) in
    same_entry v (restarted v s) v.durable i (record {
      base = index;
      base_term = term;
      entries = λ k under. ap (λ (l : List Entry). slice_get l k) all ∙ slice_get_taken v.entries d k (omega (arith, under));
    }) low
