-- The log of a restart: up to the last durable index it is what the node has; after an advance it is the node's log; and compacting moves its base with
-- the node's (Ongaro's thesis, sections 3.8 and 5.1)
use Rattle.std.proofs.Common.{◌≡◌, ℕ, ◌+◌, ◌-◌, ◌<◌, ◌≤◌, Bool, true, false, List, [], ◌∷◌, ◌++◌, length, take, drop, min, length-append, length-drop, Result, Ok, None, refl, sym, ap, ◌∙◌, arith, inl, inr}
use Rattle.std.specs.Prelude.{All}
use Rattle.std.specs.Result.{result_unwrap_or}
use Rattle.std.proofs.lemmas.Bool.{false≢true}
use Rattle.std.proofs.lemmas.List.{length-take-le, drop-append-le, drop-take, take_all}
use Rattle.std.proofs.lemmas.List.Elements.{All-head, All-tail}
use Rattle.rb_raftlog.specs.declared.entry.Entry.{Entry}
use Rattle.rb_raftlog.specs.declared.raft_log.LogFault.{LogFault}
use Rattle.rb_raftlog.specs.declared.snapshot.Snapshot.{Snapshot}
use Rattle.rb_raftlog.specs.Log.{LogValue, fresh, last, term_at, made_durable, compacted, compact_fault, saved_entries}
use Rattle.rb_raftlog.specs.Log as logs
use Rattle.rb_raftlog.proofs.SavedLaws.{durable-saves, restarted-saves}
use Rattle.rb_raftlog.proofs.TermLaws.{term_base, slice_get_front, IsSameUpTo}
use Rattle.rb_tracker.proofs.SetLaws.{if_both}
use Rattle.rb_tracker.specs.declared.config.Config.{Config}
use Rattle.rb_node.specs.Compacting.{config_after, start_at}
use Rattle.rb_node.specs.declared.options.Options.{Options}
use Rattle.rb_node.specs.Node.{PlainNode, started}
use Rattle.rb_node.specs.Readying.{saved, saved_start}
use Rattle.rb_node.specs.Restarting.{restarted}
use Rattle.rb_node.specs.Sends.{snapshot_of}
use Rattle.rb_calls.specs.Calling.{Call, Step, Campaign, Propose, Transfer, Tick, Advance, ForgetLeader, ReportUnreachable, SetTimeout, Compact, compacted_at}
use Rattle.rb_laws.specs.Honesty.{IsPlain}
use Rattle.rb_calls.specs.Sound.{IsSound}
use Rattle.rb_laws.proofs.Links.{held_term}
use Rattle.rb_laws.proofs.Applied.{plain_makes}
use Rattle.rb_calls.proofs.MoveLaws.{compact_within}
use Rattle.rb_laws.proofs.SavedStates.{LeavesSaved, Leaves, same_again, HasSaved}

-- ---- logs

-- a log without anything to save
abbrev whole_log : ℕ → ℕ → List Entry → LogValue
whole_log base term es = record { base = base; base_term = term; entries = es; durable = base + length es; overwritten = [] }

same_whole : (a b s t : ℕ) (es fs : List Entry) → a ≡ b → s ≡ t → es ≡ fs → whole_log a s es ≡ whole_log b t fs
same_whole a b s t es fs base term entries =
    ap (λ (i : ℕ). whole_log i s es) base ∙ ap (λ (i : ℕ). whole_log b i es) term ∙ ap (λ (xs : List Entry). whole_log b t xs) entries

-- the log that an advance saves is the one that a restart finds
pub restarted_durable : (v : LogValue) (s : Snapshot) → s.index ≡ v.base → s.term ≡ v.base_term → logs.restarted (made_durable v) s ≡ made_durable v
restarted_durable v s index term = same_whole s.index v.base s.term v.base_term (saved_entries (made_durable v)) v.entries index term (durable-saves v)

pub restarted_twice : (v : LogValue) (s : Snapshot) → logs.restarted (logs.restarted v s) s ≡ logs.restarted v s
restarted_twice v s = same_whole s.index s.index s.term s.term (saved_entries (logs.restarted v s)) (saved_entries v) refl refl (restarted-saves v s)

-- a log that has only begun restarts as it is
pub restarted_fresh : (s : Snapshot) → logs.restarted (fresh s.index s.term) s ≡ fresh s.index s.term
restarted_fresh s =
    let none : saved_entries (fresh s.index s.term) ≡ [] = ap (λ (es : List Entry). es ++ []) (take_all (s.index - s.index) [] (omega arith)) in
    let end : s.index + 0 ≡ s.index = omega arith in
    same_whole s.index s.index s.term s.term (saved_entries (fresh s.index s.term)) [] refl refl none
    ∙ ap (λ (d : ℕ). record { base = s.index; base_term = s.term; entries = []; durable = d; overwritten = [] }) end

-- what is durable is saved
pub saved_size : (v : LogValue) → v.durable ≤ last v → v.durable - v.base ≤ length (saved_entries v)
saved_size v within =
    let d : ℕ = v.durable - v.base in
    let size = length-take-le d v.entries (omega (arith, within)) in
    let both = length-append (take d v.entries) v.overwritten in
    omega (arith, size, both)

pub same_durable : (v : LogValue) (s : Snapshot) → s.index ≡ v.base → s.term ≡ v.base_term → v.durable ≤ last v → IsSameUpTo v (logs.restarted v s) v.durable
same_durable v s index term within = record {
  base = index;
  base_term = term;
  entries = λ k low. slice_get_front v.entries v.overwritten (v.durable - v.base) k (omega (arith, low)) (omega (arith, within));
}

compacted_saves : (v : LogValue) (i term : ℕ) → v.base < i → i ≤ v.durable → v.durable ≤ last v → saved_entries (compacted v i (Ok term)) ≡ drop (i - v.base) (saved_entries v)
compacted_saves v i term above low within =
    let n : ℕ = i - v.base in
    let d : ℕ = v.durable - v.base in
    let size : length (take d v.entries) ≡ d = length-take-le d v.entries (omega (arith, within)) in
    let split : d ≡ n + (v.durable - i) = omega (arith, above, low) in
    sym (drop-append-le n (take d v.entries) v.overwritten (omega (arith, size, above, low))
    ∙ ap (λ (l : List Entry). l ++ v.overwritten) (ap (λ (m : ℕ). drop n (take m v.entries)) split ∙ drop-take n (v.durable - i) v.entries))

-- compacting the log, and then restarting, is restarting, and then compacting
pub compacted_again : (v : LogValue) (s from : Snapshot) (i term : ℕ) → s.index ≡ v.base → v.base < i → i ≤ v.durable → v.durable ≤ last v → from.index ≡ i → from.term ≡ term
    → logs.restarted (compacted v i (Ok term)) from ≡ compacted (logs.restarted v s) i (Ok term)
compacted_again v s from i term index above low within at of_term =
    let all = saved_entries v in
    let size = saved_size v within in
    let rest : length (drop (i - v.base) all) ≡ length all - (i - v.base) = length-drop (i - v.base) all in
    let far : i + length (drop (i - v.base) all) ≡ s.index + length all = omega (arith, size, rest, above, low, index) in
    same_whole from.index i from.term term (saved_entries (compacted v i (Ok term))) (drop (i - v.base) all) at of_term (compacted_saves v i term above low within)
    ∙ ap (λ (d : ℕ). record { base = i; base_term = term; entries = drop (i - v.base) all; durable = d; overwritten = [] }) far
    ∙ ap (λ (b : ℕ). record { base = i; base_term = term; entries = drop (i - b) all; durable = s.index + length all; overwritten = [] }) (sym index)

-- ---- nodes

-- as a node restarts, with another snapshot and log
abbrev pub again_with : PlainNode → Snapshot → LogValue → PlainNode
again_with n s v = record (started n.id s n.options) { term = n.saved.term; vote = n.saved.vote; log = v; commit = n.saved.commit; saved = n.saved }

pub again_twice : (n : PlainNode) → restarted (restarted n) ≡ restarted n
again_twice n = ap (again_with n n.start) (restarted_twice n.log n.start)

pub restarted_started : (id : ℕ) (start : Snapshot) (options : Options) → restarted (started id start options) ≡ started id start options
restarted_started id start options = ap (again_with (started id start options) start) (restarted_fresh start)

-- The saved snapshot is where the log begins, and what is applied is saved as committed; or the log begins at a snapshot that is to be saved yet, and
-- nothing after it is applied.
pub record IsRestartable (n : PlainNode) : Type 0 where
  pub saved : n.restored ≡ false → (n.start.index ≡ n.log.base) × (n.start.term ≡ n.log.base_term) × (n.applied ≤ n.saved.commit)
  pub unsaved : n.restored ≡ true → n.log.base ≡ n.applied

never_both : (b : Bool) → b ≡ true → b ≡ false → ⊥
never_both b is isnt = false≢true (sym isnt ∙ is)

pub started_restartable : (id : ℕ) (start : Snapshot) (options : Options) → IsRestartable (started id start options)
started_restartable id start options = record { saved = λ _. (refl, refl, omega arith); unsaved = λ no. absurd (false≢true no) }

pub restarted_restartable : (n : PlainNode) → IsSound (restarted n) → IsRestartable (restarted n)
restarted_restartable n s = record { saved = λ _. (refl, refl, s.is_committed); unsaved = λ no. absurd (false≢true no) }

-- ---- the snapshot that an advance saves

pub record IsBaseOf (n : PlainNode) (s : Snapshot) : Type 0 where
  pub index : s.index ≡ n.log.base
  pub term : s.term ≡ n.log.base_term

pub saved_base : (n : PlainNode) → IsRestartable n → IsBaseOf n (saved_start n)
saved_base n r =
    if_both (IsBaseOf n) n.restored (snapshot_of n) n.start
    (λ is. let at = r.unsaved is in record {
      index = sym at;
      term = ap (λ (t : Result ℕ LogFault). result_unwrap_or t 0) (ap (term_at n.log) (sym at) ∙ term_base n.log);
    })
    (λ is. let at = r.saved is in record { index = at.0; term = at.1 })

-- what a restart finds after an advance
abbrev pub saved_again : PlainNode → PlainNode
saved_again n = again_with (saved n) (saved_start n) (made_durable n.log)

pub again_saved : (n : PlainNode) → IsBaseOf n (saved_start n) → restarted (saved n) ≡ saved_again n
again_saved n b = ap (again_with (saved n) (saved_start n)) (restarted_durable n.log (saved_start n) b.index b.term)

pub saved_sound : (n : PlainNode) → IsSound n → IsBaseOf n (saved_start n) → IsSound (saved_again n)
saved_sound n s b =
    let index = b.index in
    let above = s.past_base in
    let known = s.is_committed in
    let held = s.is_held in
    record { past_base = omega (arith, index); is_durable = omega (arith, index, above, known, held); within = omega arith; is_committed = omega (arith, index, above, known); is_held = held }

-- ---- compacting

pub plain_config : (c : Config) (es : List Entry) → All IsPlain es → config_after c es ≡ c
plain_config c [] plain = refl
plain_config c (e ∷ es) plain =
    ap (λ (x : Config). config_after x es) (plain_makes c e.body (All-head IsPlain e es plain)) ∙ plain_config c es (All-tail IsPlain e es plain)

-- what a compacted node goes back to
pub record CompactsTo (n : PlainNode) (i : ℕ) : Type 0 where
  pub term : ℕ
  pub held : term_at n.log i ≡ Ok term
  pub low : n.log.base < i
  pub durable : i ≤ n.log.durable
  pub applied : i ≤ n.applied
  pub committed : i ≤ n.saved.commit
  pub index : n.start.index ≡ n.log.base
  pub base_term : n.start.term ≡ n.log.base_term
  pub again : restarted (compacted_at n i) ≡ again_with n (start_at n i) (compacted (logs.restarted n.log n.start) i (Ok term))
  pub restartable : IsRestartable (compacted_at n i)

not_true : (b : Bool) → (b ≡ true → ⊥) → b ≡ false
not_true true never = absurd (never refl)
not_true false never = refl

pub compacts_to : (n : PlainNode) (i : ℕ) → compact_fault n.log i (min n.applied n.log.durable) ≡ None → IsSound n → IsRestartable n → CompactsTo n i
compacts_to n i may s r =
    let within = compact_within n.log i (min n.applied n.log.durable) may in
    let low = within.0 in
    let upto = within.1 in
    let applied : i ≤ n.applied = omega (arith, upto) in
    let durable : i ≤ n.log.durable = omega (arith, upto) in
    let old : n.restored ≡ false = not_true n.restored (λ is. let at = r.unsaved is in omega (arith, at, low, applied)) in
    let start = r.saved old in
    let far = start.2 in
    let t = held_term n.log i (omega (arith, low)) (omega (arith, durable, s.within)) in
    let of_term : (start_at n i).term ≡ t.0 = ap (λ (x : Result ℕ LogFault). result_unwrap_or x 0) t.1 in
    let log : logs.restarted (compacted n.log i (term_at n.log i)) (start_at n i) ≡ compacted (logs.restarted n.log n.start) i (Ok t.0) =
    ap (λ (x : Result ℕ LogFault). logs.restarted (compacted n.log i x) (start_at n i)) t.1
    ∙ compacted_again n.log n.start (start_at n i) i t.0 start.0 low durable s.within refl of_term in
    let base : compacted n.log i (term_at n.log i) ≡ compacted n.log i (Ok t.0) = ap (compacted n.log i) t.1 in
    record {
      term = t.0;
      held = t.1;
      low = low;
      durable = durable;
      applied = applied;
      committed = omega (arith, applied, far);
      index = start.0;
      base_term = start.1;
      again = ap (again_with n (start_at n i)) log;
      restartable = record {
        saved = λ _. (ap (λ (v : LogValue). v.base) (sym base), of_term ∙ ap (λ (v : LogValue). v.base_term) (sym base), far);
        unsaved = λ is. absurd (never_both n.restored is old);
      };
    }

-- the log has it from there on
pub compacted_sound : (n : PlainNode) (i : ℕ) → IsSound n → IsSound (restarted n) → (c : CompactsTo n i) → IsSound (again_with n (start_at n i) (compacted (logs.restarted n.log n.start) i (Ok c.term)))
compacted_sound n i s o c =
    let all = saved_entries n.log in
    let index = c.index in
    let low = c.low in
    let durable = c.durable in
    let held = o.is_held in
    let size = saved_size n.log s.within in
    let rest : length (drop (i - n.start.index) all) ≡ length all - (i - n.start.index) = length-drop (i - n.start.index) all in
    record {
      past_base = omega arith;
      is_durable = omega (arith, index, low, durable, size);
      within = omega (arith, index, low, durable, size, rest);
      is_committed = c.committed;
      is_held = omega (arith, index, low, durable, size, rest, held);
    }

-- ---- over calls

-- a call leaves what is saved, or is an advance, or compacts
pub by_call : (P : Call → Type 0) → ((c : Call) → LeavesSaved c → P c) → P Advance → ((i : ℕ) → P (Compact i)) → (c : Call) → P c
by_call P leaves advances compacts (Step m) = leaves (Step m) tt
by_call P leaves advances compacts Campaign = leaves Campaign tt
by_call P leaves advances compacts (Propose body) = leaves (Propose body) tt
by_call P leaves advances compacts (Transfer to) = leaves (Transfer to) tt
by_call P leaves advances compacts Tick = leaves Tick tt
by_call P leaves advances compacts Advance = advances
by_call P leaves advances compacts ForgetLeader = leaves ForgetLeader tt
by_call P leaves advances compacts (ReportUnreachable id) = leaves (ReportUnreachable id) tt
by_call P leaves advances compacts (SetTimeout ticks) = leaves (SetTimeout ticks) tt
by_call P leaves advances compacts (Compact i) = compacts i

pub leaves_restartable : (a b : PlainNode) → Leaves a b → IsRestartable a → IsRestartable b
leaves_restartable a b h r =
    let again = same_again h in
    elim h as (λ _. IsRestartable b) [
      | inl stays ↦
          record {
            saved = λ is.
                (let old = r.saved (sym stays.restored ∙ is) in
                let start = ap (λ (n : PlainNode). n.start) again in
                let commit = ap (λ (n : PlainNode). n.saved.commit) again in
                let applied = stays.applied in
                let upto = old.2 in (
                  ap (λ (s : Snapshot). s.index) start ∙ old.0 ∙ sym stays.base,
                  ap (λ (s : Snapshot). s.term) start ∙ old.1 ∙ sym stays.base_term,
                  omega (arith, applied, commit, upto),
                ));
            unsaved = λ is. stays.base ∙ r.unsaved (sym stays.restored ∙ is) ∙ sym stays.applied;
          }
      | inr unsaved ↦ record { saved = λ no. absurd (never_both b.restored unsaved.1.0 no); unsaved = λ _. unsaved.1.1 }
    ]

pub saved_restartable : (n m : PlainNode) → IsBaseOf n (saved_start n) → HasSaved n m → IsRestartable m
saved_restartable n m b h =
    let start : m.start ≡ saved_start n = ap (λ (x : PlainNode). x.start) h.again in
    let commit : m.saved.commit ≡ n.commit = ap (λ (x : PlainNode). x.saved.commit) h.again in
    elim h.next as (λ _. IsRestartable m) [
      | inl is ↦
          record {
            saved = λ _.
                (let upto = is.3 in (
                  ap (λ (s : Snapshot). s.index) start ∙ b.index ∙ sym is.1,
                  ap (λ (s : Snapshot). s.term) start ∙ b.term ∙ sym is.2,
                  omega (arith, upto, commit),
                ));
            unsaved = λ yes. absurd (never_both m.restored yes is.0);
          }
      | inr unsaved ↦ record { saved = λ no. absurd (never_both m.restored unsaved.0 no); unsaved = λ _. unsaved.1 }
    ]
