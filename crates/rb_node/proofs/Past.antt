-- an append after an index past the log's end changes nothing, and is refused; an append after the last index removes nothing
use Rattle.std.proofs.Common.{◌≡◌, ℕ, ◌-◌, ◌<◌, ◌≤◌, min, false, List, [], ◌∷◌, slice_get, None, Err, refl, arith}
use Rattle.std.proofs.lemmas.Grind.{common_steps}
use Rattle.std.proofs.lemmas.Option.{slice_get_past}
use Rattle.rb_raftlog.specs.declared.entry.Entry.{Entry}
use Rattle.rb_raftlog.specs.declared.raft_log.Appended.TheVariants.{Refused}
use Rattle.rb_raftlog.specs.declared.raft_log.LogFault.TheVariants.{Unavailable}
use Rattle.rb_raftlog.specs.Log.{LogValue, last, term_at, is_term, appended, answer, given_way, hint}
use Rattle.rb_raftlog.proofs.GoneLaws.{none_past}
use Rattle.rb_message.specs.declared.event.EventKind.TheVariants as event
use Rattle.rb_message.specs.Events.{event_at}
use Rattle.rb_node.specs.Following.{removal}

pub term_at_past : (v : LogValue) (i : ℕ) → last v < i → term_at v i ≡ Err Unavailable
term_at_past v i past = let none : slice_get v.entries (i - v.base - 1) ≡ None = slice_get_past v.entries (i - v.base - 1) (omega arith) in grind (arith, common_steps, none)

pub is_term_past : (v : LogValue) (i term : ℕ) → last v < i → is_term (term_at v i) term ≡ false
is_term_past v i term past = let e = term_at_past v i past in grind (arith, common_steps, e)

-- a hint from past the end is one from the end
pub hint_past : (v : LogValue) (i term : ℕ) → last v < i → hint v (last v) term ≡ hint v i term
hint_past v i term past =
    let here : min (last v) (last v) ≡ min i (last v) = omega arith in
    grind (arith, common_steps, here)

pub appended_past : (v : LogValue) (prev term : ℕ) (es : List Entry) (commit : ℕ) → last v < prev → commit ≤ prev → appended v prev term es commit ≡ v
appended_past v prev term es commit past above = let e = term_at_past v prev past in grind (arith, common_steps, e)

pub answer_past : (v : LogValue) (prev term : ℕ) (es : List Entry) (commit : ℕ) → last v < prev → commit ≤ prev → answer v prev term es commit ≡ Refused (hint v prev term)
answer_past v prev term es commit past above = let e = term_at_past v prev past in grind (arith, common_steps, e)

pub given_way_past : (v : LogValue) (prev term : ℕ) (es : List Entry) (commit : ℕ) → last v ≤ prev → given_way v prev term es commit ≡ []
given_way_past v prev term es commit low = none_past v prev term commit es low

-- some entries that are removed are one event
pub removal_some : (id : ℕ) (v : LogValue) (es : List Entry) → (es ≡ [] → ⊥) → removal id v es ≡ event_at id (event.RemovedEntries (last v) es) ∷ []
removal_some id v [] some = absurd (some refl)
removal_some id v (e ∷ es) some = refl
