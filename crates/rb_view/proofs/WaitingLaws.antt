-- The messages on their way are those whose arrows wait.
use Rattle.std.proofs.Common.{◌≡◌, ◌∙◌, ℕ, zero, suc, ◌+◌, Bool, true, false, List, [], ◌∷◌, ◌++◌, length, Option, Some, None, refl, ap, sym, arith}
use Rattle.std.specs.Prelude.{fold, if◌then◌else◌, cond, slice_get}
use Rattle.std.specs.List.{remove}
use Rattle.std.specs.Option.{unwrap_or}
use Rattle.rb_message.specs.declared.message.Message.{Message}
use Rattle.rb_texts.specs.Items.{PlainItem, nothing_else, ready, hard_state, snapshot, save, apply, send, nothing_ready, moved, no_messages, stopped, raft_state, raft_log, entry, config, progress, event, error}
use Rattle.rb_texts.specs.declared.item.Verb.TheVariants as verbs
use Rattle.rb_view.specs.declared.chart.arrow.Arrow.{Arrow}
use Rattle.rb_view.specs.declared.chart.css_class.DeliveryState.{DeliveryState}
use Rattle.rb_view.specs.declared.chart.css_class.DeliveryState.TheVariants as states
use Rattle.rb_view.specs.declared.chart.in_flight.MessageChange.TheVariants as changes
use Rattle.rb_view.specs.InFlight.{arrow, ended, last_alike, next_met, taken, taking}
use Rattle.rb_view.specs.Arrows.{PlainArrows, drawing, drawn_as, end_arrow, set_state, set_state_of, with_state}
use Rattle.rb_view.specs.Promises.{waiting_arrows, waits, waiting_from}

-- ---- an arrow more

if_more : (n : ℕ) (b : Bool) (ws l : List ℕ) → (if b then n ∷ (ws ++ l) else ws ++ l) ≡ (if b then n ∷ ws else ws) ++ l
if_more n true ws l = refl
if_more n false ws l = refl

more_waits : (n : ℕ) (arrows : List Arrow) (a : Arrow) → waits a.state ≡ true → waiting_from n (arrows ++ a ∷ []) ≡ waiting_from n arrows ++ ((n + length arrows) ∷ [])
more_waits n [] a is = ap (λ (t : Bool). if t then n ∷ [] else []) is ∙ ap (λ (k : ℕ). k ∷ []) (omega arith)
more_waits n (x ∷ arrows) a is =
    let ws = waiting_from (n + 1) arrows in
    let next : n + 1 + length arrows ≡ n + length (x ∷ arrows) = omega arith in
    ap (λ (w : List ℕ). if waits x.state then n ∷ w else w) (more_waits (n + 1) arrows a is ∙ ap (λ (k : ℕ). ws ++ k ∷ []) next)
    ∙ if_more n (waits x.state) ws ((n + length (x ∷ arrows)) ∷ [])

more_lost : (n : ℕ) (arrows : List Arrow) (a : Arrow) → waits a.state ≡ false → waiting_from n (arrows ++ a ∷ []) ≡ waiting_from n arrows
more_lost n [] a is = ap (λ (t : Bool). if t then n ∷ [] else []) is
more_lost n (x ∷ arrows) a is = ap (λ (w : List ℕ). if waits x.state then n ∷ w else w) (more_lost (n + 1) arrows a is)

-- ---- an arrow that ends

set_next : (x : Arrow) (arrows : List Arrow) (i : ℕ) (s : DeliveryState) (o : Option Arrow) → set_state_of o (suc i) s (x ∷ arrows) ≡ x ∷ set_state_of o i s arrows
set_next x arrows i s None = refl
set_next x arrows i s (Some a) = refl

-- after one that waits, and after one that doesn't
waits_more : (x : Arrow) (arrows : List Arrow) (at k : ℕ) (s : DeliveryState) → waits x.state ≡ true → waiting_arrows (set_state at s arrows) ≡ remove (waiting_arrows arrows) k
    → waiting_arrows (set_state (suc at) s (x ∷ arrows)) ≡ remove (waiting_arrows (x ∷ arrows)) (suc k)
waits_more x arrows at k s is later =
    let old : List Arrow = waiting_arrows arrows in
    let new : List Arrow = waiting_arrows (set_state at s arrows) in
    ap waiting_arrows (set_next x arrows at s (slice_get arrows at)) ∙ ap (λ (t : Bool). cond t (x ∷ new) new) is ∙ ap (λ (l : List Arrow). x ∷ l) later
    ∙ sym (ap (λ (t : Bool). remove (cond t (x ∷ old) old) (suc k)) is)

waits_same : (x : Arrow) (arrows : List Arrow) (at k : ℕ) (s : DeliveryState) → waits x.state ≡ false → waiting_arrows (set_state at s arrows) ≡ remove (waiting_arrows arrows) k
    → waiting_arrows (set_state (suc at) s (x ∷ arrows)) ≡ remove (waiting_arrows (x ∷ arrows)) k
waits_same x arrows at k s is later =
    let old : List Arrow = waiting_arrows arrows in
    let new : List Arrow = waiting_arrows (set_state at s arrows) in
    ap waiting_arrows (set_next x arrows at s (slice_get arrows at)) ∙ ap (λ (t : Bool). cond t (x ∷ new) new) is ∙ later
    ∙ sym (ap (λ (t : Bool). remove (cond t (x ∷ old) old) k) is)

-- the arrow at a position among those that wait, and how the others stay
pub record Ends (n : ℕ) (arrows : List Arrow) (ws : List ℕ) (k p : ℕ) (s : DeliveryState) : Type 0 where
  pub at : ℕ
  pub is : p ≡ n + at
  pub left : waiting_from n (set_state at s arrows) ≡ remove ws k
  pub waiting : waiting_arrows (set_state at s arrows) ≡ remove (waiting_arrows arrows) k

ends_by : (n : ℕ) (x : Arrow) (arrows : List Arrow) (k p : ℕ) (s : DeliveryState) (b : Bool) → waits x.state ≡ b → waits s ≡ false
    → slice_get (if b then n ∷ waiting_from (n + 1) arrows else waiting_from (n + 1) arrows) k ≡ Some p
    → ((j : ℕ) → slice_get (waiting_from (n + 1) arrows) j ≡ Some p → Ends (n + 1) arrows (waiting_from (n + 1) arrows) j p s)
    → Ends n (x ∷ arrows) (if b then n ∷ waiting_from (n + 1) arrows else waiting_from (n + 1) arrows) k p s
ends_by n x arrows zero p s true is lost got rest =
    let here : n ≡ p = ap (λ (o : Option ℕ). unwrap_or o 0) got in
    let others : List Arrow = waiting_arrows arrows in
    record {
      at = zero;
      is = omega (arith, here);
      left = ap (λ (t : Bool). if t then n ∷ waiting_from (n + 1) arrows else waiting_from (n + 1) arrows) lost;
      waiting = ap (λ (t : Bool). cond t (with_state s x ∷ others) others) lost ∙ sym (ap (λ (t : Bool). remove (cond t (x ∷ others) others) zero) is);
    }
ends_by n x arrows (suc k) p s true is lost got rest =
    let later = rest k got in
    let e = later.is in
    record {
      at = suc later.at;
      is = omega (arith, e);
      left = ap (waiting_from n) (set_next x arrows later.at s (slice_get arrows later.at))
          ∙ ap (λ (t : Bool). if t then n ∷ waiting_from (n + 1) (set_state later.at s arrows) else waiting_from (n + 1) (set_state later.at s arrows)) is
          ∙ ap (λ (w : List ℕ). n ∷ w) later.left;
      waiting = waits_more x arrows later.at k s is later.waiting;
    }
ends_by n x arrows k p s false is lost got rest =
    let later = rest k got in
    let e = later.is in
    record {
      at = suc later.at;
      is = omega (arith, e);
      left = ap (waiting_from n) (set_next x arrows later.at s (slice_get arrows later.at))
          ∙ ap (λ (t : Bool). if t then n ∷ waiting_from (n + 1) (set_state later.at s arrows) else waiting_from (n + 1) (set_state later.at s arrows)) is
          ∙ later.left;
      waiting = waits_same x arrows later.at k s is later.waiting;
    }

pub ends : (n : ℕ) (arrows : List Arrow) (k p : ℕ) (s : DeliveryState) → waits s ≡ false → slice_get (waiting_from n arrows) k ≡ Some p → Ends n arrows (waiting_from n arrows) k p s
ends n [] k p s lost got = absurd cc
ends n (x ∷ arrows) k p s lost got = ends_by n x arrows k p s (waits x.state) refl lost got (λ j there. ends (n + 1) arrows j p s lost there)

-- ---- what happens

abbrev pub Wait : PlainArrows → Type 0
Wait d = d.positions ≡ waiting_from 0 d.arrows

end_waits : (o : Option ℕ) (k : ℕ) (s : DeliveryState) (d : PlainArrows) → waits s ≡ false → slice_get d.positions k ≡ o → Wait d → Wait (end_arrow o k s d)
end_waits None k s d lost got wait = wait
end_waits (Some p) k s d lost got wait =
    let one = ends 0 d.arrows k p s lost (ap (λ (ps : List ℕ). slice_get ps k) (sym wait) ∙ got) in
    let at = one.is in
    let same : one.at ≡ p = omega (arith, at) in
    ap (λ (ps : List ℕ). remove ps k) wait ∙ sym one.left ∙ ap (λ (i : ℕ). waiting_from 0 (set_state i s d.arrows)) same

ended_waits : (d : PlainArrows) (s : DeliveryState) (at : Option ℕ) → waits s ≡ false → Wait d → Wait (drawn_as d (ended d.in_flight s at))
ended_waits d s None lost wait = wait
ended_waits d s (Some k) lost wait = end_waits (slice_get d.positions k) k s _ lost refl wait

given_waits : (d : PlainArrows) (m : Message) (b : Bool) → Wait d
    → Wait (drawn_as d (if b then ended d.in_flight states.Lost (last_alike m 0 d.in_flight.messages) else taken d.in_flight (changes.Refused (arrow m states.Lost))))
given_waits d m true wait = ended_waits d states.Lost (last_alike m 0 d.in_flight.messages) refl wait
given_waits d m false wait = wait ∙ sym (more_lost 0 d.arrows (arrow m states.Lost) refl)

added_waits : (d : PlainArrows) (m : Message) → Wait d → d.positions ++ length d.arrows ∷ [] ≡ waiting_from 0 (d.arrows ++ arrow m states.Waiting ∷ [])
added_waits d m wait =
    let start : length d.arrows ≡ 0 + length d.arrows = omega arith in
    ap (λ (ps : List ℕ). ps ++ length d.arrows ∷ []) wait ∙ ap (λ (k : ℕ). waiting_from 0 d.arrows ++ k ∷ []) start ∙ sym (more_waits 0 d.arrows (arrow m states.Waiting) refl)

step_waits : (d : PlainArrows) (item : PlainItem) → Wait d → Wait (drawing d item)
unfolding drawing taking
step_waits d (send m) wait = added_waits d m wait
step_waits d (moved verbs.Queue m) wait = added_waits d m wait
step_waits d (moved verbs.Deliver m) wait = ended_waits d states.Delivered (next_met d.in_flight m.to) refl wait
step_waits d (moved verbs.Drop m) wait = ended_waits d states.Lost (next_met d.in_flight m.to) refl wait
step_waits d (moved verbs.NoRoomFor m) wait = given_waits d m d.in_flight.is_ready wait
step_waits d nothing_else wait = wait
step_waits d (ready id) wait = wait
step_waits d (hard_state hard) wait = wait
step_waits d (snapshot term index) wait = wait
step_waits d (save index e) wait = wait
step_waits d (apply index e) wait = wait
step_waits d (nothing_ready id) wait = wait
step_waits d no_messages wait = wait
step_waits d (stopped rounds) wait = wait
step_waits d (raft_state node) wait = wait
step_waits d (raft_log log) wait = wait
step_waits d (entry index e unsaved) wait = wait
step_waits d (config c) wait = wait
step_waits d (progress id view) wait = wait
step_waits d (event e) wait = wait
step_waits d (error e) wait = wait

pub goes_on_waiting : (d : PlainArrows) (items : List PlainItem) → Wait d → Wait (fold drawing d items)
goes_on_waiting d [] wait = wait
goes_on_waiting d (item ∷ items) wait = goes_on_waiting (drawing d item) items (step_waits d item wait)
