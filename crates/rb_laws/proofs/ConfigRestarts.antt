-- The configurations of a network's nodes, as members change and nodes restart: each is that of its node's applied index, and so is that of the snapshot
-- that its node goes back to
use Rattle.std.proofs.Common.{◌≡◌, ℕ, suc, ◌+◌, ◌-◌, ◌<◌, ◌≤◌, List, [], ◌∷◌, length, min, Option, Some, None, Ok, refl, sym, ap, subst, ◌∙◌, arith}
use Rattle.std.specs.Prelude.{slice_get}
use Rattle.std.proofs.lemmas.List.Elements.{All-nil}
use Rattle.rb_raftlog.proofs.PlaceLaws.{between-entries, ok_is}
use Rattle.rb_raftlog.specs.declared.entry.Entry.{Entry}
use Rattle.rb_raftlog.specs.declared.raft_log.CompactFault.{CompactFault}
use Rattle.rb_raftlog.specs.declared.snapshot.Snapshot.{Snapshot}
use Rattle.rb_raftlog.specs.Log.{entry_at, compact_fault}
use Rattle.rb_tracker.proofs.SetLaws.{if_both}
use Rattle.rb_tracker.specs.Changes.{IsConfig}
use Rattle.rb_tracker.specs.Configs.{config_of, state_of}
use Rattle.rb_tracker.specs.declared.config.Config.{Config}
use Rattle.rb_node.proofs.Between.{between_sizes}
use Rattle.rb_node.specs.Compacting.{config_with, config_after, entries_to, start_at}
use Rattle.rb_node.specs.Node.{PlainNode, NodeStep, node_step}
use Rattle.rb_node.specs.Readying.{saved_start}
use Rattle.rb_node.specs.Restarting.{restarted}
use Rattle.rb_node.specs.Sends.{snapshot_of}
use Rattle.rb_calls.specs.Calling.{Call, Advance, after, compacted_unless}
use Rattle.rb_laws.specs.Configurations.{config_after_all, AreChosen, IsStateKnown}
use Rattle.rb_laws.specs.Network.{Network, Happening, happened_to, IsStarted}
use Rattle.rb_laws.specs.Restarts.{Occurrence, Called, Restarted, restarted_to, occurred, passed, AreAgreedThrough}
use Rattle.rb_laws.specs.Safety.{StartsAlike}
use Rattle.rb_calls.specs.Sound.{IsSound}
use Rattle.rb_laws.proofs.AppliedConfigs.{Timeline, Fits, Suit, Both, read_back, state_fits}
use Rattle.rb_laws.proofs.ConfigHistory.{timeline, makes_next, AllSuit, happened_suits, begun_suits}
use Rattle.rb_calls.proofs.ListLaws.{each_set}
use Rattle.rb_laws.proofs.RestartedLogs.{again_twice, IsRestartable, started_restartable, restarted_started, restarted_restartable, saved_base, again_saved, saved_sound, CompactsTo, compacts_to, compacted_sound, by_call, leaves_restartable, saved_restartable}
use Rattle.rb_laws.proofs.SavedStates.{Leaves, call_leaves, same_again, advance_saves}

-- what a node goes back to has the configuration of its index
record GoesBack (g : Timeline) (n : PlainNode) : Type 0 where
  restartable : IsRestartable n
  sound : IsSound (restarted n)
  reached : g.base ≤ n.start.index
  is : config_of n.start.config ≡ g.conf n.start.index

goes_back : (g : Timeline) (m : PlainNode) (s : Snapshot) → m.start ≡ s → IsRestartable m → IsSound (restarted m) → g.base ≤ s.index → config_of s.config ≡ g.conf s.index → GoesBack g m
goes_back g m s same restartable sound low is = record {
  restartable = restartable;
  sound = sound;
  reached = subst (λ (x : Snapshot). g.base ≤ x.index) (sym same) low;
  is = subst (λ (x : Snapshot). config_of x.config ≡ g.conf x.index) (sym same) is;
}

-- the snapshot that an advance saves
saved_fits : (g : Timeline) (n : PlainNode) → Suit g n → GoesBack g n → (g.base ≤ (saved_start n).index) × (config_of (saved_start n).config ≡ g.conf (saved_start n).index)
saved_fits g n h b = if_both (λ (s : Snapshot). (g.base ≤ s.index) × (config_of s.config ≡ g.conf s.index)) n.restored (snapshot_of n) n.start (λ _. (h.reached, state_fits g n h.is)) (λ _. (b.reached, b.is))

module _ (chosen : ℕ → Entry) (c : Config) (base : ℕ) (good : IsConfig c) where
  -- the configuration of an index
  abbrev conf : ℕ → Config
  conf i = config_after_all chosen c base (i - base)

  entries_config : (es : List Entry) (j : ℕ) → base ≤ j → ((k : ℕ) (e : Entry) → slice_get es k ≡ Some e → chosen (j + 1 + k) ≡ e) → config_after (conf j) es ≡ conf (j + length es)
  entries_config [] j low held = (let none : j ≡ j + 0 = omega arith in ap conf none)
  entries_config (e ∷ es) j low held =
      let here : j + 1 ≡ j + 1 + 0 = omega arith in
      let next : chosen (j + 1) ≡ e = ap chosen here ∙ held 0 e refl in
      let one : config_with (conf j) e.body ≡ conf (j + 1) = ap (λ (x : Entry). config_with (conf j) x.body) (sym next) ∙ sym (makes_next chosen c base j low) in
      let far : j + 1 + length es ≡ j + length (e ∷ es) = omega arith in
      ap (λ (x : Config). config_after x es) one
      ∙ entries_config es (j + 1) (omega (arith, low)) (λ k x is. (let place : j + 1 + 1 + k ≡ j + 1 + suc k = omega arith in ap chosen place ∙ held (suc k) x is)) ∙ ap conf far

  compacted_fits : (n : PlainNode) (i : ℕ) → ((j : ℕ) → n.log.base < j → j ≤ n.commit → entry_at n.log j ≡ Ok (chosen j)) → IsSound n → CompactsTo n i → GoesBack (timeline chosen c base good) n
      → (base ≤ i) × (config_of (start_at n i).config ≡ conf i)
  compacted_fits n i are s t b =
      let es = entries_to n i in
      let index = t.index in
      let low = t.low in
      let applied = t.applied in
      let known = s.is_committed in
      let held = s.is_held in
      let reached = b.reached in
      let sizes = between_sizes n.log n.start.index i in
      let far : n.start.index + length es ≡ i = omega (arith, sizes, index, low, applied, known, held) in
      let made : (k : ℕ) (e : Entry) → slice_get es k ≡ Some e → chosen (n.start.index + 1 + k) ≡ e = λ k e is.
      (let there = between-entries n.log n.start.index i k e (omega (arith, index)) is in
      let upto = there.1 in
      let j = n.start.index + 1 + k in
      ok_is (entry_at n.log j) (chosen j) e (are j (omega (arith, index)) (omega (arith, upto, applied, known))) there.0) in
      let all : config_after (config_of n.start.config) es ≡ conf i = ap (λ (x : Config). config_after x es) b.is ∙ entries_config es n.start.index reached made ∙ ap conf far in
      (omega (arith, reached, index, low), ap (λ (x : Config). config_of (state_of x)) all ∙ read_back (conf i) ((timeline chosen c base good).good i))

  unless_compacted : (n : PlainNode) (i : ℕ) → ((j : ℕ) → n.log.base < j → j ≤ n.commit → entry_at n.log j ≡ Ok (chosen j)) → IsSound n → GoesBack (timeline chosen c base good) n → (o : Option CompactFault) → compact_fault n.log i (min n.applied n.log.durable) ≡ o
      → GoesBack (timeline chosen c base good) (compacted_unless o n i)
  unless_compacted n i are s b (Some fault) is = b
  unless_compacted n i are s b None is =
      let t = compacts_to n i is s b.restartable in
      let fits = compacted_fits n i are s t b in
      goes_back (timeline chosen c base good) (compacted_unless None n i) (start_at n i) refl t.restartable (subst IsSound (sym t.again) (compacted_sound n i s b.sound t)) fits.0 fits.1

  calls_back : (d : Call) (t : NodeStep) → ((j : ℕ) → t.node.log.base < j → j ≤ t.node.commit → entry_at t.node.log j ≡ Ok (chosen j)) → Both (timeline chosen c base good) t.node → GoesBack (timeline chosen c base good) t.node
      → GoesBack (timeline chosen c base good) (after d t).node
  calls_back d t are p b =
      let g = timeline chosen c base good in
      let n = t.node in
      by_call (λ (x : Call). GoesBack g (after x t).node)
      (λ x leaves.
      (let h : Leaves n (after x t).node = call_leaves x t leaves p.0 in
      let again = same_again h in
      goes_back g (after x t).node n.start (ap (λ (m : PlainNode). m.start) again) (leaves_restartable n (after x t).node h b.restartable) (subst IsSound (sym again) b.sound) b.reached b.is))
      (let at = saved_base n b.restartable in
      let x = advance_saves t p.0 in
      let fits = saved_fits g n p.1 b in
      let again = x.again ∙ again_saved n at in
      goes_back g (after Advance t).node (saved_start n) (ap (λ (m : PlainNode). m.start) again) (saved_restartable n (after Advance t).node at x) (subst IsSound (sym again) (saved_sound n p.0 at)) fits.0 fits.1)
      (λ i. unless_compacted n i are p.0 b (compact_fault n.log i (min n.applied n.log.durable)) refl)
      d

  -- ---- a network

  record AllBack (s : Network) : Type 0 where
    suit : AllSuit (timeline chosen c base good) s
    back : (k : ℕ) (n : PlainNode) → slice_get s.nodes k ≡ Some n → GoesBack (timeline chosen c base good) n

  happens_back : (s : Network) (h : Happening) (o : Option PlainNode) → slice_get s.nodes h.place ≡ o → AreChosen chosen s.nodes → IsStateKnown s h.call → AllBack s → AllBack (happened_to o s h)
  happens_back s h None at are known a = a
  happens_back s h (Some n) at are known a =
      let t = node_step n h.told in
      record {
        suit = happened_suits chosen c base good s h (Some n) at are known a.suit;
        back = λ k x is.
            each_set (λ (j : ℕ) (y : PlainNode). GoesBack (timeline chosen c base good) y) s.nodes h.place n (after h.call t).node at
            (calls_back h.call t (λ j past upto. are h.place j n at past upto) (a.suit.nodes h.place n at) (a.back h.place n at)) (λ j y _ there. a.back j y there) k x is;
      }

  restarts_back : (s : Network) (place : ℕ) (o : Option PlainNode) → slice_get s.nodes place ≡ o → AllBack s → AllBack (restarted_to o s place)
  restarts_back s place None at a = a
  restarts_back s place (Some n) at a =
      let g = timeline chosen c base good in
      let b = a.back place n at in
      let y = restarted n in
      record {
        suit = record {
          nodes = λ k x is.
              each_set (λ (j : ℕ) (z : PlainNode). Both g z) s.nodes place n y at (b.sound, record { reached = b.reached; is = b.is; sent = All-nil (Fits g); waiting = All-nil (Fits g) })
              (λ j z _ there. a.suit.nodes j z there) k x is;
          said = a.suit.said;
        };
        back = λ k x is.
            each_set (λ (j : ℕ) (z : PlainNode). GoesBack g z) s.nodes place n y at
            (record { restartable = restarted_restartable n b.sound; sound = subst IsSound (sym (again_twice n)) b.sound; reached = b.reached; is = b.is }) (λ j z _ there. a.back j z there) k x is;
      }

  pass_back : (os : List Occurrence) (s : Network) → AreAgreedThrough chosen os s → AllBack s → AllBack (passed os s)
  pass_back [] s agreed a = a
  pass_back (Called h ∷ os) s agreed a = pass_back os (occurred s (Called h)) agreed.1 (happens_back s h (slice_get s.nodes h.place) refl agreed.0.0 agreed.0.1 a)
  pass_back (Restarted place ∷ os) s agreed a = pass_back os (occurred s (Restarted place)) agreed.1 (restarts_back s place (slice_get s.nodes place) refl a)

begun_back : (chosen : ℕ → Entry) (s : Network) (a : StartsAlike s) (good : IsConfig (config_of a.members)) → AllBack chosen (config_of a.members) a.index good s
begun_back chosen s a good =
    let c = config_of a.members in
    let g = timeline chosen c a.index good in
    let suit = begun_suits chosen s a good in
    record {
      suit = suit;
      back = λ k n at.
          (let is : IsStarted a.members (k + 1) n = a.begun.started k n at in
          let p = suit.nodes k n at in
          let same : restarted n ≡ n = ap restarted is.is ∙ restarted_started (k + 1) is.start is.options ∙ sym is.is in
          let applied : n.applied ≡ n.start.index = ap (λ (x : PlainNode). x.applied) is.is ∙ ap (λ (x : PlainNode). x.start.index) (sym is.is) in
          let config : config_of n.start.config ≡ n.tracker.config = ap (λ (x : PlainNode). config_of x.start.config) is.is ∙ ap (λ (x : PlainNode). x.tracker.config) (sym is.is) in
          record {
            restartable = subst IsRestartable (sym is.is) (started_restartable (k + 1) is.start is.options);
            sound = subst IsSound (sym same) p.0;
            reached = (let low = p.1.reached in omega (arith, low, applied));
            is = config ∙ p.1.is ∙ ap g.conf applied;
          });
    }

-- ---- the laws

pub config_is_applied : (chosen : ℕ → Entry) (s : Network) (os : List Occurrence) (k : ℕ) (n : PlainNode) → (a : StartsAlike s) → IsConfig (config_of a.members) → AreAgreedThrough chosen os s → slice_get (passed os s).nodes k ≡ Some n
    → n.tracker.config ≡ config_after_all chosen (config_of a.members) a.index (n.applied - a.index)
config_is_applied chosen s os k n a good agreed at = ((pass_back chosen (config_of a.members) a.index good os s agreed (begun_back chosen s a good)).suit.nodes k n at).1.is

pub configs_same : (chosen : ℕ → Entry) (s : Network) (earlier later : List Occurrence) (j k : ℕ) (n m : PlainNode) → (a : StartsAlike s) → IsConfig (config_of a.members) → AreAgreedThrough chosen earlier s → AreAgreedThrough chosen later (passed earlier s)
    → slice_get (passed earlier s).nodes j ≡ Some n → slice_get (passed later (passed earlier s)).nodes k ≡ Some m → n.applied ≡ m.applied → n.tracker.config ≡ m.tracker.config
configs_same chosen s earlier later j k n m a good agreed agreed_still at there same =
    let c = config_of a.members in
    let first = pass_back chosen c a.index good earlier s agreed (begun_back chosen s a good) in
    let second = pass_back chosen c a.index good later (passed earlier s) agreed_still first in
    (first.suit.nodes j n at).1.is ∙ ap (λ (i : ℕ). config_after_all chosen c a.index (i - a.index)) same ∙ sym (second.suit.nodes k m there).1.is
