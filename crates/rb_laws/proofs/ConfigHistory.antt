-- The configurations of a network's nodes, as members change: each is that of its node's applied index
use Rattle.std.proofs.Common.{◌≡◌, ℕ, zero, suc, ◌+◌, ◌-◌, ◌<◌, ◌≤◌, List, [], ◌∷◌, Option, Some, None, Ok, refl, sym, ap, subst, ◌∙◌, arith, inl, inr}
use Rattle.std.specs.Prelude.{All, slice_get}
use Rattle.std.proofs.lemmas.List.Elements.{All-nil, All-append, All-contains}
use Rattle.rb_raftlog.proofs.PlaceLaws.{between-entries, ok_is}
use Rattle.rb_raftlog.specs.declared.entry.Entry.{Entry}
use Rattle.rb_raftlog.specs.Log.{entry_at}
use Rattle.rb_tracker.specs.Changes.{IsConfig}
use Rattle.rb_tracker.specs.Configs.{config_of}
use Rattle.rb_tracker.specs.declared.config.Config.{Config}
use Rattle.rb_message.specs.declared.kind.MessageKind.{MessageKind}
use Rattle.rb_message.specs.declared.kind.MessageKind.TheVariants as kind
use Rattle.rb_node.specs.Compacting.{config_with}
use Rattle.rb_node.specs.Node.{PlainNode, node_step}
use Rattle.rb_node.specs.Readying.{applying}
use Rattle.rb_calls.specs.Calling.{Call, Step, Advance, after}
use Rattle.rb_laws.specs.Configurations.{config_after_all, AreChosen, BringsNoState, IsStateKnown, AreAgreed}
use Rattle.rb_laws.specs.Network.{Network, Happening, put_out, happened_to, happened, run, IsStarted}
use Rattle.rb_laws.specs.Safety.{StartsAlike}
use Rattle.rb_laws.proofs.Applied.{body_good}
use Rattle.rb_laws.proofs.AppliedConfigs.{Timeline, Fits, FitsBy, Suit, Both, Brings, Make, state_fits, called_suits}
use Rattle.rb_calls.proofs.ListLaws.{each_set}

-- ---- the configuration of each index

pub all_good : (chosen : ℕ → Entry) (c : Config) (base k : ℕ) → IsConfig c → IsConfig (config_after_all chosen c base k)
all_good chosen c base zero good = good
all_good chosen c base (suc k) good = body_good (chosen (base + suc k)).body (config_after_all chosen c base k) (all_good chosen c base k good)

abbrev pub timeline : (chosen : ℕ → Entry) (c : Config) (base : ℕ) → IsConfig c → Timeline
timeline chosen c base good = record { base = base; conf = λ i. config_after_all chosen c base (i - base); good = λ i. all_good chosen c base (i - base) good }

pub makes_next : (chosen : ℕ → Entry) (c : Config) (base i : ℕ) → base ≤ i → config_after_all chosen c base (i + 1 - base) ≡ config_with (config_after_all chosen c base (i - base)) (chosen (i + 1)).body
makes_next chosen c base i low =
    let steps : i + 1 - base ≡ suc (i - base) = omega (arith, low) in
    let place : base + suc (i - base) ≡ i + 1 = omega (arith, low) in
    ap (config_after_all chosen c base) steps ∙ ap (λ (j : ℕ). config_with (config_after_all chosen c base (i - base)) (chosen j).body) place

-- ---- a network

pub record AllSuit (g : Timeline) (s : Network) : Type 0 where
  pub nodes : (k : ℕ) (n : PlainNode) → slice_get s.nodes k ≡ Some n → Both g n
  pub said : All (Fits g) s.said

none_brought : (g : Timeline) (k : MessageKind) → BringsNoState k → FitsBy g k
none_brought g (kind.Snapshot snapshot) none = absurd none
none_brought g _ none = tt

brings : (g : Timeline) (s : Network) (c : Call) → IsStateKnown s c → AllSuit g s → Brings g c
brings g s (Step m) known a =
    elim known as (λ _. Fits g m) [
      | inl said ↦ All-contains (Fits g) s.said m a.said said
      | inr other ↦ elim other as (λ _. Fits g m) [
        | inl state ↦ (let h = (a.nodes state.place state.node state.at).1 in subst (FitsBy g) (sym state.is) (state_fits g state.node h.is))
        | inr none ↦ none_brought g m.kind none
      ]
    ]
brings g s _ known a = tt

out_of_call : (g : Timeline) (c : Call) (n : PlainNode) → Suit g n → All (Fits g) (put_out c n)
out_of_call g Advance n h = All-append (Fits g) n.sent n.waiting h.sent h.waiting
out_of_call g _ n h = All-nil (Fits g)

module _ (chosen : ℕ → Entry) (c : Config) (base : ℕ) (good : IsConfig c) where
  all_made : (s : Network) (k : ℕ) (n : PlainNode) → AreChosen chosen s.nodes → slice_get s.nodes k ≡ Some n → Both (timeline chosen c base good) n → Make (timeline chosen c base good) n.applied (applying n)
  all_made s k n are at p j e is =
      let x = p.0 in
      let low = p.1.reached in
      let above = x.past_base in
      let there = between-entries n.log n.applied n.commit j e above is in
      let i = n.applied + j in
      let next : n.applied + 1 + j ≡ i + 1 = omega arith in
      let past : n.log.base < i + 1 = omega (arith, above) in
      let upto = there.1 in
      let known : i + 1 ≤ n.commit = omega (arith, upto) in
      let held : entry_at n.log (i + 1) ≡ Ok e = ap (entry_at n.log) (sym next) ∙ there.0 in
      let same : chosen (i + 1) ≡ e = ok_is (entry_at n.log (i + 1)) (chosen (i + 1)) e (are k (i + 1) n at past known) held in
      ap (λ (x : ℕ). config_after_all chosen c base (x - base)) next ∙ makes_next chosen c base i (omega (arith, low))
      ∙ ap (λ (x : Entry). config_with (config_after_all chosen c base (i - base)) x.body) same

  pub happened_suits : (s : Network) (h : Happening) (o : Option PlainNode) → slice_get s.nodes h.place ≡ o → AreChosen chosen s.nodes → IsStateKnown s h.call → AllSuit (timeline chosen c base good) s → AllSuit (timeline chosen c base good) (happened_to o s h)
  happened_suits s h None at are known a = a
  happened_suits s h (Some n) at are known a =
      let g = timeline chosen c base good in
      let p = a.nodes h.place n at in
      let t = node_step n h.told in
      let new = (after h.call t).node in
      record {
        nodes = each_set (λ (k : ℕ) (x : PlainNode). Both g x) s.nodes h.place n new at (called_suits g h.call t (brings g s h.call known a) (all_made s h.place n are at p) p) (λ j x _ there. a.nodes j x there);
        said = All-append (Fits g) s.said (put_out h.call n) a.said (out_of_call g h.call n p.1);
      }

  run_suits : (hs : List Happening) (s : Network) → AreAgreed chosen hs s → AllSuit (timeline chosen c base good) s → AllSuit (timeline chosen c base good) (run hs s)
  run_suits [] s agreed a = a
  run_suits (h ∷ hs) s agreed a = run_suits hs (happened s h) agreed.1 (happened_suits s h (slice_get s.nodes h.place) refl agreed.0.0 agreed.0.1 a)

pub begun_suits : (chosen : ℕ → Entry) (s : Network) (a : StartsAlike s) (good : IsConfig (config_of a.members)) → AllSuit (timeline chosen (config_of a.members) a.index good) s
begun_suits chosen s a good =
    let c = config_of a.members in
    let g = timeline chosen c a.index good in
    record {
      nodes = λ k n at.
          (let is : IsStarted a.members (k + 1) n = a.begun.started k n at in
          let start = is.start in
          let base : start.index ≡ a.index = ap (λ (x : PlainNode). x.log.base) (sym is.is) ∙ (a.begins k n at).0 in
          let none : 0 ≡ start.index - a.index = omega (arith, base) in
          subst (Both g) (sym is.is) (
            record { past_base = omega arith; is_durable = omega arith; within = omega arith; is_committed = omega arith; is_held = omega arith },
            record {
              reached = omega (arith, base);
              is = ap config_of is.config ∙ ap (config_after_all chosen c a.index) none;
              sent = All-nil (Fits g);
              waiting = All-nil (Fits g);
            },
          ));
      said = subst (All (Fits g)) (sym a.begun.silent) (All-nil (Fits g));
    }

-- ---- the laws

pub config_is_applied : (chosen : ℕ → Entry) (s : Network) (hs : List Happening) (k : ℕ) (n : PlainNode) → (a : StartsAlike s) → IsConfig (config_of a.members) → AreAgreed chosen hs s → slice_get (run hs s).nodes k ≡ Some n
    → n.tracker.config ≡ config_after_all chosen (config_of a.members) a.index (n.applied - a.index)
config_is_applied chosen s hs k n a good agreed at = ((run_suits chosen (config_of a.members) a.index good hs s agreed (begun_suits chosen s a good)).nodes k n at).1.is

pub configs_same : (chosen : ℕ → Entry) (s : Network) (earlier later : List Happening) (j k : ℕ) (n m : PlainNode) → (a : StartsAlike s) → IsConfig (config_of a.members) → AreAgreed chosen earlier s → AreAgreed chosen later (run earlier s)
    → slice_get (run earlier s).nodes j ≡ Some n → slice_get (run later (run earlier s)).nodes k ≡ Some m → n.applied ≡ m.applied → n.tracker.config ≡ m.tracker.config
configs_same chosen s earlier later j k n m a good agreed agreed_still at there same =
    let c = config_of a.members in
    let first = run_suits chosen c a.index good earlier s agreed (begun_suits chosen s a good) in
    let second = run_suits chosen c a.index good later (run earlier s) agreed_still first in
    (first.nodes j n at).1.is ∙ ap (λ (i : ℕ). config_after_all chosen c a.index (i - a.index)) same ∙ sym (second.nodes k m there).1.is
