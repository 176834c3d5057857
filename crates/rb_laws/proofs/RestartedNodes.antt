-- What holds of a network through all that happens in it holds where nodes restart, too; and two leaders of one term are one node
use Rattle.std.proofs.Common.{◌≡◌, ℕ, ◌+◌, ◌-◌, true, List, [], ◌∷◌, ◌++◌, Option, Some, None, Ok, min, refl, sym, ap, subst, ◌∙◌, arith, inl, inr}
use Rattle.std.specs.Prelude.{All, Contains, slice_get, slice_set}
use Rattle.std.proofs.lemmas.Bool.{cases_eq}
use Rattle.std.proofs.lemmas.List.Elements.{All-nil, All-drop, All-take, Contains-append_cases}
use Rattle.rb_raftlog.specs.declared.raft_log.CompactFault.{CompactFault}
use Rattle.rb_raftlog.specs.declared.snapshot.Snapshot.{Snapshot}
use Rattle.rb_raftlog.specs.Log.{compact_fault, compacted, saved_entries}
use Rattle.rb_raftlog.specs.Log as logs
use Rattle.rb_tracker.proofs.SetLaws.{if_both}
use Rattle.rb_tracker.specs.Configs.{config_of, state_of}
use Rattle.rb_tracker.specs.declared.config.Config.{Config}
use Rattle.rb_message.specs.declared.event.Event.{Event}
use Rattle.rb_message.specs.declared.message.Message.{Message}
use Rattle.rb_node.specs.Compacting.{entries_to, config_after, start_at}
use Rattle.rb_node.specs.Node.{PlainNode, NodeStep, node_step}
use Rattle.rb_node.specs.Readying.{saved_start}
use Rattle.rb_node.specs.Restarting.{restarted}
use Rattle.rb_node.specs.Sends.{snapshot_of}
use Rattle.rb_calls.specs.Calling.{Call, Advance, Compact, after, compacted_unless}
use Rattle.rb_calls.specs.Sound.{IsSound}
use Rattle.rb_calls.specs.Words.{IsYes, IsPromised}
use Rattle.rb_laws.proofs.PromiseLaws.{Kept, NoYes}
use Rattle.rb_laws.specs.Honesty.{IsPlain, Keeps as KeepsConfig, IsHonestCall, IsGenuineCall}
use Rattle.rb_laws.specs.Network.{Network, Happening, put_out, happened_to}
use Rattle.rb_laws.specs.Restarts.{Occurrence, Called, Restarted, restarted_to, occurred, passed, IsHonestOccurrence, AreHonestThrough}
use Rattle.rb_calls.proofs.ListLaws.{set_here, set_elsewhere, set_cases, in_nothing}
use Rattle.rb_laws.proofs.Links.{Link, Extends}
use Rattle.rb_laws.proofs.Holding.{Setting, IsOwn, IsIn, essence, world_of, follower_stands, follower_leads}
use Rattle.rb_laws.proofs.NetworkLaws.{IsGood, IsGiven, IsSane, Since, pledged, out_own, called_network, called_sane}
use Rattle.rb_laws.proofs.RestartedLogs.{again_with, again_twice, IsRestartable, restarted_restartable, saved_base, saved_again, again_saved, saved_sound, plain_config, CompactsTo, compacts_to, compacted_sound, by_call, leaves_restartable, saved_restartable}
use Rattle.rb_laws.proofs.SavedStates.{LeavesSaved, Leaves, call_leaves, same_again, HasSaved, advance_saves}

-- ---- what holds of what is saved

-- of the node that a restart puts in a place
pub record IsSavedWell (g : Setting) (said : List Message) (place : ℕ) (y : PlainNode) : Type 0 where
  pub sound : IsSound y
  pub itself : y.id ≡ place + 1
  pub config : y.tracker.config ≡ g.config
  pub plain : All IsPlain y.log.entries
  pub given : (m : Message) → Contains said m → IsYes m → m.from ≡ place + 1 → IsPromised y m.term m.to

-- of a node, and of what it goes back to
pub record IsSafe (g : Setting) (said : List Message) (place : ℕ) (n : PlainNode) : Type 0 where
  pub well : IsSavedWell g said place (restarted n)
  pub restartable : IsRestartable n

pub record IsSaneWith (g : Setting) (s : Network) : Type 0 where
  pub sane : IsSane g s
  pub safe : (k : ℕ) (n : PlainNode) → slice_get s.nodes k ≡ Some n → IsSafe g s.said k n

-- and no link was lost
pub record SinceWith (g : Setting) (before : List Link) (s : Network) : Type 0 where
  pub with : IsSaneWith g s
  pub since : Extends before with.sane.links

still_well : (g : Setting) (said out : List Message) (k : ℕ) (y : PlainNode) → ((m : Message) → Contains out m → IsYes m → m.from ≡ k + 1 → ⊥) → IsSavedWell g said k y → IsSavedWell g (said ++ out) k y
still_well g said out k y none h = record {
  sound = h.sound;
  itself = h.itself;
  config = h.config;
  plain = h.plain;
  given = λ m among gives own.
      elim (Contains-append_cases said out m among) as (λ _. IsPromised y m.term m.to) [
        | inl before ↦ h.given m before gives own
        | inr now ↦ absurd (none m now gives own)
      ];
}

-- ---- an advance

-- the snapshot that it saves keeps the configuration
saved_config : (g : Setting) (n : PlainNode) → n.tracker.config ≡ g.config → config_of n.start.config ≡ g.config → config_of (saved_start n).config ≡ g.config
saved_config g n now then =
    if_both (λ (s : Snapshot). config_of s.config ≡ g.config) n.restored (snapshot_of n) n.start (λ _. ap (λ (c : Config). config_of (state_of c)) now ∙ g.back) (λ _. then)

-- of whom nothing waits
none_waits : (m : Message) → All (λ (a : Message). IsYes a → a.term ≡ m.term → a.to ≡ m.to) []
none_waits m = All-nil (λ (a : Message). IsYes a → a.term ≡ m.term → a.to ≡ m.to)

saves_well : (g : Setting) (s : Network) (place : ℕ) (n : PlainNode) → IsSane g s → slice_get s.nodes place ≡ Some n → IsSafe g s.said place n → IsSavedWell g (s.said ++ put_out Advance n) place (saved_again n)
saves_well g s place n sane at safe =
    let good = sane.good place n at in
    record {
      sound = saved_sound n good.sound (saved_base n safe.restartable);
      itself = good.holds.itself;
      config = saved_config g n good.holds.config safe.well.config;
      plain = good.holds.log;
      given = λ m among gives own. (let p = pledged g s place Advance n m sane at good among gives own in record { reached = p.reached; given = p.given; alone = none_waits m });
    }

-- ---- compacting

compacts_well : (g : Setting) (s : Network) (place i : ℕ) (n : PlainNode) → IsSound n → All IsPlain n.log.entries → IsSavedWell g s.said place (restarted n) → (c : CompactsTo n i)
    → IsSavedWell g s.said place (again_with n (start_at n i) (compacted (logs.restarted n.log n.start) i (Ok c.term)))
compacts_well g s place i n sound entries_plain h c =
    let entries = entries_to n i in
    let plain : config_after (config_of n.start.config) entries ≡ config_of n.start.config =
    plain_config (config_of n.start.config) entries (All-drop IsPlain (n.start.index - n.log.base) _ (All-take IsPlain (i - n.log.base) n.log.entries entries_plain)) in
    record {
      sound = compacted_sound n i sound h.sound c;
      itself = h.itself;
      config = ap (λ (x : Config). config_of (state_of x)) (plain ∙ h.config) ∙ g.back;
      plain = All-drop IsPlain (i - n.start.index) (saved_entries n.log) h.plain;
      given = λ m among gives own. (let p = h.given m among gives own in record { reached = p.reached; given = p.given; alone = none_waits m });
    }

-- ---- each call

-- the node goes back to what the call leaves
unless_compacted : (g : Setting) (s : Network) (place i : ℕ) (n : PlainNode) → IsSound n → All IsPlain n.log.entries → IsSafe g s.said place n → (o : Option CompactFault) → compact_fault n.log i (min n.applied n.log.durable) ≡ o → IsSafe g s.said place (compacted_unless o n i)
unless_compacted g s place i n sound plain safe (Some fault) is = safe
unless_compacted g s place i n sound plain safe None is =
    let c = compacts_to n i is sound safe.restartable in
    record {
      well = subst (λ (y : PlainNode). IsSavedWell g s.said place y) (sym c.again) (compacts_well g s place i n sound plain safe.well c);
      restartable = c.restartable;
    }

-- where no vote of the node is among what is put out
still_safe : (g : Setting) (said out : List Message) (k : ℕ) (n : PlainNode) → ((m : Message) → Contains out m → IsYes m → m.from ≡ k + 1 → ⊥) → IsSafe g said k n → IsSafe g (said ++ out) k n
still_safe g said out k n none h = record { well = still_well g said out k (restarted n) none h.well; restartable = h.restartable }

pub quiet : (c : Call) → LeavesSaved c → (n : PlainNode) → put_out c n ≡ []
quiet Advance leaves n = absurd leaves
quiet _ leaves n = refl

calls_safe : (g : Setting) (s : Network) (place : ℕ) (c : Call) (told : List Event) (n : PlainNode) → IsSane g s → slice_get s.nodes place ≡ Some n → IsSafe g s.said place n → IsSafe g (s.said ++ put_out c n) place (after c (node_step n told)).node
calls_safe g s place c told n sane at safe =
    let t : NodeStep = node_step n told in
    let good = sane.good place n at in
    by_call (λ (d : Call). IsSafe g (s.said ++ put_out d n) place (after d t).node)
    (λ d leaves.
    (let h : Leaves n (after d t).node = call_leaves d t leaves good.sound in
    let none : (m : Message) → Contains (put_out d n) m → IsYes m → m.from ≡ place + 1 → ⊥ = λ m now gives own. in_nothing (put_out d n) m (quiet d leaves n) now in
    record {
      well = subst (λ (y : PlainNode). IsSavedWell g (s.said ++ put_out d n) place y) (sym (same_again h)) (still_well g s.said (put_out d n) place (restarted n) none safe.well);
      restartable = leaves_restartable n (after d t).node h safe.restartable;
    }))
    (let b = saved_base n safe.restartable in
    let x : HasSaved n (after Advance t).node = advance_saves t good.sound in
    record {
      well = subst (λ (y : PlainNode). IsSavedWell g (s.said ++ put_out Advance n) place y) (sym (x.again ∙ again_saved n b)) (saves_well g s place n sane at safe);
      restartable = saved_restartable n (after Advance t).node b x;
    })
    (λ i.
    still_safe g s.said [] place (after (Compact i) t).node (λ m now gives own. in_nothing [] m refl now)
    (unless_compacted g s place i n good.sound good.holds.log safe (compact_fault n.log i (min n.applied n.log.durable)) refl))
    c

called_safe : (g : Setting) (s : Network) (place : ℕ) (c : Call) (told : List Event) (n : PlainNode) → slice_get s.nodes place ≡ Some n → IsSaneWith g s → (k : ℕ) (x : PlainNode) → slice_get (called_network s place c told n).nodes k ≡ Some x → IsSafe g (s.said ++ put_out c n) k x
called_safe g s place c told n at w k x is =
    let new = (after c (node_step n told)).node in
    let out = put_out c n in
    elim (set_cases s.nodes place new k x is) as (λ _. IsSafe g (s.said ++ out) k x) [
      | inl here ↦
          subst (λ (j : ℕ). IsSafe g (s.said ++ out) j x) (sym here.0)
          (subst (λ (z : PlainNode). IsSafe g (s.said ++ out) place z) (sym here.1) (calls_safe g s place c told n w.sane at (w.safe place n at)))
      | inr there ↦
          still_safe g s.said out k x
          (λ m now gives own. there.0 (let by = out_own g s.said w.sane.links place c n m (w.sane.good place n at) now gives in omega (arith, by, own))) (w.safe k x there.1)
    ]

pub called_since : (g : Setting) (s : Network) (place : ℕ) (c : Call) (told : List Event) (n : PlainNode) → slice_get s.nodes place ≡ Some n → (w : IsSaneWith g s) → IsHonestCall g.config s (place + 1) c → (g.strict ≡ true → IsGenuineCall s c) → SinceWith g w.sane.links (called_network s place c told n)
called_since g s place c told n at w honest genuine =
    let next = called_sane g s place c told n w.sane at honest genuine in
    record { with = record { sane = next.sane; safe = λ k x there. called_safe g s place c told n at w k x there }; since = next.since }

-- ---- a node restarts

-- the network after a node has restarted
abbrev pub restarted_network : Network → ℕ → PlainNode → Network
restarted_network s place n = record s { nodes = slice_set s.nodes place (restarted n) }

-- its log is of links that were made before
abbrev pub IsLinkedAgain : (g : Setting) (s : Network) → List Link → ℕ → PlainNode → Type 0
IsLinkedAgain g s links place n = g.strict ≡ true → IsIn g s.said (place + 1) links (essence (restarted n))

restarts_good : (g : Setting) (s : Network) (links : List Link) (place : ℕ) (n : PlainNode) → IsLinkedAgain g s links place n → IsSavedWell g s.said place (restarted n) → IsGood g s.said links place (restarted n)
restarts_good g s links place n linked well =
    let y = restarted n in
    record {
      sound = well.sound;
      promises = record { kept = All-nil (Kept y); none_sent = All-nil NoYes };
      holds = record {
        itself = well.itself;
        config = well.config;
        log = well.plain;
        sent = All-nil (KeepsConfig g.config);
        waiting = All-nil (IsOwn (world_of g s.said links place));
        stands = λ no. absurd (follower_stands no);
        leads = λ no. absurd (follower_leads no);
        linking = record { links = links; since = λ l among. among; own = λ l among. inl among; holds = linked };
      };
      linked = linked;
    }

restarts_sane : (g : Setting) (s : Network) (place : ℕ) (n : PlainNode) → IsSavedWell g s.said place (restarted n) → (sane : IsSane g s) → IsLinkedAgain g s sane.links place n → Since g sane.links (restarted_network s place n)
restarts_sane g s place n well sane linked =
    let y = restarted n in
    let nodes = slice_set s.nodes place y in
    record {
      sane = record {
        links = sane.links;
        good = λ k x at.
            elim (set_cases s.nodes place y k x at) as (λ _. IsGood g s.said sane.links k x) [
              | inl here ↦
                  subst (λ (j : ℕ). IsGood g s.said sane.links j x) (sym here.0)
                  (subst (λ (z : PlainNode). IsGood g s.said sane.links place z) (sym here.1) (restarts_good g s sane.links place n linked well))
              | inr there ↦ sane.good k x there.1
            ];
        fine = sane.fine;
        chains = sane.chains;
        given = λ m among gives.
            (let was = sane.given m among gives in
            elim (cases_eq was.place place) as (λ _. IsGiven nodes m) [
              | inl same ↦ record {
                place = place;
                node = y;
                stands = set_here s.nodes place was.node y (sym (ap (slice_get s.nodes) same) ∙ was.stands);
                by = was.by ∙ ap (λ (k : ℕ). k + 1) same;
                promised = well.given m among gives (was.by ∙ ap (λ (k : ℕ). k + 1) same);
              }
              | inr other ↦ record {
                place = was.place;
                node = was.node;
                stands = set_elsewhere s.nodes place was.place y other ∙ was.stands;
                by = was.by;
                promised = was.promised;
              }
            ]);
        once = sane.once;
      };
      since = λ l among. among;
    }

pub restarts_since : (g : Setting) (s : Network) (place : ℕ) (n : PlainNode) → slice_get s.nodes place ≡ Some n → (w : IsSaneWith g s) → IsLinkedAgain g s w.sane.links place n → SinceWith g w.sane.links (restarted_network s place n)
restarts_since g s place n at w linked =
    let safe = w.safe place n at in
    let y = restarted n in
    let again : IsSafe g s.said place y = record {
      well = subst (λ (z : PlainNode). IsSavedWell g s.said place z) (sym (again_twice n)) safe.well;
      restartable = restarted_restartable n safe.well.sound;
    } in
    let next = restarts_sane g s place n safe.well w.sane linked in
    record {
      with = record {
        sane = next.sane;
        safe = λ k x there.
            elim (set_cases s.nodes place y k x there) as (λ _. IsSafe g s.said k x) [
              | inl here ↦ subst (λ (j : ℕ). IsSafe g s.said j x) (sym here.0) (subst (λ (z : PlainNode). IsSafe g s.said place z) (sym here.1) again)
              | inr elsewhere ↦ w.safe k x elsewhere.1
            ];
      };
      since = next.since;
    }

-- ---- where links don't count

pub called_sane_with : (g : Setting) (loose : g.strict ≡ true → ⊥) (s : Network) (place : ℕ) (c : Call) (told : List Event) (n : PlainNode) → slice_get s.nodes place ≡ Some n → IsSaneWith g s → IsHonestCall g.config s (place + 1) c → IsSaneWith g (called_network s place c told n)
called_sane_with g loose s place c told n at w honest = (called_since g s place c told n at w honest (λ strict. absurd (loose strict))).with

pub restarts_safe : (g : Setting) (loose : g.strict ≡ true → ⊥) (s : Network) (place : ℕ) (n : PlainNode) → slice_get s.nodes place ≡ Some n → IsSaneWith g s → IsSaneWith g (restarted_network s place n)
restarts_safe g loose s place n at w = (restarts_since g s place n at w (λ strict. absurd (loose strict))).with

-- ---- all that happens

calls_to : (g : Setting) (loose : g.strict ≡ true → ⊥) (s : Network) (h : Happening) (o : Option PlainNode) → slice_get s.nodes h.place ≡ o → IsSaneWith g s → IsHonestOccurrence g.config s (Called h) → IsSaneWith g (happened_to o s h)
calls_to g loose s h None at w honest = w
calls_to g loose s h (Some n) at w honest = called_sane_with g loose s h.place h.call h.told n at w honest

restarts_to : (g : Setting) (loose : g.strict ≡ true → ⊥) (s : Network) (place : ℕ) (o : Option PlainNode) → slice_get s.nodes place ≡ o → IsSaneWith g s → IsSaneWith g (restarted_to o s place)
restarts_to g loose s place None at w = w
restarts_to g loose s place (Some n) at w = restarts_safe g loose s place n at w

pub occurs_sane : (g : Setting) (loose : g.strict ≡ true → ⊥) (s : Network) (o : Occurrence) → IsSaneWith g s → IsHonestOccurrence g.config s o → IsSaneWith g (occurred s o)
occurs_sane g loose s (Called h) w honest = calls_to g loose s h (slice_get s.nodes h.place) refl w honest
occurs_sane g loose s (Restarted place) w honest = restarts_to g loose s place (slice_get s.nodes place) refl w

pub pass_sane : (g : Setting) (loose : g.strict ≡ true → ⊥) (os : List Occurrence) (s : Network) → IsSaneWith g s → AreHonestThrough g.config os s → IsSaneWith g (passed os s)
pass_sane g loose [] s w honest = w
pass_sane g loose (o ∷ os) s w honest = pass_sane g loose os (occurred s o) (occurs_sane g loose s o w honest.0) honest.1
