-- What a node goes back to is linked as its log is, and it goes back past no term in which it made links. So links that a restart takes out of a log stay
-- the only ones of their index and term (Ongaro's thesis, sections 3.6.3 and 3.8).
use Rattle.std.proofs.Common.{◌≡◌, ℕ, ◌+◌, ◌<◌, true, List, [], ◌∷◌, Option, Some, None, Ok, min, refl, sym, ap, subst, ◌∙◌, arith}
use Rattle.std.specs.Prelude.{slice_get}
use Rattle.std.proofs.lemmas.List.Elements.{All-nil}
use Rattle.rb_vocab.specs.declared.conf_state.ConfState.{ConfState}
use Rattle.rb_raftlog.specs.declared.raft_log.CompactFault.{CompactFault}
use Rattle.rb_raftlog.specs.Laws.{AreMatching}
use Rattle.rb_raftlog.specs.Log.{term_at, compact_fault, made_durable}
use Rattle.rb_raftlog.specs.Log as logs
use Rattle.rb_raftlog.proofs.TermLaws.{same_term}
use Rattle.rb_tracker.specs.Configs.{config_of}
use Rattle.rb_message.specs.declared.event.Event.{Event}
use Rattle.rb_message.specs.declared.role.Role.TheVariants.{Leader}
use Rattle.rb_node.specs.Node.{PlainNode, NodeStep, node_step, started}
use Rattle.rb_node.specs.Restarting.{restarted}
use Rattle.rb_calls.specs.Calling.{Call, after, compacted_unless}
use Rattle.rb_laws.specs.Honesty.{IsHonestCall, IsGenuineCall}
use Rattle.rb_laws.specs.Network.{Network, Happening, happened_to, IsStarted, IsBegun}
use Rattle.rb_laws.specs.Restarts.{Occurrence, Called, Restarted, restarted_to, occurred, passed, IsHonestOccurrence, IsGenuineOccurrence, IsAskedCall, AreHonestThrough, AreGenuineThrough}
use Rattle.rb_calls.specs.Sound.{IsSound}
use Rattle.rb_laws.proofs.AskedVotes.{AreAsked, called_asked, restarted_asked, begun_asked, elected_saved}
use Rattle.rb_laws.proofs.Holding.{Setting, IsElected, IsChain, IsIn, essence, follower_stands, follower_leads}
use Rattle.rb_laws.proofs.LinkedLogs.{none_linked, compacted_linked}
use Rattle.rb_laws.proofs.Links.{Link, Extends, IsLinked, still_linked, linked_match}
use Rattle.rb_calls.proofs.ListLaws.{each_set, in_nothing}
use Rattle.rb_laws.proofs.NetworkLaws.{called_network}
use Rattle.rb_laws.proofs.RestartedLogs.{again_twice, same_durable, IsRestartable, restarted_started, saved_base, again_saved, compacts_to, by_call}
use Rattle.rb_laws.proofs.RestartedNodes.{IsSaneWith, SinceWith, called_since, restarted_network, restarts_since}
use Rattle.rb_laws.proofs.RestartMoments.{begun_with}
use Rattle.rb_laws.proofs.SafetyLaws.{setting_of}
use Rattle.rb_laws.proofs.SavedStates.{call_leaves, same_again, advance_saves}

pub record IsStrict (s : Network) (links : List Link) : Type 0 where
  pub asked : AreAsked s
  pub linked : (k : ℕ) (n : PlainNode) → slice_get s.nodes k ≡ Some n → IsLinked links (restarted n).log

-- a network in which links count
pub record IsStrictWith (g : Setting) (before : List Link) (s : Network) : Type 0 where
  pub since : SinceWith g before s
  pub strictly : IsStrict s since.with.sane.links

-- ---- a call

unless_compacted : (links : List Link) (n : PlainNode) (i : ℕ) → IsSound n → IsRestartable n → IsLinked links (restarted n).log → (o : Option CompactFault) → compact_fault n.log i (min n.applied n.log.durable) ≡ o → IsLinked links (restarted (compacted_unless o n i)).log
unless_compacted links n i s r linked (Some fault) is = linked
unless_compacted links n i s r linked None is =
    let c = compacts_to n i is s r in
    let v = logs.restarted n.log n.start in
    let index = c.index in
    let past = c.low in
    let low : v.base < i = omega (arith, index, past) in
    let at : term_at v i ≡ Ok c.term = same_term n.log v n.log.durable i (same_durable n.log n.start c.index c.base_term s.within) c.durable ∙ c.held in
    subst (λ (y : PlainNode). IsLinked links y.log) (sym c.again) (compacted_linked links v i (Ok c.term) low at linked)

pub linked_after : (old new : List Link) (c : Call) (t : NodeStep) → Extends old new → IsSound t.node → IsRestartable t.node → IsLinked old t.node.log → IsLinked old (restarted t.node).log → IsLinked new (restarted (after c t).node).log
linked_after old new c t more s r linked again =
    let n = t.node in
    let still : IsLinked new (restarted n).log = still_linked old new (restarted n).log more again in
    by_call (λ (d : Call). IsLinked new (restarted (after d t).node).log)
    (λ d leaves. subst (λ (y : PlainNode). IsLinked new y.log) (sym (same_again (call_leaves d t leaves s))) still)
    (let same = (advance_saves t s).again ∙ again_saved n (saved_base n r) in
    let all : IsLinked new (made_durable n.log) = still_linked old new n.log more linked in
    subst (λ (y : PlainNode). IsLinked new y.log) (sym same) all)
    (λ i. unless_compacted new n i s r still (compact_fault n.log i (min n.applied n.log.durable)) refl)
    c

pub called_strict : (g : Setting) (strict : g.strict ≡ true) (s : Network) (before : List Link) (place : ℕ) (c : Call) (n : PlainNode) (told : List Event) → slice_get s.nodes place ≡ Some n → IsHonestCall g.config s (place + 1) c → IsGenuineCall s c → IsAskedCall s.said c → IsStrictWith g before s
    → IsStrictWith g before (called_network s place c told n)
called_strict g strict s before place c n told at honest genuine asked x =
    let w = x.since.with in
    let good = w.sane.good place n at in
    let t : NodeStep = node_step n told in
    let next = called_since g s place c told n at w honest (λ _. genuine) in
    let links = w.sane.links in
    let new = next.with.sane.links in
    record {
      since = record { with = next.with; since = λ l among. next.since l (x.since.since l among) };
      strictly = record {
        asked = called_asked s place c told n at good.sound good.promises asked x.strictly.asked;
        linked = λ k y is.
            each_set (λ (j : ℕ) (z : PlainNode). IsLinked new (restarted z).log) s.nodes place n (after c t).node at
            (linked_after links new c t next.since good.sound (w.safe place n at).restartable (good.linked strict).logged (x.strictly.linked place n at))
            (λ j z _ there. still_linked links new (restarted z).log next.since (x.strictly.linked j z there)) k y is;
      };
    }

-- ---- a restart

-- links that it made are of terms that it has saved
linked_again : (g : Setting) (strict : g.strict ≡ true) (s : Network) (place : ℕ) (n : PlainNode) → slice_get s.nodes place ≡ Some n → (w : IsSaneWith g s) → IsStrict s w.sane.links → IsIn g s.said (place + 1) w.sane.links (essence (restarted n))
linked_again g strict s place n at w x =
    let links = w.sane.links in
    let old : IsIn g s.said (place + 1) links (essence n) = (w.sane.good place n at).linked strict in
    record {
      once = old.once;
      single = old.single;
      made = old.made;
      logged = x.linked place n at;
      sent = All-nil (IsChain links);
      waiting = All-nil (IsChain links);
      past = λ l among own. elected_saved g s place l.entry.term n x.asked at (subst (λ (id : ℕ). IsElected g s.said id l.entry.term) own (old.made l among));
      stands = λ no. absurd (follower_stands no);
      leads = λ no. absurd (follower_leads no);
    }

pub restarted_strict : (g : Setting) (strict : g.strict ≡ true) (s : Network) (before : List Link) (place : ℕ) (n : PlainNode) → slice_get s.nodes place ≡ Some n → IsStrictWith g before s → IsStrictWith g before (restarted_network s place n)
restarted_strict g strict s before place n at x =
    let w = x.since.with in
    let links = w.sane.links in
    let next = restarts_since g s place n at w (λ _. linked_again g strict s place n at w x.strictly) in
    let new = next.with.sane.links in
    let again : IsLinked links (restarted (restarted n)).log = subst (λ (y : PlainNode). IsLinked links y.log) (sym (again_twice n)) (x.strictly.linked place n at) in
    record {
      since = record { with = next.with; since = λ l among. next.since l (x.since.since l among) };
      strictly = record {
        asked = restarted_asked s place n at x.strictly.asked;
        linked = λ k y is.
            still_linked links new (restarted y).log next.since
            (each_set (λ (j : ℕ) (z : PlainNode). IsLinked links (restarted z).log) s.nodes place n (restarted n) at again (λ j z _ there. x.strictly.linked j z there) k y is);
      };
    }

-- ---- the beginning

pub begun_strict : (members : ConfState) (single : members.outgoing ≡ []) (s : Network) → IsBegun members s → IsStrictWith (setting_of true members single) [] s
begun_strict members single s b =
    let w = begun_with true members single s b in
    let links = w.sane.links in
    record {
      since = record { with = w; since = λ l among. absurd (in_nothing [] l refl among) };
      strictly = record {
        asked = begun_asked members s b;
        linked = λ k n at.
            (let is : IsStarted members (k + 1) n = b.started k n at in
            let same = ap restarted is.is ∙ restarted_started (k + 1) is.start is.options in
            subst (λ (y : PlainNode). IsLinked links y.log) (sym same) (none_linked links (started (k + 1) is.start is.options).log refl));
      };
    }

-- ---- all that happens

calls_to : (g : Setting) (strict : g.strict ≡ true) (before : List Link) (s : Network) (h : Happening) (o : Option PlainNode) → slice_get s.nodes h.place ≡ o → IsHonestOccurrence g.config s (Called h) → IsGenuineOccurrence s (Called h) → IsStrictWith g before s → IsStrictWith g before (happened_to o s h)
calls_to g strict before s h None at honest genuine x = x
calls_to g strict before s h (Some n) at honest genuine x = called_strict g strict s before h.place h.call n h.told at honest genuine.0 genuine.1 x

restarts_to : (g : Setting) (strict : g.strict ≡ true) (before : List Link) (s : Network) (place : ℕ) (o : Option PlainNode) → slice_get s.nodes place ≡ o → IsStrictWith g before s → IsStrictWith g before (restarted_to o s place)
restarts_to g strict before s place None at x = x
restarts_to g strict before s place (Some n) at x = restarted_strict g strict s before place n at x

pub pass_strict : (g : Setting) (strict : g.strict ≡ true) (before : List Link) (os : List Occurrence) (s : Network) → AreHonestThrough g.config os s → AreGenuineThrough os s → IsStrictWith g before s → IsStrictWith g before (passed os s)
pass_strict g strict before [] s honest genuine x = x
pass_strict g strict before (Called h ∷ os) s honest genuine x =
    pass_strict g strict before os (occurred s (Called h)) honest.1 genuine.1 (calls_to g strict before s h (slice_get s.nodes h.place) refl honest.0 genuine.0 x)
pass_strict g strict before (Restarted place ∷ os) s honest genuine x =
    pass_strict g strict before os (occurred s (Restarted place)) honest.1 genuine.1 (restarts_to g strict before s place (slice_get s.nodes place) refl x)

-- from here on
pub from_here : {g : Setting} {before : List Link} {s : Network} → (x : IsStrictWith g before s) → IsStrictWith g x.since.with.sane.links s
from_here x = record { since = record { with = x.since.with; since = λ l among. among }; strictly = x.strictly }

-- ---- the laws

pub logs_match : (members : ConfState) (s : Network) (earlier later : List Occurrence) (j k : ℕ) (first second : PlainNode) → members.outgoing ≡ [] → IsBegun members s → AreHonestThrough (config_of members) earlier s → AreHonestThrough (config_of members) later (passed earlier s) → AreGenuineThrough earlier s → AreGenuineThrough later (passed earlier s)
    → slice_get (passed earlier s).nodes j ≡ Some first → slice_get (passed later (passed earlier s)).nodes k ≡ Some second → AreMatching first.log second.log
unfolding setting_of
logs_match members s earlier later j k first second single begun honest honest_still genuine genuine_still at there =
    let g = setting_of true members single in
    let t = passed earlier s in
    let x : IsStrictWith g [] t = pass_strict g refl [] earlier s honest genuine (begun_strict members single s begun) in
    let then = x.since.with.sane in
    let y : IsStrictWith g then.links (passed later t) = pass_strict g refl then.links later t honest_still genuine_still (from_here x) in
    let now = y.since.with.sane in
    let a : IsIn g t.said (j + 1) then.links (essence first) = (then.good j first at).linked refl in
    let b : IsIn g (passed later t).said (k + 1) now.links (essence second) = (now.good k second there).linked refl in
    linked_match now.links first.log second.log b.single (still_linked then.links now.links first.log y.since.since a.logged) b.logged

-- a node leads in a term that it has saved
pub leads_saved : (g : Setting) (before : List Link) (s : Network) (k : ℕ) (n : PlainNode) → IsStrictWith g before s → slice_get s.nodes k ≡ Some n → n.role ≡ Leader → n.saved.term ≡ n.term
leads_saved g before s k n x at leads =
    let low = elected_saved g s k n.term n x.strictly.asked at ((x.since.with.sane.good k n at).holds.leads leads) in
    let high = (x.strictly.asked.nodes k n at).saved in
    omega (arith, low, high)

pub leader_saved : (members : ConfState) (s : Network) (os : List Occurrence) (k : ℕ) (n : PlainNode) → members.outgoing ≡ [] → IsBegun members s → AreHonestThrough (config_of members) os s → AreGenuineThrough os s → slice_get (passed os s).nodes k ≡ Some n → n.role ≡ Leader → n.saved.term ≡ n.term
unfolding setting_of
leader_saved members s os k n single begun honest genuine at leads =
    let g = setting_of true members single in
    leads_saved g [] (passed os s) k n (pass_strict g refl [] os s honest genuine (begun_strict members single s begun)) at leads
