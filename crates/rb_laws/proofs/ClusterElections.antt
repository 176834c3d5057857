-- Election safety and log matching of a script's cluster, at any two points, where nodes may restart
use Rattle.std.proofs.Common.{◌≡◌, ◌⊎◌, ℕ, ◌+◌, ◌≤◌, true, false, List, [], ◌∷◌, ◌++◌, append_assoc, Some, refl, sym, ap, subst, ◌∙◌, arith, inl, inr}
use Rattle.std.specs.Prelude.{Contains, slice_get, slice_set}
use Rattle.std.proofs.lemmas.Bool.{cases_lt}
use Rattle.std.proofs.lemmas.List.Elements.{All-nil, Contains-append_left, Contains-append_right, Contains-append_cases, Contains-push_cases}
use Rattle.rb_script.specs.Directive.{PlainDirective}
use Rattle.rb_script.specs.Script.{PlainScript}
use Rattle.rb_vocab.specs.declared.conf_state.ConfState.{ConfState}
use Rattle.rb_raftlog.specs.declared.snapshot.Snapshot.{Snapshot}
use Rattle.rb_raftlog.specs.Laws.{AreMatching}
use Rattle.rb_tracker.specs.Configs.{config_of, state_of}
use Rattle.rb_tracker.specs.declared.config.Config.{Config}
use Rattle.rb_message.specs.declared.kind.MessageKind.TheVariants as kind
use Rattle.rb_message.specs.declared.message.Message.{Message}
use Rattle.rb_message.specs.declared.role.Role.TheVariants.{Leader}
use Rattle.rb_node.specs.Node.{PlainNode, NodeStep, message}
use Rattle.rb_node.specs.Restarting.{restarted}
use Rattle.rb_node.specs.Sends.{snapshot_of}
use Rattle.rb_machine.specs.AddNodes.{start}
use Rattle.rb_machine.specs.Cluster.{Cluster, empty}
use Rattle.rb_replay.specs.Run.{directives, led, state}
use Rattle.rb_calls.specs.Calling.{Call, Advance, after}
use Rattle.rb_laws.specs.Clusters.{AreSteady, HasSameMembers}
use Rattle.rb_laws.specs.Honesty.{Keeps}
use Rattle.rb_laws.specs.Network.{Network, put_out, Leads}
use Rattle.rb_laws.proofs.ClusterLaws.{come_after, first_network, begun_with, start_single, matching_back}
use Rattle.rb_laws.proofs.DirectiveLaws.{IsBrought, Lasts}
use Rattle.rb_laws.proofs.Electing.{one_elected}
use Rattle.rb_laws.proofs.Holding.{Setting, IsElected, IsIn, essence, still_elected}
use Rattle.rb_laws.proofs.JoinLaws.{Joins, all_join, get_before, set_before, two_points}
use Rattle.rb_laws.proofs.Links.{Link, still_linked, linked_match}
use Rattle.rb_calls.proofs.ListLaws.{in_nothing}
use Rattle.rb_laws.proofs.NetworkLaws.{called_network}
use Rattle.rb_laws.proofs.RestartedNodes.{restarted_network}
use Rattle.rb_laws.proofs.SafetyLaws.{setting_of, was_elect, its_id}
use Rattle.rb_laws.proofs.SavedLinks.{IsStrictWith, called_strict, restarted_strict, begun_strict, from_here, leads_saved}
use Rattle.rb_laws.proofs.TieLaws.{IsComing, fair, no_vote}

-- a network with these nodes and others that are silent so far, to which these messages may come, and in which as much was said and linked before
record IsTied (g : Setting) (before : List Message) (links : List Link) (silent nodes : List PlainNode) (ms : List Message) : Type 0 where
  network : Network
  strict : IsStrictWith g links network
  same : nodes ++ silent ≡ network.nodes
  since : (m : Message) → Contains before m → Contains network.said m
  coming : (m : Message) → Contains ms m → IsComing g network m

module _ (g : Setting) (strict : g.strict ≡ true) (before : List Message) (links : List Link) (silent : List PlainNode) where
  there_at : (nodes : List PlainNode) (ms : List Message) (k : ℕ) (n : PlainNode) → slice_get nodes k ≡ Some n → (r : IsTied g before links silent nodes ms) → slice_get r.network.nodes k ≡ Some n
  there_at nodes ms k n at r = sym (ap (λ (ns : List PlainNode). slice_get ns k) r.same) ∙ get_before nodes silent k n at

  calls : (nodes : List PlainNode) (ms all : List Message) (k : ℕ) (call : Call) (t : NodeStep) → slice_get nodes k ≡ Some t.node → IsBrought true ms k call → ((m : Message) → Contains all m → Contains ms m ⊎ Contains (put_out call t.node) m) → IsTied g before links silent nodes ms → IsTied g before links silent (slice_set nodes k (after call t).node) all
  calls nodes ms all k call t at brought either r =
      let now = r.network in
      let there = there_at nodes ms k t.node at r in
      let may = fair g now ms k call brought r.coming in
      let out = put_out call t.node in
      let new = (after call t).node in
      let next = called_network now k call t.events t.node in
      record {
        network = next;
        strict = called_strict g strict now links k call t.node t.events there may.0 may.1 may.2 r.strict;
        same = sym (set_before nodes silent k t.node new at) ∙ ap (λ (ns : List PlainNode). slice_set ns k new) r.same;
        since = λ m said. Contains-append_left now.said out m (r.since m said);
        coming = λ m among.
            elim (either m among) as (λ _. IsComing g next m) [
              | inl earlier ↦
                  elim (r.coming m earlier) as (λ _. IsComing g next m) [ inl said ↦ inl (Contains-append_left now.said out m said) | inr foreign ↦ inr foreign ]
              | inr here ↦ inl (Contains-append_right now.said out m here)
            ];
      }

  restarts : (nodes : List PlainNode) (ms : List Message) (k : ℕ) (t : NodeStep) → slice_get nodes k ≡ Some t.node → IsTied g before links silent nodes ms → IsTied g before links silent (slice_set nodes k (restarted t.node)) ms
  restarts nodes ms k t at r =
      let now = r.network in
      let new = restarted t.node in
      record {
        network = restarted_network now k t.node;
        strict = restarted_strict g strict now links k t.node (there_at nodes ms k t.node at r) r.strict;
        same = sym (set_before nodes silent k t.node new at) ∙ ap (λ (ns : List PlainNode). slice_set ns k new) r.same;
        since = r.since;
        coming = r.coming;
      }

  shows : (nodes : List PlainNode) (ms : List Message) (k from to : ℕ) (n : PlainNode) → slice_get nodes k ≡ Some n → IsTied g before links silent nodes ms → IsTied g before links silent nodes (ms ++ message from to n.term (kind.Snapshot (snapshot_of n)) ∷ [])
  shows nodes ms k from to n at r =
      let now = r.network in
      let m = message from to n.term (kind.Snapshot (snapshot_of n)) in
      let good = r.strict.since.with.sane.good k n (there_at nodes ms k n at r) in
      let keeps : Keeps g.config m = subst (λ (c : Config). config_of (state_of c) ≡ g.config) (sym good.holds.config) g.back in
      let coming : (x : Message) → Contains (ms ++ m ∷ []) x → IsComing g now x = λ x among.
      (elim (Contains-push_cases ms m x among) as (λ _. IsComing g now x) [
        | inl earlier ↦ r.coming x earlier
        | inr new ↦ subst (IsComing g now) new (inr (no_vote n, keeps, tt, λ never. never))
      ]) in
      record { network = now; strict = r.strict; same = r.same; since = r.since; coming = coming }

lasts_with : (g : Setting) (strict : g.strict ≡ true) (before : List Message) (links : List Link) (silent : List PlainNode) → Lasts true false (IsTied g before links silent)
lasts_with g strict before links silent = record {
  calls = λ nodes ms k call t at brought r. calls g strict before links silent nodes ms ms k call t at brought (λ m among. inl among) r;
  advances = λ nodes ms k t at r. calls g strict before links silent nodes ms (ms ++ put_out Advance t.node) k Advance t at tt (λ m among. Contains-append_cases ms (put_out Advance t.node) m among) r;
  shows = λ nodes ms k from to n at r. shows g strict before links silent nodes ms k from to n at r;
  joins = λ free. absurd (free refl);
  restarts = λ _ nodes ms k t at r. restarts g strict before links silent nodes ms k t at r;
}

-- nodes come to speak
speaks : (g : Setting) (before : List Message) (links : List Link) (silent news nodes : List PlainNode) (ms : List Message) → IsTied g before links (news ++ silent) nodes ms → IsTied g before links silent (nodes ++ news) ms
speaks g before links silent news nodes ms r = record { network = r.network; strict = r.strict; same = append_assoc nodes news silent ∙ r.same; since = r.since; coming = r.coming }

ties : (g : Setting) (strict : g.strict ≡ true) (before : List Message) (links : List Link) → Joins (IsTied g before links)
ties g strict before links = record { lasts = lasts_with g strict before links; joins = speaks g before links }

-- ---- two points

-- the network at both
record AreTied (g : Setting) (earlier later : List PlainDirective) : Type 0 where
  coming : List Message
  first : IsTied g [] [] (come_after earlier later) (led empty earlier).nodes coming
  coming_still : List Message
  second : IsTied g first.network.said first.strict.since.with.sane.links [] (led (led empty earlier) later).nodes coming_still

both_tied : (members : ConfState) (single : members.outgoing ≡ []) (earlier later : List PlainDirective) → AreSteady (λ (from : Snapshot). from.config ≡ members) earlier → AreSteady (λ (from : Snapshot). from.config ≡ members) later → AreTied (setting_of true members single) earlier later
unfolding setting_of empty
both_tied members single earlier later steady steady_still =
    let g = setting_of true members single in
    let starts : Snapshot → Type 0 = λ from. from.config ≡ members in
    let s = first_network earlier later in
    let c = led empty earlier in
    let silent = come_after earlier later in
    let none : List Message = [] in
    let begin : IsTied g none [] s.nodes [] none = record {
      network = s;
      strict = begun_strict members single s (begun_with members earlier later steady steady_still);
      same = refl;
      since = λ m said. said;
      coming = λ m among. absurd (in_nothing none m refl among);
    } in
    let x = all_join (ties g refl none []) starts empty earlier silent steady (none, (begin, All-nil (Contains none))) in
    let then = x.1.0 in
    let t = then.network in
    let w = then.strict.since.with in
    let begin_still : IsTied g t.said w.sane.links silent c.nodes x.0 = record {
      network = t;
      strict = from_here then.strict;
      same = then.same;
      since = λ m said. said;
      coming = then.coming;
    } in
    let y = all_join (ties g refl t.said w.sane.links) starts c later [] steady_still (x.0, (begin_still, x.1.1)) in
    record { coming = x.0; first = then; coming_still = y.0; second = y.1.0 }

-- ---- two leaders

leads_among : (nodes silent all : List PlainNode) (id term : ℕ) → nodes ++ silent ≡ all → Leads nodes id term → Leads all id term
leads_among nodes silent all id term same l =
    subst (λ (ns : List PlainNode). Leads ns id term) same
    (record { place = l.place; node = l.node; stands = get_before nodes silent l.place l.node l.stands; leads = l.leads; of_term = l.of_term; of_id = l.of_id })

leader_between : (members : ConfState) (single : members.outgoing ≡ []) (earlier later : List PlainDirective) (first second term : ℕ) → AreSteady (λ (from : Snapshot). from.config ≡ members) earlier → AreSteady (λ (from : Snapshot). from.config ≡ members) later
    → Leads (led empty earlier).nodes first term → Leads (led (led empty earlier) later).nodes second term → second ≡ first
leader_between members single earlier later first second term steady steady_still a b =
    let g = setting_of true members single in
    let r = both_tied members single earlier later steady steady_still in
    let t = r.first.network in
    let u = r.second.network in
    let then = r.first.strict.since.with.sane in
    let now = r.second.strict.since.with.sane in
    let l = leads_among (led empty earlier).nodes (come_after earlier later) t.nodes first term r.first.same a in
    let m = leads_among (led (led empty earlier) later).nodes [] u.nodes second term r.second.same b in
    let was : IsElected g u.said (l.place + 1) term = still_elected g t.said u.said (l.place + 1) term r.second.since (was_elect g t first term then l) in
    sym (its_id g u second term now m)
    ∙ one_elected g u.said (m.place + 1) (l.place + 1) term now.once (was_elect g u second term now m) was
    ∙ its_id g t first term then l

leader_at : (s : PlainScript) (p q first second term : ℕ) → p ≤ q → HasSameMembers s → Leads (state s p).nodes first term → Leads (state s q).nodes second term → second ≡ first
leader_at s p q first second term low h a b =
    let members = (start h.first).config in
    let x = two_points (λ (from : Snapshot). from.config ≡ members) (directives s) p q low h.steady in
    leader_between members (start_single h.first) x.earlier x.later first second term x.steady x.steady_still
    (subst (λ (c : Cluster). Leads c.nodes first term) x.first a) (subst (λ (c : Cluster). Leads c.nodes second term) x.second b)

pub one_cluster_leader : (s : PlainScript) (p q first second term : ℕ) → HasSameMembers s → Leads (state s p).nodes first term → Leads (state s q).nodes second term → second ≡ first
one_cluster_leader s p q first second term h a b =
    elim (cases_lt p q) as (λ _. second ≡ first) [
      | inl less ↦ leader_at s p q first second term (omega (arith, less)) h a b
      | inr over ↦ sym (leader_at s q p second first term over h b a)
    ]

-- ---- two logs

matches_between : (members : ConfState) (single : members.outgoing ≡ []) (earlier later : List PlainDirective) (j k : ℕ) (first second : PlainNode) → AreSteady (λ (from : Snapshot). from.config ≡ members) earlier → AreSteady (λ (from : Snapshot). from.config ≡ members) later
    → slice_get (led empty earlier).nodes j ≡ Some first → slice_get (led (led empty earlier) later).nodes k ≡ Some second → AreMatching first.log second.log
unfolding setting_of
matches_between members single earlier later j k first second steady steady_still at there =
    let g = setting_of true members single in
    let r = both_tied members single earlier later steady steady_still in
    let then = r.first.strict.since.with.sane in
    let now = r.second.strict.since.with.sane in
    let first_at = subst (λ (ns : List PlainNode). slice_get ns j ≡ Some first) r.first.same (get_before (led empty earlier).nodes (come_after earlier later) j first at) in
    let second_at = subst (λ (ns : List PlainNode). slice_get ns k ≡ Some second) r.second.same (get_before (led (led empty earlier) later).nodes [] k second there) in
    let a : IsIn g r.first.network.said (j + 1) then.links (essence first) = (then.good j first first_at).linked refl in
    let b : IsIn g r.second.network.said (k + 1) now.links (essence second) = (now.good k second second_at).linked refl in
    linked_match now.links first.log second.log b.single (still_linked then.links now.links first.log r.second.strict.since.since a.logged) b.logged

matches_at : (s : PlainScript) (p q j k : ℕ) (first second : PlainNode) → p ≤ q → HasSameMembers s → slice_get (state s p).nodes j ≡ Some first → slice_get (state s q).nodes k ≡ Some second → AreMatching first.log second.log
matches_at s p q j k first second low h at there =
    let members = (start h.first).config in
    let x = two_points (λ (from : Snapshot). from.config ≡ members) (directives s) p q low h.steady in
    matches_between members (start_single h.first) x.earlier x.later j k first second x.steady x.steady_still
    (subst (λ (c : Cluster). slice_get c.nodes j ≡ Some first) x.first at) (subst (λ (c : Cluster). slice_get c.nodes k ≡ Some second) x.second there)

pub cluster_matches : (s : PlainScript) (p q j k : ℕ) (first second : PlainNode) → HasSameMembers s → slice_get (state s p).nodes j ≡ Some first → slice_get (state s q).nodes k ≡ Some second → AreMatching first.log second.log
cluster_matches s p q j k first second h at there =
    elim (cases_lt p q) as (λ _. AreMatching first.log second.log) [
      | inl less ↦ matches_at s p q j k first second (omega (arith, less)) h at there
      | inr over ↦ matching_back second.log first.log (matches_at s q p k j second first over h there at)
    ]

-- ---- a leader's term

pub cluster_saved : (s : PlainScript) (p k : ℕ) (n : PlainNode) → HasSameMembers s → slice_get (state s p).nodes k ≡ Some n → n.role ≡ Leader → n.saved.term ≡ n.term
cluster_saved s p k n h at leads =
    let members = (start h.first).config in
    let single = start_single h.first in
    let g = setting_of true members single in
    let x = two_points (λ (from : Snapshot). from.config ≡ members) (directives s) p p (omega arith) h.steady in
    let r = both_tied members single x.earlier x.later x.steady x.steady_still in
    let there = subst (λ (c : Cluster). slice_get c.nodes k ≡ Some n) x.first at in
    leads_saved g [] r.first.network k n r.first.strict (subst (λ (ns : List PlainNode). slice_get ns k ≡ Some n) r.first.same (get_before (led empty x.earlier).nodes (come_after x.earlier x.later) k n there)) leads
