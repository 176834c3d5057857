-- A leader's views stay sound
use Rattle.std.proofs.Common.{[], ℕ, Bool, ◌==◌, ◌+◌, arith, ◌≡◌, subst, sym, List, ◌∷◌, refl, Some, ap, not, ◌∙◌, true, map}
use Rattle.std.specs.Map.{keys_of}
use Rattle.indexmap.specs.Layout.{set_value_at}
use Rattle.rb_raftlog.specs.Log.{last}
use Rattle.rb_tracker.proofs.SetLaws.{if_both}
use Rattle.rb_tracker.specs.Active.{others_marked_inactive, inactive_unless_own}
use Rattle.rb_tracker.specs.Configs.{is_member, members}
use Rattle.rb_tracker.specs.Progresses.{PlainProgress, acked}
use Rattle.rb_tracker.specs.Sets.{rank}
use Rattle.rb_tracker.specs.Trackers.{has_view, view_at, ids_of}
use Rattle.rb_message.specs.declared.role.Role.{Role}
use Rattle.rb_message.specs.declared.role.Role.TheVariants as role
use Rattle.rb_node.specs.Changing.{without_views, without_view, missing}
use Rattle.rb_node.specs.Leading.{new_view, with_views, with_view_of, in_lead}
use Rattle.rb_node.specs.Node.{PlainNode, NodeStep}
use Rattle.rb_node.specs.Sends.{with_view_at}
use Rattle.rb_calls.specs.Calling.{Call, after, run}
use Rattle.rb_calls.specs.Sound.{IsSound, HasSoundViews, IsSoundView, IsOrdered, AreSoundViews, AreViewsOf}
use Rattle.rb_calls.proofs.CallLaws.{Carried, over_call, over_calls}
use Rattle.rb_calls.proofs.CallWays.{with_members_only}
use Rattle.rb_laws.proofs.ChoiceLaws.{may_campaign}
use Rattle.rb_calls.proofs.Goes.{Keeps, anyone, core, Core, Ways, self, and_then, anyhow}
use Rattle.rb_calls.proofs.LeaderLaws.{with_view_only, leading_leads, strangers_only}
use Rattle.rb_calls.proofs.MoveLaws.{call_keeps}
use Rattle.rb_calls.proofs.Moves.{TellMove, Idle, Whole, Viewed, StepMove, StepTells, Follows, Asks, Stands, Leads, Acks, with_members, ChangeMove, Resigns, Revises, in_config, CallMove, CallChanges, CallSteps, Unmarks, Gives_up}
use Rattle.rb_calls.proofs.ProgressLaws.{new_own, new_probe, sound_put, sound_removed, sound_set, sound_at, sound_acked, sound_unmarked}

pub record Views (a b : PlainNode) : Type 0 where
  pub keeps : Keeps anyone (core a) (core b)
  pub views : IsSound a → HasSoundViews a → HasSoundViews b

-- ---- views put in and taken out

new_view_sound : (n : PlainNode) (id : ℕ) (active : Bool) → IsSound n → IsSoundView (new_view n id active)
new_view_sound n id active s =
    let within = s.within in
    if_both IsSoundView (id == n.id) _ _
    (λ _. new_own n.options.inflight n.log.durable (last n.log + 1) (omega (arith, within)))
    (λ _. new_probe n.options.inflight (last n.log + 1) active (omega arith))

sound_as : (a b : PlainNode) → core b ≡ core a → IsSound a → IsSound b
sound_as a b e s = subst (λ (c : Core). IsOrdered c.log c.commit c.applied) (sym e) s

with_views_sound : (n : PlainNode) (ids : List ℕ) (active : Bool) → IsSound n → AreSoundViews n.tracker.views → AreSoundViews (with_views n ids active).tracker.views
with_views_sound n [] active s are = are
with_views_sound n (id ∷ ids) active s are =
    with_views_sound (with_view_of n id active) ids active (sound_as n (with_view_of n id active) (ap core (with_view_only n id active)) s)
    (if_both (λ (x : PlainNode). AreSoundViews x.tracker.views) (has_view n.tracker.views id) _ _ (λ _. are)
    (λ _. sound_put n.tracker.views (rank (keys_of n.tracker.views) id) id (new_view n id active) are (new_view_sound n id active s)))

strangers_sound : (n : PlainNode) (ids : List ℕ) → AreSoundViews n.tracker.views → AreSoundViews (without_views n ids).tracker.views
strangers_sound n [] are = are
strangers_sound n (id ∷ ids) are =
    strangers_sound (without_view n id) ids
    (if_both (λ (x : PlainNode). AreSoundViews x.tracker.views) (is_member n.tracker.config id) _ _ (λ _. are) (λ _. sound_removed id n.tracker.views are))

-- ---- each move

pub no_views : (r : Role) → AreViewsOf r []
no_views r = record { only_leading = λ _. refl; each = tt }

written : (n : PlainNode) (at : ℕ) (view new : PlainProgress) → view_at n.tracker.views at ≡ Some view → (IsSoundView view → IsSoundView new) → HasSoundViews n
    → HasSoundViews (with_view_at n at new)
written n at view new is sound v = record {
  only_leading = λ no. ap (λ (l : List (ℕ × PlainProgress)). set_value_at l at new) (v.only_leading no);
  each = sound_set n.tracker.views at new v.each (sound (sound_at n.tracker.views at view v.each is));
}

telling_views : {a b : PlainNode} → TellMove a b → IsSound a → HasSoundViews a → HasSoundViews b
telling_views (Idle a b e) s v = subst (λ (x : Whole). AreViewsOf x.core.role x.tracker.views) (sym e) v
telling_views (Viewed n at view new is same sound) s v = written n at view new is (sound s) v
telling_views _ s v = v

step_views : {w : Ways} {a b : PlainNode} → StepMove w a b → IsSound a → HasSoundViews a → HasSoundViews b
step_views (StepTells m) s v = telling_views m s v
step_views (Follows n term lead up past) s v = no_views role.Follower
step_views (Asks n may) s v = record { only_leading = λ _. v.only_leading (may_campaign n may).follows; each = v.each }
step_views (Stands n may) s v = no_views role.Candidate
step_views (Leads n stands elected won) s v = record {
  only_leading = λ no. absurd (no (leading_leads n));
  each = with_views_sound (in_lead n) (members n.tracker.config) (not n.options.check_quorum) s tt;
}
step_views (Acks n at from i view leads here is up said) s v = written n at view (acked view i) is (λ g. sound_acked view i g) v
step_views _ s v = v

revised_views : (n : PlainNode) → n.role ≡ role.Leader → IsSound n → HasSoundViews n → HasSoundViews (with_members n)
revised_views n leads s v =
    let ids = ids_of n.tracker.views in
    let left = without_views n ids in
    record {
      only_leading = λ no. absurd (no (ap (λ (x : PlainNode). x.role) (with_members_only n) ∙ leads));
      each = with_views_sound left (missing left.tracker.views (members left.tracker.config)) true
          (sound_as n left (ap core (strangers_only n ids)) s) (strangers_sound n ids v.each);
    }

change_views : {a b : PlainNode} → ChangeMove a b → IsSound a → HasSoundViews a → HasSoundViews b
change_views (Resigns n c) s v = no_views role.Follower
change_views (Revises n c leads) s v = revised_views (in_config n c) leads s v
change_views _ s v = v

unmarked_views : (n : PlainNode) → HasSoundViews n → HasSoundViews (record n { tracker = others_marked_inactive n.tracker n.id })
unfolding others_marked_inactive
unmarked_views n v = record {
  only_leading = λ no. ap (λ (l : List (ℕ × PlainProgress)). map (inactive_unless_own n.id) l) (v.only_leading no);
  each = sound_unmarked n.id n.tracker.views v.each;
}

pub call_views : {sound : Type 0} {w : Ways} {a b : PlainNode} → CallMove sound w a b → IsSound a → HasSoundViews a → HasSoundViews b
call_views (CallChanges m has) s v = change_views m s v
call_views (CallSteps m) s v = step_views m s v
call_views (Unmarks n) s v = unmarked_views n v
call_views (Gives_up n) s v = no_views role.Follower
call_views _ s v = v

-- ---- every call

views : Carried Views
views = record {
  under = λ a b f. record { keeps = record { goes = λ s. (f s).keeps.goes s }; views = λ s. (f s).views s };
  moves = λ s. record {
    nothing = λ n. record { keeps = self (core n); views = λ _ v. v };
    chain = λ a b c p q. record { keeps = and_then p.keeps q.keeps; views = λ o v. q.views (p.keeps.goes o).ordered (p.views o v) };
    each = λ a b m. record { keeps = anyhow (call_keeps s m); views = λ o v. call_views m o v };
  };
}

pub called_views : (c : Call) (t : NodeStep) → Views t.node (after c t).node
called_views c t = over_call views c t

pub run_views : (cs : List Call) (t : NodeStep) → Views t.node (run cs t).node
run_views cs t = over_calls views cs t
