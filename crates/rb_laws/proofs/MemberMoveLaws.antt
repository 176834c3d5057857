-- A leader has a view of each member and of nobody else, whatever is called
use Rattle.std.proofs.Common.{[], ◌≡◌, refl, ℕ, subst, sym, List, Bool, not, ◌∙◌, ap, true, ◌∷◌}
use Rattle.std.specs.Map.{keys_of}
use Rattle.rb_tracker.specs.Active.{others_marked_inactive}
use Rattle.rb_tracker.specs.Configs.{members, is_member, config_of}
use Rattle.rb_tracker.specs.Progresses.{PlainProgress, acked}
use Rattle.rb_tracker.specs.Sets.{IsAscending}
use Rattle.rb_tracker.specs.Trackers.{ids_of}
use Rattle.rb_tracker.specs.declared.config.Config.{Config}
use Rattle.rb_message.specs.declared.role.Role.{Role}
use Rattle.rb_message.specs.declared.role.Role.TheVariants as role
use Rattle.rb_node.specs.Changing.{without_views, missing}
use Rattle.rb_node.specs.Leading.{leading, in_lead}
use Rattle.rb_node.specs.Node.{PlainNode, NodeStep}
use Rattle.rb_node.specs.Sends.{with_view_at}
use Rattle.rb_calls.specs.Calling.{Call, after, run}
use Rattle.rb_calls.specs.Sound.{AreOfMembers, HasViewsOfMembers}
use Rattle.rb_calls.proofs.CallWays.{with_members_only, called_way}
use Rattle.rb_laws.proofs.ChoiceLaws.{may_campaign}
use Rattle.rb_calls.proofs.Goes.{Ways}
use Rattle.rb_calls.proofs.LeaderLaws.{leading_leads, with_views_only}
use Rattle.rb_calls.proofs.MemberLaws.{ids_set, with_views_in_order, with_views_seen, member_is, strangers_in_order, revised_seen, ids_unmarked}
use Rattle.rb_calls.proofs.Moves.{TellMove, Idle, Whole, Viewed, StepMove, StepTells, Follows, Asks, Stands, Leads, Restores, Acks, with_members, ChangeMove, Unchanged, Configures, Resigns, Revises, in_config, CallMove, CallChanges, CallSteps, Unmarks, Gives_up, Allows, over}

-- ---- each move

pub no_follower : role.Follower ≡ role.Leader → ⊥
no_follower e = cc

no_candidate : role.Candidate ≡ role.Leader → ⊥
no_candidate e = cc

no_precandidate : role.Precandidate ≡ role.Leader → ⊥
no_precandidate e = cc

pub nobody : (r : Role) (c : Config) → (r ≡ role.Leader → ⊥) → AreOfMembers r c []
nobody r c never = record { only_leading = λ _. refl; in_order = tt; of_members = λ leads. absurd (never leads) }

written : (n : PlainNode) (at : ℕ) (view : PlainProgress) → HasViewsOfMembers n → HasViewsOfMembers (with_view_at n at view)
written n at view is = subst (AreOfMembers n.role n.tracker.config) (sym (ids_set n.tracker.views at view)) is

-- who doesn't lead has views of nobody in whatever configuration
in_any_config : (r s : Role) (c d : Config) (ids : List ℕ) → (r ≡ role.Leader → ⊥) → (s ≡ role.Leader → ⊥) → AreOfMembers r c ids → AreOfMembers s d ids
in_any_config r s c d ids first never is = record { only_leading = λ _. is.only_leading first; in_order = is.in_order; of_members = λ leads. absurd (never leads) }

pub telling_members : {a b : PlainNode} → TellMove a b → HasViewsOfMembers a → HasViewsOfMembers b
telling_members (Idle a b e) is = subst (λ (x : Whole). AreOfMembers x.core.role x.tracker.config (keys_of x.tracker.views)) (sym e) is
telling_members (Viewed n at view new at_place same sound) is = written n at new is
telling_members _ is = is

leading_members : (n : PlainNode) → HasViewsOfMembers (leading n)
leading_members n =
    let first : PlainNode = in_lead n in
    let ids : List ℕ = members n.tracker.config in
    let active : Bool = not n.options.check_quorum in
    record {
      only_leading = λ no. absurd (no (leading_leads n));
      in_order = with_views_in_order first ids active tt;
      of_members = λ _ id.
          with_views_seen first ids id active
          ∙ member_is n.tracker.config id
          ∙ sym (ap (λ (x : PlainNode). is_member x.tracker.config id) (with_views_only first ids active));
    }

step_members : {w : Ways} {a b : PlainNode} → StepMove w a b → HasViewsOfMembers a → HasViewsOfMembers b
step_members (StepTells m) is = telling_members m is
step_members (Follows n term lead up past) is = nobody role.Follower n.tracker.config no_follower
step_members (Asks n may) is =
    in_any_config n.role role.Precandidate n.tracker.config n.tracker.config (keys_of n.tracker.views) (may_campaign n may).follows no_precandidate is
step_members (Stands n may) is = nobody role.Candidate n.tracker.config no_candidate
step_members (Leads n stands elected won) is = leading_members n
step_members (Restores n s follows past came other) is =
    (let never : n.role ≡ role.Leader → ⊥ = λ leads. no_follower (sym follows ∙ leads) in
    in_any_config n.role n.role n.tracker.config (config_of s.config) (keys_of n.tracker.views) never never is)
step_members (Acks n at from i view leads here at_place up said) is = written n at (acked view i) is
step_members _ is = is

-- who leads has the views that the configuration asks for, whatever views it had
revised_members : (n : PlainNode) → n.role ≡ role.Leader → IsAscending (keys_of n.tracker.views) → HasViewsOfMembers (with_members n)
revised_members n leads up =
    let left : PlainNode = without_views n (ids_of n.tracker.views) in
    let ids : List ℕ = missing left.tracker.views (members left.tracker.config) in
    record {
      only_leading = λ no. absurd (no (ap (λ (x : PlainNode). x.role) (with_members_only n) ∙ leads));
      in_order = with_views_in_order left ids true (strangers_in_order n (ids_of n.tracker.views) up);
      of_members = λ _ id. revised_seen n id up ∙ sym (ap (λ (x : PlainNode). is_member x.tracker.config id) (with_members_only n));
    }

pub change_members : {a b : PlainNode} → ChangeMove a b → HasViewsOfMembers a → HasViewsOfMembers b
change_members (Unchanged n) is = is
change_members (Configures n c never) is = in_any_config n.role n.role n.tracker.config c (keys_of n.tracker.views) never never is
change_members (Resigns n c) is = nobody role.Follower c no_follower
change_members (Revises n c leads) is = revised_members (in_config n c) leads is.in_order

unmarked_members : (n : PlainNode) → HasViewsOfMembers n → HasViewsOfMembers (record n { tracker = others_marked_inactive n.tracker n.id })
unfolding others_marked_inactive
unmarked_members n is = subst (AreOfMembers n.role n.tracker.config) (sym (ids_unmarked n.id n.tracker.views)) is

pub call_members : {sound : Type 0} {w : Ways} {a b : PlainNode} → CallMove sound w a b → HasViewsOfMembers a → HasViewsOfMembers b
call_members (CallChanges m has) is = change_members m is
call_members (CallSteps m) is = step_members m is
call_members (Unmarks n) is = unmarked_members n is
call_members (Gives_up n) is = nobody role.Follower n.tracker.config no_follower
call_members _ is = is

-- ---- every call

stays : {sound : Type 0} {w : Ways} → Allows (CallMove sound w) (λ a b. HasViewsOfMembers a → HasViewsOfMembers b)
stays = record { nothing = λ n is. is; chain = λ a b c p q is. q (p is); each = λ a b m is. call_members m is }

pub called_members : (c : Call) (t : NodeStep) → HasViewsOfMembers t.node → HasViewsOfMembers (after c t).node
called_members c t = over stays (called_way {sound = ⊥} c t (λ no. absurd no))

pub run_members : (cs : List Call) (t : NodeStep) → HasViewsOfMembers t.node → HasViewsOfMembers (run cs t).node
run_members [] t is = is
run_members (c ∷ cs) t is = run_members cs (after c t) (called_members c t is)
