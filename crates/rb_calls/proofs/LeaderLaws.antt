-- Views that a leader puts in and takes out: nothing else changes
use Rattle.std.proofs.Common.{[], ℕ, Bool, ◌≡◌, refl, List, ◌∷◌, ◌∙◌, not, ap}
use Rattle.rb_tracker.proofs.SetLaws.{if_both}
use Rattle.rb_tracker.specs.Configs.{members, is_member}
use Rattle.rb_tracker.specs.Progresses.{PlainProgress}
use Rattle.rb_tracker.specs.Trackers.{has_view}
use Rattle.rb_message.specs.declared.role.Role.TheVariants as role
use Rattle.rb_node.specs.Changing.{without_view, without_views}
use Rattle.rb_node.specs.Leading.{with_view_of, with_views, leading, in_lead}
use Rattle.rb_node.specs.Node.{PlainNode}
use Rattle.rb_calls.proofs.Goes.{core, Core}

-- the node with these views
abbrev pub viewing : PlainNode → List (ℕ × PlainProgress) → PlainNode
viewing n views = record n { tracker = record n.tracker { views = views } }

pub with_view_only : (n : PlainNode) (id : ℕ) (active : Bool) → with_view_of n id active ≡ viewing n (with_view_of n id active).tracker.views
with_view_only n id active = if_both (λ (x : PlainNode). x ≡ viewing n x.tracker.views) (has_view n.tracker.views id) _ _ (λ _. refl) (λ _. refl)

pub with_views_only : (n : PlainNode) (ids : List ℕ) (active : Bool) → with_views n ids active ≡ viewing n (with_views n ids active).tracker.views
with_views_only n [] active = refl
with_views_only n (id ∷ ids) active =
    let x : PlainNode = with_view_of n id active in
    with_views_only x ids active ∙ ap (λ (y : PlainNode). viewing y (with_views x ids active).tracker.views) (with_view_only n id active)

pub leading_same : (n : PlainNode) → core (leading n) ≡ core (in_lead n)
leading_same n = ap core (with_views_only (in_lead n) (members n.tracker.config) (not n.options.check_quorum))

pub leading_leads : (n : PlainNode) → (leading n).role ≡ role.Leader
leading_leads n = ap (λ (c : Core). c.role) (leading_same n)

pub stranger_only : (n : PlainNode) (id : ℕ) → without_view n id ≡ viewing n (without_view n id).tracker.views
stranger_only n id = if_both (λ (x : PlainNode). x ≡ viewing n x.tracker.views) (is_member n.tracker.config id) _ _ (λ _. refl) (λ _. refl)

pub strangers_only : (n : PlainNode) (ids : List ℕ) → without_views n ids ≡ viewing n (without_views n ids).tracker.views
strangers_only n [] = refl
strangers_only n (id ∷ ids) =
    let x : PlainNode = without_view n id in
    strangers_only x ids ∙ ap (λ (y : PlainNode). viewing y (without_views x ids).tracker.views) (stranger_only n id)
