-- What a relation between nodes must allow, to hold over every call, where it is about what a node says: nothing said, a true message sent, a
-- true answer that waits, and all saved
use Rattle.std.proofs.Common.{◌≡◌, List, refl, ap, not}
use Rattle.rb_tracker.specs.Configs.{members}
use Rattle.rb_message.specs.declared.message.Message.{Message}
use Rattle.rb_node.specs.Leading.{leading, in_lead}
use Rattle.rb_node.specs.Node.{PlainNode, NodeStep}
use Rattle.rb_node.specs.Readying.{saved}
use Rattle.rb_calls.specs.Calling.{Call, after, run}
use Rattle.rb_calls.specs.Sound.{IsSound}
use Rattle.rb_calls.specs.Words.{Sends, Answers}
use Rattle.rb_calls.proofs.CallLaws.{Carried, over_call, over_calls}
use Rattle.rb_calls.proofs.CallWays.{with_members_only}
use Rattle.rb_calls.proofs.Goes.{Keeps, anyone, core, Ways, anyhow, self}
use Rattle.rb_calls.proofs.LeaderLaws.{with_views_only}
use Rattle.rb_calls.proofs.MoveLaws.{step_keeps, change_keeps, call_keeps}
use Rattle.rb_calls.proofs.Moves.{StepMove, StepTells, Sent, Passes, Idle, Whole, Waits, Leads, ChangeMove, Revises, in_config, with_members, CallMove, CallChanges, CallSteps, Saves}
use Rattle.rb_calls.proofs.Saying.{words, with_sent, with_waiting}

pub record Says (R : PlainNode → PlainNode → Type 0) : Type 0 where
  -- one after another, from a sound node at least
  pub chain : (a b c : PlainNode) → R a b → R b c → R a c
  pub under : (a b : PlainNode) → (IsSound a → R a b) → R a b
  -- nothing is said
  pub silent : (a b : PlainNode) → Keeps anyone (core a) (core b) → words b ≡ words a → R a b
  pub send : (n : PlainNode) (m : Message) → (IsSound n → Sends n m) → R n (with_sent n m)
  pub wait : (n : PlainNode) (m : Message) → (IsSound n → Answers n m) → R n (with_waiting n m)
  pub save : (n : PlainNode) → R n (saved n)

step_says : {R : PlainNode → PlainNode → Type 0} (p : Says R) {w : Ways} {a b : PlainNode} → StepMove w a b → R a b
step_says p (StepTells (Sent n m own says)) = p.send n m says
step_says p (Passes n m came says) = p.send n m says
step_says p (StepTells (Idle a b e)) = p.silent a b (step_keeps {w = anyone} (StepTells (Idle a b e))) (ap (λ (x : Whole). x.words) e)
step_says p (Waits n m says may) = p.wait n m says
step_says p (Leads n stands elected won) =
    p.silent n (leading n) (step_keeps {w = anyone} (Leads n stands tt won)) (ap words (with_views_only (in_lead n) (members n.tracker.config) (not n.options.check_quorum)))
step_says p m = p.silent _ _ (anyhow (step_keeps m)) refl

change_says : {R : PlainNode → PlainNode → Type 0} (p : Says R) {a b : PlainNode} → ChangeMove a b → R a b
change_says p (Revises n c leads) =
    (let x = in_config n c in p.silent n (with_members x) (change_keeps (Revises n c leads)) (ap words (with_members_only x)))
change_says p m = p.silent _ _ (change_keeps m) refl

call_says : {R : PlainNode → PlainNode → Type 0} (p : Says R) {sound : Type 0} {w : Ways} → sound → {a b : PlainNode} → CallMove sound w a b → R a b
call_says p s (CallChanges m has) = change_says p m
call_says p s (CallSteps m) = step_says p m
call_says p s (Saves n known) = p.save n
call_says p s m = p.silent _ _ (anyhow (call_keeps s m)) refl

carried : {R : PlainNode → PlainNode → Type 0} → Says R → Carried R
carried p = record {
  under = p.under;
  moves = λ s. record { nothing = λ n. p.silent n n (self (core n)) refl; chain = p.chain; each = λ a b m. call_says p s m };
}

pub called_says : {R : PlainNode → PlainNode → Type 0} → Says R → (c : Call) (t : NodeStep) → R t.node (after c t).node
called_says p c t = over_call (carried p) c t

pub run_says : {R : PlainNode → PlainNode → Type 0} → Says R → (cs : List Call) (t : NodeStep) → R t.node (run cs t).node
run_says p cs t = over_calls (carried p) cs t
