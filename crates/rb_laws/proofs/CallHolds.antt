-- What a call has to bring, so that what holds of a node holds after it
use Rattle.std.proofs.Common.{◌≡◌, ℕ, ◌<◌, true, false, refl, sym, subst, ◌∙◌}
use Rattle.std.specs.Prelude.{Contains}
use Rattle.std.proofs.lemmas.List.Elements.{All-contains}
use Rattle.rb_raftlog.specs.Bodies.{is_change}
use Rattle.rb_message.specs.declared.message.Message.{Message}
use Rattle.rb_node.specs.Node.{PlainNode, NodeStep}
use Rattle.rb_calls.specs.Calling.{Call, Step, Propose, Transfer, Advance, after}
use Rattle.rb_calls.specs.Sound.{IsSound}
use Rattle.rb_calls.proofs.CallWays.{ways, called_way}
use Rattle.rb_calls.proofs.Moves.{over}
use Rattle.rb_laws.proofs.Holding.{World, IsOwn, IsChain, Holds}
use Rattle.rb_laws.proofs.MoveHolds.{Gives, IsHeard, Hears, moves_hold}

-- what was said, and an append among it stands as the links have it
abbrev pub IsOut : World → Message → Type 0
IsOut w m = Contains w.said m × (w.setting.strict ≡ true → IsChain w.links m)

abbrev pub IsSafe : World → Call → PlainNode → Type 0
IsSafe w (Step m) n = IsHeard w m
IsSafe w (Propose body) n = is_change body ≡ false
IsSafe w Advance n = (m : Message) → Contains n.waiting m → IsOut w m
IsSafe w _ n = Unit {0}

-- what was said to the node gives what was cast
pub said_gives : (w : World) (m : Message) → Contains w.said m → m.to ≡ w.id → Gives w m
said_gives w m among to given = record {
  answer = m;
  among = among;
  gives = (given, subst (λ (x : ℕ). 0 < x) (sym to) w.some);
  by = refl;
  of_term = refl;
  for_it = to;
}

-- so all that comes by it is heard
pub safe_hears : {w : World} (c : Call) (t : NodeStep) → IsSafe w c t.node → Holds w t.node → Hears w (ways c t)
safe_hears {w} (Step m) t safe h x is = subst (IsHeard w) (sym is) safe
safe_hears {w} (Propose body) t safe h x is = subst (IsHeard w) (sym is) ((safe, λ _. tt), λ no. cc)
safe_hears {w} (Transfer to) t safe h x is = subst (IsHeard w) (sym is) ((tt, λ _. tt), λ no. cc)
safe_hears {w} Advance t safe h x comes =
    (let out = safe x comes.0 in
    let own = All-contains (IsOwn w) t.node.waiting x h.waiting comes.0 in
    ((own.1, out.1), said_gives w x out.0 (comes.1 ∙ h.itself)))
safe_hears _ t safe h x never = absurd never

pub called_holds : {w : World} (c : Call) (t : NodeStep) → IsSafe w c t.node → IsSound t.node → Holds w t.node → Holds w (after c t).node
called_holds c t safe s h = (over (moves_hold s (safe_hears c t safe h)) (called_way c t (λ o. o)) (s, h)).1
