-- Nodes whose indexes are in order, and that have what they knew to be committed.
use Rattle.std.proofs.Common.{◌≡◌, ◌∙◌, ℕ, zero, suc, ◌≤◌, true, List, [], ◌∷◌, ◌++◌, length, length-append, Some, refl, subst, arith}
use Rattle.std.specs.Prelude.{◌&&◌, nat_le, slice_get}
use Rattle.std.specs.List.{list_all}
use Rattle.std.proofs.lemmas.Bool.{and_parts, leb-true}
use Rattle.std.proofs.lemmas.Option.{none-some, same_Some, slice_get_within}
use Rattle.rb_raftlog.specs.Log.{last}
use Rattle.rb_raftlog.specs.declared.snapshot.Snapshot.{Snapshot}
use Rattle.rb_node.specs.declared.options.Options.{Options}
use Rattle.rb_node.specs.Node.{PlainNode, started}
use Rattle.rb_calls.specs.Sound.{IsSound}
use Rattle.rb_calls.proofs.ListLaws.{each_push}
use Rattle.rb_machine.specs.Cluster.{empty}
use Rattle.rb_view.specs.Committed.{AreSound, IsKept, is_sound}

-- ---- a node

pub record HasGoneOn (old new : PlainNode) : Type 0 where
  pub commit : old.commit ≤ new.commit
  pub kept : IsKept old.log new.log old.commit

pub still : (n : PlainNode) → IsSound n → HasGoneOn n n
still n sound = record { commit = omega arith; kept = record { base = omega arith; held = sound.is_held; entries = λ i _ _. refl } }

pub further : (a b c : PlainNode) → HasGoneOn a b → HasGoneOn b c → HasGoneOn a c
further a b c first second = record {
  commit = omega (arith, first.commit, second.commit);
  kept = record {
    base = omega (arith, first.kept.base, second.kept.base);
    held = first.kept.held;
    entries = λ i low past. second.kept.entries i (omega (arith, low, first.commit)) past ∙ first.kept.entries i low (omega (arith, past, second.kept.base));
  };
}

-- ---- nodes

-- the node at a place is sound, and has gone on where it was there before
pub record IsOf (olds : List PlainNode) (k : ℕ) (n : PlainNode) : Type 0 where
  pub sound : IsSound n
  pub gone : (old : PlainNode) → slice_get olds k ≡ Some old → HasGoneOn old n

pub record HaveGoneOn (olds nodes : List PlainNode) : Type 0 where
  pub many : length olds ≤ length nodes
  pub each : (k : ℕ) (n : PlainNode) → slice_get nodes k ≡ Some n → IsOf olds k n

pub one_joins : (olds nodes : List PlainNode) (id : ℕ) (from : Snapshot) (given : Options) → HaveGoneOn olds nodes → HaveGoneOn olds (nodes ++ started id from given ∷ [])
one_joins olds nodes id from given h =
    let n = started id from given in
    record {
      many = omega (arith, h.many, length-append nodes (n ∷ []));
      each = each_push (IsOf olds) nodes n
          (record {
            sound = record { past_base = omega arith; is_durable = omega arith; within = omega arith; is_committed = omega arith; is_held = omega arith };
            gone = λ old was. absurd (let low = slice_get_within olds (length nodes) old was in omega (arith, low, h.many));
          }) h.each;
    }

-- ---- nodes whose indexes are in order

pub begin_sound : AreSound empty.nodes
unfolding empty
begin_sound k n is = absurd (none-some n is)

node_sound : (n : PlainNode) → is_sound n ≡ true → IsSound n
node_sound n h =
    let base = nat_le n.log.base n.applied in
    let durable = nat_le n.applied n.log.durable in
    let within = nat_le n.log.durable (last n.log) in
    let committed = nat_le n.applied n.commit in
    let four = and_parts (base && durable && within && committed) (nat_le n.commit (last n.log)) h in
    let three = and_parts (base && durable && within) committed four.0 in
    let two = and_parts (base && durable) within three.0 in
    let one = and_parts base durable two.0 in
    record {
      past_base = leb-true n.log.base n.applied one.0;
      is_durable = leb-true n.applied n.log.durable one.1;
      within = leb-true n.log.durable (last n.log) two.1;
      is_committed = leb-true n.applied n.commit three.1;
      is_held = leb-true n.commit (last n.log) four.1;
    }

pub all_sound : (nodes : List PlainNode) → list_all is_sound nodes ≡ true → AreSound nodes
all_sound [] h k n is = absurd (none-some n is)
all_sound (x ∷ xs) h zero n is = node_sound n (subst (λ (y : PlainNode). is_sound y ≡ true) (same_Some x n is) (and_parts (is_sound x) (list_all is_sound xs) h).0)
all_sound (x ∷ xs) h (suc k) n is = all_sound xs (and_parts (is_sound x) (list_all is_sound xs) h).1 k n is
