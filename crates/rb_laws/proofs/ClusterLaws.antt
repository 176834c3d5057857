-- A script's cluster as a network, which begins with all nodes that are ever added
use Rattle.std.proofs.Common.{◌≡◌, ℕ, ◌+◌, List, [], ◌++◌, length, refl, sym, ap, subst, ◌∙◌, arith}
use Rattle.std.proofs.lemmas.Option.{none-some}
use Rattle.rb_script.specs.Directive.{PlainDirective}
use Rattle.rb_directive.specs.declared.requests.AddNodes.{AddNodes}
use Rattle.rb_vocab.specs.declared.conf_state.ConfState.{ConfState}
use Rattle.rb_raftlog.specs.declared.snapshot.Snapshot.{Snapshot}
use Rattle.rb_raftlog.specs.Log.{LogValue}
use Rattle.rb_raftlog.specs.Laws.{AreMatching}
use Rattle.rb_node.specs.Node.{PlainNode, started}
use Rattle.rb_machine.specs.AddNodes.{start}
use Rattle.rb_machine.specs.Cluster.{empty}
use Rattle.rb_replay.specs.Run.{led}
use Rattle.rb_laws.specs.Clusters.{AreSteady}
use Rattle.rb_laws.specs.Network.{Network, IsBegun}
use Rattle.rb_laws.proofs.JoinLaws.{AreStartsOf, both_start, all_come, all_grow, all_start}

-- ---- the beginning

-- the nodes that come before a point, and those that come later
abbrev pub come_before : List PlainDirective → List PlainNode
come_before earlier = all_come empty earlier

abbrev pub come_after : List PlainDirective → List PlainDirective → List PlainNode
come_after earlier later = all_come (led empty earlier) later ++ []

abbrev pub first_network : List PlainDirective → List PlainDirective → Network
first_network earlier later = record { nodes = come_before earlier ++ come_after earlier later; said = [] }

pub all_start_so : (starts : Snapshot → Type 0) (earlier later : List PlainDirective) → AreSteady starts earlier → AreSteady starts later → AreStartsOf starts 0 (first_network earlier later).nodes
unfolding empty
all_start_so starts earlier later steady steady_still =
    let news = all_come (led empty earlier) later in
    let many : length (led empty earlier).nodes ≡ 0 + length (come_before earlier) = all_grow starts empty earlier steady in
    let second : AreStartsOf starts (length (led empty earlier).nodes) (news ++ []) =
    both_start starts (length (led empty earlier).nodes) news [] (all_start starts (led empty earlier) later steady_still) (λ k n at. absurd (none-some n at)) in
    both_start starts 0 (come_before earlier) (news ++ []) (all_start starts empty earlier steady) (subst (λ (low : ℕ). AreStartsOf starts low (news ++ [])) many second)

pub begun_with : (members : ConfState) (earlier later : List PlainDirective) → AreSteady (λ (from : Snapshot). from.config ≡ members) earlier → AreSteady (λ (from : Snapshot). from.config ≡ members) later → IsBegun members (first_network earlier later)
begun_with members earlier later steady steady_still =
    let all = all_start_so (λ (from : Snapshot). from.config ≡ members) earlier later steady steady_still in
    record {
      started = λ k n at.
          (let is = all k n at in
          let same : 0 + k + 1 ≡ k + 1 = omega arith in
          record { start = is.from; options = is.given; config = is.as_asked; is = is.is ∙ ap (λ (id : ℕ). started id is.from is.given) same });
      silent = refl;
    }

pub start_single : (r : AddNodes) → (start r).config.outgoing ≡ []
unfolding start
start_single r = refl

-- ---- matching, the other way round

pub matching_back : (v w : LogValue) → AreMatching v w → AreMatching w v
matching_back v w m = record {
  terms = λ i j t one two low above_w above_v. sym (m.terms i j t two one low above_v above_w);
  entries = λ i j t one two low above_w above_v. sym (m.entries i j t two one low above_v above_w);
}
