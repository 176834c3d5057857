-- Leader completeness and state machine safety of a network, at any two moments
use Rattle.std.proofs.Common.{◌≡◌, ℕ, ◌+◌, ◌<◌, ◌≤◌, true, false, List, Some, refl, arith}
use Rattle.std.specs.Prelude.{slice_get}
use Rattle.std.proofs.lemmas.Bool.{false≢true}
use Rattle.rb_raftlog.specs.Log.{entry_at}
use Rattle.rb_tracker.specs.Configs.{config_of}
use Rattle.rb_message.specs.declared.message.Message.{Message}
use Rattle.rb_message.specs.declared.role.Role.TheVariants as role
use Rattle.rb_node.specs.Node.{PlainNode}
use Rattle.rb_laws.specs.Honesty.{AreHonest}
use Rattle.rb_laws.specs.Network.{Network, Happening, run}
use Rattle.rb_laws.specs.Safety.{BeginAt, StartsAlike, IsRaftNetwork, HasCommitted}
use Rattle.rb_calls.specs.Sound.{IsSound}
use Rattle.rb_laws.proofs.NetworkLaws.{IsSane, run_sane}
use Rattle.rb_laws.proofs.SafetyLaws.{setting_of, setting_config, begun_sane}
use Rattle.rb_laws.proofs.Spots.{spot, same_spot}
use Rattle.rb_laws.proofs.LeaderLogs.{History}
use Rattle.rb_laws.proofs.NodeKnowledge.{Ground}
use Rattle.rb_laws.proofs.FollowerMoves.{IsWhole}
use Rattle.rb_laws.proofs.CommittedLogs.{Had, had, still_had, leader_has, commits_agree, contents_same}
use Rattle.rb_laws.proofs.NetworkHistory.{AreAlike, run_known, begun_known, no_history}
use Rattle.rb_laws.proofs.TrueCalls.{all_honest}

-- what the nodes stand on
abbrev pub ground_of : (s : Network) → StartsAlike s → Ground
ground_of s a = record {
  root = spot a.index a.term;
  start = record { content = a.content; changes = 0; config = config_of a.members };
  first = refl;
  setting = setting_of false a.members a.single;
  same = setting_config false a.members a.single;
}

pub alike_at : (index term : ℕ) (content : List ℕ) (nodes : List PlainNode) → BeginAt index term content nodes → AreAlike (spot index term) content nodes
alike_at index term content nodes begins = λ k n at. (let b = begins k n at in (same_spot (spot n.log.base n.log.base_term) (spot index term) b.0 b.1, b.2))

-- a history that tells of two nodes, each at its moment
pub record TellsBoth (g : Ground) (first second : PlainNode) : Type 0 where
  pub heard : List Message
  pub history : History
  pub whole : IsWhole g heard history
  pub earlier : Had g history first
  pub later : Had g history second
  pub sound_earlier : IsSound first
  pub sound_later : IsSound second

both : (s : Network) (earlier later : List Happening) (j k : ℕ) (first second : PlainNode) → (net : IsRaftNetwork s earlier later)
    → slice_get (run earlier s).nodes j ≡ Some first → slice_get (run later (run earlier s)).nodes k ≡ Some second → TellsBoth (ground_of s net.starts) first second
unfolding setting_of
both s earlier later j k first second net at there =
    let b = net.starts in
    let g : Ground = ground_of s b in
    let loose : g.setting.strict ≡ true → ⊥ = λ no. false≢true no in
    let t = run earlier s in
    let begun = begun_sane false b.members b.single s b.begun in
    let honest : AreHonest g.setting.config earlier s = all_honest g.setting loose earlier s begun net.before in
    let sane : IsSane g.setting t = run_sane g.setting earlier s begun honest (λ no. absurd (loose no)) in
    let honest_still : AreHonest g.setting.config later t = all_honest g.setting loose later t sane net.since in
    let alike = alike_at b.index b.term b.content s.nodes b.begins in
    let first_known = run_known g earlier s s.said no_history begun honest (λ no. absurd (loose no)) net.before (begun_known g b.members s b.low b.begun alike) in
    let known = run_known g later t first_known.0 first_known.1 sane honest_still (λ no. absurd (loose no)) net.since first_known.3 in
    record {
      heard = known.0;
      history = known.1;
      whole = known.3.whole;
      earlier = still_had g first_known.1 known.1 first known.2 (had g first_known.1 (j + 1) first (first_known.3.knows j first at));
      later = had g known.1 (k + 1) second (known.3.knows k second there);
      sound_earlier = (sane.good j first at).sound;
      sound_later = ((run_sane g.setting later t sane honest_still (λ no. absurd (loose no))).good k second there).sound;
    }

-- who leads has what a node knew to be committed in an earlier term, at an earlier moment or the same
pub leads_after : (s : Network) (earlier later : List Happening) (j k : ℕ) (n l : PlainNode) → IsRaftNetwork s earlier later
    → slice_get (run earlier s).nodes j ≡ Some n → slice_get (run later (run earlier s)).nodes k ≡ Some l → l.role ≡ role.Leader → n.term < l.term → HasCommitted n l
leads_after s earlier later j k n l net at there leads past =
    let x = both s earlier later j k n l net at there in
    leader_has (ground_of s net.starts) x.heard x.history n l x.whole x.earlier x.later leads past

-- and also what one comes to know to be committed later
pub leads_before : (s : Network) (earlier later : List Happening) (j k : ℕ) (l n : PlainNode) → IsRaftNetwork s earlier later
    → slice_get (run earlier s).nodes j ≡ Some l → slice_get (run later (run earlier s)).nodes k ≡ Some n → l.role ≡ role.Leader → n.term < l.term → HasCommitted n l
leads_before s earlier later j k l n net at there leads past =
    let x = both s earlier later j k l n net at there in
    leader_has (ground_of s net.starts) x.heard x.history n l x.whole x.later x.earlier leads past

-- what two nodes know to be committed is the same
pub commits_same : (s : Network) (earlier later : List Happening) (j k i : ℕ) (n m : PlainNode) → IsRaftNetwork s earlier later
    → slice_get (run earlier s).nodes j ≡ Some n → slice_get (run later (run earlier s)).nodes k ≡ Some m → i ≤ n.commit → i ≤ m.commit → n.log.base < i → m.log.base < i → entry_at n.log i ≡ entry_at m.log i
commits_same s earlier later j k i n m net at there low_n low_m above_n above_m =
    let x = both s earlier later j k n m net at there in
    commits_agree (ground_of s net.starts) x.heard x.history n m i x.whole x.earlier x.later low_n low_m above_n above_m

-- and so is what they have applied
pub applied_same : (s : Network) (earlier later : List Happening) (j k i : ℕ) (n m : PlainNode) → IsRaftNetwork s earlier later
    → slice_get (run earlier s).nodes j ≡ Some n → slice_get (run later (run earlier s)).nodes k ≡ Some m → i ≤ n.applied → i ≤ m.applied → n.log.base < i → m.log.base < i → entry_at n.log i ≡ entry_at m.log i
applied_same s earlier later j k i n m net at there low_n low_m above_n above_m =
    let x = both s earlier later j k n m net at there in
    let known_n = x.sound_earlier.is_committed in
    let known_m = x.sound_later.is_committed in
    commits_agree (ground_of s net.starts) x.heard x.history n m i x.whole x.earlier x.later (omega (arith, low_n, known_n)) (omega (arith, low_m, known_m)) above_n above_m

-- and so is their content
pub contents_agree : (s : Network) (earlier later : List Happening) (j k : ℕ) (n m : PlainNode) → IsRaftNetwork s earlier later
    → slice_get (run earlier s).nodes j ≡ Some n → slice_get (run later (run earlier s)).nodes k ≡ Some m → n.applied ≡ m.applied → n.content ≡ m.content
contents_agree s earlier later j k n m net at there same =
    let x = both s earlier later j k n m net at there in
    contents_same (ground_of s net.starts) x.heard x.history n m x.whole x.earlier x.later x.sound_earlier.is_committed x.sound_later.is_committed same
