-- What a cluster's directives do, by a history: a snapshot that is sent by hand is settled, as are those that nodes send; and nodes may restart
use Rattle.std.proofs.Common.{◌≡◌, ◌⊎◌, ℕ, ◌+◌, ◌<◌, ◌≤◌, true, false, List, [], ◌∷◌, ◌++◌, append_assoc, Option, Some, None, arith, refl, sym, ap, subst, ◌∙◌, inl, inr}
use Rattle.std.specs.Prelude.{Contains, slice_get, slice_set}
use Rattle.std.proofs.lemmas.Bool.{cases_lt, false≢true}
use Rattle.std.proofs.lemmas.List.Elements.{All-nil, Contains-append_left, Contains-append_right, Contains-append_cases, Contains-push, Contains-push_cases}
use Rattle.rb_script.specs.Directive.{PlainDirective}
use Rattle.rb_script.specs.Script.{PlainScript}
use Rattle.rb_directive.specs.declared.requests.AddNodes.{AddNodes}
use Rattle.rb_raftlog.specs.declared.snapshot.Snapshot.{Snapshot}
use Rattle.rb_raftlog.specs.Log.{entry_at}
use Rattle.rb_tracker.specs.Configs.{config_of, state_of}
use Rattle.rb_tracker.specs.declared.config.Config.{Config}
use Rattle.rb_message.specs.declared.kind.MessageKind.TheVariants as kind
use Rattle.rb_message.specs.declared.message.Message.{Message}
use Rattle.rb_message.specs.declared.role.Role.TheVariants as role
use Rattle.rb_node.specs.Node.{PlainNode, NodeStep, message}
use Rattle.rb_node.specs.Restarting.{restarted}
use Rattle.rb_node.specs.Sends.{snapshot_of}
use Rattle.rb_calls.specs.Calling.{Call, Step, Propose, Advance, after}
use Rattle.rb_machine.specs.AddNodes.{base_term, start}
use Rattle.rb_machine.specs.Cluster.{Cluster, empty}
use Rattle.rb_replay.specs.Run.{directives, led, state}
use Rattle.rb_laws.specs.Clusters.{AreSteady, HasSameStarts}
use Rattle.rb_laws.specs.Honesty.{Keeps, IsHonestCall}
use Rattle.rb_laws.specs.Network.{Network, put_out}
use Rattle.rb_laws.specs.Safety.{IsTrueCall, HasCommitted}
use Rattle.rb_laws.proofs.ClusterLaws.{come_after, first_network, all_start_so, begun_with, start_single}
use Rattle.rb_laws.proofs.DirectiveLaws.{IsBrought, Lasts, IsCovered}
use Rattle.rb_laws.proofs.Holding.{Setting}
use Rattle.rb_laws.proofs.JoinLaws.{Joins, AreStartsOf, all_join, get_before, set_before, weaker_steady, two_points}
use Rattle.rb_calls.proofs.ListLaws.{in_nothing}
use Rattle.rb_laws.proofs.NetworkLaws.{called_network}
use Rattle.rb_laws.proofs.RestartedNodes.{IsSaneWith, called_sane_with, restarted_network, restarts_safe}
use Rattle.rb_laws.proofs.RestartHistory.{IsKnownWith, same_since, since_then, calls_known, forgets}
use Rattle.rb_laws.proofs.RestartMoments.{begun_with as sane_begun, begun_known_with, since_had}
use Rattle.rb_laws.proofs.Histories.{IsSince}
use Rattle.rb_laws.proofs.SafetyLaws.{setting_of, setting_config}
use Rattle.rb_laws.proofs.TieLaws.{IsComing, no_vote}
use Rattle.rb_laws.proofs.Spots.{spot}
use Rattle.rb_laws.proofs.Tips.{base_spot}
use Rattle.rb_laws.proofs.LeaderLogs.{History}
use Rattle.rb_laws.proofs.NodeKnowledge.{Ground}
use Rattle.rb_laws.proofs.NetworkHistory.{AreAlike, no_history, state_known}
use Rattle.rb_laws.proofs.CommittedLogs.{had, leader_has, commits_agree, contents_same}
use Rattle.rb_laws.proofs.TwoMoments.{TellsBoth}

-- a network with these nodes and others that are silent so far, to which these messages may come, and a history of it that goes on from another
pub record IsFollowed (g : Ground) (before : History) (silent nodes : List PlainNode) (ms : List Message) : Type 0 where
  pub network : Network
  pub sane : IsSaneWith g.setting network
  pub same : nodes ++ silent ≡ network.nodes
  pub heard : List Message
  pub history : History
  pub since : IsSince before history
  pub known : IsKnownWith g network heard history
  pub fair : (m : Message) → Contains heard m → IsComing g.setting network m
  pub coming : (m : Message) → Contains ms m → Contains heard m

-- ---- a call

honest : (g : Ground) (s : Network) (heard ms : List Message) (k : ℕ) (call : Call) → ((m : Message) → Contains heard m → IsComing g.setting s m) → ((m : Message) → Contains ms m → Contains heard m) → IsBrought true ms k call
    → IsHonestCall g.setting.config s (k + 1) call × IsTrueCall heard (k + 1) call
honest g s heard ms k (Step m) fair coming brought =
    let there = coming m brought.0 in
    let to = brought.1 in
    elim (fair m there) as (λ _. IsHonestCall g.setting.config s (k + 1) (Step m) × IsTrueCall heard (k + 1) (Step m)) [
      | inl said ↦ (inl (said, to), inl (there, to))
      | inr shown ↦ (inr (shown.0, shown.1), inl (there, to))
    ]
honest g s heard ms k (Propose body) fair coming brought = (brought refl, brought refl)
honest g s heard ms k _ fair coming brought = (tt, tt)

still_coming : (g : Setting) (s : Network) (place : ℕ) (c : Call) (t : NodeStep) (m : Message) → IsComing g s m → IsComing g (called_network s place c t.events t.node) m
still_coming g s place c t m is =
    elim is as (λ _. IsComing g (called_network s place c t.events t.node) m) [ inl said ↦ inl (Contains-append_left s.said (put_out c t.node) m said) | inr shown ↦ inr shown ]

module _ (g : Ground) (loose : g.setting.strict ≡ true → ⊥) (before : History) (silent : List PlainNode) where
  there_at : (nodes : List PlainNode) (ms : List Message) (k : ℕ) (n : PlainNode) → slice_get nodes k ≡ Some n → (f : IsFollowed g before silent nodes ms) → slice_get f.network.nodes k ≡ Some n
  there_at nodes ms k n at f = sym (ap (λ (ns : List PlainNode). slice_get ns k) f.same) ∙ get_before nodes silent k n at

  follows_call : (nodes : List PlainNode) (ms all : List Message) (k : ℕ) (call : Call) (t : NodeStep) → slice_get nodes k ≡ Some t.node → IsBrought true ms k call → ((m : Message) → Contains all m → Contains ms m ⊎ Contains (put_out call t.node) m) → IsFollowed g before silent nodes ms
      → IsFollowed g before silent (slice_set nodes k (after call t).node) all
  follows_call nodes ms all k call t at brought either f =
      let s = f.network in
      let out = put_out call t.node in
      let there = there_at nodes ms k t.node at f in
      let h = honest g s f.heard ms k call f.fair f.coming brought in
      let next = calls_known g s f.heard f.history k call t.events t.node f.sane there h.0 loose h.1 f.known in
      record {
        network = called_network s k call t.events t.node;
        sane = called_sane_with g.setting loose s k call t.events t.node there f.sane h.0;
        same = sym (set_before nodes silent k t.node (after call t).node at) ∙ ap (λ (ns : List PlainNode). slice_set ns k (after call t).node) f.same;
        heard = f.heard ++ out;
        history = next.history;
        since = since_then before f.history next.history f.since next.since;
        known = next.known;
        fair = λ m among.
            elim (Contains-append_cases f.heard out m among) as (λ _. IsComing g.setting (called_network s k call t.events t.node) m) [
              | inl earlier ↦ still_coming g.setting s k call t m (f.fair m earlier)
              | inr now ↦ inl (Contains-append_right s.said out m now)
            ];
        coming = λ m among.
            elim (either m among) as (λ _. Contains (f.heard ++ out) m) [
              | inl earlier ↦ Contains-append_left f.heard out m (f.coming m earlier)
              | inr now ↦ Contains-append_right f.heard out m now
            ];
      }

  -- ---- a restart

  follows_restart : (nodes : List PlainNode) (ms : List Message) (k : ℕ) (t : NodeStep) → slice_get nodes k ≡ Some t.node → IsFollowed g before silent nodes ms → IsFollowed g before silent (slice_set nodes k (restarted t.node)) ms
  follows_restart nodes ms k t at f =
      let s = f.network in
      let there = there_at nodes ms k t.node at f in
      let next = forgets g s f.heard f.history k t.node there f.known in
      record {
        network = restarted_network s k t.node;
        sane = restarts_safe g.setting loose s k t.node there f.sane;
        same = sym (set_before nodes silent k t.node (restarted t.node) at) ∙ ap (λ (ns : List PlainNode). slice_set ns k (restarted t.node)) f.same;
        heard = f.heard;
        history = next.history;
        since = since_then before f.history next.history f.since next.since;
        known = next.known;
        fair = f.fair;
        coming = f.coming;
      }

  -- ---- a snapshot sent by hand

  follows_snapshot : (nodes : List PlainNode) (ms : List Message) (k from to : ℕ) (n : PlainNode) → slice_get nodes k ≡ Some n → IsFollowed g before silent nodes ms → IsFollowed g before silent nodes (ms ++ message from to n.term (kind.Snapshot (snapshot_of n)) ∷ [])
  follows_snapshot nodes ms k from to n at f =
      let s = f.network in
      let m = message from to n.term (kind.Snapshot (snapshot_of n)) in
      let heard = f.heard ++ m ∷ [] in
      let there = there_at nodes ms k n at f in
      let good = f.sane.sane.good k n there in
      let keeps : Keeps g.setting.config m = subst (λ (c : Config). config_of (state_of c) ≡ g.setting.config) (sym good.holds.config) g.setting.back in
      record {
        network = s;
        sane = f.sane;
        same = f.same;
        heard = heard;
        history = f.history;
        since = f.since;
        known = record {
          known = state_known g s f.heard f.history m f.sane.sane (record { place = k; node = n; at = there; is = refl; term = refl }) f.known.known;
          saved = f.known.saved;
        };
        fair = λ y among.
            elim (Contains-push_cases f.heard m y among) as (λ _. IsComing g.setting s y) [
              | inl earlier ↦ f.fair y earlier
              | inr now ↦ subst (IsComing g.setting s) now (inr (no_vote n, keeps, tt, λ never. never))
            ];
        coming = λ y among.
            elim (Contains-push_cases ms m y among) as (λ _. Contains heard y) [
              | inl earlier ↦ Contains-append_left f.heard (m ∷ []) y (f.coming y earlier)
              | inr now ↦ subst (Contains heard) now (Contains-push f.heard m)
            ];
      }

follows_with : (g : Ground) (loose : g.setting.strict ≡ true → ⊥) (before : History) (silent : List PlainNode) → Lasts true false (IsFollowed g before silent)
follows_with g loose before silent = record {
  calls = λ nodes ms k call t at brought f. follows_call g loose before silent nodes ms ms k call t at brought (λ m among. inl among) f;
  advances = λ nodes ms k t at f. follows_call g loose before silent nodes ms (ms ++ put_out Advance t.node) k Advance t at tt (λ m among. Contains-append_cases ms (put_out Advance t.node) m among) f;
  shows = λ nodes ms k from to n at f. follows_snapshot g loose before silent nodes ms k from to n at f;
  joins = λ free. absurd (free refl);
  restarts = λ _ nodes ms k t at f. follows_restart g loose before silent nodes ms k t at f;
}

-- nodes come to speak
speaks : (g : Ground) (before : History) (silent news nodes : List PlainNode) (ms : List Message) → IsFollowed g before (news ++ silent) nodes ms → IsFollowed g before silent (nodes ++ news) ms
speaks g before silent news nodes ms f = record {
  network = f.network;
  sane = f.sane;
  same = append_assoc nodes news silent ∙ f.same;
  heard = f.heard;
  history = f.history;
  since = f.since;
  known = f.known;
  fair = f.fair;
  coming = f.coming;
}

follows : (g : Ground) (loose : g.setting.strict ≡ true → ⊥) (before : History) → Joins (IsFollowed g before)
follows g loose before = record { lasts = follows_with g loose before; joins = speaks g before }

-- ---- two points of a script

low_start : (asked : Option ℕ) → base_term asked ≤ 1
low_start None = omega arith
low_start (Some index) = omega arith

start_low : (r : AddNodes) → (start r).term ≤ 1
unfolding start
start_low r = low_start r.index

abbrev IsAs : AddNodes → Snapshot → Type 0
IsAs r from = from ≡ start r

-- what the nodes stand on
pub ground : AddNodes → Ground
ground r = record {
  root = spot (start r).index (start r).term;
  start = record { content = (start r).content; changes = 0; config = config_of (start r).config };
  first = refl;
  setting = setting_of false (start r).config (start_single r);
  same = setting_config false (start r).config (start_single r);
}

same_members : (r : AddNodes) (ds : List PlainDirective) → AreSteady (IsAs r) ds → AreSteady (λ (from : Snapshot). from.config ≡ (start r).config) ds
same_members r ds steady = weaker_steady (IsAs r) (λ (from : Snapshot). from.config ≡ (start r).config) ds (λ from is. ap (λ (x : Snapshot). x.config) is) steady

all_alike : (r : AddNodes) (nodes : List PlainNode) → AreStartsOf (IsAs r) 0 nodes → AreAlike (spot (start r).index (start r).term) (start r).content nodes
all_alike r nodes all k n at =
    let is = all k n at in
    let log = ap (λ (x : PlainNode). base_spot x.log) is.is in
    let content = ap (λ (x : PlainNode). x.content) is.is in
    (log ∙ ap (λ (x : Snapshot). spot x.index x.term) is.as_asked, content ∙ ap (λ (x : Snapshot). x.content) is.as_asked)

begins : (r : AddNodes) (earlier later : List PlainDirective) → AreSteady (IsAs r) earlier → AreSteady (IsAs r) later → IsCovered (IsFollowed (ground r) no_history (first_network earlier later).nodes) empty
unfolding ground empty
begins r earlier later steady steady_still =
    let members = (start r).config in
    let single = start_single r in
    let s = first_network earlier later in
    let none : List Message = [] in
    let begun = begun_with members earlier later (same_members r earlier steady) (same_members r later steady_still) in
    let alike = all_alike r s.nodes (all_start_so (IsAs r) earlier later steady steady_still) in (
      none,
      (
        record {
          network = s;
          sane = sane_begun false members single s begun;
          same = refl;
          heard = [];
          history = no_history;
          since = same_since no_history;
          known = begun_known_with (ground r) members s (start_low r) begun alike;
          fair = λ m among. absurd (in_nothing none m refl among);
          coming = λ m among. absurd (in_nothing none m refl among);
        },
        All-nil (Contains none),
      ),
    )

both_of : (r : AddNodes) (earlier later : List PlainDirective) (j k : ℕ) (first second : PlainNode) → AreSteady (IsAs r) earlier → AreSteady (IsAs r) later
    → slice_get (led empty earlier).nodes j ≡ Some first → slice_get (led (led empty earlier) later).nodes k ≡ Some second → TellsBoth (ground r) first second
unfolding setting_of ground
both_of r earlier later j k first second steady steady_still at there =
    let g = ground r in
    let loose : g.setting.strict ≡ true → ⊥ = λ no. false≢true no in
    let c = led empty earlier in
    let silent = come_after earlier later in
    let x = all_join (follows g loose no_history) (IsAs r) empty earlier silent steady (begins r earlier later steady steady_still) in
    let a = x.1.0 in
    let begin : IsFollowed g a.history silent c.nodes x.0 = record {
      network = a.network;
      sane = a.sane;
      same = a.same;
      heard = a.heard;
      history = a.history;
      since = same_since a.history;
      known = a.known;
      fair = a.fair;
      coming = a.coming;
    } in
    let y = all_join (follows g loose a.history) (IsAs r) c later [] steady_still (x.0, (begin, x.1.1)) in
    let b = y.1.0 in
    let first_at = subst (λ (ns : List PlainNode). slice_get ns j ≡ Some first) a.same (get_before c.nodes silent j first at) in
    let second_at = subst (λ (ns : List PlainNode). slice_get ns k ≡ Some second) b.same (get_before (led c later).nodes [] k second there) in
    record {
      heard = b.heard;
      history = b.history;
      whole = b.known.known.whole;
      earlier = since_had g a.history b.history first b.since (had g a.history (j + 1) first (a.known.known.knows j first first_at));
      later = had g b.history (k + 1) second (b.known.known.knows k second second_at);
      sound_earlier = (a.sane.sane.good j first first_at).sound;
      sound_later = (b.sane.sane.good k second second_at).sound;
    }

-- in which order the points stand doesn't matter
turned : (g : Ground) (first second : PlainNode) → TellsBoth g second first → TellsBoth g first second
turned g first second x = record {
  heard = x.heard;
  history = x.history;
  whole = x.whole;
  earlier = x.later;
  later = x.earlier;
  sound_earlier = x.sound_later;
  sound_later = x.sound_earlier;
}

both_at : (s : PlainScript) (p q j k : ℕ) (first second : PlainNode) → p ≤ q → (h : HasSameStarts s) → slice_get (state s p).nodes j ≡ Some first → slice_get (state s q).nodes k ≡ Some second → TellsBoth (ground h.first) first second
both_at s p q j k first second low h at there =
    let x = two_points (IsAs h.first) (directives s) p q low h.steady in
    both_of h.first x.earlier x.later j k first second x.steady x.steady_still
    (subst (λ (c : Cluster). slice_get c.nodes j ≡ Some first) x.first at) (subst (λ (c : Cluster). slice_get c.nodes k ≡ Some second) x.second there)

pub both_points : (s : PlainScript) (p q j k : ℕ) (first second : PlainNode) → (h : HasSameStarts s) → slice_get (state s p).nodes j ≡ Some first → slice_get (state s q).nodes k ≡ Some second → TellsBoth (ground h.first) first second
both_points s p q j k first second h at there =
    elim (cases_lt p q) as (λ _. TellsBoth (ground h.first) first second) [
      | inl less ↦ both_at s p q j k first second (omega (arith, less)) h at there
      | inr over ↦ turned (ground h.first) first second (both_at s q p k j second first over h there at)
    ]

pub cluster_leads : (s : PlainScript) (p q j k : ℕ) (n l : PlainNode) → HasSameStarts s → slice_get (state s p).nodes j ≡ Some n → slice_get (state s q).nodes k ≡ Some l → l.role ≡ role.Leader → n.term < l.term → HasCommitted n l
cluster_leads s p q j k n l h at there leads past =
    let x = both_points s p q j k n l h at there in
    leader_has (ground h.first) x.heard x.history n l x.whole x.earlier x.later leads past

pub cluster_commits_same : (s : PlainScript) (p q j k i : ℕ) (n m : PlainNode) → HasSameStarts s → slice_get (state s p).nodes j ≡ Some n → slice_get (state s q).nodes k ≡ Some m → i ≤ n.commit → i ≤ m.commit → n.log.base < i → m.log.base < i → entry_at n.log i ≡ entry_at m.log i
cluster_commits_same s p q j k i n m h at there low_n low_m above_n above_m =
    let x = both_points s p q j k n m h at there in
    commits_agree (ground h.first) x.heard x.history n m i x.whole x.earlier x.later low_n low_m above_n above_m

pub cluster_applied_same : (s : PlainScript) (p q j k i : ℕ) (n m : PlainNode) → HasSameStarts s → slice_get (state s p).nodes j ≡ Some n → slice_get (state s q).nodes k ≡ Some m → i ≤ n.applied → i ≤ m.applied → n.log.base < i → m.log.base < i → entry_at n.log i ≡ entry_at m.log i
cluster_applied_same s p q j k i n m h at there low_n low_m above_n above_m =
    let x = both_points s p q j k n m h at there in
    let known_n = x.sound_earlier.is_committed in
    let known_m = x.sound_later.is_committed in
    commits_agree (ground h.first) x.heard x.history n m i x.whole x.earlier x.later (omega (arith, low_n, known_n)) (omega (arith, low_m, known_m)) above_n above_m

pub cluster_contents_agree : (s : PlainScript) (p q j k : ℕ) (n m : PlainNode) → HasSameStarts s → slice_get (state s p).nodes j ≡ Some n → slice_get (state s q).nodes k ≡ Some m → n.applied ≡ m.applied → n.content ≡ m.content
cluster_contents_agree s p q j k n m h at there same =
    let x = both_points s p q j k n m h at there in
    contents_same (ground h.first) x.heard x.history n m x.whole x.earlier x.later x.sound_earlier.is_committed x.sound_later.is_committed same
