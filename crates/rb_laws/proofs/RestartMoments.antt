-- The properties of figure 3.2 of a network whose nodes restart, at any two moments
use Rattle.std.proofs.Common.{◌≡◌, ℕ, ◌+◌, ◌<◌, ◌≤◌, Bool, true, false, List, [], ◌∷◌, Option, Some, None, refl, sym, ap, subst, ◌∙◌, arith}
use Rattle.std.specs.Prelude.{Contains, slice_get}
use Rattle.std.proofs.lemmas.Bool.{false≢true}
use Rattle.std.proofs.lemmas.List.Elements.{Contains-append_left}
use Rattle.rb_vocab.specs.declared.conf_state.ConfState.{ConfState}
use Rattle.rb_raftlog.specs.Log.{entry_at}
use Rattle.rb_tracker.specs.Configs.{config_of}
use Rattle.rb_message.specs.declared.message.Message.{Message}
use Rattle.rb_message.specs.declared.role.Role.TheVariants as role
use Rattle.rb_node.specs.Node.{PlainNode}
use Rattle.rb_node.specs.Restarting.{restarted}
use Rattle.rb_laws.specs.Network.{Network, Happening, put_out, happened_to, IsStarted, IsBegun, Leads}
use Rattle.rb_laws.specs.Restarts.{Occurrence, Called, Restarted, restarted_to, occurred, passed, AreHonestThrough, IsRestartingNetwork}
use Rattle.rb_laws.specs.Safety.{HasCommitted}
use Rattle.rb_laws.proofs.Links.{still_linked}
use Rattle.rb_calls.proofs.ListLaws.{in_nothing}
use Rattle.rb_laws.proofs.Holding.{Setting, IsElected, still_elected}
use Rattle.rb_laws.proofs.Electing.{one_elected}
use Rattle.rb_laws.proofs.NetworkLaws.{IsSane}
use Rattle.rb_laws.proofs.SafetyLaws.{setting_of, begun_sane, was_elect, its_id}
use Rattle.rb_laws.proofs.Spots.{spot, still_descends}
use Rattle.rb_laws.proofs.Contents.{still_filled}
use Rattle.rb_laws.proofs.LeaderLogs.{History, out_of}
use Rattle.rb_laws.proofs.Tips.{tip, base_spot}
use Rattle.rb_laws.proofs.NodeKnowledge.{Ground, Knows}
use Rattle.rb_laws.proofs.CommittedLogs.{Had, had, leader_has, commits_agree, contents_same}
use Rattle.rb_laws.proofs.NetworkHistory.{AreAlike, begun_known, no_history}
use Rattle.rb_laws.proofs.TrueCalls.{all_honest_through}
use Rattle.rb_laws.proofs.TwoMoments.{TellsBoth, ground_of, alike_at}
use Rattle.rb_laws.proofs.Histories.{IsSince, since_settled}
use Rattle.rb_laws.proofs.Forgetting.{since_tip}
use Rattle.rb_laws.proofs.RestartedLogs.{IsRestartable, started_restartable, restarted_started}
use Rattle.rb_laws.proofs.RestartedNodes.{IsSavedWell, IsSaneWith, pass_sane}
use Rattle.rb_laws.proofs.RestartHistory.{IsKnownWith, pass_known}

-- ---- the beginning

pub begun_with : (strict : Bool) (members : ConfState) (single : members.outgoing ≡ []) (s : Network) → IsBegun members s → IsSaneWith (setting_of strict members single) s
begun_with strict members single s b =
    let g : Setting = setting_of strict members single in
    let sane : IsSane g s = begun_sane strict members single s b in
    record {
      sane = sane;
      safe = λ k n at.
          (let good = sane.good k n at in
          let is : IsStarted members (k + 1) n = b.started k n at in
          let same : restarted n ≡ n = ap restarted is.is ∙ restarted_started (k + 1) is.start is.options ∙ sym is.is in
          record {
            well = subst (λ (y : PlainNode). IsSavedWell g s.said k y) (sym same)
                (record { sound = good.sound; itself = good.holds.itself; config = good.holds.config; plain = good.holds.log; given = λ m among. absurd (in_nothing s.said m b.silent among) });
            restartable = subst IsRestartable (sym is.is) (started_restartable (k + 1) is.start is.options);
          });
    }

pub begun_known_with : (g : Ground) (members : ConfState) (s : Network) → g.root.term ≤ 1 → IsBegun members s → AreAlike g.root g.start.content s.nodes → IsKnownWith g s s.said no_history
begun_known_with g members s low b alike =
    let known = begun_known g members s low b alike in
    record {
      known = known;
      saved = λ k n at.
          (let is : IsStarted members (k + 1) n = b.started k n at in
          let same : restarted n ≡ n = ap restarted is.is ∙ restarted_started (k + 1) is.start is.options ∙ sym is.is in
          record {
            follows = refl;
            none_sent = refl;
            none_waiting = refl;
            knows = subst (λ (y : PlainNode). Knows g (out_of no_history) (k + 1) y) (sym same) (known.knows k n at);
          });
    }

-- ---- election safety

said_to : (s : Network) (h : Happening) (o : Option PlainNode) (m : Message) → Contains s.said m → Contains (happened_to o s h).said m
said_to s h None m said = said
said_to s h (Some n) m said = Contains-append_left s.said (put_out h.call n) m said

said_again : (s : Network) (place : ℕ) (o : Option PlainNode) (m : Message) → Contains s.said m → Contains (restarted_to o s place).said m
said_again s place None m said = said
said_again s place (Some n) m said = said

said_once : (s : Network) (o : Occurrence) (m : Message) → Contains s.said m → Contains (occurred s o).said m
said_once s (Called h) m said = said_to s h (slice_get s.nodes h.place) m said
said_once s (Restarted place) m said = said_again s place (slice_get s.nodes place) m said

still_said : (os : List Occurrence) (s : Network) (m : Message) → Contains s.said m → Contains (passed os s).said m
still_said [] s m said = said
still_said (o ∷ os) s m said = still_said os (occurred s o) m (said_once s o m said)

pub one_leader : (members : ConfState) (s : Network) (earlier later : List Occurrence) (first second term : ℕ) → members.outgoing ≡ [] → IsBegun members s → AreHonestThrough (config_of members) earlier s → AreHonestThrough (config_of members) later (passed earlier s)
    → Leads (passed earlier s).nodes first term → Leads (passed later (passed earlier s)).nodes second term → second ≡ first
unfolding setting_of
one_leader members s earlier later first second term single begun honest honest_still a b =
    let g = setting_of false members single in
    let t = passed earlier s in
    let u = passed later t in
    let loose : g.strict ≡ true → ⊥ = λ no. false≢true no in
    let sane_then : IsSaneWith g t = pass_sane g loose earlier s (begun_with false members single s begun) honest in
    let sane_now : IsSaneWith g u = pass_sane g loose later t sane_then honest_still in
    let was : IsElected g u.said (a.place + 1) term = still_elected g t.said u.said (a.place + 1) term (λ m said. still_said later t m said) (was_elect g t first term sane_then.sane a) in
    sym (its_id g u second term sane_now.sane b)
    ∙ one_elected g u.said (b.place + 1) (a.place + 1) term sane_now.sane.once (was_elect g u second term sane_now.sane b) was
    ∙ its_id g t first term sane_then.sane a

-- ---- two nodes, each at its moment

pub since_had : (g : Ground) (old new : History) (n : PlainNode) → IsSince old new → Had g old n → Had g new n
since_had g old new n since h = record {
  linked = still_linked old.links new.links n.log since.links h.linked;
  rooted = still_descends old.links new.links (base_spot n.log) g.root since.links h.rooted;
  commit_term = h.commit_term;
  commit_held = h.commit_held;
  commit = since_settled g.root g.start old new n.term (spot n.commit h.commit_term) since h.commit;
  filled = still_filled old.links new.links g.root g.start n.log n.applied n.content since.links h.filled;
  leads = λ is. since_tip old new n.term (tip n.log) since (h.leads is);
}

tells_then : (s : Network) (earlier later : List Occurrence) (j k : ℕ) (first second : PlainNode) → (net : IsRestartingNetwork s earlier later)
    → slice_get (passed earlier s).nodes j ≡ Some first → slice_get (passed later (passed earlier s)).nodes k ≡ Some second → TellsBoth (ground_of s net.starts) first second
unfolding setting_of
tells_then s earlier later j k first second net at there =
    let start = net.starts in
    let g : Ground = ground_of s start in
    let t = passed earlier s in
    let loose : g.setting.strict ≡ true → ⊥ = λ no. false≢true no in
    let sane : IsSaneWith g.setting s = begun_with false start.members start.single s start.begun in
    let honest : AreHonestThrough g.setting.config earlier s = all_honest_through g.setting loose earlier s sane net.before in
    let sane_then : IsSaneWith g.setting t = pass_sane g.setting loose earlier s sane honest in
    let honest_still : AreHonestThrough g.setting.config later t = all_honest_through g.setting loose later t sane_then net.since in
    let sane_now : IsSaneWith g.setting (passed later t) = pass_sane g.setting loose later t sane_then honest_still in
    let alike = alike_at start.index start.term start.content s.nodes start.begins in
    let a = pass_known g earlier s s.said no_history loose sane honest net.before (begun_known_with g start.members s start.low start.begun alike) in
    let b = pass_known g later t a.heard a.history loose sane_then honest_still net.since a.known in
    record {
      heard = b.heard;
      history = b.history;
      whole = b.known.known.whole;
      earlier = since_had g a.history b.history first b.since (had g a.history (j + 1) first (a.known.known.knows j first at));
      later = had g b.history (k + 1) second (b.known.known.knows k second there);
      sound_earlier = (sane_then.sane.good j first at).sound;
      sound_later = (sane_now.sane.good k second there).sound;
    }

pub leads_after : (s : Network) (earlier later : List Occurrence) (j k : ℕ) (n l : PlainNode) → IsRestartingNetwork s earlier later
    → slice_get (passed earlier s).nodes j ≡ Some n → slice_get (passed later (passed earlier s)).nodes k ≡ Some l → l.role ≡ role.Leader → n.term < l.term → HasCommitted n l
leads_after s earlier later j k n l net at there leads past =
    let x = tells_then s earlier later j k n l net at there in
    leader_has (ground_of s net.starts) x.heard x.history n l x.whole x.earlier x.later leads past

pub leads_before : (s : Network) (earlier later : List Occurrence) (j k : ℕ) (l n : PlainNode) → IsRestartingNetwork s earlier later
    → slice_get (passed earlier s).nodes j ≡ Some l → slice_get (passed later (passed earlier s)).nodes k ≡ Some n → l.role ≡ role.Leader → n.term < l.term → HasCommitted n l
leads_before s earlier later j k l n net at there leads past =
    let x = tells_then s earlier later j k l n net at there in
    leader_has (ground_of s net.starts) x.heard x.history n l x.whole x.later x.earlier leads past

pub commits_same : (s : Network) (earlier later : List Occurrence) (j k i : ℕ) (n m : PlainNode) → IsRestartingNetwork s earlier later
    → slice_get (passed earlier s).nodes j ≡ Some n → slice_get (passed later (passed earlier s)).nodes k ≡ Some m → i ≤ n.commit → i ≤ m.commit → n.log.base < i → m.log.base < i → entry_at n.log i ≡ entry_at m.log i
commits_same s earlier later j k i n m net at there low_n low_m above_n above_m =
    let x = tells_then s earlier later j k n m net at there in
    commits_agree (ground_of s net.starts) x.heard x.history n m i x.whole x.earlier x.later low_n low_m above_n above_m

pub applied_same : (s : Network) (earlier later : List Occurrence) (j k i : ℕ) (n m : PlainNode) → IsRestartingNetwork s earlier later
    → slice_get (passed earlier s).nodes j ≡ Some n → slice_get (passed later (passed earlier s)).nodes k ≡ Some m → i ≤ n.applied → i ≤ m.applied → n.log.base < i → m.log.base < i → entry_at n.log i ≡ entry_at m.log i
applied_same s earlier later j k i n m net at there low_n low_m above_n above_m =
    let x = tells_then s earlier later j k n m net at there in
    let known_n = x.sound_earlier.is_committed in
    let known_m = x.sound_later.is_committed in
    commits_agree (ground_of s net.starts) x.heard x.history n m i x.whole x.earlier x.later (omega (arith, low_n, known_n)) (omega (arith, low_m, known_m)) above_n above_m

pub contents_agree : (s : Network) (earlier later : List Occurrence) (j k : ℕ) (n m : PlainNode) → IsRestartingNetwork s earlier later
    → slice_get (passed earlier s).nodes j ≡ Some n → slice_get (passed later (passed earlier s)).nodes k ≡ Some m → n.applied ≡ m.applied → n.content ≡ m.content
contents_agree s earlier later j k n m net at there same =
    let x = tells_then s earlier later j k n m net at there in
    contents_same (ground_of s net.starts) x.heard x.history n m x.whole x.earlier x.later x.sound_earlier.is_committed x.sound_later.is_committed same
