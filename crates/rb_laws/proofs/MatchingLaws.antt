-- Log matching of a network: all logs, at whatever moments, are linked by links of which an index has one of a term
use Rattle.std.proofs.Common.{◌≡◌, ℕ, ◌+◌, true, List, [], Some, refl}
use Rattle.std.specs.Prelude.{slice_get}
use Rattle.rb_vocab.specs.declared.conf_state.ConfState.{ConfState}
use Rattle.rb_raftlog.specs.Laws.{AreMatching}
use Rattle.rb_tracker.specs.Configs.{config_of}
use Rattle.rb_node.specs.Node.{PlainNode}
use Rattle.rb_laws.specs.Honesty.{AreHonest, AreGenuine}
use Rattle.rb_laws.specs.Network.{Network, Happening, run, IsBegun}
use Rattle.rb_laws.proofs.Links.{still_linked, linked_match}
use Rattle.rb_laws.proofs.Holding.{IsIn, essence}
use Rattle.rb_laws.proofs.NetworkLaws.{IsSane, Since, run_sane, run_since}
use Rattle.rb_laws.proofs.SafetyLaws.{setting_of, begun_sane}

pub two_match : (members : ConfState) (s : Network) (earlier later : List Happening) (j k : ℕ) (first second : PlainNode) → members.outgoing ≡ [] → IsBegun members s → AreHonest (config_of members) earlier s → AreHonest (config_of members) later (run earlier s) → AreGenuine earlier s → AreGenuine later (run earlier s) → slice_get (run earlier s).nodes j ≡ Some first → slice_get (run later (run earlier s)).nodes k ≡ Some second → AreMatching first.log second.log
unfolding setting_of
two_match members s earlier later j k first second single begun honest honest_still genuine genuine_still at there =
    let g = setting_of true members single in
    let t = run earlier s in
    let u = run later t in
    let sane : IsSane g t = run_sane g earlier s (begun_sane true members single s begun) honest (λ _. genuine) in
    let q : Since g sane.links u = run_since g later t sane honest_still (λ _. genuine_still) in
    let a : IsIn g t.said (j + 1) sane.links (essence first) = (sane.good j first at).linked refl in
    let b : IsIn g u.said (k + 1) q.sane.links (essence second) = (q.sane.good k second there).linked refl in
    linked_match q.sane.links first.log second.log b.single (still_linked sane.links q.sane.links first.log q.since a.logged) b.logged
