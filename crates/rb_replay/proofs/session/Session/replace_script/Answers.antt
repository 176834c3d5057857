use Rattle.std.proofs.Common.{subst}
use Rattle.rb_replay.specs.Run.{directives}
use Rattle.rb_replay.specs.Holding.{Holding, IsOneRun}
use Rattle.rb_replay.specs.Replacements.{IsLongestSplice}
use Rattle.rb_replay.proofs.ReplacementLaws.{splice-change, replaced-answer, replaced-refused}
use Rattle.rb_replay.proofs.session.Session.replace_script.Goals as goal

pub replay-requires-clause-change : goal.replay-requires-clause-change
replay-requires-clause-change g c =
    let fresh : IsOneRun c.args.self.now = subst IsOneRun c.self.view_is c.self.invariant in
    let longest : IsLongestSplice (directives c.args.self.now.script) (directives c.args.script) c.longest_splice-splice.result = subst (λ (h : Holding). IsLongestSplice (directives h.script) (directives c.args.script) c.longest_splice-splice.result) c.self.view_is c.longest_splice-splice.ensures in
    splice-change c.args.self.now c.args.script c.longest_splice-splice.result fresh longest

pub returns-clause-answer : goal.returns-clause-answer
returns-clause-answer g c =
    let longest : IsLongestSplice (directives c.args.self.now.script) (directives c.args.script) c.longest_splice-splice.result = subst (λ (h : Holding). IsLongestSplice (directives h.script) (directives c.args.script) c.longest_splice-splice.result) c.self.view_is c.longest_splice-splice.ensures in
    replaced-answer c.args.self.now c.replay.new.self c.args.script c.longest_splice-splice.result c.replay.result longest c.replay.ensures.script c.replay.ensures.checkpoint_interval c.replay.ensures.reuse c.replay.ensures.mismatches c.replay.ensures.fresh c.replay.ensures.err

pub returns-clause-refused : goal.returns-clause-refused
returns-clause-refused g c =
    let longest : IsLongestSplice (directives c.args.self.now.script) (directives c.args.script) c.longest_splice-splice.result = subst (λ (h : Holding). IsLongestSplice (directives h.script) (directives c.args.script) c.longest_splice-splice.result) c.self.view_is c.longest_splice-splice.ensures in
    replaced-refused c.args.self.now c.args.script c.longest_splice-splice.result c.replay.result _ longest c.replay.ensures.refused
