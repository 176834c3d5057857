use Rattle.std.proofs.Common.{◌∙◌, ap₂}
use Rattle.rb_script.specs.Directive.{PlainDirective}
use Rattle.rb_script.specs.Tokens.{plain}
use Rattle.rb_machine.specs.Cluster.{Cluster}
use Rattle.rb_machine.specs.Outcome.{execution}
use Rattle.rb_script_report.specs.Whys.{reasons_of}
use Rattle.rb_editor.proofs.HoverLaws.{seen_after, text_shown}
use Rattle.rb_editor.proofs.actions.hover.shown_at.Goals as goal

pub returns : goal.returns
returns g c =
    let s = c.args.session.now.script in
    let before = g.M.Machine.meaning c.in_ok-machine.machine in
    let why = c.in_ok-after.ensures.reasons ∙ ap₂ (λ (m : Cluster) (d : PlainDirective). reasons_of (execution m d)) c.in_ok-machine.ensures.machine c.directive.ensures.whole in
    let looks = seen_after s c.args.index c.args.block.now (plain c.directive.result) before (g.M.Machine.meaning c.in_ok-after.after) c.in_ok-seen.seen c.requires.there
    c.in_ok-machine.ensures.machine c.directive.ensures.whole c.in_ok-after.ensures.machine c.in_ok-seen.ensures in
    text_shown c.args.output.now c.in_ok-after.reasons _ c.in_ok-seen.seen _ c.in_ok-text.text.items c.push.new.self.items c.extend_from_slice.new.self.items c.text.result.now
    c.in_ok-text.ensures c.in_ok-push.ensures.items c.in_ok-extend_from_slice.ensures.items c.text.ensures why looks
