use Rattle.std.proofs.Common.{ap, subst, ◌∙◌}
use Rattle.rb_script.specs.Tokens.{SpannedDirective}
use Rattle.rb_script.specs.Spans.{IsSpanned}
use Rattle.rb_script.proofs.DirectiveLaws.{spanned_there, plain_there, parts_there}
use Rattle.rb_script.proofs.directive.DirectiveRef.argument.Goals as goal

pub returns-clause-same : goal.returns-clause-same
returns-clause-same c =
    let same = c.arguments-args.ensures ∙ ap (λ (x : SpannedDirective). x.args) c.self.view_is in
    spanned_there c.args.self.now c.arguments-args.result.now c.args.i c.index-args-i.result same c.requires c.index-args-i.is

pub returns-clause-plain : goal.returns-clause-plain
returns-clause-plain c =
    let same = c.arguments-args.ensures ∙ ap (λ (x : SpannedDirective). x.args) c.self.view_is in
    plain_there c.args.self.now c.arguments-args.result.now c.args.i c.index-args-i.result same c.requires c.index-args-i.is

pub returns-clause-parts : goal.returns-clause-parts
returns-clause-parts c =
    let same = c.arguments-args.ensures ∙ ap (λ (x : SpannedDirective). x.args) c.self.view_is in
    parts_there c.args.self.now c.arguments-args.result.now c.args.i c.index-args-i.result same c.requires c.index-args-i.is (subst IsSpanned c.self.view_is c.self.invariant)
