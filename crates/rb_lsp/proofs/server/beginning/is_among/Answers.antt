use Rattle.std.proofs.Common.{◌∙◌, sym}
use Rattle.rb_lsp.proofs.NamedLaws.{named_here, named_none, named_past}
use Rattle.rb_lsp.proofs.server.beginning.is_among.Goals as goal

pub returns-then-is_text : goal.returns-then-is_text
returns-then-is_text c =
    sym (named_here c.args.name.now c.args.names.now c.loop-other.other-index c.other-item.result c.loop-other-test.true c.other-item.is (sym c.is_text.ensures ∙ c.if-is_text.true)) ∙ c.loop-other.invariant

pub loop-other-preserved : goal.loop-other-preserved
loop-other-preserved c =
    sym (named_past c.args.name.now c.args.names.now c.loop-other.other-index c.other-item.result c.loop-other-test.true c.other-item.is (sym c.is_text.ensures ∙ c.if-is_text.false)) ∙ c.loop-other.invariant

pub returns : goal.returns
returns c = sym (named_none c.args.name.now c.args.names.now c.loop-other.other-index c.loop-other-test.false) ∙ c.loop-other.invariant
