use Rattle.std.proofs.Common.{Bool, Some, None, ap, sym, ◌∙◌}
use Rattle.std.specs.Prelude.{if◌then◌else◌}
use Rattle.rb_lsp.proofs.DocumentLaws.{stopped}
use Rattle.rb_lsp.proofs.server.changes.change_all.Goals as goal

pub returns-then-not-branch : goal.returns-then-not-branch
returns-then-not-branch c =
    stopped c.args.encoding c.args.changes.now c.loop-change.change-index c.change-item.result c.loop-change.document _ c.loop-change-test.true c.change-item.is
    (sym c.in_ok-change_once.ensures ∙ ap (λ (b : Bool). if b then Some c.change_once.new.document else None) c.if-not-branch.true) c.loop-change.invariant
