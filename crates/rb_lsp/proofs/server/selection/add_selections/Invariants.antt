-- What went out so far, and the positions that are left.
use Rattle.std.proofs.Common.{◌≡◌, ◌++◌, [], drop}
use Rattle.rb_lsp.specs.Questions.{each_selection}
use Rattle.rb_lsp.proofs.server.selection.add_selections.Given as goal

abbrev pub invariant-loop-position : goal.invariant-loop-position
invariant-loop-position g l =
    l.out.items ++ each_selection g.V.Service.meaning l.request.client l.request.uri.now l.text l.lead (drop l.position-index l.positions)
    ≡ l.initial.out.items ++ each_selection g.V.Service.meaning l.request.client l.request.uri.now l.text [] l.positions
