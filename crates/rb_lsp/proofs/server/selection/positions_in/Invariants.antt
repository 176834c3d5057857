-- The positions so far, and those that are left.
use Rattle.std.proofs.Common.{◌≡◌, ◌++◌, drop, map}
use Rattle.serde_json.specs.View.{items_of, view}
use Rattle.rb_lsp.specs.Params.{positions_in}
use Rattle.rb_lsp.proofs.server.selection.positions_in.Given as goal

abbrev pub invariant-loop-place : goal.invariant-loop-place
invariant-loop-place l = l.list.items ++ positions_in (items_of (map view (drop l.place-index l.places))) ≡ positions_in (items_of (map view l.places))
