-- The name is none of those that were looked at.
use Rattle.std.proofs.Common.{◌≡◌, drop, map}
use Rattle.serde_json.specs.View.{items_of, view}
use Rattle.rb_lsp.specs.Beginnings.{is_among}
use Rattle.rb_lsp.proofs.server.beginning.is_among.Given as goal

abbrev pub invariant-loop-other : goal.invariant-loop-other
invariant-loop-other l = is_among l.name (items_of (map view (drop l.other-index l.names))) ≡ is_among l.name (items_of (map view l.names))
