-- The changes that are left make the same of the text so far.
use Rattle.std.proofs.Common.{◌≡◌, Some, drop, map}
use Rattle.serde_json.specs.View.{items_of, view}
use Rattle.rb_lsp.specs.DocumentChanges.{changed_all}
use Rattle.rb_lsp.proofs.server.changes.change_all.Given as goal

abbrev pub invariant-loop-change : goal.invariant-loop-change
invariant-loop-change l = changed_all l.encoding (items_of (map view (drop l.change-index l.changes))) (Some l.document) ≡ changed_all l.encoding (items_of (map view l.changes)) (Some l.fn.document)
