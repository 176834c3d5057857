-- The document stands behind those that were looked at.
use Rattle.std.proofs.Common.{◌≡◌, ◌+◌, drop}
use Rattle.rb_lsp.specs.Documents.{place_of}
use Rattle.rb_lsp.proofs.server.documents.place_in.Given as goal

abbrev pub invariant-loop-i : goal.invariant-loop-i
invariant-loop-i g l = l.i + place_of l.uri (drop l.i l.documents) ≡ place_of l.uri l.documents
