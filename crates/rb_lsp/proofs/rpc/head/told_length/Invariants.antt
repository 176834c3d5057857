-- What the fields tell, those that are left tell.
use Rattle.std.proofs.Common.{◌≡◌, map, drop}
use Rattle.httparse.specs.Spans.{header_bytes}
use Rattle.rb_lsp.specs.Messages.{told_length}
use Rattle.rb_lsp.proofs.rpc.head.told_length.Given as goal

abbrev pub invariant-loop-field : goal.invariant-loop-field
invariant-loop-field l = told_length (map (header_bytes l.bytes) l.fields) ≡ told_length (map (header_bytes l.bytes) (drop l.field-index l.fields))
