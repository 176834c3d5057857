-- Those so far, and those that are left.
use Rattle.std.proofs.Common.{◌≡◌, ◌≤◌, ◌+◌, drop}
use Rattle.rb_lsp.specs.Tables.{feed_count}
use Rattle.rb_lsp.proofs.document.line_table.feed_count.Given as goal

abbrev pub invariant-loop-b : goal.invariant-loop-b
invariant-loop-b l = record {
  all : l.count + feed_count (drop l.b-index l.text) ≡ feed_count l.text;
  few : l.count ≤ l.b-index;
}
