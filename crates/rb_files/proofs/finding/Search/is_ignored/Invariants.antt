-- None so far.
use Rattle.std.proofs.Common.{◌≡◌, take, false, string_bytes}
use Rattle.std.specs.List.{list_any}
use Rattle.std.specs.Str.{bytes_eq}
use Rattle.rb_files.proofs.finding.Search.is_ignored.Given as goal

abbrev pub invariant-loop-ignored : goal.invariant-loop-ignored
invariant-loop-ignored l = list_any (λ i. bytes_eq (string_bytes i) l.path) (take l.ignored-index l.self.ignored.items) ≡ false
