-- The words so far hold of the path.
use Rattle.std.proofs.Common.{string_bytes}
use Rattle.std.specs.List.{AllWithin}
use Rattle.rb_files.specs.Finds.{IsMet}
use Rattle.rb_files.proofs.filter.is_kept.Given as goal

abbrev pub invariant-loop-word : goal.invariant-loop-word
invariant-loop-word l = AllWithin (λ word. IsMet (string_bytes word) l.path) l.words 0 l.word-index
