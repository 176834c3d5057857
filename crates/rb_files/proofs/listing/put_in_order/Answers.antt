use Rattle.std.proofs.lemmas.List.Filters.{dedup_is}
use Rattle.std.proofs.lemmas.List.Kept.{IsStrictlySortedBy-dedup}
use Rattle.std.specs.Cmp.Lexicographic.{texts_ties}
use Rattle.std.specs.String.{string_cmp_total}
use Rattle.std.specs.Prelude.{string_bytes}
use Rattle.rb_files.proofs.NameLaws.{same_names}
use Rattle.rb_files.proofs.listing.put_in_order.Goals as goal

pub returns-clause-order : goal.returns-clause-order
returns-clause-order c = rw (dedup_is _ _ _ c.dedup.ensures.filtered) (IsStrictlySortedBy-dedup string_cmp_total (λ x y. texts_ties (string_bytes x) (string_bytes y)) _ c.sort_unstable.ensures.sorted)

pub returns-clause-same : goal.returns-clause-same
returns-clause-same c name = same_names c.args.names.now.items c.sort_unstable.new.self.items c.dedup.new.self.items name c.sort_unstable.ensures.permutation (dedup_is _ _ _ c.dedup.ensures.filtered)
