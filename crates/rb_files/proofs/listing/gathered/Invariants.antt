-- What is kept of the parts so far.
use Rattle.std.proofs.Common.{◌≡◌, map, string_bytes, take}
use Rattle.rb_files.specs.Names.{strange_bytes, strange_names, text_names}
use Rattle.rb_files.proofs.listing.gathered.Given as goal

abbrev pub invariant-loop-part : goal.invariant-loop-part
invariant-loop-part l = record {
  names : map string_bytes l.listing.names.items ≡ text_names (map (λ p. p.now) (take l.part-index l.parts));
  strange : strange_bytes l.listing.strange.items ≡ strange_names (map (λ p. p.now) (take l.part-index l.parts));
}
