-- The paths that the lines so far name.
use Rattle.std.proofs.Common.{◌≡◌, map, string_bytes, take}
use Rattle.std.specs.List.{filter_map}
use Rattle.std.specs.Path.{path_join}
use Rattle.rb_files.specs.Ignored.{named_by}
use Rattle.rb_files.proofs.ignored.ignored_by.Given as goal

abbrev pub invariant-loop-line : goal.invariant-loop-line
invariant-loop-line l = map string_bytes l.paths.items ≡ map (path_join l.folder) (filter_map named_by (map (λ t. t.now) (take l.line-index l.line-items)))
