use Rattle.std.proofs.Common.{◌≡◌, ◌-◌, ◌+◌, ◌≤◌, drop, length, vec_len}
use Rattle.std.specs.List.{AllByRecursion}
use Rattle.rb_script.specs.declared.limits.TheConstants.{MAX_DIRECTIVES}
use Rattle.rb_script.specs.Valid.{IsLine}
use Rattle.rb_script.specs.Shared.{values}
use Rattle.rb_script.specs.Blocks.{blocks_at}
use Rattle.rb_script.specs.Reading.{capped}
use Rattle.rb_script.proofs.BlocksLaws.{with_blocks}
use Rattle.rb_script.proofs.HeadLineLaws.{HeadsSoFar}
use Rattle.rb_script.proofs.LengthLaws.{blocks_len}
use Rattle.rb_script.proofs.reading.blocks.Given as goal

abbrev pub invariant-loop-alloc : goal.invariant-loop-alloc
invariant-loop-alloc l = record {
  within : l.at ≤ length l.all;
  read : with_blocks (values l.found.items) (blocks_at (MAX_DIRECTIVES - vec_len l.found) (1 + length l.all) (drop l.at l.all)) ≡ blocks_at MAX_DIRECTIVES (1 + length l.all) l.all;
  lines_left : AllByRecursion IsLine (drop l.at l.all);
  few : vec_len l.found ≤ MAX_DIRECTIVES;
  len : l.text_len ≡ capped (blocks_len (values l.found.items));
  heads : HeadsSoFar 1 l.all (values l.found.items) (drop l.at l.all) l.heads.items;
}

abbrev pub decreases-loop-alloc : goal.decreases-loop-alloc
decreases-loop-alloc l = MAX_DIRECTIVES - vec_len l.found
