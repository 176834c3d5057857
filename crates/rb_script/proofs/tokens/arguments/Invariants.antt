use Rattle.std.proofs.Common.{◌≡◌, List, length}
use Rattle.rb_script.specs.Directive.{PlainArgument}
use Rattle.rb_script.specs.Parsed.{KeepsArguments}
use Rattle.rb_script.proofs.ArgumentLaws.{with_arguments, arguments_of}
use Rattle.rb_script.proofs.tokens.arguments.Given as goal

abbrev pub invariant-loop-alloc : goal.invariant-loop-alloc
invariant-loop-alloc l =
    (so_far : List PlainArgument) × KeepsArguments l.initial.at.head l.found so_far × (with_arguments so_far (arguments_of l.at.left) ≡ arguments_of l.initial.at.left) × (l.at.head ≡ l.initial.at.head)

abbrev pub decreases-loop-alloc : goal.decreases-loop-alloc
decreases-loop-alloc l = length l.at.left
