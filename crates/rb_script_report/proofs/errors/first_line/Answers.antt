use Rattle.std.proofs.Common.{◌≡◌, List, [], ◌∷◌, Some}
use Rattle.std.specs.Prelude.{slice_get}
use Rattle.rb_script.specs.Lines.{Line}
use Rattle.rb_script_report.specs.Errors.{first_line}
use Rattle.rb_script_report.proofs.errors.first_line.Goals as goal

first_is : (ls : List Line) (line : Line) → slice_get ls 0 ≡ Some line → line ≡ first_line ls
first_is [] line e = absurd cc
first_is (l ∷ ls) line e = cc

pub returns : goal.returns
returns c = first_is c.args.output.now c.line.result.now c.line.ensures
