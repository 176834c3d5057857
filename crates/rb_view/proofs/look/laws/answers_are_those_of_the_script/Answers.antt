use Rattle.rb_view.proofs.LookLaws.{answers-stand}
use Rattle.rb_view.proofs.look.laws.answers_are_those_of_the_script.Goals as goal

pub returns : goal.returns
returns c = λ s new question b n one within placed. answers-stand s new question b n one within placed
