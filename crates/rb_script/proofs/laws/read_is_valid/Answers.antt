use Rattle.rb_script.proofs.ValidLaws.{read_valid}
use Rattle.rb_script.proofs.laws.read_is_valid.Goals as goal

pub returns : goal.returns
returns c = read_valid
