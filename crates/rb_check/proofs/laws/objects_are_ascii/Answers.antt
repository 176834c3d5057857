use Rattle.rb_check.proofs.LineLaws.{all_printable}
use Rattle.rb_check.proofs.laws.objects_are_ascii.Goals as goal

pub returns : goal.returns
returns c = all_printable
