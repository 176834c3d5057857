use Rattle.rb_directive.proofs.ApartLaws.{request_apart}
use Rattle.rb_directive.proofs.laws.voters_and_learners_are_apart.Goals as goal

pub returns : goal.returns
returns c = request_apart
