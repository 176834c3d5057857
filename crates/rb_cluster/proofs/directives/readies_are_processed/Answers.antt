use Rattle.std.proofs.Common.{◌∙◌, [], ◌∷◌}
use Rattle.rb_directive.specs.declared.requests.Request.TheVariants as requests
use Rattle.rb_cluster.proofs.DirectiveLaws.{done, ready_goes_out}
use Rattle.rb_cluster.proofs.directives.readies_are_processed.Goals as goal

pub returns : goal.returns
returns x = λ c d id n does at has room. done c d (requests.ProcessReady (id ∷ [])) does ∙ ready_goes_out c id n at has room
