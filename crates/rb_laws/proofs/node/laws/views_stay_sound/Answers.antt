use Rattle.std.proofs.Common.{refl}
use Rattle.rb_laws.proofs.ViewLaws.{called_views, run_views}
use Rattle.rb_laws.proofs.node.laws.views_stay_sound.Goals as goal

pub returns-clause-started : goal.returns-clause-started
returns-clause-started c = λ id start options. record { only_leading = λ _. refl; each = tt }

pub returns-clause-called : goal.returns-clause-called
returns-clause-called c = λ call t. (called_views call t).views

pub returns-clause-run : goal.returns-clause-run
returns-clause-run c = λ cs t. (run_views cs t).views
