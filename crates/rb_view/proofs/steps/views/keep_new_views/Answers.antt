use Rattle.std.proofs.Common.{◌++◌, List, ap}
use Rattle.rb_script.specs.Lines.{Line}
use Rattle.rb_report.proofs.CellLaws.{then_is}
use Rattle.rb_view.proofs.NewRowLaws.{views_new}
use Rattle.rb_view.proofs.steps.views.keep_new_views.Goals as goal

pub returns : goal.returns
returns g c =
    then_is c.keep_own_views_since.result c.keep_own_views_since.new.texts _ _ c.keep_own_views_since.ensures
    (ap (λ (l : List Line). c.args.texts.now ++ l) (views_new c.args.old.now c.args.new.now))
