use Rattle.rb_view.proofs.JsonLaws.{rows_are}
use Rattle.rb_view.proofs.rows.laws.rows_are_json.Goals as goal

pub returns : goal.returns
returns c = rows_are
