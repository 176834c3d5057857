use Rattle.indexmap.specs.Layout.{length-set_value_at}
use Rattle.rb_tracker.proofs.ViewLaws.{put_in_order, removed_in_order, set_in_order}
use Rattle.rb_tracker.proofs.ActiveLaws.{unmarked_in_order, unmarked_length}
use Rattle.rb_tracker.proofs.laws.views_stay_in_order.Goals as goal

pub returns-clause-put : goal.returns-clause-put
returns-clause-put c = put_in_order

pub returns-clause-taken : goal.returns-clause-taken
returns-clause-taken c = λ t id. removed_in_order id t.views

pub returns-clause-written : goal.returns-clause-written
returns-clause-written c = λ t. set_in_order t.views

pub returns-clause-others_marked_inactive : goal.returns-clause-others_marked_inactive
returns-clause-others_marked_inactive c = unmarked_in_order

pub returns-clause-written_length : goal.returns-clause-written_length
returns-clause-written_length c = λ t. length-set_value_at t.views

pub returns-clause-unmarked_length : goal.returns-clause-unmarked_length
returns-clause-unmarked_length c = unmarked_length
