use Rattle.rb_editor.proofs.IdLaws.{changes_added}
use Rattle.rb_editor.proofs.offers.ids.add_changes.Goals as goal

pub returns : goal.returns
returns c =
    changes_added c.add_first-3.result _ _ c.args.nodes c.args.front.now c.args.list.now.items _ _ _ c.change_wanted-wanted.ensures c.min-count.ensures c.in_ok-add_first.ensures c.in_ok-add_first-2.ensures c.add_first-3.ensures
