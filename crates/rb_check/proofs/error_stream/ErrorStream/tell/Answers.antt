use Rattle.rb_check.specs.Shown.{cleared}
use Rattle.rb_check.proofs.ShownLaws.{told_one, told_then}
use Rattle.rb_check.proofs.error_stream.ErrorStream.tell.Goals as goal

pub returns-clause-told : goal.returns-clause-told
returns-clause-told g c =
    let text = g.T.WrittenPiece.text c.args.text.now in
    told_then _ _ _ (cleared c.args.self.now.shows_progress) text c.clear.ensures.told
    (told_one _ _ _ c.put.result c.flush.result text c.put.ensures.all c.flush.ensures.all c.put.ensures.wrote c.flush.ensures.held)
