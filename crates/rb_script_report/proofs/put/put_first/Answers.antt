use Rattle.rb_replay.specs.Report.{mismatches}
use Rattle.std.proofs.Common.{◌+◌, false}
use Rattle.rb_text.proofs.SentLaws.{writes_along}
use Rattle.rb_script_report.specs.Whys.{told_at}
use Rattle.rb_script_report.proofs.ShownLaws.{of_first-is}
use Rattle.rb_script_report.proofs.put.put_first.Goals as goal

pub returns-in-Some-clause-wrote : goal.returns-in-Some-clause-wrote
returns-in-Some-clause-wrote g c =
    let run = c.args.run.now in
    let s = run.session.now.script in
    let v = c.args.view in
    writes_along _ _ _ _ _ (of_first-is (told_at c.args.table.now.left false v.colors v.path.now run.whys.now run.layout.now.heads.items s) (c.in-Some.index + 1) (mismatches s) c.in-Some.ensures.some) c.put_mismatch_at.ensures.wrote
