use Rattle.rb_check.specs.Results.{listed_of}
use Rattle.rb_check.proofs.ReportLaws.{lists_lacking}
use Rattle.rb_check.proofs.ShownLaws.{goes_lacking}
use Rattle.rb_check.proofs.running_check.RunningCheck.add.Goals as goal

pub returns-in-Err-clause-listed : goal.returns-in-Err-clause-listed
returns-in-Err-clause-listed g c =
    let self = c.args.self.now in
    lists_lacking self.report.state c.fail_for_memory.new.self.state self.results.differing.items c.list.new.self.differing.items (listed_of c.args.path.now c.args.found) c.fail_for_memory.ensures.state

pub returns-in-Err-clause-shown : goal.returns-in-Err-clause-shown
returns-in-Err-clause-shown g c = goes_lacking _ _ _ _ _ c.fail_for_memory.ensures.state
