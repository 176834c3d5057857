use Rattle.rb_program.proofs.WrittenLaws.{rows_are}
use Rattle.rb_program.proofs.script_steps.rows.Goals as goal

pub steps_of-requires-clause-count : goal.steps_of-requires-clause-count
steps_of-requires-clause-count g c = c.requires.heads.count

pub returns-clause-rows : goal.returns-clause-rows
returns-clause-rows g c =
    rows_are c.args.bytes.now c.args.read.heads.items c.args.read.script c.in_ok-ran.ran (λ r. r.1) c.requires.heads c.in_ok-ran.ensures.room c.in_ok-ran.ensures.texts
