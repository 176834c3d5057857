use Rattle.rb_script.specs.Script.{PlainScript}
use Rattle.rb_script.specs.Reads.{Reads}
use Rattle.rb_script.specs.Reading.{read_of}
use Rattle.rb_script.proofs.ResultLaws.{answer_fits, fit_answered, none_fits}
use Rattle.rb_script.proofs.ScriptLaws.{read_sound, read_complete}
use Rattle.rb_script.proofs.script.Script.read.Goals as goal

pub returns-clause-found : goal.returns-clause-found
returns-clause-found c =
    let bytes = c.args.bytes.now in
    answer_fits (λ (s : PlainScript). s) (Reads bytes) (read_of bytes) (read_sound bytes) (read_complete bytes) c.script.result c.script.ensures.exact

pub returns-clause-only : goal.returns-clause-only
returns-clause-only c =
    let bytes = c.args.bytes.now in
    fit_answered (λ (s : PlainScript). s) (Reads bytes) (read_of bytes) (read_sound bytes) (read_complete bytes) c.script.result c.script.ensures.exact

pub returns-clause-refused : goal.returns-clause-refused
returns-clause-refused c =
    let bytes = c.args.bytes.now in
    none_fits (λ (s : PlainScript). s) (Reads bytes) (read_of bytes) (read_sound bytes) (read_complete bytes) c.script.result c.script.ensures.exact
