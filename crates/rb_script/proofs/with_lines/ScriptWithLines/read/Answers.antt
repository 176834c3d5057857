use Rattle.rb_script.specs.declared.with_lines.ScriptWithLines.{ScriptWithLines}
use Rattle.rb_script.specs.Reads.{Reads}
use Rattle.rb_script.specs.Reading.{read_of}
use Rattle.rb_script.proofs.ResultLaws.{answer_fits, only_memory}
use Rattle.rb_script.proofs.ScriptLaws.{read_sound, read_complete}
use Rattle.rb_script.proofs.HeadLineLaws.{heads_of_script}
use Rattle.rb_script.proofs.with_lines.ScriptWithLines.read.Goals as goal

pub returns-clause-found : goal.returns-clause-found
returns-clause-found c =
    let bytes = c.args.bytes.now in
    answer_fits (λ (read : ScriptWithLines). read.script) (Reads bytes) (read_of bytes) (read_sound bytes) (read_complete bytes) c.with_lines.result c.with_lines.ensures.exact

pub returns-clause-same : goal.returns-clause-same
returns-clause-same c = heads_of_script (λ (read : ScriptWithLines). read.script) (λ (read : ScriptWithLines). read.heads.items) c.args.bytes.now c.with_lines.result c.with_lines.ensures.exact c.with_lines.ensures.heads

pub returns-clause-only : goal.returns-clause-only
returns-clause-only c =
    let bytes = c.args.bytes.now in
    only_memory (λ (read : ScriptWithLines). read.script) (Reads bytes) (read_of bytes) (read_sound bytes) (read_complete bytes) c.with_lines.result c.with_lines.ensures.exact
