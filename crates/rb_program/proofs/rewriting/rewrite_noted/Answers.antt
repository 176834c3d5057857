use Rattle.rb_bench.specs.declared.running.Mode.TheVariants as modes
use Rattle.rb_bench.specs.Runs.{Answers}
use Rattle.rb_program.proofs.EndLaws.{ends_as}
use Rattle.rb_program.proofs.rewriting.rewrite_noted.Goals as goal

pub returns : goal.returns
returns g c = rw (c.ended.ensures, c.put_notes.ensures) (ends_as (Answers modes.Rewrite c.args.bytes.now) _ _ _ c.rewrite_bytes-rewritten.ensures.answered)
