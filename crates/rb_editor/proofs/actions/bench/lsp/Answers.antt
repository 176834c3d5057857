use Rattle.std.proofs.Common.{ℕ, List, Option, Result, Ok, Err, refl}
use Rattle.std.specs.Prelude.{OnErr}
use Rattle.rb_text.proofs.AskedLaws.{fails_none}
use Rattle.rb_lsp.specs.Replies.{fresh}
use Rattle.rb_lsp.specs.Serves.{BreaksOff}
use Rattle.rb_lsp.proofs.TalkLaws.{far_none, far_stopped}
use Rattle.rb_editor.specs.Meanings.{meaning}
use Rattle.rb_editor.proofs.actions.bench.lsp.Goals as goal

-- where there was no memory to begin with, nothing went out
nothing_went : {X E : Type 0} (r : Result X E) (known held : Option (List ℕ)) → OnErr r (BreaksOff meaning known held held)
nothing_went (Ok x) known held = tt
nothing_went (Err e) known held = far_stopped meaning known known held held fresh (far_none meaning known known held refl)

pub returns-in_err-bench-clause-failed : goal.returns-in_err-bench-clause-failed
returns-in_err-bench-clause-failed g c = nothing_went c.from_residual.result (g.S.Source.left c.args.source.now) (g.W.Sink.held c.args.sink.now)

pub returns-in_err-bench-clause-unfailed : goal.returns-in_err-bench-clause-unfailed
returns-in_err-bench-clause-unfailed g c = λ other. fails_none (g.S.Source.asked c.args.source.now)
