use Rattle.std.proofs.Common.{◌++◌, ap, ◌∙◌}
use Rattle.std.specs.List.{each_same}
use Rattle.std.proofs.lemmas.Result.{on_ok_weaker}
use Rattle.rb_script.proofs.chunked_list.push_shared_chunks.Goals as goal

pub returns : goal.returns
returns g c = on_ok_weaker c.extend_with_clones.result (λ h. h.1 ∙ ap (λ l. c.args.into.now.items ++ l) (each_same c.args.chunks.now h.0 h.2)) c.extend_with_clones.ensures.items
