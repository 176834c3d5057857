use Rattle.std.proofs.Common.{rules, ◌≡◌, ◌∙◌}
use Rattle.rb_script.specs.Lines.{without_returns}
use Rattle.rb_text.proofs.BegunLaws.{line_of_kept}
use Rattle.rb_text.proofs.line_buffer.LineBuffer.line.Goals as goal

pub returns-clause-begun : goal.returns-clause-begun
returns-clause-begun c = λ begun holds.
    let value : c.without_returns.result.now ≡ without_returns c.args.self.now = search rules in
    value ∙ line_of_kept begun _ holds
