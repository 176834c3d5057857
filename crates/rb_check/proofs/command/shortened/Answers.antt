use Rattle.std.proofs.Common.{◌∙◌, ◌++◌, ◌-◌, ℕ, List, ap, length, take}
use Rattle.rb_check.specs.Commands.{rest_text}
use Rattle.rb_check.proofs.command.shortened.Goals as goal

pub returns : goal.returns
returns c =
    let diff = c.args.diff.now in
    let kept = c.kept_of-kept.result in
    c.in_ok-add_rest.ensures
    ∙ ap (λ (text : List ℕ). text ++ rest_text (length diff - kept)) c.in_ok-text.ensures.items
    ∙ ap (λ (n : ℕ). take n diff ++ rest_text (length diff - n)) c.kept_of-kept.ensures.same
