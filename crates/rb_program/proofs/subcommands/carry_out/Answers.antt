use Rattle.std.proofs.Common.{◌∙◌, ◌||◌, ℕ, Bool, List, Option, ap, option_map, string_bytes}
use Rattle.rb_program.specs.Work.{task_asked}
use Rattle.rb_program.proofs.subcommands.carry_out.Goals as goal

pub returns-clause-done : goal.returns-clause-done
returns-clause-done g c =
    let is_noted = c.wants_notes-notes.ensures ∙ ap (λ (is_read : Bool). is_read || c.args.choice.now.warns) (c.is_wanted.ensures ∙ c.new-progress.ensures) in
    let asked = c.task_of-task.ensures
    ∙ ap (λ (every : Option (List ℕ)). task_asked c.args.command c.in-Some.file.now every c.wants_notes-notes.result) c.as_deref-every.ensures.value
    ∙ ap (λ (notes : Bool). task_asked c.args.command c.in-Some.file.now (option_map string_bytes c.args.choice.now.every) notes) is_noted in
    rw (← c.in-Some.ensures.value, ← asked) c.carried.ensures.done
