use Rattle.std.proofs.Common.{◌≡◌, true, false, ap, sym, ◌∙◌}
use Rattle.rb_script.specs.Lines.{text_of}
use Rattle.rb_script.proofs.FlatLaws.{told_by_ends, ends_alike}
use Rattle.rb_script.proofs.lines.Lines.same.Goals as goal

pub returns-then-are_as_long : goal.returns-then-are_as_long
returns-then-are_as_long c =
    let alike = c.are_as_long.ensures.0 c.if-are_as_long.true in (
      λ yes. told_by_ends c.args.self.now c.args.other.now c.ends-start.result.1 c.ends-other_start.result.1 c.ends-start.result.0.now c.ends-other_start.result.0.now c.ends-start.ensures c.ends-other_start.ensures alike
          (sym c.text.ensures ∙ c.is_same.ensures.0 yes ∙ c.text-then-are_as_long.ensures),
      λ same. c.is_same.ensures.1 (c.text.ensures ∙ ap text_of same ∙ sym c.text-then-are_as_long.ensures),
    )

pub returns-else-are_as_long : goal.returns-else-are_as_long
returns-else-are_as_long c = (
  λ yes. absurd (let no : false ≡ true = sym c.if-are_as_long.false ∙ yes in cc),
  λ same. c.are_as_long.ensures.1 (ends_alike c.args.self.now c.args.other.now c.ends-start.result.1 c.ends-other_start.result.1 c.ends-start.result.0.now c.ends-other_start.result.0.now c.ends-start.ensures c.ends-other_start.ensures same),
)
