use Rattle.std.proofs.Common.{◌∙◌, Some, None, ap, option_map, arith}
use Rattle.rb_program.proofs.ColonLaws.{split_at_last}
use Rattle.rb_text.specs.Numbers.{number_of}
use Rattle.rb_program.specs.Choices.{with_line}
use Rattle.rb_program.proofs.target.path_and_line.Goals as goal

pub returns-in-Some-number_of : goal.returns-in-Some-number_of
returns-in-Some-number_of c =
    ap (option_map (λ line. (c.in-Some.path.now, line))) (c.in-Some-number_of.ensures ∙ ap number_of c.as_bytes.ensures.value)
    ∙ ap with_line (split_at_last 58 c.args.word.now (Some (c.in-Some.path, c.in-Some.line)) c.in-Some.ensures.cases (omega arith))

pub returns-in-None-number_of : goal.returns-in-None-number_of
returns-in-None-number_of c =
    ap (option_map (λ line. (c.in-Some.path.now, line))) (c.in-None-number_of.ensures ∙ ap number_of c.as_bytes.ensures.value)
    ∙ ap with_line (split_at_last 58 c.args.word.now (Some (c.in-Some.path, c.in-Some.line)) c.in-Some.ensures.cases (omega arith))

pub returns-in-None : goal.returns-in-None
returns-in-None c = ap with_line (split_at_last 58 c.args.word.now None c.in-None.ensures.cases (omega arith))
