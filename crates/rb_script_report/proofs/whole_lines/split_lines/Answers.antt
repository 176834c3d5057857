use Rattle.std.proofs.Common.{◌∙◌, ◌++◌, ℕ, List, ap}
use Rattle.rb_script_report.specs.WholeLines.{whole_lines}
use Rattle.rb_script_report.proofs.WholeLaws.{front_is, lines_split}
use Rattle.rb_script_report.proofs.whole_lines.split_lines.Goals as goal

pub returns-clause-first : goal.returns-clause-first
returns-clause-first c =
    let front = whole_lines c.args.count c.args.bytes.now in
    front_is front c.after_lines-rest.result.now c.args.bytes.now (ap (λ (l : List ℕ). front ++ l) c.after_lines-rest.ensures.value ∙ lines_split c.args.count c.args.bytes.now)
