use Rattle.std.proofs.Common.{◌∙◌, List, ◌++◌, ap, sym, append-nil}
use Rattle.rb_script.specs.Lines.{Line}
use Rattle.rb_script.proofs.LineLaws.{lines_nil}
use Rattle.rb_script.proofs.flat.FlatLines.one_by_one.Goals as goal

pub returns : goal.returns
returns c =
    sym (append-nil c.loop-line.all)
    ∙ ap (λ (l : List Line). c.loop-line.all ++ l) (sym (lines_nil c.loop-line.rest.now c.in_default.ensures.cut))
    ∙ c.loop-line.invariant
