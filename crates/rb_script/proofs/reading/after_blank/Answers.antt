use Rattle.std.proofs.Common.{◌+◌, drop, sym, ◌∙◌, arith}
use Rattle.std.proofs.lemmas.List.{drop_all}
use Rattle.rb_script.proofs.ListLaws.{drop_there}
use Rattle.rb_script.proofs.ReadingLaws.{blank_taken, blank_not, blank_none}
use Rattle.rb_script.proofs.reading.after_blank.Goals as goal
use Rattle.rb_script.proofs.reading.after_blank.Goals.{else-at-len-via-then-at-len+else-is_blank, else-at-len-via-else-at-len}

pub returns-then-is_blank-clause-rest : goal.returns-then-is_blank-clause-rest
returns-then-is_blank-clause-rest c =
    let all = c.args.all.now in
    let at = c.args.at in
    let line = c.line.result.now in
    blank_taken (drop at all) (drop (at + 1) all) line (drop_there all at line c.line.ensures) (sym c.is_blank.ensures ∙ c.if-is_blank.true)

pub returns-else-at-len-clause-rest : goal.returns-else-at-len-clause-rest
returns-else-at-len-clause-rest c =
    let all = c.args.all.now in
    let at = c.args.at in
    elim c.else-at-len.branch [
      | else-at-len-via-then-at-len+else-is_blank w ↦ blank_not (drop at all) (drop (at + 1) all) w.line.result.now (drop_there all at w.line.result.now w.line.ensures) (sym w.is_blank.ensures ∙ w.if-is_blank.false)
      | else-at-len-via-else-at-len w ↦ blank_none (drop at all) (drop_all at all (omega (arith, w.if-at-len.false)))
    ]
