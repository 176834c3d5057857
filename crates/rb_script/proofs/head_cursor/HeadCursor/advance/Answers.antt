use Rattle.std.proofs.Common.{◌+◌, drop, sym, ◌∙◌, arith}
use Rattle.rb_script.proofs.TokenLaws.{advance_within, advance_over, joined_past}
use Rattle.rb_script.proofs.head_cursor.HeadCursor.advance.Goals as goal
use Rattle.rb_script.proofs.head_cursor.HeadCursor.advance.Goals.{then-next-count, else-next-count}

pub returns-then-self-clause-left : goal.returns-then-self-clause-left
returns-then-self-clause-left c =
    let inside = c.self.inside in
    rw (← c.self.view_is) (advance_within inside.piece.now inside.at inside.is_continued (drop (inside.line + 1) inside.head.now) c.if-self.true)

pub returns-after-next-count-clause-left : goal.returns-after-next-count-clause-left
returns-after-next-count-clause-left c =
    let inside = c.self.inside in
    let over = advance_over inside.piece.now inside.at inside.is_continued (drop (inside.line + 1) inside.head.now) c.if-self.false (rw (← c.self.view_is) at c.requires) in
    elim c.if-next-count.branch [
      | then-next-count w ↦ rw (w.is_continued-is, w.self-inside-is, ← c.self.view_is) (sym w.piece_of.ensures.joined ∙ sym over)
      | else-next-count w ↦ rw (w.is_continued-is, ← c.self.view_is) (sym (over ∙ joined_past (inside.line + 1) inside.head.now (omega arith)))
    ]
