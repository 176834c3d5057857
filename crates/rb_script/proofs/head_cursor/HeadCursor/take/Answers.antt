use Rattle.std.proofs.Common.{◌+◌, drop}
use Rattle.rb_script.specs.ByteClasses.{is_of}
use Rattle.rb_script.specs.Tokens.{line_at}
use Rattle.rb_script.proofs.TokenLaws.{taken, advanced}
use Rattle.rb_script.proofs.head_cursor.HeadCursor.take.Goals as goal

pub returns-clause-token : goal.returns-clause-token
returns-clause-token c =
    let inside = c.self.inside in
    rw (← c.self.view_is) (taken (is_of c.args.class) (line_at inside.head.now inside.line) inside.piece.now inside.at c.run_len.result inside.is_continued (drop (inside.line + 1) inside.head.now) c.requires c.self.invariant.part c.self.invariant.within c.run_len.ensures.len c.run_len.ensures.run)

pub returns-clause-left : goal.returns-clause-left
returns-clause-left c =
    let inside = c.self.inside in
    rw (← c.self.view_is) (advanced (is_of c.args.class) inside.piece.now inside.at c.run_len.result inside.is_continued (drop (inside.line + 1) inside.head.now) c.requires c.run_len.ensures.rest)
