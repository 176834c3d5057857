use Rattle.std.proofs.Common.{rules, arith, [], ◌∷◌, ◌++◌, inr, refl, ap, sym, subst, length, length-append}
use Rattle.std.proofs.KnownBytes.{Consumes-nil}
use Rattle.std.proofs.lemmas.Result.{err_from_is_err_and}
use Rattle.rb_text.specs.Begun.{Holds}
use Rattle.rb_text.specs.declared.line_reader.LineReader.{LineReader}
use Rattle.rb_text.proofs.AskedLaws.{goes_none, goes_then, goes_stops, goes_enough}
use Rattle.rb_text.proofs.GivenLaws.{lost_all, lost_spent, lost_line, gives_line, gives_last, gives_end, gives_long}
use Rattle.rb_text.proofs.line_reader.LineReader.next.Goals as goal

pub loop-self-init : goal.loop-self-init
loop-self-init g c = record {
  begun = [];
  held = c.clear.ensures.begun;
  lost = Consumes-nil _;
  goes = goes_none _ _ _ _ refl refl (omega arith);
  going = λ e. e;
  size = omega arith;
  all = λ gives has. gives;
}

pub loop-self-preserved : goal.loop-self-preserved
loop-self-preserved g c =
    let i = c.loop-self.invariant in
    let (none, holds) = c.in-Continue.ensures i.begun i.held in
    let fed : LineReader = record { line = c.take_line.new.line; unread = c.take_line.new.unread; calls = c.loop-self.self.calls; has_ended = c.loop-self.self.has_ended } in
    let empty = ap length none in
    let taken = goes_none c.loop-self.self fed (g.S.Source.left c.loop-self.source) (g.S.Source.asked c.loop-self.source) refl refl (omega (arith, empty)) in
    let goes = goes_then _ _ _ _ _ _ _ _ _ i.goes taken in record {
      begun = i.begun ++ c.loop-self.self.unread;
      held = subst (Holds (i.begun ++ c.loop-self.self.unread)) (sym c.in_ok-refill-in-Continue.ensures.line) holds;
      lost = lost_all _ _ _ c.loop-self.self.has_ended c.loop-self.self.unread i.begun c.take_line.new.unread (search rules) none i.lost c.in_ok-refill-in-Continue.ensures.left;
      goes = goes_then _ _ _ _ _ _ _ _ _ goes c.in_ok-refill-in-Continue.ensures.goes;
      going = λ e. i.going (search rules);
      size = omega (arith, i.size, empty, c.in_ok-refill-in-Continue.ensures.smaller, length-append i.begun c.loop-self.self.unread);
      all = λ gives has. (c.in_ok-refill-in-Continue.ensures.all (i.all gives has) (goes_enough _ _ _ _ _ _ goes has)).1;
    }

pub returns-in_err-refill-in-Continue-clause-failed : goal.returns-in_err-refill-in-Continue-clause-failed
returns-in_err-refill-in-Continue-clause-failed g c =
    let i = c.loop-self.invariant in
    let (none, holds) = c.in-Continue.ensures i.begun i.held in
    let p = err_from_is_err_and c.from_residual.result c.from_residual.ensures.1 in
    let spent = c.in_err-refill-in-Continue.ensures.spent in
    rw p.1 (record {
      going = i.going (search rules);
      begun = i.begun ++ c.loop-self.self.unread;
      no_newline = holds.no_newline;
      short = holds.within;
      lost = lost_spent _ _ _ _ (i.begun ++ c.loop-self.self.unread) spent.0 spent.1
          (lost_all _ _ _ c.loop-self.self.has_ended c.loop-self.self.unread i.begun c.take_line.new.unread (search rules) none i.lost c.in_err-refill-in-Continue.ensures.left);
    })

pub returns-in_err-refill-in-Continue-clause-stops : goal.returns-in_err-refill-in-Continue-clause-stops
returns-in_err-refill-in-Continue-clause-stops g c =
    let i = c.loop-self.invariant in
    let (none, holds) = c.in-Continue.ensures i.begun i.held in
    let p = err_from_is_err_and c.from_residual.result c.from_residual.ensures.1 in
    let first : LineReader = record { line = c.clear.new.self; unread = c.args.self.now.unread; calls = c.args.self.now.calls; has_ended = c.args.self.now.has_ended } in
    let fed : LineReader = record { line = c.take_line.new.line; unread = c.take_line.new.unread; calls = c.loop-self.self.calls; has_ended = c.loop-self.self.has_ended } in
    let empty = ap length none in
    let began = goes_none c.args.self.now first (g.S.Source.left c.args.source.now) (g.S.Source.asked c.args.source.now) refl refl (omega arith) in
    let taken = goes_none c.loop-self.self fed (g.S.Source.left c.loop-self.source) (g.S.Source.asked c.loop-self.source) refl refl (omega (arith, empty)) in
    let goes = goes_then _ _ _ _ _ _ _ _ _ (goes_then _ _ _ _ _ _ _ _ _ began i.goes) taken in
    rw p.1 (goes_stops _ _ _ _ _ _ _ goes c.in_err-refill-in-Continue.ensures.stops)

pub returns-in-EndOfLine-clause-given : goal.returns-in-EndOfLine-clause-given
returns-in-EndOfLine-clause-given g c =
    let i = c.loop-self.invariant in
    let (part, split, holds) = c.in-EndOfLine.ensures i.begun i.held in
    gives_line _ _ (i.begun ++ part) c.take_line.new.line holds
    (lost_line _ _ c.loop-self.self.has_ended c.loop-self.self.unread i.begun part c.take_line.new.unread (search rules) split i.lost)

pub returns-in-EndOfLine-clause-takes : goal.returns-in-EndOfLine-clause-takes
returns-in-EndOfLine-clause-takes g c = λ later.
    let i = c.loop-self.invariant in
    let (part, split, holds) = c.in-EndOfLine.ensures i.begun i.held in record {
      going = i.going (search rules);
      bytes = (i.begun ++ part) ++ 10 ∷ [];
      are_whole = inr (i.begun ++ part, refl);
      taken = lost_line _ _ c.loop-self.self.has_ended c.loop-self.self.unread i.begun part c.take_line.new.unread (search rules) split i.lost;
    }

pub returns-in-TooLong-clause-given : goal.returns-in-TooLong-clause-given
returns-in-TooLong-clause-given g c =
    let i = c.loop-self.invariant in
    let (part, split, long) = c.in-TooLong.ensures i.begun i.held in
    gives_long _ _ c.loop-self.self.has_ended c.loop-self.self.unread i.begun part c.take_line.new.unread (search rules) split long i.lost

pub returns-then-is_empty-clause-given : goal.returns-then-is_empty-clause-given
returns-then-is_empty-clause-given g c =
    let i = c.loop-self.invariant in
    gives_end _ _ c.loop-self.self.has_ended c.loop-self.self.unread i.begun c.loop-self.self.line (search rules) i.held (search rules) i.lost

pub returns-else-is_empty-clause-given : goal.returns-else-is_empty-clause-given
returns-else-is_empty-clause-given g c =
    let i = c.loop-self.invariant in
    gives_last _ _ c.loop-self.self.has_ended c.loop-self.self.unread i.begun c.loop-self.self.line (search rules) i.held (search rules) i.lost
