use Rattle.std.proofs.Common.{◌≡◌, ℕ, Bool, List, Option, ◌++◌, ap, sym, ◌∙◌}
use Rattle.rb_script.specs.Lines.{Line, text_of}
use Rattle.rb_script.specs.Script.{PlainBlock, opening, closing, block_text, expecting, needs_double}
use Rattle.rb_script.proofs.SentLaws.{Sent, sent_none, sent_piece, piece_exit, piece_last}
use Rattle.rb_script.proofs.WriteLaws.{above_text, block_parts}
use Rattle.rb_script.proofs.writing.put_block.Given as given
use Rattle.rb_script.proofs.writing.put_block.Goals as goal
use Rattle.rb_script.proofs.writing.put_block.Goals.{After-put-3}

-- all of the block is still to go
start : (old : Option (List ℕ)) (b : PlainBlock) (e : List Line) (double : Bool) (put : List ℕ) → double ≡ needs_double e → put ≡ above_text b
    → Sent old old (block_text (expecting b e)) (put ++ (text_of (opening double) ++ (text_of e ++ text_of (closing double))))
start old b e double put h is =
    let rest = text_of (opening double) ++ (text_of e ++ text_of (closing double)) in
    sent_none old (block_text (expecting b e)) (put ++ rest) (block_parts b e double h ∙ ap (λ (t : List ℕ). t ++ rest) (sym is))

-- the expected lines and what stands below them are still to go
after_opening : (g : given.Over) (c : After-put-3 g)
    → Sent (g.S.Sink.held c.args.sink.now) (g.S.Sink.held c.put-2.new.self) (block_text (expecting c.args.block.now c.args.expected.now)) (text_of c.args.expected.now ++ text_of (closing c.needs_double-is_double.result))
after_opening g c =
    let double = c.needs_double-is_double.result in
    let rest = text_of c.args.expected.now ++ text_of (closing double) in
    let s0 = start (g.S.Sink.held c.args.sink.now) c.args.block.now c.args.expected.now double c.text.result.now c.needs_double-is_double.ensures (c.text.ensures ∙ ap above_text c.front.ensures) in
    let s1 = sent_piece (g.S.Sink.held c.put.new.self) c.text.result.now (text_of (opening double) ++ rest) s0 c.in_ok-put.ensures.wrote in
    sent_piece (g.S.Sink.held c.put-2.new.self) (text_of (opening double)) rest s1 (rw c.opening.ensures at c.in_ok-put-2.ensures.wrote)

pub returns-in_err-put-clause-wrote : goal.returns-in_err-put-clause-wrote
returns-in_err-put-clause-wrote g c =
    let s0 = start (g.S.Sink.held c.args.sink.now) c.args.block.now c.args.expected.now c.needs_double-is_double.result c.text.result.now c.needs_double-is_double.ensures (c.text.ensures ∙ ap above_text c.front.ensures) in
    piece_exit c.from_residual.result (g.S.Sink.held c.put.new.self) c.text.result.now _ c.from_residual.ensures.0 s0 c.in_err-put.ensures.wrote

pub returns-in_err-put-2-clause-wrote : goal.returns-in_err-put-2-clause-wrote
returns-in_err-put-2-clause-wrote g c =
    let double = c.needs_double-is_double.result in
    let rest = text_of c.args.expected.now ++ text_of (closing double) in
    let s0 = start (g.S.Sink.held c.args.sink.now) c.args.block.now c.args.expected.now double c.text.result.now c.needs_double-is_double.ensures (c.text.ensures ∙ ap above_text c.front.ensures) in
    let s1 = sent_piece (g.S.Sink.held c.put.new.self) c.text.result.now (text_of (opening double) ++ rest) s0 c.in_ok-put.ensures.wrote in
    piece_exit c.from_residual-in_err-put-2.result (g.S.Sink.held c.put-2.new.self) (text_of (opening double)) rest c.from_residual-in_err-put-2.ensures.0 s1 (rw c.opening.ensures at c.in_err-put-2.ensures.wrote)

pub returns-in_err-put-3-clause-wrote : goal.returns-in_err-put-3-clause-wrote
returns-in_err-put-3-clause-wrote g c =
    let s2 = after_opening g (goal.at.returns-in_err-put-3-clause-wrote g c).After-put-3 in
    piece_exit c.from_residual-in_err-put-3.result (g.S.Sink.held c.put-3.new.self) (text_of c.args.expected.now) _ c.from_residual-in_err-put-3.ensures.0 s2 (rw c.text-2.ensures at c.in_err-put-3.ensures.wrote)

pub returns-clause-wrote : goal.returns-clause-wrote
returns-clause-wrote g c =
    let below = text_of (closing c.needs_double-is_double.result) in
    let s2 = after_opening g (goal.at.returns-clause-wrote g c).After-put-3 in
    let s3 = sent_piece (g.S.Sink.held c.put-3.new.self) (text_of c.args.expected.now) below s2 (rw c.text-2.ensures at c.in_ok-put-3.ensures.wrote) in
    piece_last c.put-4.result (g.S.Sink.held c.put-4.new.self) below s3 (rw c.closing.ensures at c.put-4.ensures.wrote)
