use Rattle.std.proofs.Common.{◌++◌, ◌∙◌, ap, append_assoc, append-nil}
use Rattle.std.proofs.lemmas.Result.{on_ok_weaker}
use Rattle.rb_texts.specs.States.{progress_text}
use Rattle.rb_texts.proofs.PieceLaws.{added_twice}
use Rattle.rb_texts.proofs.states.add_progress.Goals as goal

pub returns : goal.returns
unfolding progress_text
returns c =
    let under_way = added_twice c.args.line.now c.add_pieces.new.line c.add_under_way.new.line _ _ c.in_ok-add_pieces.ensures c.in_ok-add_under_way.ensures in
    on_ok_weaker c.add_bytes.result
    (λ e. added_twice c.args.line.now c.add_under_way.new.line c.add_bytes.new.line _ _ under_way e
    ∙ ap (λ l. c.args.line.now ++ l) (simp (append_assoc, append-nil, c.progress_state_name.ensures, c.state.ensures, c.matched.ensures.matched, c.next.ensures.next, c.len.ensures.len, c.window.ensures.window, c.shown_if.ensures, c.active.ensures)))
    c.add_bytes.ensures
