use Rattle.std.proofs.Common.{◌∙◌, ap, arith, rules, length, length-append, ◌++◌, List, ℕ}
use Rattle.rb_raftlog.proofs.CutLaws.{cut_off_is}
use Rattle.rb_raftlog.proofs.content.split_off_piece.Goals as goal

pub split_at-requires : goal.split_at-requires
split_at-requires c = omega (arith, c.requires.full, ap length c.in_ok-whole.ensures, length-append c.deref.result.now c.args.bytes.now, ap length c.deref.ensures.value, ap length c.as_slice.ensures.value)

pub returns : goal.returns
returns c =
    let step =
    cut_off_is c.args.pieces.now c.push.new.self c.args.rest.now.items c.args.bytes.now c.as_slice.result.now _ c.in_ok-left.left.items c.requires.cut
    (omega (arith, c.requires.full))
    (c.as_slice.ensures.value ∙ c.in_ok-whole.ensures ∙ ap (λ (l : List ℕ). l ++ c.args.bytes.now) c.deref.ensures.value)
    (c.in_ok-piece.ensures ∙ c.split_at.ensures.front) (c.in_ok-left.ensures.items ∙ c.split_at.ensures.back) c.in_ok-push.ensures.ok in
    record { cut = step.0; ok = step.1; err = search rules }
