use Rattle.std.proofs.Common.{◌≡◌, ◌∙◌, ◌+◌, ◌++◌, ℕ, List, ap, sym, subst, drop, length, refl, arith}
use Rattle.std.specs.Prelude.{◌<◌, ◌^◌}
use Rattle.std.proofs.lemmas.List.{drop_all}
use Rattle.rb_script.specs.Lines.{Line}
use Rattle.rb_text.proofs.SentLaws.{sent_none, sent_all}
use Rattle.rb_report.specs.declared.check.position.DiffPosition.{DiffPosition}
use Rattle.rb_report.specs.LineRanges.{in_range}
use Rattle.rb_report.specs.Steps.{counted}
use Rattle.rb_report.specs.Whys.{reasons_in, told_line, told_lines}
use Rattle.rb_report.proofs.PositionLaws.{room-line, room-rest}
use Rattle.rb_report.proofs.PutLaws.{next_sent, next_exit}
use Rattle.rb_report.proofs.ShownLaws.{told-step}
use Rattle.rb_report.proofs.check.line.put_explained_lines.Goals as goal

pub loop-i-init : goal.loop-i-init
loop-i-init g c = record { sent = sent_none _ _ _ refl; takes = λ t. t; room = c.requires }

pub after_line-here-requires : goal.after_line-here-requires
after_line-here-requires g c = room-line c.args.side c.loop-i.here (in_range c.args.lines) c.loop-i.i c.line-line.result.now c.line-line.ensures c.loop-i.invariant.room

pub returns-in_err-put_explained_line-clause-wrote : goal.returns-in_err-put_explained_line-clause-wrote
returns-in_err-put_explained_line-clause-wrote g c =
    next_exit _ _ _ _ c.from_residual.ensures.0 c.loop-i.invariant.sent c.in_err-put_explained_line.ensures.wrote
    (told-step c.args.view.colors c.args.side (reasons_in c.args.view.why) c.loop-i.here c.loop-i.i (in_range c.args.lines) c.line-line.result.now c.line-line.ensures)

pub loop-i-preserved : goal.loop-i-preserved
loop-i-preserved g c =
    let v = c.args.view in
    let why = reasons_in v.why in
    let ls = in_range c.args.lines in
    let i : ℕ = c.loop-i.i in
    let line = c.line-line.result.now in
    let step = told-step v.colors c.args.side why c.loop-i.here i ls line c.line-line.ensures
    ∙ ap (λ (p : DiffPosition). told_line v.colors c.args.side why c.loop-i.here line ++ told_lines v.colors c.args.side why p (drop (i + 1) ls)) (sym c.after_line-here.ensures) in
    record {
      sent = next_sent _ _ _ c.loop-i.invariant.sent c.in_ok-put_explained_line.ensures.wrote step;
      takes = λ t. (c.in_ok-put_explained_line.ensures.all (c.loop-i.invariant.takes t)).1;
      room = subst (λ (p : DiffPosition). p.at + counted c.args.side (length (drop (i + 1) ls)) < 2 ^ 64) (sym c.after_line-here.ensures) (room-rest c.args.side c.loop-i.here ls i line c.line-line.ensures c.loop-i.invariant.room);
    }

pub returns-clause-wrote : goal.returns-clause-wrote
returns-clause-wrote g c =
    let none = drop_all c.loop-i.i (in_range c.args.lines) (omega (arith, c.loop-i-test.false, c.len-i-end.ensures)) in
    sent_all (ap (λ (l : List Line). told_lines c.args.view.colors c.args.side (reasons_in c.args.view.why) c.loop-i.here l) none) c.loop-i.invariant.sent
