use Rattle.std.proofs.Common.{◌≡◌, ◌∙◌, ◌+◌, ℕ, List, ap, sym, subst, drop, length, refl, arith}
use Rattle.std.specs.Prelude.{◌<◌, ◌^◌}
use Rattle.std.proofs.lemmas.List.{drop_all}
use Rattle.rb_script.specs.Lines.{Line}
use Rattle.rb_report.specs.declared.check.position.DiffPosition.{DiffPosition}
use Rattle.rb_report.specs.LineRanges.{in_range}
use Rattle.rb_report.specs.Steps.{counted, after_lines}
use Rattle.rb_report.proofs.PositionLaws.{room-line, room-rest, after-step}
use Rattle.rb_report.proofs.check.position.DiffPosition.after.Goals as goal

pub loop-i-init : goal.loop-i-init
loop-i-init c = record { all = refl; room = c.requires }

pub after_line-position-requires : goal.after_line-position-requires
after_line-position-requires c = room-line c.args.side c.loop-i.position (in_range c.args.lines) c.loop-i.i c.line.result.now c.line.ensures c.loop-i.invariant.room

pub loop-i-preserved : goal.loop-i-preserved
loop-i-preserved c =
    let ls = in_range c.args.lines in
    let i : ℕ = c.loop-i.i in
    record {
      all = ap (λ (p : DiffPosition). after_lines c.args.side p (drop (i + 1) ls)) c.after_line-position.ensures ∙ sym (after-step c.args.side c.loop-i.position i ls c.line.result.now c.line.ensures) ∙ c.loop-i.invariant.all;
      room = subst (λ (p : DiffPosition). p.at + counted c.args.side (length (drop (i + 1) ls)) < 2 ^ 64) (sym c.after_line-position.ensures) (room-rest c.args.side c.loop-i.position ls i c.line.result.now c.line.ensures c.loop-i.invariant.room);
    }

pub returns : goal.returns
returns c =
    let none = drop_all c.loop-i.i (in_range c.args.lines) (omega (arith, c.loop-i-test.false, c.len-i-end.ensures)) in
    sym (ap (λ (l : List Line). after_lines c.args.side c.loop-i.position l) none) ∙ c.loop-i.invariant.all
