-- The line stands among what is left.
use Rattle.std.proofs.Common.{◌≡◌, drop, map}
use Rattle.rb_report.specs.HelpLines.{line_among}
use Rattle.rb_report.proofs.help.values.line_among.Given as goal

abbrev pub invariant-loop-row : goal.invariant-loop-row
invariant-loop-row l = line_among l.word (map (λ r. (r.0.now, r.1.now)) l.rows) ≡ line_among l.word (map (λ r. (r.0.now, r.1.now)) (drop l.row-index l.rows))
