-- None so far is it.
use Rattle.std.proofs.Common.{◌≡◌, drop}
use Rattle.std.specs.List.{list_any}
use Rattle.std.specs.Str.{bytes_eq}
use Rattle.rb_script_report.proofs.warning.is_among.Given as goal

abbrev pub invariant-loop-i : goal.invariant-loop-i
invariant-loop-i l = list_any (λ came. bytes_eq came l.line) (drop l.i l.lines) ≡ list_any (λ came. bytes_eq came l.line) l.lines
