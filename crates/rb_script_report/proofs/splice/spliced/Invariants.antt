-- The text so far, and the bytes that are left.
use Rattle.std.proofs.Common.{◌≡◌, ◌++◌, drop}
use Rattle.rb_script_report.specs.Splices.{spliced_from}
use Rattle.rb_script_report.proofs.splice.spliced.Given as goal

abbrev pub invariant-loop-i : goal.invariant-loop-i
invariant-loop-i g l =
    l.splice.made.items ++ spliced_from l.splice.passed l.splice.rest.now (drop l.i l.heads) (drop l.i l.session.script.blocks) (drop l.i l.expected)
    ≡ spliced_from 0 l.bytes l.heads l.session.script.blocks l.expected
