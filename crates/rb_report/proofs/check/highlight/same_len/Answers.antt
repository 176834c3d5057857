use Rattle.std.proofs.Common.{◌∙◌, ◌<◌, ℕ, length, get_or, sym, eqb, eq-eqb, arith}
use Rattle.std.proofs.lemmas.Bool.{ne_eqb}
use Rattle.std.proofs.lemmas.List.Sums.{common_prefix_len-drop_yes, common_prefix_len-drop_no}
use Rattle.rb_report.specs.Ends.{read_from}
use Rattle.rb_report.proofs.PrefixLaws.{length-read, prefix-past}
use Rattle.rb_report.proofs.check.highlight.same_len.Goals as goal

pub loop-i-preserved : goal.loop-i-preserved
loop-i-preserved c =
    let line = read_from c.args.end c.args.line.now in
    let other = read_from c.args.end c.args.other.now in
    let i : ℕ = c.loop-i.i in
    let h : i < length line = omega (arith, c.loop-i-test.true, c.min-most.ensures, length-read c.args.end c.args.line.now) in
    let k : i < length other = omega (arith, c.loop-i-test.true, c.min-most.ensures, length-read c.args.end c.args.other.now) in
    omega (arith, c.loop-i.invariant, common_prefix_len-drop_yes eqb line other i 0 0 h k (eq-eqb (get_or line i 0) (get_or other i 0) (sym c.byte_from-here.ensures ∙ c.if-here-there.false ∙ c.byte_from-there.ensures)))

pub returns-then-here-there-clause-value : goal.returns-then-here-there-clause-value
returns-then-here-there-clause-value c =
    let line = read_from c.args.end c.args.line.now in
    let other = read_from c.args.end c.args.other.now in
    let i : ℕ = c.loop-i.i in
    let h : i < length line = omega (arith, c.loop-i-test.true, c.min-most.ensures, length-read c.args.end c.args.line.now) in
    let k : i < length other = omega (arith, c.loop-i-test.true, c.min-most.ensures, length-read c.args.end c.args.other.now) in
    omega (arith, c.loop-i.invariant, common_prefix_len-drop_no eqb line other i 0 0 h k (ne_eqb (get_or line i 0) (get_or other i 0) (λ same. c.if-here-there.true (c.byte_from-here.ensures ∙ same ∙ sym c.byte_from-there.ensures))))

pub returns-clause-value : goal.returns-clause-value
returns-clause-value c =
    let past = prefix-past eqb (read_from c.args.end c.args.line.now) (read_from c.args.end c.args.other.now) c.loop-i.i
    (omega (arith, c.loop-i-test.false, c.min-most.ensures, length-read c.args.end c.args.line.now, length-read c.args.end c.args.other.now)) in
    omega (arith, c.loop-i.invariant, c.loop-i-test.false, c.loop-i.auto.i-end, past)
