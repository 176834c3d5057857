use Rattle.std.proofs.Common.{◌∙◌, ℕ, ◌+◌, ◌++◌, List, drop, ap, sym, arith, append_assoc, append-nil}
use Rattle.std.proofs.lemmas.List.{drop_all}
use Rattle.rb_script.specs.Lines.{Line}
use Rattle.rb_report.specs.Heads.{before_value}
use Rattle.rb_check.specs.Objects.{quoted, strings_from}
use Rattle.rb_check.proofs.FormatLaws.{strings_step}
use Rattle.rb_check.proofs.object.add_strings.Goals as goal

pub loop-i-preserved : goal.loop-i-preserved
loop-i-preserved c =
    let i : ℕ = c.loop-i.i in
    let ls = c.args.lines.now in
    let line = c.line.result.now in
    let rest : List ℕ = strings_from (i + 1) (drop (i + 1) ls) in
    let next = strings_step ls i line c.line.ensures in
    ap (λ (xs : List ℕ). xs ++ rest) c.in_ok-add_string.ensures
    ∙ append_assoc c.loop-i.text.items (before_value i ++ quoted line) rest
    ∙ sym (ap (λ (xs : List ℕ). c.loop-i.text.items ++ xs) next)
    ∙ c.loop-i.invariant

pub returns : goal.returns
returns c =
    let i : ℕ = c.loop-i.i in
    let last = ap (λ (xs : List Line). strings_from i xs) (drop_all i c.args.lines.now (omega (arith, c.loop-i-test.false, c.len-i-end.ensures))) in
    sym (append-nil c.loop-i.text.items) ∙ sym (ap (λ (xs : List ℕ). c.loop-i.text.items ++ xs) last) ∙ c.loop-i.invariant
