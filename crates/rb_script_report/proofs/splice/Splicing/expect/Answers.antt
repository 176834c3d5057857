use Rattle.std.proofs.Common.{◌∙◌, ◌++◌, ℕ, List, ap, sym}
use Rattle.rb_script_report.proofs.SpliceLaws.{splice_changed, splice_same}
use Rattle.rb_script_report.proofs.splice.Splicing.expect.Goals as goal

pub returns-then-is_same : goal.returns-then-is_same
returns-then-is_same c = λ head heads b bs es is lines.
    let s = c.args.self.now in
    ap (λ (l : List ℕ). s.made.items ++ l) (splice_same s.passed s.rest.now head heads b bs c.args.old.now c.args.new.now es is (sym c.is_same.ensures ∙ c.if-is_same.true))

pub returns : goal.returns
returns c = λ head heads b bs es is lines.
    let s = c.args.self.now in
    let t = c.replace.new.self in
    splice_changed s.made.items t.made.items s.passed t.passed s.rest.now t.rest.now c.args.above head heads b bs c.args.old.now c.args.new.now es is lines (sym c.is_same.ensures ∙ c.if-is_same.false)
    c.in_ok-replace.ensures.made c.in_ok-replace.ensures.rest c.in_ok-replace.ensures.passed
