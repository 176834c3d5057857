use Rattle.std.proofs.Common.{◌∙◌, ℕ, List, length, ap, subst, sym}
use Rattle.rb_script.specs.Lines.{lines}
use Rattle.rb_script.specs.HeadLines.{AreHeadLines}
use Rattle.rb_program.proofs.trace_over.traced.Goals as goal

pub trace_of-requires-clause-count : goal.trace_of-requires-clause-count
trace_of-requires-clause-count g c = ap (λ (ns : List ℕ). length ns) c.as_slice.ensures.value ∙ c.requires.heads.count

pub returns-clause-lines : goal.returns-clause-lines
returns-clause-lines g c =
    let s = c.args.read.script in
    record {
      heads = c.as_slice.result.now;
      heads_are = subst (λ (ns : List ℕ). AreHeadLines 1 (lines c.args.bytes.now) s.blocks ns) (sym c.as_slice.ensures.value) c.requires.heads;
      lines_are = c.in_ok-ran.ensures.lines;
    }
