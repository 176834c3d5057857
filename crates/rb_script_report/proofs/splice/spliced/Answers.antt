use Rattle.std.proofs.Common.{◌≡◌, ◌∙◌, ◌+◌, ◌≤◌, ◌++◌, ℕ, Bool, cond, List, drop, length, ap, ap₂, subst, sym, arith}
use Rattle.std.specs.Prelude.{Some, slice_get}
use Rattle.rb_script.specs.declared.limits.TheConstants.{MAX_SCRIPT}
use Rattle.rb_script.specs.HeadLines.{AreHeadLines}
use Rattle.rb_script.specs.Lines.{Line, lines}
use Rattle.rb_script_report.specs.WholeLines.{unended}
use Rattle.rb_script_report.specs.Splices.{ending_as, spliced_from}
use Rattle.rb_script.proofs.ShortLaws.{lines_few}
use Rattle.rb_script_report.proofs.SpliceLaws.{is_above, splice_end, splice_there}
use Rattle.rb_script_report.proofs.splice.spliced.Goals as goal

pub lines_above-above-requires-clause-above : goal.lines_above-above-requires-clause-above
lines_above-above-requires-clause-above g c =
    let s = c.args.session.now.script in
    let layout = c.args.layout.now in
    let there : AreHeadLines 1 layout.text s.blocks layout.heads.items = subst (λ (ls : List Line). AreHeadLines 1 ls s.blocks layout.heads.items) (sym c.requires.layout.text_is) c.requires.layout.heads_are in
    is_above layout.text s.blocks layout.heads.items c.loop-i.i c.number_at-head.result c.block_at-block.result.now there
    (sym (ap (λ (hs : List ℕ). slice_get hs c.loop-i.i) c.as_slice-heads.ensures.value) ∙ c.number_at-head.ensures) c.block_at-block.ensures

pub lines_above-above-requires-clause-short : goal.lines_above-above-requires-clause-short
lines_above-above-requires-clause-short g c =
    let few : length (lines c.args.bytes.now) ≤ length c.args.bytes.now = lines_few c.args.bytes.now in
    let same : length c.args.layout.now.text ≡ length (lines c.args.bytes.now) = ap length c.requires.layout.text_is in
    let short : length c.args.bytes.now ≤ MAX_SCRIPT = c.requires.layout.reads.short in
    omega (arith, few, same, short)

pub loop-i-preserved : goal.loop-i-preserved
loop-i-preserved g c =
    let s = c.args.session.now.script in
    let heads = c.as_slice-heads.result.now in
    let es = c.args.expected.now in
    let b = c.block_at-block.result.now in
    let splice = c.loop-i.splice in
    c.in_ok-expect.ensures c.number_at-head.result (drop (c.loop-i.i + 1) heads) b (drop (c.loop-i.i + 1) s.blocks) (drop (c.loop-i.i + 1) es) (sym c.expected.ensures) c.lines_above-above.ensures.value
    ∙ ap (λ (l : List ℕ). splice.made.items ++ l) (splice_there splice.passed splice.rest.now heads s.blocks es c.loop-i.i c.number_at-head.result b c.deref.result.now c.number_at-head.ensures c.block_at-block.ensures (c.at.ensures ∙ ap (λ (x : List Line). Some x) (sym c.deref.ensures)))
    ∙ c.loop-i.invariant

pub returns : goal.returns
returns g c =
    let s = c.args.session.now.script in
    let bytes = c.args.bytes.now in
    let heads = c.as_slice-heads.result.now in
    let es = c.args.expected.now in
    let splice = c.loop-i.splice in
    let past : length heads ≤ c.loop-i.i = omega (arith, c.loop-i-test.false, c.len-i-end.ensures.len, c.requires.layout.heads_are.count, ap length c.as_slice-heads.ensures.value) in
    let all : splice.made.items ++ splice.rest.now ≡ spliced_from 0 bytes heads s.blocks es =
    splice_end splice.made.items splice.rest.now heads (spliced_from 0 bytes heads s.blocks es) splice.passed (drop c.loop-i.i s.blocks) (drop c.loop-i.i es) c.loop-i.i past c.loop-i.invariant in
    c.ending.ensures
    ∙ ap₂ (λ (t : Bool) (l : List ℕ). cond t l (unended l)) c.is_ended.ensures (c.in_ok-push_bytes.ensures ∙ all)
    ∙ ap (λ (hs : List ℕ). ending_as bytes (spliced_from 0 bytes hs s.blocks es)) c.as_slice-heads.ensures.value
