use Rattle.std.proofs.Common.{arith}
use Rattle.rb_texts.specs.declared.reason.TheConstants.{MAX_ENTRIES}
use Rattle.rb_texts.proofs.FewLaws.{few_more, few_done}
use Rattle.rb_texts.proofs.reason.add_few_entries.Goals as goal

pub loop-k-preserved : goal.loop-k-preserved
loop-k-preserved c =
    few_more MAX_ENTRIES c.loop-k.k c.loop-k.separator.now _ c.args.entries.now c.entry.result.now _ c.loop-k.line _ _ _ (omega (arith, c.loop-k-test.true)) (omega (arith, c.loop-k-test.true, c.len-len.ensures))
    c.entry.ensures (omega (arith, c.len-len.ensures)) c.loop-k.invariant c.in_ok-add_bytes.ensures c.in_ok-add_entry.ensures

pub returns : goal.returns
returns c = few_done MAX_ENTRIES c.loop-k.k c.loop-k.separator.now _ c.args.entries.now c.loop-k.line _ (omega (arith, c.loop-k-test.false, c.len-len.ensures)) c.loop-k.invariant
