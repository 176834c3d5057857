use Rattle.std.proofs.Common.{◌≡◌, ◌∙◌, ◌≤◌, sym, arith}
use Rattle.std.specs.Prelude.{min}
use Rattle.std.proofs.lemmas.Bool.{not-false, not-true}
use Rattle.rb_raftlog.specs.Log.{last}
use Rattle.rb_view.specs.Logs.{same_entry, same_up_to}
use Rattle.rb_view.proofs.LogLaws.{past_is, stays_end, stays_on, stays_over}
use Rattle.rb_view.proofs.steps.log.stays_past.Goals as goal

pub loop-index-init : goal.loop-index-init
loop-index-init g c = record {
  so_far = past_is (g.L.RaftLog.plain c.args.old.now) (g.L.RaftLog.plain c.args.new.now) c.args.from c.requires.held;
  within = omega arith;
}

pub returns-then-is_other-clause-value : goal.returns-then-is_other-clause-value
returns-then-is_other-clause-value g c =
    let old = g.L.RaftLog.plain c.args.old.now in
    let new = g.L.RaftLog.plain c.args.new.now in
    let x = c.entry_at.result.now in
    let y = c.entry_at-in-loop-index.result.now in
    let above : old.base ≤ c.loop-index.index = omega (arith, c.requires.held, c.loop-index.auto.index) in
    let past : new.base ≤ c.loop-index.index = omega (arith, c.requires.above, c.loop-index.auto.index) in
    stays_over old new (same_up_to old new c.args.from) c.loop-index.index x y above past c.entry_at.ensures c.entry_at-in-loop-index.ensures
    (not-true (same_entry x y) (sym c.is_other.ensures ∙ c.if-is_other.true)) c.loop-index.invariant.so_far

pub loop-index-preserved : goal.loop-index-preserved
loop-index-preserved g c =
    let old = g.L.RaftLog.plain c.args.old.now in
    let new = g.L.RaftLog.plain c.args.new.now in
    let x = c.entry_at.result.now in
    let y = c.entry_at-in-loop-index.result.now in
    let above : old.base ≤ c.loop-index.index = omega (arith, c.requires.held, c.loop-index.auto.index) in
    let past : new.base ≤ c.loop-index.index = omega (arith, c.requires.above, c.loop-index.auto.index) in
    record {
      so_far = stays_on old new (same_up_to old new c.args.from) c.loop-index.index x y above past c.entry_at.ensures c.entry_at-in-loop-index.ensures
          (not-false (same_entry x y) (sym c.is_other.ensures ∙ c.if-is_other.false)) c.loop-index.invariant.so_far;
      within = omega (arith, c.loop-index-test.true);
    }

pub returns-clause-value : goal.returns-clause-value
returns-clause-value g c =
    let old = g.L.RaftLog.plain c.args.old.now in
    let new = g.L.RaftLog.plain c.args.new.now in
    let small : min (last new) (last old) ≤ c.loop-index.index = omega (arith, c.min-last.ensures, c.last_index.ensures.value, c.last_index-2.ensures.value, c.loop-index-test.false) in
    let here : c.max.result ≡ c.loop-index.index = omega (arith, c.max.ensures, c.loop-index.invariant.within, c.loop-index-test.false, c.loop-index.auto.index) in
    here ∙ stays_end old new (same_up_to old new c.args.from) c.loop-index.index small c.loop-index.invariant.so_far
