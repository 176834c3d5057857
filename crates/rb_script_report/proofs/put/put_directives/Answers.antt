use Rattle.std.proofs.Common.{◌≡◌, ◌∙◌, ◌<◌, ℕ, ◌+◌, ◌++◌, drop, length, ap, sym, arith}
use Rattle.rb_replay.specs.Run.{outputs}
use Rattle.rb_text.proofs.SentLaws.{sent_all}
use Rattle.rb_report.proofs.PutLaws.{next_sent, next_exit}
use Rattle.rb_script_report.specs.Whys.{all_told, told_alone}
use Rattle.rb_script_report.proofs.ShownLaws.{outputs_len}
use Rattle.rb_script_report.proofs.WhyLaws.{place-step, told-done}
use Rattle.rb_script_report.proofs.put.put_directives.Goals as goal

pub returns-in_err-put_directive_at-clause-wrote : goal.returns-in_err-put_directive_at-clause-wrote
returns-in_err-put_directive_at-clause-wrote g c =
    let run = c.args.run.now in
    let s = run.session.now.script in
    let v = c.args.view in
    let heads = run.layout.now.heads.items in
    let i : ℕ = c.loop-i.i in
    let within : i < length s.blocks = omega (arith, c.loop-i-test.true, c.len-i-end.ensures.len) in
    next_exit _ _ _ _ c.from_residual.ensures.0 c.loop-i.invariant.sent c.in_err-put_directive_at.ensures.wrote
    (place-step c.loop-i.table.left c.args.all v.colors run.layout.now.text v.path.now run.whys.now heads s i (omega (arith, c.requires, within)) within (omega (arith, outputs_len s, within)))

pub loop-i-preserved : goal.loop-i-preserved
loop-i-preserved g c =
    let run = c.args.run.now in
    let s = run.session.now.script in
    let v = c.args.view in
    let all = c.args.all in
    let left : ℕ = c.loop-i.table.left in
    let text = run.layout.now.text in
    let path = v.path.now in
    let whys = run.whys.now in
    let heads = run.layout.now.heads.items in
    let i : ℕ = c.loop-i.i in
    let within : i < length s.blocks = omega (arith, c.loop-i-test.true, c.len-i-end.ensures.len) in
    let step = place-step left all v.colors text path whys heads s i (omega (arith, c.requires, within)) within (omega (arith, outputs_len s, within))
    ∙ ap (λ (n : ℕ). told_alone left all v.colors text path whys heads s (i + 1) ++ all_told n all v.colors text path whys (i + 1) (drop (i + 1) heads) (drop (i + 1) s.blocks) (drop (i + 1) (outputs s))) (sym c.in_ok-put_directive_at.ensures.left) in
    record { sent = next_sent _ _ _ c.loop-i.invariant.sent c.in_ok-put_directive_at.ensures.wrote step; takes = λ t. (c.in_ok-put_directive_at.ensures.all (c.loop-i.invariant.takes t)).1 }

pub returns-clause-wrote : goal.returns-clause-wrote
returns-clause-wrote g c =
    let run = c.args.run.now in
    let s = run.session.now.script in
    let v = c.args.view in
    sent_all (told-done c.loop-i.table.left c.args.all v.colors run.layout.now.text v.path.now run.whys.now run.layout.now.heads.items s.blocks (outputs s) c.loop-i.i (omega (arith, c.loop-i-test.false, c.len-i-end.ensures.len))) c.loop-i.invariant.sent
