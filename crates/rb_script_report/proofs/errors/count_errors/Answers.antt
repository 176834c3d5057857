use Rattle.std.proofs.Common.{◌≡◌, ◌∙◌, ◌≤◌, ℕ, Bool, List, drop, length, ap, arith}
use Rattle.std.specs.Prelude.{if◌then◌else◌}
use Rattle.std.proofs.lemmas.List.{drop_all}
use Rattle.rb_replay.specs.Run.{outputs}
use Rattle.rb_script_report.specs.Errors.{is_unexpected, error_count}
use Rattle.rb_script_report.proofs.ShownLaws.{count-step}
use Rattle.rb_script_report.proofs.errors.count_errors.Goals as goal

pub loop-i-preserved : goal.loop-i-preserved
loop-i-preserved g c =
    let os = outputs c.args.session.now.script in
    let ls = c.args.text.now in
    let o = c.output_at-output.result.now in
    let line = c.number_at.result in
    let next = count-step ls c.args.heads.now os c.loop-i.i line o c.number_at.ensures c.output_at-output.ensures in
    let one : c.one_if-count.result ≡ (if is_unexpected ls line o then 1 else 0) = c.one_if-count.ensures.value ∙ ap (λ (t : Bool). if t then 1 else 0) c.is_unexpected.ensures in
    record {
      sum = omega (arith, c.loop-i.invariant.sum, next, one);
      few = omega (arith, c.loop-i.invariant.few, c.one_if-count.ensures.most);
    }

pub returns : goal.returns
returns g c =
    let os = outputs c.args.session.now.script in
    let past : length c.args.heads.now ≤ c.loop-i.i = omega (arith, c.loop-i-test.false, c.len-i-end.ensures.len, c.requires) in
    let none = ap (λ (ns : List ℕ). error_count c.args.text.now ns (drop c.loop-i.i os)) (drop_all c.loop-i.i c.args.heads.now past) in
    omega (arith, c.loop-i.invariant.sum, none)
