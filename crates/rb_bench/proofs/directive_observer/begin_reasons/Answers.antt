use Rattle.std.proofs.Common.{◌∙◌, Bool, cond, Some, None, ap, sym}
use Rattle.rb_script_report.specs.Whys.{no_reasons}
use Rattle.rb_bench.proofs.ReasonLaws.{begun_at}
use Rattle.rb_bench.proofs.directive_observer.begin_reasons.Goals as goal

pub returns-then-explains : goal.returns-then-explains
returns-then-explains c = λ level.
    ap Some (begun_at c.new.result level c.new.ensures.above c.new.ensures.has_begun c.new.ensures.last)
    ∙ sym (ap (λ (b : Bool). cond b (Some (no_reasons level)) None) c.if-explains.true)
