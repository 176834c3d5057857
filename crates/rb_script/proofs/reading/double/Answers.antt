use Rattle.std.proofs.Common.{drop, sym, ap, ◌∙◌}
use Rattle.rb_script.specs.Flat.{between}
use Rattle.rb_script.specs.Found.{pair_seen}
use Rattle.rb_script.specs.Expectations.{then_blank}
use Rattle.rb_script.proofs.ReadingLaws.{double_found}
use Rattle.rb_script.proofs.reading.double.Goals as goal

pub returns-in_default-clause-found : goal.returns-in_default-clause-found
returns-in_default-clause-found c = ap then_blank (ap (pair_seen c.args.all.now c.args.start) (sym c.in_default.is) ∙ c.pair.ensures.found)

pub returns-clause-found : goal.returns-clause-found
returns-clause-found c =
    let all = c.args.all.now in
    double_found (between c.args.start c.in-Some.close all) (drop c.in-Some.after all) c.new-expected.result (drop c.after_blank.result all) _
    (ap (pair_seen all c.args.start) (sym c.in-Some.is) ∙ c.pair.ensures.found) (c.new-expected.ensures ∙ c.in_ok-part.ensures) c.after_blank.ensures.rest
