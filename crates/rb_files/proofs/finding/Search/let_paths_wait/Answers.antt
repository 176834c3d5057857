use Rattle.std.proofs.Common.{◌≡◌, ◌∙◌, ℕ, Bool, ◌+◌, ◌-◌, ◌++◌, List, drop, map, ap, arith}
use Rattle.rb_files.specs.Finds.{names_of}
use Rattle.rb_files.specs.Walks.{asked}
use Rattle.rb_files.proofs.WalkLaws.{asked_step, wait_on}
use Rattle.rb_files.proofs.finding.Search.let_paths_wait.Goals as goal

pub loop-left-preserved : goal.loop-left-preserved
loop-left-preserved g c =
    let texts : List (List ℕ) = map g.S.AsStr.text c.args.paths.now in
    let k : ℕ = c.loop-left.left - 1 in
    let on : c.loop-left.left ≡ k + 1 = omega (arith, c.loop-left-test.true) in
    let old : List (List ℕ × Bool) = names_of c.args.self.now.waiting.items in
    record {
      found = c.in_ok-let_path_wait.ensures.found ∙ c.loop-left.invariant.found;
      same = wait_on c.args.self.now c.loop-left.self c.let_path_wait.new.self c.loop-left.invariant.same c.in_ok-let_path_wait.ensures.waits.0;
      waits = asked_step texts k c.path_at.result.now old (names_of c.loop-left.self.waiting.items) (names_of c.let_path_wait.new.self.waiting.items) c.path_at.ensures
          (c.loop-left.invariant.waits ∙ ap (λ (n : ℕ). old ++ asked (drop n texts)) on)
          c.in_ok-let_path_wait.ensures.waits.1;
      within = omega (arith, c.loop-left.invariant.within);
    }

pub returns-clause-waits : goal.returns-clause-waits
returns-clause-waits g c =
    let none : c.loop-left.left ≡ 0 = omega (arith, c.loop-left-test.false) in (
      c.loop-left.invariant.same,
      c.loop-left.invariant.waits ∙ ap (λ (n : ℕ). names_of c.args.self.now.waiting.items ++ asked (drop n (map g.S.AsStr.text c.args.paths.now))) none,
    )
