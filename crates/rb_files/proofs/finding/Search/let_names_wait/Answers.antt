use Rattle.std.proofs.Common.{◌≡◌, ◌∙◌, ℕ, Bool, ◌+◌, ◌-◌, ◌++◌, [], ◌∷◌, List, String, drop, ap, arith}
use Rattle.std.specs.declared.alloc.Global.{Global}
use Rattle.rb_files.specs.Finds.{names_of, waiting_of}
use Rattle.rb_files.specs.declared.finding.Search.{Search}
use Rattle.rb_files.proofs.FindLaws.{names_step}
use Rattle.rb_files.proofs.WalkLaws.{wait_on}
use Rattle.rb_files.proofs.finding.Search.let_names_wait.Goals as goal

pub loop-left-preserved : goal.loop-left-preserved
loop-left-preserved g c =
    let folder = c.args.folder.now in
    let names = c.args.names.now in
    let ignored = c.args.self.now.ignored.items in
    let k : ℕ = c.loop-left.left - 1 in
    let on : c.loop-left.left ≡ k + 1 = omega (arith, c.loop-left-test.true) in
    let name : String Global = c.name_at.result.now in
    let old : List (List ℕ × Bool) = names_of c.args.self.now.waiting.items in
    let had : List (List ℕ × Bool) = names_of c.loop-left.self.waiting.items in
    record {
      found = c.in_ok-let_name_wait.ensures.found ∙ c.loop-left.invariant.found;
      same = wait_on c.args.self.now c.loop-left.self c.let_name_wait.new.self c.loop-left.invariant.same c.in_ok-let_name_wait.ensures.waits.0;
      waits = names_step ignored folder names k name old had _ c.name_at.ensures
          (c.loop-left.invariant.waits ∙ ap (λ (n : ℕ). old ++ waiting_of ignored folder (drop n names)) on)
          (c.in_ok-let_name_wait.ensures.waits.1 ∙ ap (λ (s : Search). had ++ waiting_of s.ignored.items folder (name ∷ [])) c.loop-left.invariant.same);
      within = omega (arith, c.loop-left.invariant.within);
    }

pub returns-clause-waits : goal.returns-clause-waits
returns-clause-waits g c =
    let none : c.loop-left.left ≡ 0 = omega (arith, c.loop-left-test.false) in (
      c.loop-left.invariant.same,
      c.loop-left.invariant.waits ∙ ap (λ (n : ℕ). names_of c.args.self.now.waiting.items ++ waiting_of c.args.self.now.ignored.items c.args.folder.now (drop n c.args.names.now)) none,
    )
