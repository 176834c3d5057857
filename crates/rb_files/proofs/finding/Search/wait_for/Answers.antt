use Rattle.std.proofs.Common.{◌≡◌, ◌∙◌, ℕ, ◌++◌, ◌∷◌, [], List, String, Vec, IfOk, ap, get_or, subst}
use Rattle.std.proofs.lemmas.List.{take_all}
use Rattle.std.specs.declared.alloc.Global.{Global}
use Rattle.rb_report.specs.declared.check.failure.Failure.TheVariants as failures
use Rattle.rb_files.specs.Finds.{WaitsFor, losses, undecodable, waiting_of}
use Rattle.rb_files.specs.Ignored.{slash}
use Rattle.rb_files.specs.PathErrors.{without_cause}
use Rattle.rb_files.specs.declared.path_error.PathError.{PathError}
use Rattle.rb_files.proofs.FindLaws.{undecodable_step}
use Rattle.rb_files.proofs.WalkLaws.{because, lose_on, waits_on}
use Rattle.rb_files.proofs.finding.Search.wait_for.Goals as goal

pub loop-name-preserved : goal.loop-name-preserved
loop-name-preserved g c =
    let folder = c.args.folder.now in
    let names = c.deref-name-items.result.now in
    let i = c.loop-name.name-index in
    let name : Vec ℕ Global = c.name-item.result in
    let had : List (List ℕ × PathError) = losses c.loop-name.self.found.lost.items in
    let same : c.as_slice.result.now ≡ (get_or names i name).items = cc in
    record {
      scripts = c.in_ok-report_undecodable_name.ensures.scripts ∙ c.loop-name.invariant.scripts;
      told = λ t. c.in_ok-report_undecodable_name.ensures.told (c.loop-name.invariant.told t);
      same = lose_on c.args.self.now c.loop-name.self c.report_undecodable_name.new.self c.loop-name.invariant.same c.in_ok-report_undecodable_name.ensures.lost.0;
      lost = undecodable_step folder names i name _ had _ c.loop-name-test.true c.loop-name.invariant.lost
          (c.in_ok-report_undecodable_name.ensures.lost.1 ∙ ap (λ (n : List ℕ). had ++ (folder ++ slash ∷ n, without_cause failures.NotRead) ∷ []) same);
    }

pub returns-clause-waits : goal.returns-clause-waits
returns-clause-waits g c =
    let names = c.deref-name-items.result.now in
    because c.let_names_wait.result _ _
    (waits_on c.args.folder.now c.args.listing c.args.self.now c.loop-name.self c.let_names_wait.new.self c.loop-name.invariant.same
    (c.loop-name.invariant.lost
    ∙ ap (λ (ns : List (Vec ℕ Global)). losses c.args.self.now.found.lost.items ++ undecodable c.args.folder.now ns)
    (take_all c.loop-name.name-index names c.loop-name-test.false ∙ c.deref-name-items.ensures.value)))
    (subst (λ (ns : List (String Global)). IfOk c.let_names_wait.result (λ _. WaitsFor (waiting_of c.loop-name.self.ignored.items c.args.folder.now ns) c.loop-name.self c.let_names_wait.new.self)) c.as_slice-2.ensures.value c.let_names_wait.ensures.waits)
