use Rattle.std.proofs.Common.{◌≡◌, ◌∙◌, ℕ, List, true, subst}
use Rattle.std.specs.Prelude.{◌↔◌, IsTrue}
use Rattle.rb_script.specs.Reads.{Reads}
use Rattle.rb_script_report.proofs.SpliceLaws.{chosen_is}
use Rattle.rb_script_report.proofs.written.chosen.Goals as goal

pub returns-clause-reads : goal.returns-clause-reads
returns-clause-reads c =
    let s = c.args.script.now in
    let same = subst (λ (l : List ℕ). IsTrue c.in_ok-is_own.is_own ↔ Reads l s) c.as_slice-bytes.ensures.value (c.in_ok-is_own.ensures s c.requires (c.as_slice-wanted.ensures.value ∙ c.in_ok-canonical.ensures)) in
    (chosen_is c.args.own.items c.in_ok-canonical.canonical.items c.one_of.result.items s c.in_ok-is_own.is_own same.0 same.1 c.in_ok-canonical.ensures c.requires c.one_of.ensures).0

pub returns-clause-bytes : goal.returns-clause-bytes
returns-clause-bytes c =
    let s = c.args.script.now in
    let same = subst (λ (l : List ℕ). IsTrue c.in_ok-is_own.is_own ↔ Reads l s) c.as_slice-bytes.ensures.value (c.in_ok-is_own.ensures s c.requires (c.as_slice-wanted.ensures.value ∙ c.in_ok-canonical.ensures)) in
    (chosen_is c.args.own.items c.in_ok-canonical.canonical.items c.one_of.result.items s c.in_ok-is_own.is_own same.0 same.1 c.in_ok-canonical.ensures c.requires c.one_of.ensures).1
