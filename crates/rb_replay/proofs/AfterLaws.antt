-- Laws of lists of edits.
use Rattle.std.proofs.Common.{◌≡◌, ℕ, List, [], ◌∷◌, ◌++◌, Option, Some, None, ap, sym, ◌∙◌, subst, refl}
use Rattle.std.specs.Prelude.{◌↔◌, Ok, Err}
use Rattle.rb_script.specs.declared.edit.Edit.{Edit}
use Rattle.rb_script.specs.Script.{PlainScript}
use Rattle.rb_replay.specs.Run.{outputs}
use Rattle.rb_replay.specs.Report.{mismatches, rewritten}
use Rattle.rb_replay.specs.Holding.{Holding, IsFresh, IsOneRun}
use Rattle.rb_replay.specs.Start.{is_checkpoint_interval}
use Rattle.rb_replay.specs.Reuse.{Change, change_of, IsCost, IsCostIf, ReusesIf}
use Rattle.rb_replay.specs.After.{Answer, Answered, IsAnswer, IsExact, Leads, or_same, after_one, after}
use Rattle.rb_replay.proofs.ReuseLaws.{cost-one}

-- one edit
one-script : (old new : Holding) (edit : Edit) (answer : Answer) → IsAnswer old edit answer new → new.script ≡ after_one old.script edit answer
one-script old new edit (Ok changed) is = sym (ap (or_same old.script) is.script)
one-script old new edit (Err fault) is = ap (λ (h : Holding). h.script) is

one-run : (old new : Holding) (edit : Edit) (answer : Answer) → IsOneRun old → IsAnswer old edit answer new → IsOneRun new
one-run old new edit (Ok changed) run is = is.fresh
one-run old new edit (Err fault) run is = subst IsOneRun (sym is) run

one-checkpoint_interval : (old new : Holding) (edit : Edit) (answer : Answer) → IsAnswer old edit answer new → new.checkpoint_interval ≡ old.checkpoint_interval
one-checkpoint_interval old new edit (Ok changed) is = is.checkpoint_interval
one-checkpoint_interval old new edit (Err fault) is = ap (λ (h : Holding). h.checkpoint_interval) is

-- a change has no other cost than the one that it had
reuse-exact : (c : Option Change) (old : List ℕ) (executed : ℕ) (points : List ℕ) → ReusesIf c old executed points → (n : ℕ) → IsCostIf c n ↔ (n ≡ executed)
reuse-exact (Some c) old executed points is n = (λ cost. cost-one c n executed cost is.cost, λ same. subst (IsCost c) (sym same) is.cost)
reuse-exact None old executed points is n = (λ none. none ∙ sym is.0, λ same. same ∙ is.0)

one-exact : (old new : Holding) (edit : Edit) (answer : Answer) → IsAnswer old edit answer new → IsExact old edit answer new
one-exact old new edit (Ok changed) is = reuse-exact (change_of old new.script edit) old.points changed.executed new.points is.reuse
one-exact old new edit (Err fault) is = is

-- and many
pub leads-script : (first last : Holding) (steps : Answered) → Leads first steps last → last.script ≡ after first.script steps
leads-script first last [] leads = ap (λ (h : Holding). h.script) leads
leads-script first last (step ∷ steps) leads =
    leads-script leads.0 last steps leads.2 ∙ ap (λ (s : PlainScript). after s steps) (one-script first leads.0 step.0 step.1 leads.1)

pub leads-run : (first last : Holding) (steps : Answered) → IsOneRun first → Leads first steps last → IsOneRun last
leads-run first last [] run leads = subst IsOneRun (sym leads) run
leads-run first last (step ∷ steps) run leads = leads-run leads.0 last steps (one-run first leads.0 step.0 step.1 run leads.1) leads.2

leads-checkpoint_interval : (first last : Holding) (steps : Answered) → Leads first steps last → last.checkpoint_interval ≡ first.checkpoint_interval
leads-checkpoint_interval first last [] leads = ap (λ (h : Holding). h.checkpoint_interval) leads
leads-checkpoint_interval first last (step ∷ steps) leads = leads-checkpoint_interval leads.0 last steps leads.2 ∙ one-checkpoint_interval first leads.0 step.0 step.1 leads.1

pub leads-fresh : (first last : Holding) (steps : Answered) → IsFresh first → Leads first steps last → IsFresh last
leads-fresh first last steps fresh leads = record {
  run = leads-run first last steps fresh.run leads;
  spaced = ap is_checkpoint_interval (leads-checkpoint_interval first last steps leads) ∙ fresh.spaced;
}

pub leads-outputs : (first last : Holding) (steps : Answered) → IsOneRun first → Leads first steps last → last.outputs ≡ outputs (after first.script steps)
leads-outputs first last steps run leads = let end : IsOneRun last = leads-run first last steps run leads in end.answered ∙ ap outputs (leads-script first last steps leads)

pub leads-mismatches : (first last : Holding) (steps : Answered) → IsOneRun first → Leads first steps last → last.mismatches ≡ mismatches (after first.script steps)
leads-mismatches first last steps run leads = let end : IsOneRun last = leads-run first last steps run leads in end.compared ∙ ap mismatches (leads-script first last steps leads)

pub leads-both : (first last : Holding) (steps : Answered) → IsOneRun first → Leads first steps last → (last.script ≡ after first.script steps) × IsOneRun last
leads-both first last steps run leads = (leads-script first last steps leads, leads-run first last steps run leads)

pub leads-rewritten : (first last : Holding) (steps : Answered) → IsOneRun first → Leads first steps last → rewritten last.script ≡ rewritten (after first.script steps)
leads-rewritten first last steps run leads = ap rewritten (leads-script first last steps leads)

pub leads-exact : (first last : Holding) (before later : Answered) (edit : Edit) (answer : Answer) → Leads first (before ++ (edit, answer) ∷ later) last
    → (old : Holding) × (new : Holding) × Leads first before old × IsExact old edit answer new × Leads new later last
leads-exact first last [] later edit answer leads = (first, leads.0, refl, one-exact first leads.0 edit answer leads.1, leads.2)
leads-exact first last (step ∷ before) later edit answer leads =
    let (old, new, leads_here, exact, leads_on) = leads-exact leads.0 last before later edit answer leads.2 in
    (old, new, (leads.0, leads.1, leads_here), exact, leads_on)
