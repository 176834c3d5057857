use Rattle.std.proofs.Common.{◌≡◌, arith, ◌++◌, ◌∷◌, [], ap, ap₂, ◌∙◌, sym, get_or, take, append_assoc, List, ℕ}
use Rattle.std.proofs.lemmas.Option.{get_or_from_slice_get}
use Rattle.rb_script.specs.Lines.{Line}
use Rattle.rb_script.specs.Directive.{PlainDirective}
use Rattle.rb_script.specs.Reading.{directive_of}
use Rattle.rb_script.specs.Tokens.{plain}
use Rattle.rb_script.specs.Shared.{values}
use Rattle.rb_script.proofs.SharedLaws.{pushed}
use Rattle.rb_machine.specs.Cluster.{Cluster}
use Rattle.rb_machine.specs.Outcome.{outcome}
use Rattle.rb_replay.specs.Run.{outputs}
use Rattle.rb_replay.proofs.RunLaws.{state_next, outputs_next}
use Rattle.rb_replay.proofs.run.Run.step.Goals as goal
use Rattle.rb_replay.proofs.run.Run.step.Given.{Over}

-- what the directive is
directive-is : (g : Over) (c : goal.After-self-3-1 g) → plain c.directive.result ≡ directive_of (get_or c.args.script.now.blocks c.args.self.now.at c.block_at-block.result.now)
directive-is g c = c.directive.ensures.whole ∙ ap directive_of (sym (get_or_from_slice_get c.args.script.now.blocks c.args.self.now.at c.block_at-block.result.now c.block_at-block.result.now c.block_at-block.ensures))

pub returns-clause-run : goal.returns-clause-run
returns-clause-run g c =
    let from : ℕ = c.args.self.now.from in
    let at : ℕ = c.args.self.now.at in
    let grown = pushed c.args.self.now.outputs.items c.push.new.self.items c.in_ok-new.field-0 c.in_ok-next.lines c.in_ok-push.ensures.items c.in_ok-new.ensures.ok in
    record {
      from_first = omega (arith, c.requires.run.from_first);
      within = omega (arith, c.requires.there);
      outputs_on =
          ap (λ (os : List (List Line)). take c.args.self.now.from (outputs c.args.script.now) ++ os) grown
          ∙ sym (append_assoc (take c.args.self.now.from (outputs c.args.script.now)) (values c.args.self.now.outputs.items) (c.in_ok-next.lines ∷ []))
          ∙ ap₂ (λ (os : List (List Line)) (l : List Line). os ++ l ∷ []) c.requires.run.outputs_on (c.in_ok-next.ensures.output ∙ ap₂ (λ (s : Cluster) (d : PlainDirective). (outcome s d).output) c.requires.machine (directive-is g c))
          ∙ sym (outputs_next c.args.script.now c.args.self.now.at c.block_at-block.result.now c.requires.there);
      states_are = c.requires.run.states_are;
    }

pub returns-clause-machine : goal.returns-clause-machine
returns-clause-machine g c =
    c.in_ok-next.ensures.cluster ∙ ap₂ (λ (s : Cluster) (d : PlainDirective). (outcome s d).cluster) c.requires.machine (directive-is g c)
    ∙ sym (state_next c.args.script.now c.args.self.now.at c.block_at-block.result.now c.requires.there)
