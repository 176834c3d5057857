use Rattle.std.proofs.Common.{◌++◌, ◌∷◌, [], List, ap, sym, ◌∙◌, arith}
use Rattle.std.proofs.lemmas.List.{take_all}
use Rattle.rb_script.specs.Lines.{Line}
use Rattle.rb_script.specs.Script.{PlainBlock, all_expecting, expecting}
use Rattle.rb_script.specs.Shared.{values}
use Rattle.rb_script.specs.Edits.{is_expectation}
use Rattle.rb_script.proofs.ListLaws.{take_there}
use Rattle.rb_script.proofs.SharedLaws.{test_there, expecting_at, outputs_count}
use Rattle.rb_script.proofs.edits.all_expecting.Goals as goal

pub loop-i-preserved : goal.loop-i-preserved
loop-i-preserved c =
    let blocks = c.args.blocks.now in
    let outputs = c.args.outputs.now in
    let block = c.at.result.now.value in
    let output = c.at-output.result.now.value in
    c.in_ok-push_expecting.ensures ∙ ap (λ (o : List Line). values c.loop-i.made.items ++ expecting block o ∷ []) c.deref.ensures ∙ ap (λ (l : List PlainBlock). l ++ expecting block output ∷ []) c.loop-i.invariant
    ∙ sym (take_there (all_expecting blocks outputs) c.loop-i.i (expecting block output) (expecting_at blocks outputs c.loop-i.i block output c.at.ensures c.at-output.ensures))

pub push_expecting-requires : goal.push_expecting-requires
push_expecting-requires c = ap is_expectation c.deref.ensures ∙ test_there is_expectation c.args.outputs.now c.loop-i.i c.at-output.result.now.value c.at-output.ensures c.requires.readable

pub returns : goal.returns
returns c =
    let blocks = c.args.blocks.now in
    let outputs = c.args.outputs.now in
    c.loop-i.invariant ∙ take_all c.loop-i.i (all_expecting blocks outputs) (omega (arith, outputs_count blocks outputs c.requires.count))
