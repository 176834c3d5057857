use Rattle.std.proofs.Common.{◌≡◌, ◌+◌, ◌-◌, [], List, Result, Ok, length, drop, get_or, sym, ap, subst, ◌∙◌, arith}
use Rattle.std.proofs.lemmas.Result.{err_from_is_err_and}
use Rattle.std.proofs.lemmas.List.{drop_all, drop_more, length-drop}
use Rattle.rb_script.specs.declared.fault.ScriptFault.{ScriptFault}
use Rattle.rb_script.specs.declared.fault.ScriptFault.TheVariants.{NotClosed}
use Rattle.rb_script.specs.Lines.{Line}
use Rattle.rb_script.specs.Flat.{between}
use Rattle.rb_script.specs.Script.{PlainBlock}
use Rattle.rb_script.specs.Results.{◌>>=◌}
use Rattle.rb_script.specs.Marks.{is_input}
use Rattle.rb_script.specs.Runs.{while_of}
use Rattle.rb_script.specs.Expectations.{expectation_at}
use Rattle.rb_script.specs.Blocks.{closed_or, below_head, block_at}
use Rattle.rb_script.specs.Fronts.{PlainFront, block_of_front, HasTokens}
use Rattle.rb_script.specs.Valid.{IsLine, IsBlock}
use Rattle.rb_script.proofs.BetweenLaws.{length-between}
use Rattle.rb_script.proofs.ListLaws.{every-take}
use Rattle.rb_script.proofs.BlockLaws.{completed, number_is, head_some, head_fails, block_below, below_none, below_closed, gathered}
use Rattle.rb_script.proofs.ResultLaws.{fails_through}
use Rattle.rb_script.proofs.ValidLaws.{made_valid}
use Rattle.rb_script.proofs.FrontLaws.{parsed_tokens}
use Rattle.rb_script.proofs.reading.block.Goals as goal
use Rattle.rb_script.proofs.reading.block.Goals.{In_ok-tokens, After-expectation, In_ok-expected}

-- what is read below the head decides
decides : (c : In_ok-tokens) (r : Result (List Line × List Line × List Line) ScriptFault)
    → below_head (1 + length c.args.all.now) c.args.number (drop c.head-below.result c.args.all.now) ≡ r
    → block_at (1 + length c.args.all.now) (between c.args.from c.args.start c.args.all.now) (drop c.args.start c.args.all.now)
    ≡ (r >>= completed (between c.args.from c.args.start c.args.all.now) (between c.args.start c.head-below.result c.args.all.now))
decides c r e =
    let all = c.args.all.now in
    let start = c.args.start in
    let below = c.head-below.result in
    block_below (1 + length all) c.args.number (between c.args.from start all) (drop start all) (between start below all) (drop below all)
    (omega (arith, c.requires.number, length-drop start all)) c.head-below.ensures.run c.head-below.ensures.rest _ c.in_ok-tokens.ensures.gives.0 r e

-- the expectation behind the separator decides what stands below the head
below : (c : After-expectation) (found : Result (List Line × List Line) ScriptFault)
    → closed_or (NotClosed (c.run-separator.result + 1)) (expectation_at (drop (c.run-separator.result + 1) c.args.all.now)) ≡ found
    → below_head (1 + length c.args.all.now) c.args.number (drop c.head-below.result c.args.all.now) ≡ (found >>= gathered (while_of is_input (drop c.head-below.result c.args.all.now)))
below c found is =
    let all = c.args.all.now in
    let at = c.run-separator.result in
    below_closed (1 + length all) c.args.number (drop c.head-below.result all) (drop at all) c.run-separator.ensures.rest (at + 1) (drop (at + 1) all) (get_or all at []) found
    (number_is (at + 1) (1 + length all) (drop at all) (omega (arith, length-drop at all))) (drop_more all at [] (omega arith)) is

-- the input is what the run of lines is
read_below : (c : In_ok-expected) → let all = c.args.all.now in
    below_head (1 + length all) c.args.number (drop c.head-below.result all)
    ≡ Ok (while_of is_input (drop c.head-below.result all), c.in_ok-expected.expected, drop c.in_ok-expected.after all)
    → below_head (1 + length all) c.args.number (drop c.head-below.result all)
    ≡ Ok (between c.head-below.result c.run-separator.result all, c.in_ok-expected.expected, drop c.in_ok-expected.after all)
read_below c is = is ∙ ap (λ (input : List Line). Ok (input, c.in_ok-expected.expected, drop c.in_ok-expected.after c.args.all.now)) (sym c.run-separator.ensures.run)

pub tokens_of-requires-clause-there : goal.tokens_of-requires-clause-there
tokens_of-requires-clause-there c =
    let all = c.args.all.now in
    omega (arith, head_some (drop c.args.start all) _ c.head-below.ensures.run c.requires.head, length-between c.args.start c.head-below.result all c.head-below.ensures.order.1)

pub tokens_of-requires-clause-lines : goal.tokens_of-requires-clause-lines
tokens_of-requires-clause-lines c = every-take IsLine (c.head-below.result - c.args.start) (drop c.args.start c.args.all.now) c.requires.lines

pub returns-in_err-tokens-clause-gives : goal.returns-in_err-tokens-clause-gives
returns-in_err-tokens-clause-gives c =
    let p = err_from_is_err_and c.from_residual.result c.from_residual.ensures.1 in
    let all = c.args.all.now in
    let start = c.args.start in
    let below = c.head-below.result in
    rw (p.1, p.2)
    (head_fails (1 + length all) c.args.number (between c.args.from start all) (drop start all) (between start below all) (drop below all)
    (omega (arith, c.requires.number, length-drop start all))
    c.head-below.ensures.run c.head-below.ensures.rest c.in_err-tokens.field-0.0 c.in_err-tokens.ensures.gives)

pub returns-then-separator-len-clause-gives : goal.returns-then-separator-len-clause-gives
returns-then-separator-len-clause-gives c =
    let all = c.args.all.now in
    let at = c.run-separator.result in
    decides (goal.at.returns-then-separator-len-clause-gives c).In_ok-tokens _
    (below_none (1 + length all) c.args.number (drop c.head-below.result all) (drop at all) c.run-separator.ensures.rest (drop_all at all (omega arith)))

pub returns-in_err-expected-clause-gives : goal.returns-in_err-expected-clause-gives
returns-in_err-expected-clause-gives c =
    let p = err_from_is_err_and c.from_residual-in_err-expected.result c.from_residual-in_err-expected.ensures.1 in
    let at = goal.at.returns-in_err-expected-clause-gives c in
    rw (p.1, p.2)
    (fails_through c.in_err-expected.field-0.0 (closed_or (NotClosed (c.run-separator.result + 1)) (expectation_at (drop (c.run-separator.result + 1) c.args.all.now))) _
    c.in_err-expected.ensures.found (λ f. decides at.In_ok-tokens _ (below at.After-expectation _ f)))

pub new-requires-2-clause-block : goal.new-requires-2-clause-block
new-requires-2-clause-block c =
    let all = c.args.all.now in
    let at = goal.at.new-requires-2-clause-block c in
    let below = read_below at.In_ok-expected (below at.After-expectation _ c.in_ok-expected.ensures.found) in
    subst (λ (f : PlainFront). IsBlock (block_of_front f c.in_ok-expected.expected)) (sym c.in_ok-front.ensures)
    (made_valid (1 + length all) (between c.args.from c.args.start all) (drop c.args.start all) (drop c.in_ok-expected.after all) _ (decides at.In_ok-tokens _ below)
    c.requires.lead c.requires.head c.requires.lead_lines c.requires.lines).0

pub new-requires-2-clause-tokens : goal.new-requires-2-clause-tokens
new-requires-2-clause-tokens c =
    subst HasTokens (sym c.in_ok-front.ensures)
    (parsed_tokens c.args.all.now c.args.from c.args.start c.head-below.result c.run-separator.result c.args.number c.in_ok-tokens.tokens
    c.in_ok-tokens.ensures.gives)

pub returns-clause-gives : goal.returns-clause-gives
returns-clause-gives c =
    let at = goal.at.returns-clause-gives c in
    decides at.In_ok-tokens _ (read_below at.In_ok-expected (below at.After-expectation _ c.in_ok-expected.ensures.found))
    ∙ ap (λ (b : PlainBlock). Ok (b, drop c.in_ok-expected.after c.args.all.now))
    (sym (c.in_ok-block.ensures.ok ∙ c.new-2.ensures ∙ ap (λ (f : PlainFront). block_of_front f c.in_ok-expected.expected) c.in_ok-front.ensures))
