use Rattle.std.proofs.Common.{◌≡◌, ℕ, List, cond, sym, ap, ◌∙◌}
use Rattle.std.specs.Prelude.{None}
use Rattle.rb_script.specs.Runs.{after_while}
use Rattle.rb_script.specs.Directive.{is_word, is_some_piece}
use Rattle.rb_script.specs.Tokens.{token}
use Rattle.rb_script.specs.Heads.{after_key, argument_at}
use Rattle.rb_script.proofs.ArgumentLaws.{some_token, values_too_many}
use Rattle.rb_script.proofs.tokens.argument.Goals as goal

pub returns-in-None-clause-gives : goal.returns-in-None-clause-gives
unfolding argument_at
returns-in-None-clause-gives c =
    let head = c.args.at.now.head in
    let bytes = c.args.at.now.left in
    let rest = c.take-key.new.self.left in
    let key = token head c.take-key.result in
    let read = λ (k : List ℕ) (after : List ℕ). cond (is_some_piece k) (after_key k after) None in
    let is : argument_at bytes ≡ after_key key rest =
    ap (λ k. read k (after_while is_word bytes)) (sym c.take-key.ensures.token) ∙ ap (read key) (sym c.take-key.ensures.left)
    ∙ ap (λ t. cond t (after_key key rest) None) (some_token head c.take-key.result c.take-key.ensures.part c.if-key.false) in
    let gives =
    values_too_many head c.take-key.result c.values.new.at.left rest c.advance.new.self.left
    c.in-Some-eq61.field-0 c.in-Some-eq61.ensures c.in-Some-eq61.field-0-test c.advance.ensures.left
    (rw (c.advance.ensures.head ∙ c.take-key.ensures.head, c.in-None.is) at c.in_ok-values.ensures.gives) in
    (gives.0, is ∙ gives.1, gives.2)
