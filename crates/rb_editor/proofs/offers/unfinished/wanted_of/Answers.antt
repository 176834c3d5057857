use Rattle.std.proofs.Common.{◌≡◌, ◌∙◌, length, sym, arith}
use Rattle.std.proofs.lemmas.Bool.{eqb-false}
use Rattle.rb_editor.proofs.WantedLaws.{arguments_wanted, name_wanted}
use Rattle.rb_editor.proofs.offers.unfinished.wanted_of.Goals as goal

pub returns-then-is_empty : goal.returns-then-is_empty
returns-then-is_empty c =
    let is = sym c.is_empty.ensures ∙ c.if-is_empty.true in
    let none : length c.after-rest.result.now ≡ 0 = grind (arith, is) in
    name_wanted c.args.head.now c.after-name.result.now c.after-rest.result.now c.after-name.ensures c.after-rest.ensures none

pub returns : goal.returns
returns c =
    c.in_arguments.ensures
    ∙ arguments_wanted c.args.head.now c.after-name.result.now c.after-rest.result.now c.after-name.ensures c.after-rest.ensures (eqb-false (length c.after-rest.result.now) 0 (sym c.is_empty.ensures ∙ c.if-is_empty.false))
