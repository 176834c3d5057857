use Rattle.std.proofs.Common.{◌≡◌, ◌∙◌, sym, subst, Some, IfOk}
use Rattle.clap.specs.Words.{found_of, rows_of, subcommand_rows_of}
use Rattle.rb_args.specs.Chosen.{IsChoiceOf}
use Rattle.rb_args.proofs.ChoiceLaws.{name_in_rows, pair_is}
use Rattle.rb_args.proofs.choosing.choice_of.Goals as goal

pub returns : goal.returns
returns c =
    let m = c.args.matches.now in
    let met : subcommand_rows_of m ≡ Some (c.in-Some.name.now, rows_of (found_of c.in-Some.inner.now)) =
    pair_is _ _ _ (name_in_rows m ∙ sym c.in-Some.ensures.name) (sym c.in-Some.ensures.rows) in
    subst (λ x. IfOk c.given.result (IsChoiceOf x)) (sym met) c.given.ensures
