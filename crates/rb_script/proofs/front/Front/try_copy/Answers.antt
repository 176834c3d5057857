use Rattle.std.proofs.Common.{List, map, ap, sym, subst, ◌∙◌}
use Rattle.rb_script.specs.Lines.{Line}
use Rattle.rb_script.specs.Parsed.{spanned}
use Rattle.rb_script.specs.Flat.{between}
use Rattle.rb_script.specs.Tokens.{SpannedArgument}
use Rattle.rb_script.specs.Fronts.{PlainFront, front_of, AreInOrder}
use Rattle.rb_script.proofs.ListLaws.{same_read}
use Rattle.rb_script.proofs.front.Front.try_copy.Goals as goal

pub invariant_of-result : goal.invariant_of-result
invariant_of-result c =
    let p = c.self.inside in
    subst (λ (all : List Line). AreInOrder all p.lead p.head p.input p.end) (sym c.in_ok-try_copy.ensures) c.self.invariant

pub returns : goal.returns
returns c =
    let p = c.self.inside in
    let with_args : List SpannedArgument → PlainFront =
    λ args. record { lead = between p.lead p.head p.all; head = between p.head p.input p.all; input = between p.input p.end p.all; name = p.name; args = args } in
    ap (λ (all : List Line). front_of all p.lead p.head p.input p.end p.name c.in_ok-args.args.items) c.in_ok-try_copy.ensures
    ∙ ap with_args (same_read spanned c.as_slice.result.now c.in_ok-args.args.items c.in_ok-args.ensures.ok ∙ ap (map spanned) c.as_slice.ensures)
    ∙ c.self.view_is
