use Rattle.std.proofs.Common.{◌≡◌, ◌∙◌, ap, sym, subst, true, refl, map, inl, inr}
use Rattle.clap.specs.Words.{App, HasKind, Kinds, fault_of, is_simple, is_simple_and_free, kind_of, subcommand_of, takes}
use Rattle.clap.specs.declared.error.Error.{Error}
use Rattle.clap.specs.declared.error.kind.ErrorKind.TheVariants as kind
use Rattle.rb_args.specs.Chosen.{IsChoiceOf, IsRefusal, RefusedFor}
use Rattle.rb_args.specs.CommandLine.{command_line}
use Rattle.rb_args.specs.declared.choice.ChoiceFault.{ChoiceFault}
use Rattle.rb_args.specs.declared.choice.ChoiceFault.TheVariants.{Refused, OutOfMemory}
use Rattle.rb_args.proofs.choosing.chosen.Goals as goal

told_as_memory : (error : Error) (fault : ChoiceFault) → IsRefusal error fault → kind_of error ≡ kind.OutOfMemory → fault ≡ OutOfMemory
told_as_memory error (Refused told) h e = absurd (h.1 e)
told_as_memory error OutOfMemory h e = refl

line_is_simple : is_simple command_line ≡ true
line_is_simple = refl

line_is_free : is_simple_and_free command_line ≡ true
line_is_free = refl

refused_for : (error : Error) (fault : ChoiceFault) (kinds : Kinds) → IsRefusal error fault → HasKind kinds error → RefusedFor kinds fault
refused_for error (Refused told) kinds h (inl memory) = absurd (h.1 memory)
refused_for error (Refused told) kinds h (inr among) = let e : told ≡ error = h.0 in rw e (among, h.1)
refused_for error OutOfMemory kinds h has = tt

pub returns-in-Err-clause-refused : goal.returns-in-Err-clause-refused
returns-in-Err-clause-refused g c =
    let texts = map g.S.AsStr.text c.args.words.now in
    refused_for _ _ _ c.refusal.ensures
    (subst (λ (a : App). HasKind (fault_of a texts) c.in-Err.error) c.in-Ok.ensures
    (c.in-Err.ensures.kinds (ap is_simple_and_free c.in-Ok.ensures ∙ line_is_free)))

pub returns-in-Err-clause-taken :
    goal.returns-in-Err-clause-taken
returns-in-Err-clause-taken g c = λ taken.
    told_as_memory _ _ c.refusal.ensures
    (c.in-Err.ensures.passes (subst (λ (a : App). takes a (map g.S.AsStr.text c.args.words.now) ≡ true) (sym c.in-Ok.ensures) taken))

pub returns-in-Ok-choice_of-clause-ok : goal.returns-in-Ok-choice_of-clause-ok
returns-in-Ok-choice_of-clause-ok g c =
    let texts = map g.S.AsStr.text c.args.words.now in
    let met = c.in-Ok-try_get_matches_from.ensures.matches (ap is_simple c.in-Ok.ensures ∙ line_is_simple) in
    (ap (λ (a : App). fault_of a texts) (sym c.in-Ok.ensures) ∙ c.in-Ok-try_get_matches_from.ensures.kinds (ap is_simple_and_free c.in-Ok.ensures ∙ line_is_free), subst (λ m. IsChoiceOf m c.in-Ok-choice_of.choice) (met.1 ∙ ap (λ (a : App). subcommand_of a texts) c.in-Ok.ensures) c.in-Ok-choice_of.ensures)
