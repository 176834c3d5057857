-- What clap says of what is shown of the arguments.
use Rattle.std.proofs.Common.{◌∙◌, ℕ, List, ap, map, string_bytes, subst}
use Rattle.clap.specs.Words.{fault_of}
use Rattle.rb_args.specs.CommandLine.{command_line}
use Rattle.rb_args.specs.Chosen.{RefusedFor}
use Rattle.rb_args.specs.declared.choice.ChoiceFault.{ChoiceFault}
use Rattle.rb_args.specs.declared.choice.ChoiceFault.TheVariants as faults
use Rattle.rb_program.proofs.arguments.refused.Goals as goal

pub returns : goal.returns
returns c =
    let read = subst (λ (fault : ChoiceFault). RefusedFor (fault_of command_line (map (λ x. string_bytes x) c.as_slice.result.now)) fault) c.in-Err-Refused.field-0-is c.in-Err-Refused.ensures.refused in
    subst (λ (words : List (List ℕ)). RefusedFor (fault_of command_line words) (faults.Refused c.in-Err-Refused.error))
    (ap (map string_bytes) c.as_slice.ensures.value ∙ c.in-Ok.ensures) read
