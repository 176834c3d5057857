-- What a call of an argument's builder does to what clap reads of the argument.
use Rattle.std.proofs.Common.{◌≡◌, ◌∙◌, Bool, Some, Bor, ap}
use Rattle.clap.specs.Words.{Rule, Text, rule_of}
use Rattle.clap.specs.declared.builder.arg.Arg.{Arg}
use Rattle.clap.specs.declared.builder.action.ArgAction.{ArgAction}
use Rattle.clap.specs.declared.builder.texts.Texts.TheVariants.{One}

pub rule_of-long : (a b : Arg) (name : Bor Text) (r : Rule) → b ≡ record a { long = Some name } → rule_of a ≡ r → rule_of b ≡ record r { long = Some name.now }
rule_of-long a b name r made before = ap rule_of made ∙ ap (λ (r : Rule). record r { long = Some name.now }) before

pub rule_of-action : (a b : Arg) (action : ArgAction) (r : Rule) → b ≡ record a { action = Some action } → rule_of a ≡ r → rule_of b ≡ record r { action = Some action }
rule_of-action a b action r made before = ap rule_of made ∙ ap (λ (r : Rule). record r { action = Some action }) before

pub rule_of-value_name : (a b : Arg) (name : Bor Text) (r : Rule) → b ≡ record a { val_names = One name } → rule_of a ≡ r → rule_of b ≡ record r { value_names = 1 }
rule_of-value_name a b name r made before = ap rule_of made ∙ ap (λ (r : Rule). record r { value_names = 1 }) before

-- its help isn't read
pub rule_of-help : (a b : Arg) (text : Bor Text) (r : Rule) → b ≡ record a { help = Some text } → rule_of a ≡ r → rule_of b ≡ r
rule_of-help a b text r made before = ap rule_of made ∙ before

-- nor whether help has it
pub rule_of-hide : (a b : Arg) (is_hidden : Bool) (r : Rule) → b ≡ record a { hide = is_hidden } → rule_of a ≡ r → rule_of b ≡ r
rule_of-hide a b is_hidden r made before = ap rule_of made ∙ before
