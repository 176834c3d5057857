-- What the table has, and what is read by it.
use Rattle.std.proofs.Common.{◌≡◌, ℕ, Bool, true, false, List, [], ◌∷◌, Option, Some, None, Ok, Err, refl, ap, sym, ◌∙◌, subst}
use Rattle.std.specs.Prelude.{is_some, not, ◌||◌, if◌then◌else◌}
use Rattle.std.specs.List.{list_all}
use Rattle.std.specs.Option.{option_map}
use Rattle.std.specs.Str.{bytes_eq}
use Rattle.std.proofs.lemmas.Bool.{and_from}
use Rattle.std.proofs.lemmas.Slice.Eq.{bytes_eq-Decides}
use Rattle.rb_script.specs.Directive.{PlainArgument}
use Rattle.rb_directive.specs.declared.node_command.NodeCommand.TheVariants as acts
use Rattle.rb_directive.specs.declared.node_command_with_arg.NodeCommandWithArg.TheVariants as withs
use Rattle.rb_directive.specs.declared.name.Name.{Name}
use Rattle.rb_directive.specs.declared.name.Name.TheVariants as names
use Rattle.rb_directive.specs.declared.table.Row.{Row}
use Rattle.rb_directive.specs.declared.arguments.Arguments.{Arguments}
use Rattle.rb_directive.specs.declared.argument.Argument.{Argument}
use Rattle.rb_directive.specs.Names.{name_text}
use Rattle.rb_directive.specs.Table.{directives, row_in, option_of, word_of, has_option}
use Rattle.rb_directive.specs.Reading.{with_option, with_word, with_argument, with_arguments}

-- each row is the first with its name
pub names_found : (name : Name) → option_map (λ (row : Row). row.name) (row_in directives (name_text name)) ≡ Some name
unfolding directives
names_found (names.NodeCommand acts.Campaign) = refl
names_found (names.NodeCommandWithArg withs.Compact) = refl
names_found name = refl

-- an option that the directive lacks is refused
with_option_has : (o : Option Argument) (a : PlainArgument) (g after : Arguments) → with_option o a g ≡ Ok after → is_some o ≡ true
with_option_has None a g after h = absurd (cc)
with_option_has (Some argument) a g after h = refl

option_has : (row : Row) (a : PlainArgument) (g after : Arguments) (b : Bool)
    → (if b then with_option (option_of (name_text row.name) a.key) a g else with_word (word_of row g.next) a g) ≡ Ok after → (not b || is_some (option_of (name_text row.name) a.key)) ≡ true
option_has row a g after true h = with_option_has (option_of (name_text row.name) a.key) a g after h
option_has row a g after false h = refl

-- P holds of all arguments that are read, and of what is given before them: of none, and of one before others
pub read_along : (row : Row) (last : Arguments) (P : List PlainArgument → Arguments → Type 0) → P [] last
    → ((a : PlainArgument) (args : List PlainArgument) (g next : Arguments) → with_argument row a g ≡ Ok next → with_arguments row args (Ok next) ≡ Ok last
    → P args next → P (a ∷ args) g)
    → (args : List PlainArgument) (g : Arguments) → with_arguments row args (Ok g) ≡ Ok last → P args g
read_along row last P none one [] g h = let is : last ≡ g = cc in subst (P []) is none
read_along row last P none one (a ∷ args) g h =
    elim (with_argument row a g) as (λ r. with_argument row a g ≡ r → with_arguments row args r ≡ Ok last → P (a ∷ args) g) [
      | Ok next ↦ λ e more. one a args g next e more (read_along row last P none one args next more)
      | Err fault ↦ λ e more. absurd (cc)
    ] refl h

pub all_have : (row : Row) (args : List PlainArgument) (g after : Arguments) → with_arguments row args (Ok g) ≡ Ok after
    → list_all (has_option (name_text row.name)) args ≡ true
all_have row args g after h =
    read_along row after (λ args g. list_all (has_option (name_text row.name)) args ≡ true) refl
    (λ a args g next e more all. and_from _ _ (option_has row a g next a.has_equals e) all) args g h

-- the row that is found has the name
pub row_named : (rows : List Row) (name : List ℕ) (row : Row) → row_in rows name ≡ Some row → name_text row.name ≡ name
row_named [] name row h = absurd (cc)
row_named (other ∷ rows) name row h =
    elim (bytes_eq (name_text other.name) name) as (λ b. bytes_eq (name_text other.name) name ≡ b → (if b then Some other else row_in rows name) ≡ Some row → name_text row.name ≡ name) [
      | true ↦ λ same e. let is : other ≡ row = cc in ap (λ (r : Row). name_text r.name) (sym is) ∙ (bytes_eq-Decides (name_text other.name) name).0 same
      | false ↦ λ same e. row_named rows name row e
    ] refl h
