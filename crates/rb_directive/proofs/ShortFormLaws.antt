-- What a word that stands alone asks for is what the directive asks for.
use Rattle.std.proofs.Common.{◌≡◌, ℕ, true, false, List, [], ◌∷◌, length, Option, Some, None, Ok, Err, IfSome, slice_index_or, refl, ap, sym, ◌∙◌, subst, arith}
use Rattle.std.specs.Prelude.{Result, if◌then◌else◌}
use Rattle.std.specs.Option.{option_map, option_and_then}
use Rattle.rb_text.specs.Numbers.{number_of}
use Rattle.rb_script.specs.Lines.{Line}
use Rattle.rb_script.specs.Directive.{PlainArgument, PlainDirective, no_argument, plain_argument}
use Rattle.rb_vocab.specs.declared.directive_error.DirectiveError.{DirectiveError}
use Rattle.rb_directive.specs.declared.name.Name.{Name}
use Rattle.rb_directive.specs.declared.name.Name.TheVariants as names
use Rattle.rb_directive.specs.declared.table.Row.{Row}
use Rattle.rb_directive.specs.declared.arguments.Arguments.{Arguments}
use Rattle.rb_directive.specs.declared.arguments.WordPlace.TheVariants as places
use Rattle.rb_directive.specs.declared.argument.Argument.{Argument}
use Rattle.rb_directive.specs.declared.argument.Argument.TheVariants as arguments
use Rattle.rb_directive.specs.declared.argument.Number.TheVariants as numbers
use Rattle.rb_directive.specs.declared.argument.Ids.TheVariants as lists
use Rattle.rb_directive.specs.declared.requests.Request.{Request}
use Rattle.rb_directive.specs.declared.build.Asked.{Asked}
use Rattle.rb_directive.specs.Forms.{Word, within}
use Rattle.rb_directive.specs.IdLists.{id_of, with_id}
use Rattle.rb_directive.specs.Arguments.{nothing, number_set}
use Rattle.rb_directive.specs.Reading.{or_bad, ids_kept, with_word, with_argument, with_arguments}
use Rattle.rb_directive.specs.Requests.{and_then, built, asked_of}
use Rattle.rb_directive.specs.ShortForms.{asks, of_ids, of_node, of_first, of_word}

-- what is asked for by what is given
abbrev from : Name → List Line → Result Arguments DirectiveError → Result Asked DirectiveError
from name inputs given = and_then given (λ g. and_then (built name g inputs) (λ q. Ok (record { request = q; log_level = g.log_level })))

-- nothing is given before the first word is taken
abbrev begun : Arguments
begun = record nothing { next = places.Second }

-- it asks for the same
abbrev Asks : Option Request → Result Asked DirectiveError → Type 0
Asks told asked = IfSome told (λ r. asked ≡ asks r)

-- ---- one word

ids_ask : (name : Name) (inputs : List Line) (w : Word) (id : ℕ) → Asks (of_ids name (id ∷ [])) (from name inputs (or_bad w (ids_kept lists.Nodes None begun (Some (id ∷ [])))))
ids_ask names.ProcessReady inputs w id = refl
ids_ask names.Restart inputs w id = refl
ids_ask names.DeliverMsgs inputs w id = refl
ids_ask names.Stabilize inputs w id = refl
ids_ask name inputs w id = tt

word_as_id : (name : Name) (inputs : List Line) (w : Word) (o : Option ℕ) → Asks (option_and_then (λ id. of_ids name (id ∷ [])) o) (from name inputs (or_bad w (ids_kept lists.Nodes None begun (with_id [] o))))
word_as_id name inputs w None = tt
word_as_id name inputs w (Some id) = ids_ask name inputs w id

node_asks : (name : Name) (inputs : List Line) (w : Word) (id : ℕ) → Asks (of_node name id) (from name inputs (or_bad w (Some (number_set numbers.Id id begun))))
node_asks (names.NodeCommand node_command) inputs w id = refl
node_asks names.RaftLog inputs w id = refl
node_asks names.Status inputs w id = refl
node_asks name inputs w id = tt

word_as_node : (name : Name) (inputs : List Line) (w : Word) (o : Option ℕ) → Asks (option_and_then (of_node name) o) (from name inputs (or_bad w (option_map (λ n. number_set numbers.Id n begun) o)))
word_as_node name inputs w None = tt
word_as_node name inputs w (Some id) = node_asks name inputs w id

-- an argument that is the word
abbrev alone : Word → List Word → PlainArgument
alone w values = record { key = w; has_equals = false; values = values }

first_asks : (name : Name) (inputs : List Line) (first : Option Argument) (w : Word) (values : List Word) → Asks (of_first name first w) (from name inputs (with_word first (alone w values) nothing))
first_asks name inputs (Some (arguments.Number numbers.Id low high)) w values = word_as_node name inputs w (within low high (number_of w))
first_asks name inputs first w values = tt

word_asks : (row : Row) (inputs : List Line) (w : Word) (values : List Word) → Asks (of_word row w) (from row.name inputs (with_argument row (alone w values) nothing))
word_asks row inputs w values =
    elim row.takes_ids as (λ b. Asks (if b then option_and_then (λ id. of_ids row.name (id ∷ [])) (id_of w) else of_first row.name row.first w)
    (from row.name inputs (with_word (if b then Some (arguments.Ids lists.Nodes None) else row.first) (alone w values) nothing))) [
      | true ↦ word_as_id row.name inputs w (id_of w)
      | false ↦ first_asks row.name inputs row.first w values
    ]

-- the last argument
last : (row : Row) (given : Result Arguments DirectiveError) → with_arguments row [] given ≡ given
last row (Err e) = refl
last row (Ok g) = refl

one_left : (args : List PlainArgument) → length args ≡ 1 → args ≡ slice_index_or args 0 no_argument ∷ []
one_left [] h = absurd (cc)
one_left (a ∷ []) h = refl
one_left (a ∷ other ∷ args) h = absurd (omega arith)

-- what is told by the one word of a directive is what it asks for
pub told_by_word : (row : Row) (d : PlainDirective) (told : Option Request) → length d.args ≡ 1 → (plain_argument d 0).has_equals ≡ false → told ≡ of_word row (plain_argument d 0).key → Asks told (asked_of row d)
told_by_word row d told one plain is =
    let a = plain_argument d 0 in
    let word : Asks (of_word row a.key) (from row.name d.inputs (with_argument row a nothing)) =
    subst (λ b. Asks (of_word row a.key) (from row.name d.inputs (with_argument row (record { key = a.key; has_equals = b; values = a.values }) nothing))) (sym plain) (word_asks row d.inputs a.key a.values) in
    let given : with_arguments row d.args (Ok nothing) ≡ with_argument row a nothing = ap (λ l. with_arguments row l (Ok nothing)) (one_left d.args one) ∙ last row (with_argument row a nothing) in
    subst (λ o. Asks o (asked_of row d)) (sym is) (subst (λ g. Asks (of_word row a.key) (from row.name d.inputs g)) (sym given) word)
