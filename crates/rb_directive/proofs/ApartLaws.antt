-- No id of `add-nodes` is a voter and a learner, since each of the two lists is refused where it shares an id with the other.
use Rattle.std.proofs.Common.{◌≡◌, ℕ, ◌==◌, Bool, true, false, List, [], codes, get_or, Option, Some, None, unwrap_or, Ok, refl, ap, sym, ◌∙◌, subst, arith}
use Rattle.std.specs.List.{list_all}
use Rattle.std.proofs.lemmas.Bool.{both_ways, eq-eqb}
use Rattle.std.proofs.lemmas.List.Folds.{list_any_at}
use Rattle.rb_script.specs.Directive.{PlainDirective}
use Rattle.rb_directive.specs.declared.name.Name.{Name}
use Rattle.rb_directive.specs.declared.name.Name.TheVariants as names
use Rattle.rb_directive.specs.declared.table.Row.{Row}
use Rattle.rb_directive.specs.declared.table.OptionRow.{OptionRow}
use Rattle.rb_directive.specs.declared.arguments.Arguments.{Arguments}
use Rattle.rb_directive.specs.declared.argument.Argument.{Argument}
use Rattle.rb_directive.specs.declared.argument.Argument.TheVariants as arguments
use Rattle.rb_directive.specs.declared.argument.Bytes.TheVariants as bytes
use Rattle.rb_directive.specs.declared.argument.Ids.{Ids}
use Rattle.rb_directive.specs.declared.argument.Ids.TheVariants as lists
use Rattle.rb_directive.specs.declared.requests.AddNodes.{AddNodes}
use Rattle.rb_directive.specs.declared.requests.Request.TheVariants as requests
use Rattle.rb_directive.specs.declared.build.Asked.{Asked}
use Rattle.rb_directive.specs.IdLists.{holds, share}
use Rattle.rb_directive.specs.Table.{directives, options}
use Rattle.rb_directive.specs.Arguments.{nothing, shares_one, excludes, ids_set}
use Rattle.rb_directive.specs.Requests.{add_nodes, built, request}
use Rattle.rb_directive.specs.Whole.{name_of, AreApart}
use Rattle.rb_directive.proofs.BuildLaws.{wanted_some, done, read_of, built_named}
use Rattle.rb_directive.proofs.KeepLaws.{option_fits, row_fits, words_fit, word_of_fits, AllKeep, arguments_kept, rest_still, SetKeeps, set_kept}

share_apart : (ids others : List ℕ) → share ids others ≡ false → AreApart ids others
share_apart ids others e id here there =
    let found : holds others id ≡ true = list_any_at (λ other. other == id) others there.0 id there.1 (eq-eqb _ id there.2) in
    let one : holds others (get_or ids here.0 id) ≡ true = subst (λ x. holds others x ≡ true) (sym here.2) found in
    both_ways (share ids others) e (list_any_at (holds others) ids here.0 id here.1 one)

shares_apart : (ids : List ℕ) (o : Option (List ℕ)) → shares_one ids o ≡ false → AreApart ids (unwrap_or o [])
shares_apart ids None e = λ id here there. absurd (let none = there.1 in omega arith)
shares_apart ids (Some others) e = share_apart ids others e

apart_back : (ids others : List ℕ) → AreApart ids others → AreApart others ids
apart_back ids others apart = λ id here there. apart id there here

-- the voters and the learners that are given
abbrev IsApart : Arguments → Type 0
IsApart g = AreApart (unwrap_or g.voters []) (unwrap_or g.learners [])

-- ---- what the table says

abbrev is_learners : Option Ids → Bool
is_learners (Some lists.Learners) = true
is_learners other = false

abbrev is_voters : Option Ids → Bool
is_voters (Some lists.Voters) = true
is_voters other = false

-- each of the two lists excludes the other
abbrev excludes_other : Ids → Option Ids → Bool
excludes_other lists.Nodes other = true
excludes_other lists.Voters other = is_learners other
excludes_other lists.Learners other = is_voters other
excludes_other lists.Drop other = true

abbrev is_exclusive : Name → Argument → Bool
is_exclusive name (arguments.Number which low high) = true
is_exclusive name (arguments.Bytes which low high) = true
is_exclusive name (arguments.Level which) = true
is_exclusive name (arguments.Flag which) = true
is_exclusive name arguments.Transition = true
is_exclusive name arguments.Types = true
is_exclusive name (arguments.Ids which other) = excludes_other which other

options_exclusive : list_all (λ (row : OptionRow). is_exclusive row.name row.option) options ≡ true
unfolding options
options_exclusive = refl

words_exclusive : list_all (words_fit is_exclusive) directives ≡ true
unfolding directives
words_exclusive = refl

-- ---- what each argument keeps

list_apart : (which : Ids) (other : Option Ids) (ids : List ℕ) (g : Arguments) → excludes_other which other ≡ true → excludes other ids g ≡ false → IsApart g → IsApart (ids_set which ids g)
list_apart lists.Nodes other ids g fits e p = p
list_apart lists.Voters (Some lists.Learners) ids g fits e p = shares_apart ids g.learners e
list_apart lists.Voters other ids g fits e p = absurd (cc)
list_apart lists.Learners (Some lists.Voters) ids g fits e p = apart_back ids (unwrap_or g.voters []) (shares_apart ids g.voters e)
list_apart lists.Learners other ids g fits e p = absurd (cc)
list_apart lists.Drop other ids g fits e p = p

argument_apart : (name : Name) (argument : Argument) → is_exclusive name argument ≡ true → SetKeeps IsApart argument
argument_apart name (arguments.Number which low high) fits =
    λ words n g said p. rest_still (λ some ids. AreApart (unwrap_or ids.voters []) (unwrap_or ids.learners [])) which n g p
argument_apart name (arguments.Bytes bytes.Payload low high) fits = λ words w g said p. p
argument_apart name (arguments.Bytes bytes.Content low high) fits = λ words w g said p. p
argument_apart name (arguments.Ids which other) fits = λ words ids g said e p. list_apart which other ids g fits e p
argument_apart name other fits = tt

arguments_apart : (row : Row) → words_fit is_exclusive row ≡ true → AllKeep IsApart row
arguments_apart row fits = record {
  option = λ key argument h. set_kept IsApart argument (argument_apart row.name argument
      (option_fits is_exclusive options_exclusive (λ name. refl) row.name key argument h));
  word = λ place argument h. set_kept IsApart argument (argument_apart row.name argument (word_of_fits is_exclusive row fits refl place argument h));
  place = λ g place p. p;
}

-- ---- what is asked for

nothing_apart : IsApart nothing
nothing_apart = λ id here there. absurd (let none = there.1 in omega arith)

nodes_same : (made r : AddNodes) → done (requests.AddNodes made) ≡ done (requests.AddNodes r) → made ≡ r
nodes_same made r h = cc

nodes_apart : (g : Arguments) (r : AddNodes) → IsApart g → add_nodes g ≡ Ok (requests.AddNodes r) → AreApart (unwrap_or r.voters []) (unwrap_or r.learners [])
nodes_apart g r p h =
    let count = wanted_some (codes "n") g.count _ (requests.AddNodes r) h in
    subst (λ (nodes : AddNodes). AreApart (unwrap_or nodes.voters []) (unwrap_or nodes.learners [])) (nodes_same _ r count.2) p

pub request_apart : (d : PlainDirective) (a : Asked) (r : AddNodes) → request d ≡ Ok a → a.request ≡ requests.AddNodes r → AreApart (unwrap_or r.voters []) (unwrap_or r.learners [])
request_apart d a r h e =
    let read = read_of d a h in
    let fits = row_fits (words_fit is_exclusive) directives words_exclusive d.name read.row read.row_is in
    let given = arguments_kept IsApart read.row (arguments_apart read.row fits) d.args nothing read.given read.given_is nothing_apart in
    let named : read.row.name ≡ names.AddNodes = sym (built_named read.row.name read.given d.inputs a.request read.built_is) ∙ ap name_of e in
    let made : built read.row.name read.given d.inputs ≡ done (requests.AddNodes r) = read.built_is ∙ ap done e in
    nodes_apart read.given r given (subst (λ name. built name read.given d.inputs ≡ done (requests.AddNodes r)) named made)
