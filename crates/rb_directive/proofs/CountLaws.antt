-- How many nodes `add-nodes` asks for is its first word, since no option is the count, and no word follows it.
use Rattle.std.proofs.Common.{◌≡◌, ◌∙◌, ℕ, Bool, true, false, List, [], ◌∷◌, codes, Option, Some, None, Ok, refl, ap, sym, subst}
use Rattle.std.specs.Prelude.{if◌then◌else◌}
use Rattle.std.specs.List.{list_all}
use Rattle.rb_script.specs.Directive.{PlainArgument, PlainDirective}
use Rattle.rb_text.specs.Numbers.{number_of}
use Rattle.rb_directive.specs.declared.argument.Argument.{Argument}
use Rattle.rb_directive.specs.declared.argument.Argument.TheVariants as arguments
use Rattle.rb_directive.specs.declared.argument.Bytes.TheVariants as texts
use Rattle.rb_directive.specs.declared.argument.Ids.{Ids}
use Rattle.rb_directive.specs.declared.argument.Ids.TheVariants as lists
use Rattle.rb_directive.specs.declared.argument.Number.{Number}
use Rattle.rb_directive.specs.declared.argument.Number.TheVariants as numbers
use Rattle.rb_directive.specs.declared.requests.AddNodes.{AddNodes}
use Rattle.rb_directive.specs.declared.requests.Request.TheVariants as requests
use Rattle.rb_directive.specs.declared.build.Asked.{Asked}
use Rattle.rb_directive.specs.declared.arguments.Arguments.{Arguments}
use Rattle.rb_directive.specs.declared.arguments.WordPlace.{WordPlace}
use Rattle.rb_directive.specs.declared.arguments.WordPlace.TheVariants as places
use Rattle.rb_directive.specs.declared.limits.TheConstants.{MAX_NODES}
use Rattle.rb_directive.specs.declared.name.Name.{Name}
use Rattle.rb_directive.specs.declared.name.Name.TheVariants as names
use Rattle.rb_directive.specs.declared.table.OptionRow.{OptionRow}
use Rattle.rb_directive.specs.declared.table.Row.{Row}
use Rattle.rb_directive.specs.Forms.{is_within, within}
use Rattle.rb_directive.specs.Arguments.{ids_set, nothing, number_set}
use Rattle.rb_directive.specs.Names.{name_text}
use Rattle.rb_directive.specs.Reading.{number_value, taken, with_argument, with_arguments, with_option, with_word, argument_words}
use Rattle.rb_directive.specs.Requests.{built, request}
use Rattle.rb_directive.specs.Table.{after, directives, option_of, options, row_in, word_of}
use Rattle.rb_directive.specs.Whole.{first_word, name_of}
use Rattle.rb_directive.proofs.BuildLaws.{done, read_of, request_named, wanted_some}
use Rattle.rb_directive.proofs.KeepLaws.{map_some, option_fits, option_kept, or_bad_some, SetKeeps, set_kept}
use Rattle.rb_directive.proofs.TableLaws.{read_along}

count_row : Row
count_row = record { name = names.AddNodes; first = Some (arguments.Number numbers.Count 1 MAX_NODES); second = None; takes_ids = false }

row_is : row_in directives (codes "add-nodes") ≡ Some count_row
unfolding directives count_row
row_is = refl

-- no option is the count
abbrev is_no_count : Name → Argument → Bool
is_no_count name (arguments.Number numbers.Count low high) = false
is_no_count name other = true

options_are : list_all (λ (row : OptionRow). is_no_count row.name row.option) options ≡ true
unfolding options
options_are = refl

-- the next word has this place, and this is the count so far
abbrev Stays : WordPlace → Option ℕ → Arguments → Type 0
Stays place count g = (g.next ≡ place) × (g.count ≡ count)

number_stays : (place : WordPlace) (count : Option ℕ) (which : Number) (low high n : ℕ) (g : Arguments) → is_no_count names.AddNodes (arguments.Number which low high) ≡ true → Stays place count g → Stays place count (number_set which n g)
number_stays place count numbers.Count low high n g fits s = absurd cc
number_stays place count which low high n g fits s = s

list_stays : (place : WordPlace) (count : Option ℕ) (which : Ids) (ids : List ℕ) (g : Arguments) → Stays place count g → Stays place count (ids_set which ids g)
list_stays place count lists.Nodes ids g s = s
list_stays place count which ids g s = s

argument_stays : (place : WordPlace) (count : Option ℕ) (a : Argument) → is_no_count names.AddNodes a ≡ true → SetKeeps (Stays place count) a
argument_stays place count (arguments.Number which low high) fits = λ words n g said. number_stays place count which low high n g fits
argument_stays place count (arguments.Bytes texts.Payload low high) fits = λ words w g said s. s
argument_stays place count (arguments.Bytes texts.Content low high) fits = λ words w g said s. s
argument_stays place count (arguments.Ids which other) fits = λ words ids g said apart. list_stays place count which ids g
argument_stays place count other fits = tt

add_option : (place : WordPlace) (count : Option ℕ) (a : PlainArgument) (g next : Arguments) → with_option (option_of (name_text names.AddNodes) a.key) a g ≡ Ok next → Stays place count g → Stays place count next
add_option place count a g next h s =
    option_kept (Stays place count) (option_of (name_text names.AddNodes) a.key)
    (λ which is. set_kept (Stays place count) which (argument_stays place count which
    (option_fits is_no_count options_are (λ name. refl) names.AddNodes a.key which is))) a g next h s

-- behind its first word there is none
second_step : (count : Option ℕ) (a : PlainArgument) (g next : Arguments) → with_argument count_row a g ≡ Ok next → Stays places.Second count g → Stays places.Second count next
unfolding count_row
second_step count a g next h s =
    elim a.has_equals as (λ b. (if b then with_option (option_of (name_text names.AddNodes) a.key) a g else with_word (word_of count_row g.next) a g) ≡ Ok next → Stays places.Second count next) [
      | true ↦ λ e. add_option places.Second count a g next e s
      | false ↦ λ e. let none : with_word None a g ≡ Ok next = subst (λ (p : WordPlace). with_word (word_of count_row p) a g ≡ Ok next) s.0 e in absurd cc
    ] h

behind_word : (count : Option ℕ) (args : List PlainArgument) (g last : Arguments) → Stays places.Second count g → with_arguments count_row args (Ok g) ≡ Ok last → last.count ≡ count
behind_word count args g last s h =
    read_along count_row last (λ args g. Stays places.Second count g → last.count ≡ count) (λ s. s.1)
    (λ a args g next e more is s. is (second_step count a g next e s)) args g h s

within_is : (low high n : ℕ) (o : Option ℕ) → within low high o ≡ Some n → o ≡ Some n
within_is low high n None h = absurd cc
within_is low high n (Some m) h =
    elim (is_within low high m) as (λ b. (if b then Some m else None) ≡ Some n → Some m ≡ Some n) [
      | true ↦ λ e. e
      | false ↦ λ e. absurd cc
    ] h

word_taken : (a : PlainArgument) (g next last : Arguments) (args : List PlainArgument) → a.has_equals ≡ false → with_word (word_of count_row g.next) a g ≡ Ok next → Stays places.First None g
    → with_arguments count_row args (Ok next) ≡ Ok last → last.count ≡ number_of a.key
unfolding count_row
word_taken a g next last args alone h s more =
    let word : Argument = arguments.Number numbers.Count 1 MAX_NODES in
    let moved : Arguments = record g { next = after g.next } in
    let here : with_word (Some word) a g ≡ Ok next = subst (λ (p : WordPlace). with_word (word_of count_row p) a g ≡ Ok next) s.0 h in
    let said : taken word (a.key ∷ []) moved ≡ Some next =
    subst (λ (b : Bool). taken word (if b then a.values else a.key ∷ []) moved ≡ Some next) alone (or_bad_some a.key (taken word (argument_words a) moved) next here) in
    let m = map_some (λ (n : ℕ). number_set numbers.Count n moved) (number_value 1 MAX_NODES (a.key ∷ [])) next said in
    let place : next.next ≡ places.Second = ap (λ (x : Arguments). x.next) (sym m.2) ∙ ap after s.0 in
    let count : next.count ≡ Some m.0 = ap (λ (x : Arguments). x.count) (sym m.2) in
    behind_word (Some m.0) args next last (place, count) more ∙ sym (within_is 1 MAX_NODES m.0 (number_of a.key) m.1)

first_step : (a : PlainArgument) (g next : Arguments) → with_option (option_of (name_text count_row.name) a.key) a g ≡ Ok next → Stays places.First None g → Stays places.First None next
unfolding count_row
first_step a g next e s = add_option places.First None a g next e s

words_count : (args : List PlainArgument) (g last : Arguments) (k : ℕ) → Stays places.First None g → with_arguments count_row args (Ok g) ≡ Ok last → last.count ≡ Some k → number_of (first_word args) ≡ Some k
words_count args g last k s h is =
    read_along count_row last (λ args g. Stays places.First None g → number_of (first_word args) ≡ Some k)
    (λ s. absurd (let none : None ≡ Some k = sym s.1 ∙ is in cc))
    (λ a args g next e more rest s.
    elim a.has_equals as (λ b. a.has_equals ≡ b → (if b then with_option (option_of (name_text count_row.name) a.key) a g else with_word (word_of count_row g.next) a g) ≡ Ok next
    → number_of (if b then first_word args else a.key) ≡ Some k) [
      | true ↦ λ option e. rest (first_step a g next e s)
      | false ↦ λ alone e. sym (word_taken a g next last args alone e s more) ∙ is
    ] refl e) args g h s

made_count : (made r : AddNodes) → done (requests.AddNodes made) ≡ done (requests.AddNodes r) → made.count ≡ r.count
made_count made r h = let same : made ≡ r = cc in ap (λ (x : AddNodes). x.count) same

pub request_counts : (d : PlainDirective) (a : Asked) (r : AddNodes) → request d ≡ Ok a → a.request ≡ requests.AddNodes r → number_of (first_word d.args) ≡ Some r.count
unfolding count_row
request_counts d a r h e =
    let read = read_of d a h in
    let name : d.name ≡ codes "add-nodes" = sym (request_named d a h) ∙ ap (λ q. name_text (name_of q)) e in
    let some : Some read.row ≡ Some count_row = sym read.row_is ∙ ap (row_in directives) name ∙ row_is in
    let row : read.row ≡ count_row = cc in
    let given : with_arguments count_row d.args (Ok nothing) ≡ Ok read.given = subst (λ (q : Row). with_arguments q d.args (Ok nothing) ≡ Ok read.given) row read.given_is in
    let made : built names.AddNodes read.given d.inputs ≡ done (requests.AddNodes r) = subst (λ (q : Row). built q.name read.given d.inputs ≡ done a.request) row read.built_is ∙ ap done e in
    let count = wanted_some (codes "n") read.given.count _ (requests.AddNodes r) made in
    words_count d.args nothing read.given count.0 (refl, refl) given count.1 ∙ ap (λ (n : ℕ). Some n) (made_count _ r count.2)
