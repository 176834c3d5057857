-- What each argument of a directive keeps, all of them keep; and what the table says of each argument.
use Rattle.std.proofs.Common.{◌≡◌, ℕ, Bool, true, false, List, [], ◌∷◌, Option, Some, None, Ok, refl, ap, sym, ◌∙◌, subst}
use Rattle.std.specs.Prelude.{◌&&◌, if◌then◌else◌, codes, ⊤}
use Rattle.std.specs.List.{list_all}
use Rattle.std.specs.Option.{option_map}
use Rattle.std.specs.Str.{bytes_eq}
use Rattle.std.proofs.lemmas.Bool.{and_parts}
use Rattle.std.proofs.lemmas.Slice.Eq.{bytes_eq-Decides}
use Rattle.rb_script.specs.Directive.{PlainArgument}
use Rattle.rb_directive.specs.declared.name.Name.{Name}
use Rattle.rb_directive.specs.declared.table.Row.{Row}
use Rattle.rb_directive.specs.declared.table.OptionRow.{OptionRow}
use Rattle.rb_directive.specs.declared.arguments.Arguments.{Arguments}
use Rattle.rb_directive.specs.declared.arguments.WordPlace.{WordPlace}
use Rattle.rb_directive.specs.declared.arguments.WordPlace.TheVariants as places
use Rattle.rb_directive.specs.declared.argument.Argument.{Argument}
use Rattle.rb_directive.specs.declared.argument.Number.{Number}
use Rattle.rb_directive.specs.declared.argument.Number.TheVariants as numbers
use Rattle.rb_directive.specs.declared.argument.Argument.TheVariants as arguments
use Rattle.rb_directive.specs.declared.argument.LevelFor.TheVariants as levels
use Rattle.rb_directive.specs.declared.argument.Ids.{Ids}
use Rattle.rb_directive.specs.declared.argument.Ids.TheVariants as lists
use Rattle.rb_directive.specs.FlagValues.{no_flags}
use Rattle.rb_directive.specs.Forms.{Word}
use Rattle.rb_directive.specs.Names.{name_text, argument_text}
use Rattle.rb_directive.specs.Table.{directives, options, row_in, option_in, option_of, after, word_at, word_of}
use Rattle.rb_directive.specs.IdLists.{with_ids}
use Rattle.rb_directive.specs.Arguments.{nothing, is_given, listed, excludes, number_set, bytes_set, ids_set}
use Rattle.rb_directive.specs.Reading.{argument_words, number_value, bytes_value, ids_kept, taken, or_bad, with_option, with_word, with_argument, with_arguments}
use Rattle.rb_directive.proofs.TableLaws.{names_found, read_along}

-- ---- the table

-- names that are spelled alike are one
names_apart : (a b : Name) → name_text a ≡ name_text b → a ≡ b
names_apart a b e =
    let some : Some a ≡ Some b = sym (names_found a) ∙ ap (λ t. option_map (λ (row : Row). row.name) (row_in directives t)) e ∙ names_found b in
    cc

option_in_fits : (fits : Name → Argument → Bool) (rows : List OptionRow) (name : Name) (key : List ℕ) (argument : Argument)
    → list_all (λ (row : OptionRow). fits row.name row.option) rows ≡ true → option_in rows (name_text name) key ≡ Some argument → fits name argument ≡ true
option_in_fits fits [] name key argument all h = absurd (cc)
option_in_fits fits (row ∷ rows) name key argument all h =
    let here = bytes_eq (argument_text row.option) key && bytes_eq (name_text row.name) (name_text name) in
    let parts = and_parts (fits row.name row.option) (list_all (λ (row : OptionRow). fits row.name row.option) rows) all in
    elim here as (λ b. here ≡ b → (if b then Some row.option else option_in rows (name_text name) key) ≡ Some argument → fits name argument ≡ true) [
      | true ↦ λ same e.
          let is : row.option ≡ argument = cc in
          let named = names_apart row.name name ((bytes_eq-Decides (name_text row.name) (name_text name)).0 ((and_parts _ _ same).1)) in
          subst (λ o. fits name o ≡ true) is (subst (λ n. fits n row.option ≡ true) named parts.0)
      | false ↦ λ same e. option_in_fits fits rows name key argument parts.1 e
    ] refl h

-- what the table says of each option, with the one that all directives have
pub option_fits : (fits : Name → Argument → Bool) → list_all (λ (row : OptionRow). fits row.name row.option) options ≡ true
    → ((name : Name) → fits name (arguments.Level levels.Directive) ≡ true)
    → (name : Name) (key : List ℕ) (argument : Argument) → option_of (name_text name) key ≡ Some argument → fits name argument ≡ true
unfolding option_of
option_fits fits all level name key argument h =
    elim (bytes_eq key (codes "log-level")) as (λ b. (if b then Some (arguments.Level levels.Directive) else option_in options (name_text name) key) ≡ Some argument → fits name argument ≡ true) [
      | true ↦ λ e. let is : arguments.Level levels.Directive ≡ argument = cc in subst (λ o. fits name o ≡ true) is (level name)
      | false ↦ λ e. option_in_fits fits options name key argument all e
    ] h

abbrev pub word_fits : (Name → Argument → Bool) → Name → Option Argument → Bool
word_fits fits name None = true
word_fits fits name (Some argument) = fits name argument

abbrev pub words_fit : (Name → Argument → Bool) → Row → Bool
words_fit fits row = word_fits fits row.name row.first && word_fits fits row.name row.second

-- what the table says of each row
pub row_fits : (test : Row → Bool) (rows : List Row) → list_all test rows ≡ true → (name : List ℕ) (row : Row) → row_in rows name ≡ Some row → test row ≡ true
row_fits test [] all name row h = absurd (cc)
row_fits test (other ∷ rows) all name row h =
    let parts = and_parts (test other) (list_all test rows) all in
    elim (bytes_eq (name_text other.name) name) as (λ b. (if b then Some other else row_in rows name) ≡ Some row → test row ≡ true) [
      | true ↦ λ e. let is : other ≡ row = cc in subst (λ r. test r ≡ true) is parts.0
      | false ↦ λ e. row_fits test rows parts.1 name row e
    ] h

word_at_fits : (fits : Name → Argument → Bool) (row : Row) → words_fit fits row ≡ true → (place : WordPlace) (argument : Argument) → word_at row place ≡ Some argument → fits row.name argument ≡ true
word_at_fits fits row all places.First argument h = subst (λ o. word_fits fits row.name o ≡ true) h (and_parts (word_fits fits row.name row.first) (word_fits fits row.name row.second) all).0
word_at_fits fits row all places.Second argument h = subst (λ o. word_fits fits row.name o ≡ true) h (and_parts (word_fits fits row.name row.first) (word_fits fits row.name row.second) all).1
word_at_fits fits row all places.Later argument h = absurd (cc)

-- what it says of each word of a row, with the ids that some rows take
pub word_of_fits : (fits : Name → Argument → Bool) (row : Row) → words_fit fits row ≡ true → fits row.name (arguments.Ids lists.Nodes None) ≡ true
    → (place : WordPlace) (argument : Argument) → word_of row place ≡ Some argument → fits row.name argument ≡ true
word_of_fits fits row all nodes place argument h =
    elim row.takes_ids as (λ b. (if b then Some (arguments.Ids lists.Nodes None) else word_at row place) ≡ Some argument → fits row.name argument ≡ true) [
      | true ↦ λ e. let is : arguments.Ids lists.Nodes None ≡ argument = cc in subst (λ o. fits row.name o ≡ true) is nodes
      | false ↦ λ e. word_at_fits fits row all place argument e
    ] h

-- ---- the arguments

-- P is kept where an argument is taken
abbrev pub Keeps : (Arguments → Type 0) → Argument → Type 0
Keeps P argument = (words : List Word) (g next : Arguments) → taken argument words g ≡ Some next → P g → P next

pub or_bad_some : (key : Word) (o : Option Arguments) (next : Arguments) → or_bad key o ≡ Ok next → o ≡ Some next
or_bad_some key None next h = absurd (cc)
or_bad_some key (Some g) next h = cc

pub option_kept : (P : Arguments → Type 0) (o : Option Argument) → ((argument : Argument) → o ≡ Some argument → Keeps P argument)
    → (a : PlainArgument) (g next : Arguments) → with_option o a g ≡ Ok next → P g → P next
option_kept P None keeps a g next h p = absurd (cc)
option_kept P (Some argument) keeps a g next h p =
    elim (is_given argument g) as (λ b. (if b then None else taken argument (argument_words a) g) ≡ Some next → P next) [
      | true ↦ λ e. absurd (cc)
      | false ↦ λ e. keeps argument refl (argument_words a) g next e p
    ] (or_bad_some a.key _ next h)

word_kept : (P : Arguments → Type 0) → ((g : Arguments) (place : WordPlace) → P g → P (record g { next = place })) → (o : Option Argument)
    → ((argument : Argument) → o ≡ Some argument → Keeps P argument)
    → (a : PlainArgument) (g next : Arguments) → with_word o a g ≡ Ok next → P g → P next
word_kept P moves None keeps a g next h p = absurd (cc)
word_kept P moves (Some argument) keeps a g next h p =
    keeps argument refl (argument_words a) (record g { next = after g.next }) next (or_bad_some a.key _ next h) (moves g (after g.next) p)

-- what the options and the words of a row keep, as does going on to the next place
pub record AllKeep (P : Arguments → Type 0) (row : Row) : Type 0 where
  pub option : (key : List ℕ) (argument : Argument) → option_of (name_text row.name) key ≡ Some argument → Keeps P argument
  pub word : (place : WordPlace) (argument : Argument) → word_of row place ≡ Some argument → Keeps P argument
  pub place : (g : Arguments) (place : WordPlace) → P g → P (record g { next = place })

argument_kept : (P : Arguments → Type 0) (row : Row) → AllKeep P row → (a : PlainArgument) (g next : Arguments) → with_argument row a g ≡ Ok next → P g → P next
argument_kept P row keep a g next h p =
    elim a.has_equals as (λ b. (if b then with_option (option_of (name_text row.name) a.key) a g else with_word (word_of row g.next) a g) ≡ Ok next → P next) [
      | true ↦ λ e. option_kept P (option_of (name_text row.name) a.key) (keep.option a.key) a g next e p
      | false ↦ λ e. word_kept P keep.place (word_of row g.next) (keep.word g.next) a g next e p
    ] h

pub arguments_kept : (P : Arguments → Type 0) (row : Row) → AllKeep P row → (args : List PlainArgument) (g last : Arguments) → with_arguments row args (Ok g) ≡ Ok last → P g → P last
arguments_kept P row keep args g last h = read_along row last (λ args g. P g → P last) (λ p. p)
    (λ a args g next e more kept p. kept (argument_kept P row keep a g next e p)) args g h

-- ---- what is given, part by part

pub map_some : {X Y : Type 0} (f : X → Y) (o : Option X) (y : Y) → option_map f o ≡ Some y → (x : X) × (o ≡ Some x) × (f x ≡ y)
map_some f None y h = absurd (cc)
map_some f (Some x) y h = (x, refl, cc)

-- the numbers, the bytes and the lists alone
abbrev pub numbers_of : Arguments → Arguments
numbers_of g = record nothing { count = g.count; id = g.id; peer = g.peer; from = g.from; to = g.to; index = g.index; inflight = g.inflight; rounds = g.rounds; timeout = g.timeout; skip = g.skip; messages = g.messages }

abbrev pub bytes_of : Arguments → Arguments
bytes_of g = record nothing { payload = g.payload; content = g.content }

abbrev pub lists_of : Arguments → Arguments
lists_of g = record nothing { nodes = g.nodes; voters = g.voters; learners = g.learners; drop = g.drop }

-- setting a number leaves the bytes and the lists
pub rest_still : (P : Arguments → Arguments → Type 0) (which : Number) (n : ℕ) (g : Arguments) → P (bytes_of g) (lists_of g) → P (bytes_of (number_set which n g)) (lists_of (number_set which n g))
rest_still P numbers.Count n g p = p
rest_still P which n g p = p

-- what is given, apart from levels, flags, the transition and the types
abbrev pub limited_of : Arguments → Arguments
limited_of g = record g { level = None; log_level = None; flags = no_flags; transition = None; types = None }

-- P is kept where a number, bytes or a list is set to what the words say
abbrev pub SetKeeps : (Arguments → Type 0) → Argument → Type 0
SetKeeps P (arguments.Number which low high) = (words : List Word) (n : ℕ) (g : Arguments) → number_value low high words ≡ Some n → P g → P (number_set which n g)
SetKeeps P (arguments.Bytes which low high) = (words : List Word) (w : Word) (g : Arguments) → bytes_value low high words ≡ Some w → P g → P (bytes_set which w g)
SetKeeps P (arguments.Ids which other) =
    (words : List Word) (ids : List ℕ) (g : Arguments) → with_ids words (Some (listed which g)) ≡ Some ids → excludes other ids g ≡ false → P g → P (ids_set which ids g)
SetKeeps P other = ⊤

set_list : (P : Arguments → Type 0) (which : Ids) (other : Option Ids) (g next : Arguments) (o : Option (List ℕ))
    → ((ids : List ℕ) → o ≡ Some ids → excludes other ids g ≡ false → P (ids_set which ids g)) → ids_kept which other g o ≡ Some next → P next
set_list P which other g next None keeps h = absurd (cc)
set_list P which other g next (Some ids) keeps h =
    elim (excludes other ids g) as (λ b. excludes other ids g ≡ b → (if b then None else Some (ids_set which ids g)) ≡ Some next → P next) [
      | true ↦ λ e some. absurd (cc)
      | false ↦ λ e some. let is : ids_set which ids g ≡ next = cc in subst P is (keeps ids refl e)
    ] refl h

-- where P looks at the numbers, the bytes and the lists, each argument keeps it that does so where it sets one of them
pub set_kept : (P : Arguments → Type 0) (argument : Argument) → SetKeeps (λ g. P (limited_of g)) argument → Keeps (λ g. P (limited_of g)) argument
set_kept P (arguments.Number which low high) keeps words g next h p = let m = map_some _ _ next h in subst (λ g. P (limited_of g)) m.2 (keeps words m.0 g m.1 p)
set_kept P (arguments.Bytes which low high) keeps words g next h p = let m = map_some _ _ next h in subst (λ g. P (limited_of g)) m.2 (keeps words m.0 g m.1 p)
set_kept P (arguments.Level levels.Cluster) keeps words g next h p = subst (λ g. P (limited_of g)) (map_some _ _ next h).2 p
set_kept P (arguments.Level levels.Directive) keeps words g next h p = subst (λ g. P (limited_of g)) (map_some _ _ next h).2 p
set_kept P (arguments.Flag which) keeps words g next h p = subst (λ g. P (limited_of g)) (map_some _ _ next h).2 p
set_kept P arguments.Transition keeps words g next h p = subst (λ g. P (limited_of g)) (map_some _ _ next h).2 p
set_kept P arguments.Types keeps words g next h p = subst (λ g. P (limited_of g)) (map_some _ _ next h).2 p
set_kept P (arguments.Ids which other) keeps words g next h p =
    set_list (λ g. P (limited_of g)) which other g next (with_ids words (Some (listed which g))) (λ ids is apart. keeps words ids g is apart p) h
