-- What a directive asks for is within its limits, since each argument is within those of the table.
use Rattle.std.proofs.Common.{◌≡◌, ℕ, ◌<◌, ◌≤◌, Bool, true, false, List, [], ◌∷◌, ◌++◌, length, codes, Option, Some, None, IfSome, IfOk, unwrap_or, Ok, Err, refl, sym, subst, arith}
use Rattle.std.specs.Prelude.{Result, ◌&&◌, if◌then◌else◌, nat_le, nat_lt}
use Rattle.std.specs.List.{list_all}
use Rattle.std.specs.Option.{option_and_then}
use Rattle.std.proofs.lemmas.Bool.{and_parts, leb-true, ltb-true}
use Rattle.std.proofs.lemmas.List.{length-append}
use Rattle.std.proofs.lemmas.List.Elements.{All-nil, All-cons, All-append}
use Rattle.rb_script.specs.Lines.{Line}
use Rattle.rb_script.specs.Directive.{PlainDirective}
use Rattle.rb_text.specs.Numbers.{number_of}
use Rattle.rb_vocab.specs.declared.directive_error.DirectiveError.{DirectiveError}
use Rattle.rb_directive.specs.declared.node_command_with_arg.NodeCommandWithArg.{NodeCommandWithArg}
use Rattle.rb_directive.specs.declared.node_command_with_arg.NodeCommandWithArg.TheVariants as withs
use Rattle.rb_directive.specs.declared.name.Name.{Name}
use Rattle.rb_directive.specs.declared.name.Name.TheVariants as names
use Rattle.rb_directive.specs.declared.table.Row.{Row}
use Rattle.rb_directive.specs.declared.table.OptionRow.{OptionRow}
use Rattle.rb_directive.specs.declared.arguments.Arguments.{Arguments}
use Rattle.rb_directive.specs.declared.argument.Argument.{Argument}
use Rattle.rb_directive.specs.declared.argument.Argument.TheVariants as arguments
use Rattle.rb_directive.specs.declared.argument.Number.{Number}
use Rattle.rb_directive.specs.declared.argument.Number.TheVariants as numbers
use Rattle.rb_directive.specs.declared.argument.Bytes.{Bytes}
use Rattle.rb_directive.specs.declared.argument.Bytes.TheVariants as bytes
use Rattle.rb_directive.specs.declared.argument.Ids.{Ids}
use Rattle.rb_directive.specs.declared.argument.Ids.TheVariants as lists
use Rattle.rb_directive.specs.declared.requests.AddNodes.{AddNodes}
use Rattle.rb_directive.specs.declared.requests.Request.{Request}
use Rattle.rb_directive.specs.declared.requests.Request.TheVariants as requests
use Rattle.rb_directive.specs.declared.build.Asked.{Asked}
use Rattle.rb_directive.specs.declared.limits.TheConstants.{MAX_ID, MAX_NODES, MAX_FIRST_INDEX, MAX_COMPACTED, MAX_BYTES, MAX_WINDOW, MAX_ROUNDS, MAX_TIMEOUT, MAX_MESSAGES, MAX_IDS, WINDOW, ROUNDS}
use Rattle.rb_directive.specs.Forms.{Word, is_within, within}
use Rattle.rb_directive.specs.IdLists.{id_of, with_id, with_ids}
use Rattle.rb_directive.specs.Names.{number_text}
use Rattle.rb_directive.specs.Table.{directives, options}
use Rattle.rb_directive.specs.Arguments.{nothing, number_given, bytes_given, ids_given, listed, number_set, bytes_set, ids_set}
use Rattle.rb_directive.specs.Reading.{only}
use Rattle.rb_directive.specs.Requests.{IsFrom, IsId, IsNumber, AreIds, IsWithin, require, and_then, add_nodes, deliver_msgs, stabilize, required, node_command_with_arg, built, request}
use Rattle.rb_directive.proofs.ReadLaws.{ids_none}
use Rattle.rb_directive.proofs.BuildLaws.{wanted_some, done, read_of}
use Rattle.rb_directive.proofs.KeepLaws.{option_fits, row_fits, words_fit, word_of_fits, AllKeep, arguments_kept, numbers_of, bytes_of, lists_of, rest_still, SetKeeps, set_kept}

-- ---- what one argument says

from_test : (low high n : ℕ) → is_within low high n ≡ true → IsFrom low high n
from_test low high n h = let parts = and_parts (nat_le low n) (nat_le n high) h in (leb-true low n parts.0, leb-true n high parts.1)

-- a value that stands there by a test passed it, and is that value
some_if : {A : Type 0} (b : Bool) (a some : A) → (if b then Some a else None) ≡ Some some → (b ≡ true) × (a ≡ some)
some_if true a some h = (refl, cc)
some_if false a some h = absurd (cc)

within_from : (low high : ℕ) (o : Option ℕ) (n : ℕ) → within low high o ≡ Some n → IsFrom low high n
within_from low high None n h = absurd (cc)
within_from low high (Some m) n h = let is = some_if (is_within low high m) m n h in subst (IsFrom low high) is.1 (from_test low high m is.0)

number_from : (low high : ℕ) (o : Option Word) (n : ℕ) → option_and_then (λ w. within low high (number_of w)) o ≡ Some n → IsFrom low high n
number_from low high None n h = absurd (cc)
number_from low high (Some w) n h = within_from low high (number_of w) n h

bytes_from : (low high : ℕ) (o : Option Word) (said : Word) → option_and_then (λ w. if is_within low high (length w) then Some w else None) o ≡ Some said → IsFrom low high (length said)
bytes_from low high None said h = absurd (cc)
bytes_from low high (Some w) said h =
    let is = some_if (is_within low high (length w)) w said h in subst (λ (v : Word). IsFrom low high (length v)) is.1 (from_test low high (length w) is.0)

ids_more : (ids : List ℕ) (o : Option ℕ) (next : List ℕ) → ((id : ℕ) → o ≡ Some id → IsId id) → AreIds ids → with_id ids o ≡ Some next → AreIds next
ids_more ids None next one are h = absurd (cc)
ids_more ids (Some id) next one are h =
    let is = some_if (nat_lt (length ids) MAX_IDS) (ids ++ id ∷ []) next h in
    let few : length ids < MAX_IDS = ltb-true (length ids) MAX_IDS is.0 in
    subst AreIds is.1 (All-append IsId ids (id ∷ []) are.0 (All-cons IsId id [] (one id refl) (All-nil IsId)), omega (arith, length-append ids (id ∷ [])))

ids_are : (words : List Word) (ids last : List ℕ) → AreIds ids → with_ids words (Some ids) ≡ Some last → AreIds last
ids_are [] ids last are h = let is : ids ≡ last = cc in subst AreIds is are
ids_are (w ∷ words) ids last are h =
    elim (with_id ids (id_of w)) as (λ o. with_id ids (id_of w) ≡ o → with_ids words o ≡ Some last → AreIds last) [
      | Some next ↦ λ e more. ids_are words next last (ids_more ids (id_of w) next (λ id. within_from 1 MAX_ID (number_of w) id) are e) more
      | None ↦ λ e more. let none = ids_none words in absurd (cc)
    ] refl h

-- ---- what the table says

-- the least and the greatest number that a directive takes
abbrev least : Number → ℕ
least numbers.Index = 0
least numbers.Skip = 0
least which = 1

abbrev pub greatest_index : Name → ℕ
greatest_index names.AddNodes = MAX_FIRST_INDEX
greatest_index name = MAX_COMPACTED

abbrev greatest : Name → Number → ℕ
greatest name numbers.Count = MAX_NODES
greatest name numbers.Id = MAX_ID
greatest name numbers.Peer = MAX_ID
greatest name numbers.From = MAX_ID
greatest name numbers.To = MAX_ID
greatest name numbers.Index = greatest_index name
greatest name numbers.Inflight = MAX_WINDOW
greatest name numbers.Rounds = MAX_ROUNDS
greatest name numbers.Timeout = MAX_TIMEOUT
greatest name numbers.Skip = MAX_MESSAGES
greatest name numbers.Messages = MAX_MESSAGES

abbrev fewest : Bytes → ℕ
fewest bytes.Payload = 1
fewest bytes.Content = 0

-- an argument has these limits, or closer ones
abbrev is_limited : Name → Argument → Bool
is_limited name (arguments.Number which low high) = nat_le (least which) low && nat_le high (greatest name which)
is_limited name (arguments.Bytes which low high) = nat_le (fewest which) low && nat_le high MAX_BYTES
is_limited name (arguments.Level which) = true
is_limited name (arguments.Flag which) = true
is_limited name arguments.Transition = true
is_limited name arguments.Types = true
is_limited name (arguments.Ids which other) = true

options_limited : list_all (λ (row : OptionRow). is_limited row.name row.option) options ≡ true
unfolding options
options_limited = refl

words_limited : list_all (words_fit is_limited) directives ≡ true
unfolding directives
words_limited = refl

-- ---- what is given

-- what is given to the directive of a name is within the limits
abbrev IsGivenWithin : Name → Arguments → Type 0
IsGivenWithin name g = record {
  numbers : (which : Number) → IfSome (number_given which (numbers_of g)) (IsFrom (least which) (greatest name which));
  bytes : (which : Bytes) → IfSome (bytes_given which (bytes_of g)) (λ w. IsFrom (fewest which) MAX_BYTES (length w));
  lists : (which : Ids) → IfSome (ids_given which (lists_of g)) AreIds;
}

-- what holds of each number still does, where it holds of the one that is set
number_still : (P : Number → ℕ → Type 0) (which : Number) (n : ℕ) (g : Arguments) → P which n → ((some : Number) → IfSome (number_given some (numbers_of g)) (P some))
    → (other : Number) → IfSome (number_given other (numbers_of (number_set which n g))) (P other)
number_still P numbers.Count n g h p numbers.Count = h
number_still P numbers.Count n g h p other = p other
number_still P numbers.Id n g h p numbers.Id = h
number_still P numbers.Id n g h p other = p other
number_still P numbers.Peer n g h p numbers.Peer = h
number_still P numbers.Peer n g h p other = p other
number_still P numbers.From n g h p numbers.From = h
number_still P numbers.From n g h p other = p other
number_still P numbers.To n g h p numbers.To = h
number_still P numbers.To n g h p other = p other
number_still P numbers.Index n g h p numbers.Index = h
number_still P numbers.Index n g h p other = p other
number_still P numbers.Inflight n g h p numbers.Inflight = h
number_still P numbers.Inflight n g h p other = p other
number_still P numbers.Rounds n g h p numbers.Rounds = h
number_still P numbers.Rounds n g h p other = p other
number_still P numbers.Timeout n g h p numbers.Timeout = h
number_still P numbers.Timeout n g h p other = p other
number_still P numbers.Skip n g h p numbers.Skip = h
number_still P numbers.Skip n g h p other = p other
number_still P numbers.Messages n g h p numbers.Messages = h
number_still P numbers.Messages n g h p other = p other

number_kept : (name : Name) (which : Number) (n : ℕ) (g : Arguments) → IsFrom (least which) (greatest name which) n → IsGivenWithin name g → IsGivenWithin name (number_set which n g)
number_kept name which n g h p = record {
  numbers = number_still (λ some. IsFrom (least some) (greatest name some)) which n g h p.numbers;
  bytes = rest_still (λ some ids. (w : Bytes) → IfSome (bytes_given w some) (λ said. IsFrom (fewest w) MAX_BYTES (length said))) which n g p.bytes;
  lists = rest_still (λ some ids. (w : Ids) → IfSome (ids_given w ids) AreIds) which n g p.lists;
}

bytes_still : (P : Bytes → Word → Type 0) (which : Bytes) (w : Word) (g : Arguments) → P which w → ((some : Bytes) → IfSome (bytes_given some (bytes_of g)) (P some))
    → (other : Bytes) → IfSome (bytes_given other (bytes_of (bytes_set which w g))) (P other)
bytes_still P bytes.Payload w g h p bytes.Payload = h
bytes_still P bytes.Payload w g h p bytes.Content = p bytes.Content
bytes_still P bytes.Content w g h p bytes.Payload = p bytes.Payload
bytes_still P bytes.Content w g h p bytes.Content = h

bytes_kept : (name : Name) (which : Bytes) (w : Word) (g : Arguments) → IsFrom (fewest which) MAX_BYTES (length w) → IsGivenWithin name g → IsGivenWithin name (bytes_set which w g)
bytes_kept name bytes.Payload w g h p = record { numbers = p.numbers; bytes = bytes_still (λ some said. IsFrom (fewest some) MAX_BYTES (length said)) bytes.Payload w g h p.bytes; lists = p.lists }
bytes_kept name bytes.Content w g h p = record { numbers = p.numbers; bytes = bytes_still (λ some said. IsFrom (fewest some) MAX_BYTES (length said)) bytes.Content w g h p.bytes; lists = p.lists }

list_still : (P : List ℕ → Type 0) (which : Ids) (ids : List ℕ) (g : Arguments) → P ids → ((some : Ids) → IfSome (ids_given some (lists_of g)) P)
    → (other : Ids) → IfSome (ids_given other (lists_of (ids_set which ids g))) P
list_still P lists.Nodes ids g h p lists.Nodes = h
list_still P lists.Nodes ids g h p other = p other
list_still P lists.Voters ids g h p lists.Voters = h
list_still P lists.Voters ids g h p other = p other
list_still P lists.Learners ids g h p lists.Learners = h
list_still P lists.Learners ids g h p other = p other
list_still P lists.Drop ids g h p lists.Drop = h
list_still P lists.Drop ids g h p other = p other

list_kept : (name : Name) (which : Ids) (ids : List ℕ) (g : Arguments) → AreIds ids → IsGivenWithin name g → IsGivenWithin name (ids_set which ids g)
list_kept name lists.Nodes ids g h p = record { numbers = p.numbers; bytes = p.bytes; lists = list_still AreIds lists.Nodes ids g h p.lists }
list_kept name which ids g h p = record { numbers = p.numbers; bytes = p.bytes; lists = list_still AreIds which ids g h p.lists }

none_are : AreIds []
none_are = (All-nil IsId, omega arith)

or_none : (o : Option (List ℕ)) → IfSome o AreIds → AreIds (unwrap_or o [])
or_none None h = none_are
or_none (Some ids) h = h

listed_are : (name : Name) (which : Ids) (g : Arguments) → IsGivenWithin name g → AreIds (listed which g)
listed_are name lists.Nodes g p = or_none g.nodes (p.lists lists.Nodes)
listed_are name which g p = or_none (ids_given which g) (p.lists which)

-- ---- what each argument keeps

closer : (low high least most n : ℕ) → (nat_le least low && nat_le high most) ≡ true → IsFrom low high n → IsFrom least most n
closer low high least most n h from =
    let parts = and_parts (nat_le least low) (nat_le high most) h in
    let above : least ≤ low = leb-true least low parts.0 in
    let below : high ≤ most = leb-true high most parts.1 in
    (omega arith, omega arith)

argument_within : (name : Name) (argument : Argument) → is_limited name argument ≡ true → SetKeeps (IsGivenWithin name) argument
argument_within name (arguments.Number which low high) fits =
    λ words n g said. number_kept name which n g (closer low high (least which) (greatest name which) n fits (number_from low high (only words) n said))
argument_within name (arguments.Bytes which low high) fits =
    λ words w g said. bytes_kept name which w g (closer low high (fewest which) MAX_BYTES (length w) fits (bytes_from low high (only words) w said))
argument_within name (arguments.Ids which other) fits = λ words ids g said apart p. list_kept name which ids g
    (ids_are words (listed which g) ids (listed_are name which g p) said) p
argument_within name other fits = tt

arguments_within : (row : Row) → words_fit is_limited row ≡ true → AllKeep (IsGivenWithin row.name) row
arguments_within row fits = record {
  option = λ key argument h. set_kept (IsGivenWithin row.name) argument
      (argument_within row.name argument (option_fits is_limited options_limited (λ name. refl) row.name key argument h));
  word = λ place argument h. set_kept (IsGivenWithin row.name) argument (argument_within row.name argument (word_of_fits is_limited row fits refl place argument h));
  place = λ g place p. p;
}

-- ---- what is asked for

-- what must be given is there, and within its limits
wanted_within : {T : Type 0} (P : T → Type 0) (Q : Type 0) (name : Word) (o : Option T) (next : T → Result Request DirectiveError) (r : Request)
    → IfSome o P → and_then (require name o) next ≡ Ok r → ((x : T) → P x → next x ≡ done r → Q) → Q
wanted_within P Q name None next r is h follows = absurd (cc)
wanted_within P Q name (Some x) next r is h follows = follows x is h

or_else : (low high n : ℕ) (o : Option ℕ) → IsFrom low high n → IfSome o (IsFrom low high) → IsFrom low high (unwrap_or o n)
or_else low high n None default h = default
or_else low high n (Some m) default h = h

index_most : (o : Option ℕ) → IfSome o (IsFrom 0 MAX_FIRST_INDEX) → unwrap_or o 0 ≤ MAX_FIRST_INDEX
index_most None h = omega arith
index_most (Some index) h = h.1

content_most : (o : Option Word) → IfSome o (λ w. IsFrom 0 MAX_BYTES (length w)) → IfSome o (λ w. length w ≤ MAX_BYTES)
content_most None h = tt
content_most (Some w) h = h.1

done_within : (made r : Request) → done made ≡ done r → IsWithin made → IsWithin r
done_within made r e h = let is : made ≡ r = cc in subst IsWithin is h

nodes_within : (g : Arguments) (r : Request) → IsGivenWithin names.AddNodes g → add_nodes g ≡ Ok r → IsWithin r
unfolding IsWithin
nodes_within g r p h =
    wanted_within (IsFrom 1 MAX_NODES) (IsWithin r) (codes "n") g.count _ r (p.numbers numbers.Count) h (λ count few e. done_within _ r e (record {
      count = few;
      voters = p.lists lists.Voters;
      learners = p.lists lists.Learners;
      index = index_most g.index (p.numbers numbers.Index);
      content = content_most g.content (p.bytes bytes.Content);
      inflight = or_else 1 MAX_WINDOW WINDOW g.inflight (omega arith, omega arith) (p.numbers numbers.Inflight);
    }))

-- a directive that is given a node
node_within : (name : Name) (g : Arguments) (next : ℕ → Result Request DirectiveError) (r : Request) → IsGivenWithin name g
    → and_then (require (codes "id") g.id) next ≡ Ok r → ((id : ℕ) → IsId id → next id ≡ done r → IsWithin r) → IsWithin r
node_within name g next r p = wanted_within IsId (IsWithin r) (codes "id") g.id next r (p.numbers numbers.Id)

act_within : (node_command : NodeCommandWithArg) (g : Arguments) (r : Request) → IfSome (number_given (required node_command).0 g) IsId → IfSome (number_given (required node_command).1 g) (IsNumber (required node_command).1) → node_command_with_arg node_command g ≡ Ok r → IsWithin r
unfolding IsWithin
act_within node_command g r node number h =
    wanted_within IsId (IsWithin r) (number_text (required node_command).0) (number_given (required node_command).0 g) _ r node h (λ id is rest.
    wanted_within (IsNumber (required node_command).1) (IsWithin r) (number_text (required node_command).1) (number_given (required node_command).1 g) _ r number rest (λ value some e. done_within _ r e (is, some)))

with_within : (node_command : NodeCommandWithArg) (g : Arguments) (r : Request) → IsGivenWithin (names.NodeCommandWithArg node_command) g → node_command_with_arg node_command g ≡ Ok r → IsWithin r
with_within withs.Compact g r p = act_within withs.Compact g r (p.numbers (required withs.Compact).0) (p.numbers (required withs.Compact).1)
with_within node_command g r p = act_within node_command g r (p.numbers (required node_command).0) (p.numbers (required node_command).1)

built_within : (name : Name) (g : Arguments) (inputs : List Line) (r : Request) → IsGivenWithin name g → built name g inputs ≡ Ok r → IsWithin r
unfolding IsWithin
built_within names.AddNodes g inputs r p h = nodes_within g r p h
built_within (names.NodeCommand node_command) g inputs r p h = node_within (names.NodeCommand node_command) g _ r p h (λ id is e. done_within _ r e is)
built_within names.Propose g inputs r p h =
    node_within names.Propose g _ r p h (λ id is rest.
    wanted_within (λ (w : Word). IsFrom 1 MAX_BYTES (length w)) (IsWithin r) (codes "payload") g.payload _ r (p.bytes bytes.Payload) rest (λ payload few e. done_within _ r e (is, few)))
built_within names.ProposeConfChange g inputs r p h = node_within names.ProposeConfChange g _ r p h (λ id is e. done_within _ r e is)
built_within names.ProcessReady g inputs r p h = wanted_within AreIds (IsWithin r) (codes "id") g.nodes _ r (p.lists lists.Nodes) h (λ ids are e. done_within _ r e are)
built_within names.DeliverMsgs g inputs r p h = done_within (deliver_msgs g) r h (
  or_none g.nodes (p.lists lists.Nodes),
  or_none g.drop (p.lists lists.Drop),
  record {
    from = p.numbers numbers.From;
    skip = (or_else 0 MAX_MESSAGES 0 g.skip (omega arith, omega arith) (p.numbers numbers.Skip)).1;
    count = p.numbers numbers.Messages;
  },
)
built_within names.Stabilize g inputs r p h =
    done_within (stabilize g) r h (or_none g.nodes (p.lists lists.Nodes), or_else 1 MAX_ROUNDS ROUNDS g.rounds (omega arith, omega arith) (p.numbers numbers.Rounds))
built_within (names.NodeCommandWithArg node_command) g inputs r p h = with_within node_command g r p h
built_within names.Restart g inputs r p h = wanted_within AreIds (IsWithin r) (codes "id") g.nodes _ r (p.lists lists.Nodes) h (λ ids are e. done_within _ r e are)
built_within names.LogLevel g inputs r p h = let level = wanted_some (codes "level") g.level _ r h in done_within _ r level.2 tt
built_within names.RaftLog g inputs r p h = node_within names.RaftLog g _ r p h (λ id is e. done_within _ r e is)
built_within names.Status g inputs r p h = node_within names.Status g _ r p h (λ id is e. done_within _ r e is)
built_within names.RaftState g inputs r p h = done_within requests.RaftState r h tt

-- ---- any directive

nothing_within : (name : Name) → IsGivenWithin name nothing
nothing_within name = record {
  numbers = λ which. elim which as (λ w. IfSome (number_given w (numbers_of nothing)) (IsFrom (least w) (greatest name w))) [ numbers.Count ↦ tt | _ ↦ tt ];
  bytes = λ which. elim which as (λ w. IfSome (bytes_given w (bytes_of nothing)) (λ said. IsFrom (fewest w) MAX_BYTES (length said))) [ bytes.Payload ↦ tt | _ ↦ tt ];
  lists = λ which. elim which as (λ w. IfSome (ids_given w (lists_of nothing)) AreIds) [ lists.Nodes ↦ tt | _ ↦ tt ];
}

pub request_within : (d : PlainDirective) (a : Asked) → request d ≡ Ok a → IsWithin a.request
request_within d a h =
    let read = read_of d a h in
    let fits = row_fits (words_fit is_limited) directives words_limited d.name read.row read.row_is in
    let given = arguments_kept (IsGivenWithin read.row.name) read.row (arguments_within read.row fits) d.args nothing read.given read.given_is (nothing_within read.row.name) in
    built_within read.row.name read.given d.inputs a.request given read.built_is

-- what is within the limits, where it is what the directive asks for
pub result_within : (d : PlainDirective) (result : Result Asked DirectiveError) → result ≡ request d → IfOk result (λ a. IsWithin a.request)
result_within d (Err e) is = tt
result_within d (Ok a) is = request_within d a (sym is)
