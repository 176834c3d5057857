-- How a request is built: by a row of the table, from what is given.
use Rattle.std.proofs.Common.{◌≡◌, ℕ, List, codes, Option, Some, None, Ok, Err, true, refl, ap, sym, ◌∙◌, subst}
use Rattle.std.specs.Prelude.{Result}
use Rattle.std.specs.List.{list_all}
use Rattle.rb_script.specs.Lines.{Line}
use Rattle.rb_script.specs.Directive.{PlainDirective}
use Rattle.rb_vocab.specs.declared.directive_error.DirectiveError.{DirectiveError}
use Rattle.rb_vocab.specs.declared.directive_error.DirectiveError.TheVariants as errors
use Rattle.rb_directive.specs.declared.name.Name.{Name}
use Rattle.rb_directive.specs.declared.name.Name.TheVariants as names
use Rattle.rb_directive.specs.declared.table.Row.{Row}
use Rattle.rb_directive.specs.declared.arguments.Arguments.{Arguments}
use Rattle.rb_directive.specs.declared.requests.Request.{Request}
use Rattle.rb_directive.specs.declared.requests.Request.TheVariants as requests
use Rattle.rb_directive.specs.declared.build.Asked.{Asked}
use Rattle.rb_directive.specs.Forms.{Word}
use Rattle.rb_directive.specs.Names.{name_text, number_text}
use Rattle.rb_directive.specs.Table.{directives, row_in, has_option}
use Rattle.rb_directive.specs.Arguments.{nothing, number_given}
use Rattle.rb_directive.specs.Reading.{with_arguments}
use Rattle.rb_directive.specs.Requests.{require, and_then, at_node, deliver_msgs, stabilize, required, built, request_of, request}
use Rattle.rb_directive.specs.Whole.{name_of}
use Rattle.rb_directive.proofs.TableLaws.{all_have, row_named}

-- what must be given is there
pub wanted_some : {T : Type 0} (name : Word) (o : Option T) (next : T → Result Request DirectiveError) (r : Request)
    → and_then (require name o) next ≡ Ok r → (x : T) × (o ≡ Some x) × (next x ≡ Ok r)
wanted_some name None next r h = absurd (cc)
wanted_some name (Some x) next r h = (x, refl, h)

-- a request that is made
abbrev pub done : Request → Result Request DirectiveError
done r = Ok r

-- ---- by a row, from what is given

pub record IsReadBy (d : PlainDirective) (a : Asked) : Type 0 where
  pub row : Row
  pub row_is : row_in directives d.name ≡ Some row
  pub given : Arguments
  pub given_is : with_arguments row d.args (Ok nothing) ≡ Ok given
  pub built_is : built row.name given d.inputs ≡ Ok a.request

built_by : (g : Arguments) (a : Asked) (result : Result Request DirectiveError) → and_then result (λ q. Ok (record { request = q; log_level = g.log_level })) ≡ Ok a → result ≡ done a.request
built_by g a (Err e) h = absurd (cc)
built_by g a (Ok r) h =
    let made : Asked = record { request = r; log_level = g.log_level } in
    let same : made ≡ a = cc in
    ap (λ (some : Asked). done some.request) same

given_by : (row : Row) (d : PlainDirective) (a : Asked) → row_in directives d.name ≡ Some row → (given : Result Arguments DirectiveError) → with_arguments row d.args (Ok nothing) ≡ given
    → and_then given (λ g. and_then (built row.name g d.inputs) (λ q. Ok (record { request = q; log_level = g.log_level }))) ≡ Ok a → IsReadBy d a
given_by row d a found (Err e) is h = absurd (cc)
given_by row d a found (Ok g) is h = record { row = row; row_is = found; given = g; given_is = is; built_is = built_by g a (built row.name g d.inputs) h }

found_by : (o : Option Row) (d : PlainDirective) (a : Asked) → row_in directives d.name ≡ o → request_of o d ≡ Ok a → IsReadBy d a
found_by None d a is h = absurd (cc)
found_by (Some row) d a is h = given_by row d a is (with_arguments row d.args (Ok nothing)) refl h

pub read_of : (d : PlainDirective) (a : Asked) → request d ≡ Ok a → IsReadBy d a
unfolding request
read_of d a h = found_by (row_in directives d.name) d a refl h

-- an option that the directive lacks is refused
pub options_taken : (d : PlainDirective) (a : Asked) → request d ≡ Ok a → list_all (has_option d.name) d.args ≡ true
options_taken d a h =
    let read = read_of d a h in
    let all = all_have read.row d.args nothing read.given read.given_is in
    subst (λ name. list_all (has_option name) d.args ≡ true) (row_named directives d.name read.row read.row_is) all

-- ---- the name

done_named : (name : Name) (made r : Request) → done made ≡ done r → name_of made ≡ name → name_of r ≡ name
done_named name made r e is = let same : made ≡ r = cc in ap name_of (sym same) ∙ is

node_named : (make : ℕ → Request) (name : Name) → ((id : ℕ) → name_of (make id) ≡ name) → (g : Arguments) (r : Request) → at_node make g ≡ Ok r → name_of r ≡ name
node_named make name is g r h = let id = wanted_some (codes "id") g.id (λ id. done (make id)) r h in done_named name (make id.0) r id.2 (is id.0)

pub built_named : (name : Name) (g : Arguments) (inputs : List Line) (r : Request) → built name g inputs ≡ Ok r → name_of r ≡ name
built_named names.AddNodes g inputs r h = let count = wanted_some (codes "n") g.count _ r h in done_named names.AddNodes _ r count.2 refl
built_named (names.NodeCommand node_command) g inputs r h = node_named (requests.NodeCommand node_command) (names.NodeCommand node_command) (λ id. refl) g r h
built_named names.Propose g inputs r h = let id = wanted_some (codes "id") g.id _ r h in let payload = wanted_some (codes "payload") g.payload _ r id.2 in done_named names.Propose _ r payload.2 refl
built_named names.ProposeConfChange g inputs r h = let id = wanted_some (codes "id") g.id _ r h in done_named names.ProposeConfChange _ r id.2 refl
built_named names.ProcessReady g inputs r h = let nodes = wanted_some (codes "id") g.nodes _ r h in done_named names.ProcessReady _ r nodes.2 refl
built_named names.DeliverMsgs g inputs r h = done_named names.DeliverMsgs (deliver_msgs g) r h refl
built_named names.Stabilize g inputs r h = done_named names.Stabilize (stabilize g) r h refl
built_named (names.NodeCommandWithArg node_command) g inputs r h = let id = wanted_some (number_text (required node_command).0) (number_given (required node_command).0 g) _ r h in let value = wanted_some (number_text (required node_command).1) (number_given (required node_command).1 g) _ r id.2 in done_named (names.NodeCommandWithArg node_command) _ r value.2 refl
built_named names.Restart g inputs r h = let nodes = wanted_some (codes "id") g.nodes _ r h in done_named names.Restart _ r nodes.2 refl
built_named names.LogLevel g inputs r h = let level = wanted_some (codes "level") g.level _ r h in done_named names.LogLevel _ r level.2 refl
built_named names.RaftLog g inputs r h = node_named requests.RaftLog names.RaftLog (λ id. refl) g r h
built_named names.Status g inputs r h = node_named requests.Status names.Status (λ id. refl) g r h
built_named names.RaftState g inputs r h = done_named names.RaftState requests.RaftState r h refl

-- what is asked for is what the name says
pub request_named : (d : PlainDirective) (a : Asked) → request d ≡ Ok a → name_text (name_of a.request) ≡ d.name
request_named d a h =
    let read = read_of d a h in
    ap name_text (built_named read.row.name read.given d.inputs a.request read.built_is) ∙ row_named directives d.name read.row read.row_is

unknown_by : (o : Option Row) (d : PlainDirective) → row_in directives d.name ≡ o → ((name : Name) → name_text name ≡ d.name → ⊥) → request_of o d ≡ Err (errors.UnknownDirective d.name)
unknown_by None d is none = refl
unknown_by (Some row) d is none = absurd (none row.name (row_named directives d.name row is))

-- a name that no directive has is refused
pub unknown_refused : (d : PlainDirective) → ((name : Name) → name_text name ≡ d.name → ⊥) → request d ≡ Err (errors.UnknownDirective d.name)
unfolding request
unknown_refused d none = unknown_by (row_in directives d.name) d refl none
