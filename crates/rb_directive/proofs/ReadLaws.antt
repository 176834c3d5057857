-- The arguments that are left, one by one.
use Rattle.std.proofs.Common.{◌≡◌, ℕ, ◌+◌, ◌<◌, Bool, true, false, List, [], ◌∷◌, ◌++◌, length, get_or, drop, Option, Some, None, Ok, Err, refl, ap, sym, ◌∙◌}
use Rattle.std.specs.Prelude.{nat_lt, if◌then◌else◌}
use Rattle.std.proofs.lemmas.List.{drop_more}
use Rattle.rb_script.specs.Directive.{PlainArgument, no_argument}
use Rattle.rb_vocab.specs.declared.directive_error.DirectiveError.{DirectiveError}
use Rattle.rb_vocab.specs.declared.message_type.MessageType.{MessageType}
use Rattle.rb_vocab.specs.MessageTypes.{type_of}
use Rattle.rb_directive.specs.declared.table.Row.{Row}
use Rattle.rb_directive.specs.declared.arguments.Arguments.{Arguments}
use Rattle.rb_directive.specs.declared.limits.TheConstants.{MAX_IDS}
use Rattle.rb_directive.specs.declared.type_set.TypeSet.{TypeSet}
use Rattle.rb_directive.specs.Forms.{Word}
use Rattle.rb_directive.specs.IdLists.{id_of, with_id, with_ids}
use Rattle.rb_directive.specs.TypeSets.{with_type, with_named, with_types}
use Rattle.rb_directive.specs.Reading.{with_argument, with_arguments}

-- one argument more
pub read_more : (row : Row) (args : List PlainArgument) (place : ℕ) (g : Arguments) → place < length args
    → with_arguments row (drop place args) (Ok g) ≡ with_arguments row (drop (place + 1) args) (with_argument row (get_or args place no_argument) g)
read_more row args place g h = ap (λ (l : List PlainArgument). with_arguments row l (Ok g)) (drop_more args place no_argument h)

-- a fault stays
pub read_fault : (row : Row) (args : List PlainArgument) (e : DirectiveError) → with_arguments row args (Err e) ≡ Err e
read_fault row args e = refl

pub ruleset reading = (read_more, read_fault)

-- ---- types

types_none : (words : List Word) → with_types words None ≡ None
types_none [] = refl
types_none (w ∷ words) = types_none words

types_more : (words : List Word) (i : ℕ) (set : TypeSet) → i < length words
    → with_types (drop i words) (Some set) ≡ with_types (drop (i + 1) words) (with_named (type_of (get_or words i [])) set)
types_more words i set h = ap (λ (l : List Word). with_types l (Some set)) (drop_more words i [] h)

-- a word that names a type
pub types_named : (words : List Word) (i : ℕ) (set : TypeSet) (t : MessageType) → i < length words → Some t ≡ type_of (get_or words i [])
    → with_types (drop i words) (Some set) ≡ with_types (drop (i + 1) words) (Some (with_type t set))
types_named words i set t h e = types_more words i set h ∙ ap (λ (o : Option MessageType). with_types (drop (i + 1) words) (with_named o set)) (sym e)

-- a word that names none
pub types_unnamed : (words : List Word) (i : ℕ) (set : TypeSet) → i < length words → None ≡ type_of (get_or words i []) → with_types (drop i words) (Some set) ≡ None
types_unnamed words i set h e =
    types_more words i set h ∙ ap (λ (o : Option MessageType). with_types (drop (i + 1) words) (with_named o set)) (sym e) ∙ types_none (drop (i + 1) words)

pub ruleset naming = (types_named, types_unnamed)

-- ---- ids

pub ids_none : (words : List Word) → with_ids words None ≡ None
ids_none [] = refl
ids_none (w ∷ words) = ids_none words

ids_more : (words : List Word) (i : ℕ) (ids : List ℕ) → i < length words
    → with_ids (drop i words) (Some ids) ≡ with_ids (drop (i + 1) words) (with_id ids (id_of (get_or words i [])))
ids_more words i ids h = ap (λ (l : List Word). with_ids l (Some ids)) (drop_more words i [] h)

-- a word that is an id, which has room
pub ids_named : (words : List Word) (i : ℕ) (ids : List ℕ) (id : ℕ) → i < length words → Some id ≡ id_of (get_or words i []) → nat_lt (length ids) MAX_IDS ≡ true
    → with_ids (drop i words) (Some ids) ≡ with_ids (drop (i + 1) words) (Some (ids ++ id ∷ []))
ids_named words i ids id h e room =
    ids_more words i ids h ∙ ap (λ (o : Option ℕ). with_ids (drop (i + 1) words) (with_id ids o)) (sym e)
    ∙ ap (λ (b : Bool). with_ids (drop (i + 1) words) (if b then Some (ids ++ id ∷ []) else None)) room

-- an id that has none
pub ids_full : (words : List Word) (i : ℕ) (ids : List ℕ) (id : ℕ) → i < length words → Some id ≡ id_of (get_or words i []) → nat_lt (length ids) MAX_IDS ≡ false
    → with_ids (drop i words) (Some ids) ≡ None
ids_full words i ids id h e full =
    ids_more words i ids h ∙ ap (λ (o : Option ℕ). with_ids (drop (i + 1) words) (with_id ids o)) (sym e)
    ∙ ap (λ (b : Bool). with_ids (drop (i + 1) words) (if b then Some (ids ++ id ∷ []) else None)) full ∙ ids_none (drop (i + 1) words)

-- a word that is none
pub ids_unnamed : (words : List Word) (i : ℕ) (ids : List ℕ) → i < length words → None ≡ id_of (get_or words i []) → with_ids (drop i words) (Some ids) ≡ None
ids_unnamed words i ids h e =
    ids_more words i ids h ∙ ap (λ (o : Option ℕ). with_ids (drop (i + 1) words) (with_id ids o)) (sym e) ∙ ids_none (drop (i + 1) words)

pub ruleset listing = (ids_named, ids_full, ids_unnamed)
