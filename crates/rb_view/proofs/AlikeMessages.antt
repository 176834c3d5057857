-- Messages that are alike: of one type, to one node.
use Rattle.std.proofs.Common.{◌≡◌, ◌∙◌, ℕ, true, ◌&&◌, ◌==◌, Option, Some, refl, ap, ap₂, sym, eq-eqb, eqb-true}
use Rattle.std.specs.Option.{unwrap_or}
use Rattle.std.specs.Str.{bytes_eq}
use Rattle.std.proofs.lemmas.Bool.{and_from, and_parts}
use Rattle.std.proofs.lemmas.Slice.Eq.{bytes_eq-Decides}
use Rattle.rb_vocab.specs.MessageTypes.{type_text, type_of as type_named}
use Rattle.rb_vocab.specs.declared.message_type.MessageType.{MessageType}
use Rattle.rb_vocab.specs.declared.message_type.MessageType.TheVariants as types
use Rattle.rb_message.specs.declared.message.Message.{Message}
use Rattle.rb_message.specs.Messages.{type_of}
use Rattle.rb_view.specs.InFlight.{is_alike}

-- ---- types by their names

type_back : (t : MessageType) → type_named (type_text t) ≡ Some t
unfolding type_named
type_back types.Vote = refl
type_back t = refl

same_type : (s t : MessageType) → bytes_eq (type_text s) (type_text t) ≡ true → s ≡ t
same_type s t is =
    let same : type_text s ≡ type_text t = (bytes_eq-Decides (type_text s) (type_text t)).0 is in
    ap (λ (o : Option MessageType). unwrap_or o t) (sym (type_back s) ∙ ap type_named same ∙ type_back t)

-- ---- messages

pub alike_parts : (m other : Message) → is_alike m other ≡ true → (other.to ≡ m.to) × (type_of other.kind ≡ type_of m.kind)
alike_parts m other is =
    let parts = and_parts (other.to == m.to) (bytes_eq (type_text (type_of other.kind)) (type_text (type_of m.kind))) is in
    (eqb-true other.to m.to parts.0, same_type (type_of other.kind) (type_of m.kind) parts.1)

pub alike_self : (m : Message) → is_alike m m ≡ true
alike_self m =
    and_from (m.to == m.to) (bytes_eq (type_text (type_of m.kind)) (type_text (type_of m.kind))) (eq-eqb m.to m.to refl)
    ((bytes_eq-Decides (type_text (type_of m.kind)) (type_text (type_of m.kind))).1 refl)

-- messages that are alike are alike to the same ones
pub alike_same : (z m x : Message) → is_alike m x ≡ true → is_alike z x ≡ is_alike z m
alike_same z m x is =
    let parts = alike_parts m x is in
    ap₂ (λ (to : ℕ) (t : MessageType). to == z.to && bytes_eq (type_text t) (type_text (type_of z.kind))) parts.0 parts.1
