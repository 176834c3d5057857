-- What a reader of messages has left, and what it gives next. (This project's.)
use Rattle.std.specs.Prelude.{◌≢◌, ℕ, List, [], ◌∷◌, Option, Some, None, IfSome, if◌then◌else◌, ⊤}
use Rattle.std.specs.Io.KnownBytes.{prepend_known, IsAtEnd}
use Rattle.rb_lsp.specs.declared.rpc.message_reader.MessageReader.{MessageReader}
use Rattle.rb_lsp.specs.declared.rpc.message_reader.NextMessage.{NextMessage}
use Rattle.rb_lsp.specs.declared.rpc.message_reader.NextMessage.TheVariants as next
use Rattle.rb_lsp.specs.Messages.{IsMessage, HasNoMessage, NeverHasMessage}

-- the held bytes and then those of the source, where they are known; after the end those that are held
abbrev pub left_of : MessageReader → Option (List ℕ) → Option (List ℕ)
left_of reader known = if reader.has_ended then Some reader.held.items else prepend_known reader.held.items known

-- the bytes that were read and not yet given
abbrev pub waiting : MessageReader → List ℕ
waiting reader = reader.held.items

-- how many calls of the source may still be made
abbrev pub calls_of : MessageReader → ℕ
calls_of reader = reader.calls

-- the body that was read last
abbrev pub body_of : MessageReader → List ℕ
body_of reader = reader.body.items

-- known bytes lose their first message, whose body is this
abbrev pub LosesMessage : Option (List ℕ) → Option (List ℕ) → List ℕ → Type 0
LosesMessage None left body = ⊤
LosesMessage (Some all) None body = ⊥
LosesMessage (Some all) (Some left) body = IsMessage all body left

-- what is returned at the end, with these bytes in the buffer
abbrev pub end_of : List ℕ → NextMessage
end_of [] = next.End
end_of (b ∷ held) = next.CutOff

-- What is read of the bytes that were left before, and the bytes that are left after. The pieces in which they came don't matter.
abbrev pub GivesNext : NextMessage → Option (List ℕ) → Option (List ℕ) → List ℕ → Type 0
GivesNext next.Message before after body = LosesMessage before after body
GivesNext next.End before after body = IsAtEnd before
GivesNext next.CutOff before after body = IfSome before (λ all. HasNoMessage all × (all ≢ []))
GivesNext next.Bad before after body = IfSome before NeverHasMessage
