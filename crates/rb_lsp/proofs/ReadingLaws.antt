-- What is known of all bytes from those that are held.
use Rattle.std.proofs.Common.{◌≡◌, ℕ, List, [], ◌∷◌, ◌++◌, Bool, true, false, Option, Some, None, IfSome, if◌then◌else◌, ap, sym, subst, ◌∙◌, append_assoc, append-nil}
use Rattle.std.specs.Io.KnownBytes.{Keeps, prepend_known}
use Rattle.rb_lsp.specs.declared.rpc.message_reader.NextMessage.{NextMessage}
use Rattle.rb_lsp.specs.Messages.{HasNoMessage, NeverHasMessage}
use Rattle.rb_lsp.specs.Reading.{GivesNext, end_of}

-- what is held, and what the source has left where it isn't at its end
abbrev pub known_of : Bool → List ℕ → Option (List ℕ) → Option (List ℕ)
known_of has_ended held known = if has_ended then Some held else prepend_known held known

-- all known bytes are those that are held and some more
more_known : (before : List ℕ) (known : Option (List ℕ)) (has_ended : Bool) (held : List ℕ) → Keeps (Some before) (known_of has_ended held known) → (more : List ℕ) × (before ≡ held ++ more)
more_known before known true held kept = ([], sym kept ∙ sym (append-nil held))
more_known before None false held kept = absurd kept
more_known before (Some more) false held kept = (more, sym kept)

pub never_known : (before known : Option (List ℕ)) (has_ended : Bool) (held : List ℕ) → Keeps before (known_of has_ended held known) → NeverHasMessage held → IfSome before NeverHasMessage
never_known None known has_ended held kept never = tt
never_known (Some before) known has_ended held kept never =
    let (more, is) = more_known before known has_ended held kept in
    λ further. subst HasNoMessage (sym (ap (λ (l : List ℕ). l ++ further) is ∙ append_assoc held more further)) (never (more ++ further))

end_given : (before after : Option (List ℕ)) (held body : List ℕ) → Keeps before (Some held) → HasNoMessage held → GivesNext (end_of held) before after body
end_given None after [] body kept none = tt
end_given (Some before) after [] body kept none = sym kept
end_given None after (b ∷ held) body kept none = tt
end_given (Some before) after (b ∷ held) body kept none = (subst HasNoMessage kept none, λ empty. let same : b ∷ held ≡ [] = kept ∙ empty in cc)

-- what is given at the end
pub end_known : (before known after : Option (List ℕ)) (has_ended : Bool) (held body : List ℕ) (given : NextMessage) → has_ended ≡ true → Keeps before (known_of has_ended held known)
    → HasNoMessage held → given ≡ (end_of held) → GivesNext given before after body
end_known before known after true held body given ended kept none is = subst (λ (n : NextMessage). GivesNext n before after body) (sym is) (end_given before after held body kept none)
end_known before known after false held body given ended kept none is = cc

-- the bytes that are left begin with those that are held
pub left_follows : (known : Option (List ℕ)) (has_ended : Bool) (held rest : List ℕ) → known_of has_ended held known ≡ Some rest → (more : List ℕ) × (rest ≡ held ++ more)
left_follows known true held rest is =
    let same : held ≡ rest = cc in
    ([], sym same ∙ sym (append-nil held))
left_follows None false held rest is = absurd cc
left_follows (Some more) false held rest is =
    let same : held ++ more ≡ rest = cc in
    (more, sym same)
