-- What goes out if the program ends early.
use Rattle.std.proofs.Common.{◌≡◌, ◌∙◌, ℕ, Bool, true, false, List, [], Option, Some, None, Result, Ok, Err, String, IfOk, ◌⊎◌, inl, inr, string_bytes}
use Rattle.std.specs.Prelude.{IfSome, MatchResult}
use Rattle.std.specs.declared.alloc.Global.{Global}
use Rattle.std.specs.Fmt.{◌++?◌}
use Rattle.std.specs.Io.KnownBytes.{Appends}
use Rattle.std.proofs.KnownBytes.{Appends-trans}
use Rattle.rb_program.specs.declared.program_error.ProgramError.{ProgramError}
use Rattle.rb_program.specs.Sentences.{IsShown, first_line, refused_word, second_line}
use Rattle.rb_program.specs.Told.{TellsWhy}

-- the word is shown for a terminal, unless memory was refused
pub shown_or_none : {E : Type 0} (shown : Result (String Global) E) (word text : List ℕ) → IfOk shown (λ s. IsShown word (string_bytes s))
    → MatchResult shown (λ s. text ≡ string_bytes s) (λ _. text ≡ []) → IsShown word text ⊎ (text ≡ [])
shown_or_none (Ok s) word text is e = inl (e ∙ is)
shown_or_none (Err x) word text is e = inr e

both : (first second old mid new : Option (List ℕ)) → IfSome first (Appends old mid) → IfSome second (Appends mid new) → IfSome (first ++? second) (λ text. Appends old new text)
both None second old mid new p q = tt
both (Some x) None old mid new p q = tt
both (Some x) (Some y) old mid new p q = Appends-trans old mid new x y p q

one : (first old new : Option (List ℕ)) → IfSome first (Appends old new) → IfSome first (λ text. Appends old new text)
one None old new p = tt
one (Some x) old new p = p

pub tells_line : (refusal : ProgramError) (word : List ℕ) (explained : Bool) (old new : Option (List ℕ)) → explained ≡ false → IsShown (refused_word refusal) word ⊎ (word ≡ [])
    → IfSome (first_line refusal word) (Appends old new) → TellsWhy refusal explained old new
tells_line refusal word true old new e is first = absurd cc
tells_line refusal word false old new e is first = (word, is, one (first_line refusal word) old new first)

pub tells_lines : (refusal : ProgramError) (word : List ℕ) (explained : Bool) (old mid new : Option (List ℕ)) → explained ≡ true → IsShown (refused_word refusal) word ⊎ (word ≡ [])
    → IfSome (first_line refusal word) (Appends old mid) → IfSome (second_line refusal word) (Appends mid new) → TellsWhy refusal explained old new
tells_lines refusal word false old mid new e is first second = absurd cc
tells_lines refusal word true old mid new e is first second = (word, is, both (first_line refusal word) (second_line refusal word) old mid new first second)
