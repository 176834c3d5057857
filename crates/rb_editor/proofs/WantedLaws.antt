-- The arguments of an unfinished head, one after another.
use Rattle.std.proofs.Common.{◌≡◌, ◌∙◌, ℕ, zero, suc, ◌<◌, true, false, List, [], ◌∷◌, length, Ok, Err, refl, ap, sym, arith}
use Rattle.rb_script.specs.declared.limits.TheConstants.{MAX_ARGUMENTS}
use Rattle.rb_script.specs.Directive.{is_word}
use Rattle.rb_script.specs.Marks.{is_space}
use Rattle.rb_script.specs.Runs.{after_while}
use Rattle.rb_script.specs.Heads.{begins_space}
use Rattle.rb_editor.specs.Unfinished.{PlainWanted, Reach, argument_at, behind_name, in_arguments, name, nothing, reached, wanted_of}

more : (most n : ℕ) (bytes : List ℕ) → most ≡ suc n → begins_space bytes ≡ true → in_arguments most bytes ≡ reached (argument_at (after_while is_space bytes)) (in_arguments n)
unfolding in_arguments
more zero n bytes is space = absurd (omega (arith, is))
more (suc most) n bytes is space = let same : most ≡ n = omega (arith, is) in rw space (ap (λ (k : ℕ). reached (argument_at (after_while is_space bytes)) (in_arguments k)) same)

pub goes_past : (most n : ℕ) (bytes rest : List ℕ) → most ≡ suc n → begins_space bytes ≡ true → argument_at (after_while is_space bytes) ≡ Ok rest → in_arguments most bytes ≡ in_arguments n rest
goes_past most n bytes rest is space reach = more most n bytes is space ∙ ap (λ (r : Reach). reached r (in_arguments n)) reach

pub ends_in : (most n : ℕ) (bytes : List ℕ) (wanted : PlainWanted) → most ≡ suc n → begins_space bytes ≡ true → argument_at (after_while is_space bytes) ≡ Err wanted → in_arguments most bytes ≡ wanted
ends_in most n bytes wanted is space reach = more most n bytes is space ∙ ap (λ (r : Reach). reached r (in_arguments n)) reach

pub is_bad : (most : ℕ) (bytes : List ℕ) → 0 < most → begins_space bytes ≡ false → in_arguments most bytes ≡ nothing
unfolding in_arguments
is_bad zero bytes some none = absurd (omega (arith, some))
is_bad (suc most) bytes some none = rw none refl

pub no_more_arguments : (most : ℕ) (bytes : List ℕ) → most ≡ 0 → in_arguments most bytes ≡ nothing
unfolding in_arguments
no_more_arguments zero bytes is = refl
no_more_arguments (suc most) bytes is = absurd (omega (arith, is))

-- ---- the name

no_rest : (word rest : List ℕ) → length rest ≡ 0 → behind_name word rest ≡ name word
no_rest word [] none = refl
no_rest word (b ∷ rest) none = absurd (omega (arith, none))

some_rest : (word rest : List ℕ) → (length rest ≡ 0 → ⊥) → behind_name word rest ≡ in_arguments MAX_ARGUMENTS rest
some_rest word [] some = absurd (some refl)
some_rest word (b ∷ rest) some = refl

whole : (head word rest : List ℕ) → word ≡ after_while is_space head → rest ≡ after_while is_word word → behind_name word rest ≡ wanted_of head
unfolding wanted_of
whole head word rest word_is rest_is = ap (behind_name word) rest_is ∙ ap (λ (w : List ℕ). behind_name w (after_while is_word w)) word_is

pub name_wanted : (head word rest : List ℕ) → word ≡ after_while is_space head → rest ≡ after_while is_word word → length rest ≡ 0 → name word ≡ wanted_of head
name_wanted head word rest word_is rest_is none = sym (no_rest word rest none) ∙ whole head word rest word_is rest_is

pub arguments_wanted : (head word rest : List ℕ) → word ≡ after_while is_space head → rest ≡ after_while is_word word → (length rest ≡ 0 → ⊥) → in_arguments MAX_ARGUMENTS rest ≡ wanted_of head
arguments_wanted head word rest word_is rest_is some = sym (some_rest word rest some) ∙ whole head word rest word_is rest_is
