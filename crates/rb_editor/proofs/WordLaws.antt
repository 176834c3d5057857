-- The words among the arguments of a head, one argument after another.
use Rattle.std.proofs.Common.{◌≡◌, ◌∙◌, ℕ, zero, suc, ◌+◌, ◌<◌, true, false, List, [], Ok, Err, refl, ap, sym, arith}
use Rattle.rb_script.specs.Directive.{is_word}
use Rattle.rb_script.specs.Marks.{is_space}
use Rattle.rb_script.specs.Runs.{while_of, after_while}
use Rattle.rb_script.specs.Heads.{begins_space}
use Rattle.rb_editor.specs.Unfinished.{PlainWanted, Reach, argument_at}
use Rattle.rb_editor.specs.Words.{counted, first_in, first_word, is_option, past, word_count, words_before}

-- ---- the first

first_more : (most n : ℕ) (bytes argument : List ℕ) → most ≡ suc n → begins_space bytes ≡ true → argument ≡ after_while is_space bytes → first_word most bytes ≡ first_in argument (first_word n)
unfolding first_word
first_more zero n bytes argument is space there = absurd (omega (arith, is))
first_more (suc most) n bytes argument is space there =
    let same : most ≡ n = omega (arith, is) in
    rw space (ap (λ (k : ℕ). first_in (after_while is_space bytes) (first_word k)) same) ∙ ap (λ (a : List ℕ). first_in a (first_word n)) (sym there)

pub first_here : (most n : ℕ) (bytes argument : List ℕ) → most ≡ suc n → begins_space bytes ≡ true → argument ≡ after_while is_space bytes → is_option argument ≡ false → while_of is_word argument ≡ first_word most bytes
first_here most n bytes argument is space there word =
    let here : first_in argument (first_word n) ≡ while_of is_word argument = rw word refl in
    sym (first_more most n bytes argument is space there ∙ here)

first_behind : (most n : ℕ) (bytes argument : List ℕ) → most ≡ suc n → begins_space bytes ≡ true → argument ≡ after_while is_space bytes → is_option argument ≡ true → first_word most bytes ≡ past (argument_at argument) (first_word n)
first_behind most n bytes argument is space there option =
    let here : first_in argument (first_word n) ≡ past (argument_at argument) (first_word n) = rw option refl in
    first_more most n bytes argument is space there ∙ here

pub first_past : (most n : ℕ) (bytes argument rest : List ℕ) → most ≡ suc n → begins_space bytes ≡ true → argument ≡ after_while is_space bytes → is_option argument ≡ true → argument_at argument ≡ Ok rest
    → first_word most bytes ≡ first_word n rest
first_past most n bytes argument rest is space there option reach = first_behind most n bytes argument is space there option ∙ ap (λ (r : Reach). past r (first_word n)) reach

pub first_ends : (most n : ℕ) (bytes argument : List ℕ) (wanted : PlainWanted) → most ≡ suc n → begins_space bytes ≡ true → argument ≡ after_while is_space bytes → is_option argument ≡ true → argument_at argument ≡ Err wanted
    → [] ≡ first_word most bytes
first_ends most n bytes argument wanted is space there option reach = sym (first_behind most n bytes argument is space there option ∙ ap (λ (r : Reach). past r (first_word n)) reach)

pub first_bad : (most : ℕ) (bytes : List ℕ) → 0 < most → begins_space bytes ≡ false → [] ≡ first_word most bytes
unfolding first_word
first_bad zero bytes some none = absurd (omega (arith, some))
first_bad (suc most) bytes some none = rw none refl

pub first_none : (most : ℕ) (bytes : List ℕ) → most ≡ 0 → [] ≡ first_word most bytes
unfolding first_word
first_none zero bytes is = refl
first_none (suc most) bytes is = absurd (omega (arith, is))

-- ---- how many

count_more : (most n : ℕ) (bytes argument : List ℕ) → most ≡ suc n → begins_space bytes ≡ true → argument ≡ after_while is_space bytes → words_before most bytes ≡ counted (word_count argument) (argument_at argument) (words_before n)
unfolding words_before
count_more zero n bytes argument is space there = absurd (omega (arith, is))
count_more (suc most) n bytes argument is space there =
    let same : most ≡ n = omega (arith, is) in
    let first = after_while is_space bytes in
    rw space (ap (λ (k : ℕ). counted (word_count first) (argument_at first) (words_before k)) same) ∙ ap (λ (a : List ℕ). counted (word_count a) (argument_at a) (words_before n)) (sym there)

pub count_past : (most n : ℕ) (bytes argument rest : List ℕ) → most ≡ suc n → begins_space bytes ≡ true → argument ≡ after_while is_space bytes → argument_at argument ≡ Ok rest → words_before most bytes ≡ word_count argument + words_before n rest
count_past most n bytes argument rest is space there reach = count_more most n bytes argument is space there ∙ ap (λ (r : Reach). counted (word_count argument) r (words_before n)) reach

pub count_ends : (most n : ℕ) (bytes argument : List ℕ) (wanted : PlainWanted) → most ≡ suc n → begins_space bytes ≡ true → argument ≡ after_while is_space bytes → argument_at argument ≡ Err wanted → words_before most bytes ≡ 0
count_ends most n bytes argument wanted is space there reach = count_more most n bytes argument is space there ∙ ap (λ (r : Reach). counted (word_count argument) r (words_before n)) reach

pub count_bad : (most : ℕ) (bytes : List ℕ) → 0 < most → begins_space bytes ≡ false → words_before most bytes ≡ 0
unfolding words_before
count_bad zero bytes some none = absurd (omega (arith, some))
count_bad (suc most) bytes some none = rw none refl

pub count_none : (most : ℕ) (bytes : List ℕ) → most ≡ 0 → words_before most bytes ≡ 0
unfolding words_before
count_none zero bytes is = refl
count_none (suc most) bytes is = absurd (omega (arith, is))
