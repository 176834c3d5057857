-- The words among the arguments of a head, read as far as it is written. (docs/SCRIPTS.md, "Directives": a word has no `=`.)
use Rattle.std.specs.Prelude.{ℕ, zero, suc, ◌+◌, Bool, if◌then◌else◌, List, [], Ok, Err}
use Rattle.rb_script.specs.Bytes.{equals_sign}
use Rattle.rb_script.specs.Marks.{is_space}
use Rattle.rb_script.specs.Runs.{while_of, after_while}
use Rattle.rb_script.specs.Directive.{is_word, begins}
use Rattle.rb_script.specs.Heads.{begins_space}
use Rattle.rb_editor.specs.Unfinished.{Reach, argument_at}

-- the bytes after the name of a head
abbrev pub arguments_of : List ℕ → List ℕ
arguments_of head = after_while is_word (after_while is_space head)

-- the argument at the front has a key
abbrev pub is_option : List ℕ → Bool
is_option bytes = begins equals_sign (after_while is_word bytes)

abbrev pub past : Reach → (List ℕ → List ℕ) → List ℕ
past (Err wanted) goes_on = []
past (Ok rest) goes_on = goes_on rest

-- the argument at the front, if it is a word; else the first after it
abbrev pub first_in : List ℕ → (List ℕ → List ℕ) → List ℕ
first_in bytes goes_on = if is_option bytes then past (argument_at bytes) goes_on else while_of is_word bytes

-- the first word among at most this many arguments, as far as it is written
unfoldable pub first_word : ℕ → List ℕ → List ℕ
first_word zero bytes = []
first_word (suc most) bytes = if begins_space bytes then first_in (after_while is_space bytes) (first_word most) else []

-- 1 if the argument at the front is a word, else 0
abbrev pub word_count : List ℕ → ℕ
word_count bytes = if is_option bytes then 0 else 1

abbrev pub counted : ℕ → Reach → (List ℕ → ℕ) → ℕ
counted words (Err wanted) goes_on = 0
counted words (Ok rest) goes_on = words + goes_on rest

-- how many words there are among at most this many arguments, before the one in which they end
unfoldable pub words_before : ℕ → List ℕ → ℕ
words_before zero bytes = 0
words_before (suc most) bytes = if begins_space bytes then counted (word_count (after_while is_space bytes)) (argument_at (after_while is_space bytes)) (words_before most) else 0
