-- Texts of lines, one after another.
use Rattle.std.proofs.Common.{◌≡◌, ◌∙◌, ℕ, suc, ◌+◌, Bool, true, false, List, [], ◌++◌, drop, Option, Some, Result, Ok, Err, ap, sym, append_assoc}
use Rattle.std.specs.Prelude.{slice_get, slice_index, ◌==◌, if◌then◌else◌, IfOk, IsErr, OnOk}
use Rattle.std.proofs.lemmas.Bool.{false≢true}
use Rattle.rb_script.specs.Lines.{Line}
use Rattle.rb_report.specs.Heads.{before_value}
use Rattle.rb_text.proofs.SentLaws.{drop-get}
use Rattle.rb_check.specs.Objects.{quoted, strings_from}
use Rattle.rb_check.specs.Commands.{command_with, last_end}

-- one line more
pub strings_step : (ls : List Line) (i : ℕ) (line : Line) → slice_get ls i ≡ Some line → strings_from i (drop i ls) ≡ (before_value i ++ quoted line) ++ strings_from (i + 1) (drop (i + 1) ls)
strings_step ls i line got = ap (λ (xs : List Line). strings_from i xs) (drop-get ls i line got) ∙ sym (append_assoc (before_value i) (quoted line) (strings_from (i + 1) (drop (i + 1) ls)))

-- a command, and what is said with it
pub said_with : (t0 t1 t2 command path : List ℕ) (line : Option ℕ) (title rest : List ℕ) → t1 ≡ t0 ++ command_with command path line title [] → t2 ≡ t1 ++ rest
    → t2 ≡ t0 ++ command_with command path line title rest
said_with t0 t1 t2 command path line title rest opened more = rw (more, opened) (simp append_assoc)

-- what was added, in other words
pub added_is : {X E : Type 0} (r : Result X E) (new text other : List ℕ) → IfOk r (λ _. new ≡ text) → text ≡ other → IfOk r (λ _. new ≡ other)
added_is (Ok x) new text other h e = h ∙ e
added_is (Err x) new text other h e = tt

-- nothing is said of what fails
pub fails_any : {X E : Type 0} (r : Result X E) (P : Type 0) → IsErr r → OnOk r P
fails_any (Ok x) P h = absurd (false≢true h)
fails_any (Err x) P h = tt

-- a line ends at the last of some bytes, and none does
pub end-found : (diff : List ℕ) (n : ℕ) → (slice_index diff n == 10) ≡ true → suc n ≡ last_end diff (suc n)
end-found diff n h = sym (ap (λ (t : Bool). if t then suc n else last_end diff n) h)

pub end-next : (diff : List ℕ) (n : ℕ) → (slice_index diff n == 10) ≡ false → last_end diff n ≡ last_end diff (suc n)
end-next diff n h = sym (ap (λ (t : Bool). if t then suc n else last_end diff n) h)
