-- Words by where the first blank stands.
use Rattle.std.proofs.Common.{◌≡◌, ◌≢◌, ℕ, ◌-◌, ◌<◌, true, false, cond, List, [], ◌∷◌, length, take, drop, get_or, zero, suc, refl, ap, sym, ◌∙◌, arith}
use Rattle.std.proofs.lemmas.List.{take_rest}
use Rattle.rb_script.specs.Lines.{Line}
use Rattle.rb_script.specs.Marks.{is_space, trim_blanks}
use Rattle.rb_script.specs.Directive.{in_piece, without_empty}
use Rattle.rb_script.specs.Heads.{begins_space}
use Rattle.rb_text.specs.Words.{parts, words}

-- a blank at the front is of no word
words_space : (b : ℕ) (line : Line) → is_space b ≡ true → words (b ∷ line) ≡ words line
unfolding words parts without_empty
words_space b line h = ap (λ t. without_empty (cond t ([] ∷ parts line) (in_piece b (parts line)))) h

-- nor are all the blanks at the front
words_front : (line : Line) → words (trim_blanks line) ≡ words line
unfolding trim_blanks
words_front [] = refl
words_front (b ∷ line) =
    elim (is_space b) as (λ t. is_space b ≡ t → words (cond t (trim_blanks line) (b ∷ line)) ≡ words (b ∷ line)) [
      | true ↦ λ h. words_front line ∙ sym (words_space b line h)
      | false ↦ λ h. refl
    ] refl

-- behind them no blank comes
begins_front : (line : Line) → begins_space (trim_blanks line) ≡ false
unfolding trim_blanks
begins_front [] = refl
begins_front (b ∷ line) =
    elim (is_space b) as (λ t. is_space b ≡ t → begins_space (cond t (trim_blanks line) (b ∷ line)) ≡ false) [
      | true ↦ λ h. begins_front line
      | false ↦ λ h. h
    ] refl

-- what is left behind them
pub words_behind : (line text : Line) → text ≡ trim_blanks line → words line ≡ words text
words_behind line text e = sym (ap words e ∙ words_front line)

pub begins_behind : (line text : Line) → text ≡ trim_blanks line → begins_space text ≡ false
begins_behind line text e = ap begins_space e ∙ begins_front line

-- nothing has no words
pub words_nil : (line : Line) → length line ≡ 0 → words line ≡ []
unfolding words parts without_empty
words_nil [] h = refl
words_nil (b ∷ line) h = absurd (omega arith)

-- cut at the first blank
parts_at : (line : Line) (end : ℕ) → end < length line → is_space (get_or line end 0) ≡ true → ((k : ℕ) → k < end → is_space (get_or line k 0) ≡ false) → parts line ≡ take end line ∷ parts (drop (suc end) line)
unfolding parts
parts_at [] end lt at before = absurd (omega arith)
parts_at (b ∷ line) zero lt at before = ap (λ t. cond t ([] ∷ parts line) (in_piece b (parts line))) at
parts_at (b ∷ line) (suc end) lt at before =
    ap (λ t. cond t ([] ∷ parts line) (in_piece b (parts line))) (before 0 (omega arith)) ∙ ap (in_piece b) (parts_at line end (omega arith) at (λ k h. before (suc k) (omega arith)))

-- with no blank it is one part
parts_none : (line : Line) → ((k : ℕ) → k < length line → is_space (get_or line k 0) ≡ false) → parts line ≡ line ∷ []
unfolding parts
parts_none [] none = refl
parts_none (b ∷ line) none =
    ap (λ t. cond t ([] ∷ parts line) (in_piece b (parts line))) (none 0 (omega arith)) ∙ ap (in_piece b) (parts_none line (λ k h. none (suc k) (omega arith)))

-- a word is some part
kept : (b : ℕ) (word : Line) (parts : List Line) → without_empty ((b ∷ word) ∷ parts) ≡ (b ∷ word) ∷ without_empty parts
unfolding without_empty
kept b word parts = refl

-- what begins with a blank
words_from : (line : Line) (end : ℕ) → end < length line → is_space (get_or line end 0) ≡ true → words (drop end line) ≡ without_empty (parts (drop (suc end) line))
unfolding words parts without_empty
words_from [] end lt at = absurd (omega arith)
words_from (b ∷ line) zero lt at = ap (λ t. without_empty (cond t ([] ∷ parts line) (in_piece b (parts line)))) at
words_from (b ∷ line) (suc end) lt at = words_from line end (omega arith) at

-- the bytes up to the first blank are the first word
pub words_at : (line : Line) (end : ℕ) → begins_space line ≡ false → end < length line → is_space (get_or line end 0) ≡ true → ((k : ℕ) → k < end → is_space (get_or line k 0) ≡ false) → words line ≡ take end line ∷ words (take (length line - end) (drop end line))
unfolding words parts without_empty
words_at [] end h lt at before = absurd (omega arith)
words_at (b ∷ line) zero h lt at before = absurd cc
words_at (b ∷ line) (suc end) h lt at before =
    ap without_empty (parts_at (b ∷ line) (suc end) lt at before) ∙ kept b (take end line) (parts (drop (suc end) line))
    ∙ ap (λ (l : List Line). (b ∷ take end line) ∷ l) (sym (words_from (b ∷ line) (suc end) lt at))
    ∙ ap (λ (l : Line). (b ∷ take end line) ∷ words l) (sym (take_rest (b ∷ line) (suc end)))

-- with no blank all is one word
pub words_none : (line : Line) → length line ≢ 0 → ((k : ℕ) → k < length line → is_space (get_or line k 0) ≡ false) → words line ≡ line ∷ words []
unfolding words parts without_empty
words_none [] some none = absurd (some refl)
words_none (b ∷ line) some none = ap without_empty (parts_none (b ∷ line) none) ∙ kept b line []
