-- The parts of each kind of line. (This project's profile of the datadriven format.)
use Rattle.std.specs.Prelude.{◌≡◌, ◌≢◌, ℕ, ◌≤◌, ◌⊎◌, false, List, [], ◌∷◌, ◌++◌, length}
use Rattle.std.specs.List.{AllByRecursion}
use Rattle.rb_script.specs.declared.limits.TheConstants.{MAX_LINE}
use Rattle.rb_script.specs.Bytes.{tab, space, number_sign, backslash}
use Rattle.rb_script.specs.Lines.{Line}
use Rattle.rb_script.specs.Marks.{is_blank, rule}

-- spaces and tabs alone, or nothing
abbrev pub AreBlanks : List ℕ → Type 0
AreBlanks bytes = AllByRecursion (λ b. (b ≡ space) ⊎ (b ≡ tab)) bytes

-- blanks, a number sign, and anything
pub record IsComment (line : Line) : Type 0 where
  pub blanks : List ℕ
  pub text : List ℕ
  pub parts : line ≡ blanks ++ number_sign ∷ text
  pub blank : AreBlanks blanks

-- the line ----, with blanks around it
pub record IsRuleWithin (line : Line) : Type 0 where
  pub before : List ℕ
  pub after : List ℕ
  pub parts : line ≡ before ++ (rule ++ after)
  pub blank : AreBlanks before × AreBlanks after

-- anything, a backslash, and blanks
pub record AsksForNext (line : Line) : Type 0 where
  pub body : List ℕ
  pub blanks : List ℕ
  pub parts : line ≡ body ++ backslash ∷ blanks
  pub blank : AreBlanks blanks

-- no two lines ---- are neighbours, and none is the last
pub record HasNoEnd (ls : List Line) : Type 0 where
  pub pair : (front rest : List Line) → ls ≡ front ++ rule ∷ rule ∷ rest → ⊥
  pub last : (front : List Line) → ls ≡ front ++ rule ∷ [] → ⊥

-- printable bytes, not too many, and neither blank nor ----
pub record IsSolid (line : Line) : Type 0 where
  pub printable : AllByRecursion (λ b. (32 ≤ b) × (b ≤ 126)) line
  pub short : length line ≤ MAX_LINE
  pub some : is_blank line ≡ false
  pub no_rule : line ≢ rule
