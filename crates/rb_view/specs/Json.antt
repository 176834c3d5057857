-- Which text is which list of rows, by the grammar of JSON. (RFC 8259, sections 2, 5, 6 and 7. Its objects, `true`, `false`, `null`, signs,
-- fractions, and characters by a letter after a backslash are left out: a page has none of them. A row's name is the first of its texts.)
use Rattle.std.specs.Prelude.{◌≡◌, ℕ, ◌+◌, ◌*◌, ◌<◌, ◌⊎◌, Bool, true, not, ◌&&◌, ◌||◌, ◌==◌, nat_le, nat_lt, List, [], ◌∷◌, ◌++◌, decimal}
use Rattle.std.specs.List.{list_all}
use Rattle.rb_text.specs.Json.{hex_digit}
use Rattle.rb_view.specs.Rows.{PlainCell, number, text, Row}

-- ---- parts

-- a text in two parts, of which each is as it says
pub record IsParted (First Rest : List ℕ → Type 0) (t : List ℕ) : Type 0 where
  pub front : List ℕ
  pub back : List ℕ
  pub parts : t ≡ front ++ back
  pub first : First front
  pub rest : Rest back

-- ---- texts (section 7)

-- a character of ASCII that may stand as it is
abbrev pub is_unescaped : ℕ → Bool
is_unescaped char = nat_le 32 char && nat_le char 126 && not (char == 34) && not (char == 92)

-- a character by its number: `\u` and four digits
pub record IsNumbered (char : ℕ) (t : List ℕ) : Type 0 where
  pub thousands : ℕ
  pub hundreds : ℕ
  pub tens : ℕ
  pub ones : ℕ
  pub digits : (thousands < 16) × (hundreds < 16) × (tens < 16) × (ones < 16)
  pub value : char ≡ thousands * 4096 + hundreds * 256 + tens * 16 + ones
  pub parts : t ≡ 92 ∷ 117 ∷ hex_digit thousands ∷ hex_digit hundreds ∷ hex_digit tens ∷ hex_digit ones ∷ []

abbrev pub IsChar : ℕ → List ℕ → Type 0
IsChar char t = ((is_unescaped char ≡ true) × (t ≡ char ∷ [])) ⊎ IsNumbered char t

abbrev pub AreChars : List ℕ → List ℕ → Type 0
AreChars [] t = t ≡ []
AreChars (char ∷ chars) t = IsParted (λ (u : List ℕ). IsChar char u) (λ (u : List ℕ). AreChars chars u) t

-- the characters between quotes
pub record IsString (chars : List ℕ) (t : List ℕ) : Type 0 where
  pub inside : List ℕ
  pub parts : t ≡ 34 ∷ (inside ++ 34 ∷ [])
  pub are : AreChars chars inside

-- ---- lists (section 5), whose values have white space about them (section 2)

abbrev pub is_space : ℕ → Bool
is_space b = b == 32 || b == 9 || b == 10 || b == 13

-- a further value of a list, after a comma
pub record IsFurther {X : Type 0} (Is : X → List ℕ → Type 0) (x : X) (t : List ℕ) : Type 0 where
  pub space : List ℕ
  pub value : List ℕ
  pub parts : t ≡ 44 ∷ (space ++ value)
  pub blank : list_all is_space space ≡ true
  pub is : Is x value

abbrev pub AreFurther : {X : Type 0} → (X → List ℕ → Type 0) → List X → List ℕ → Type 0
AreFurther Is [] t = t ≡ []
AreFurther Is (x ∷ xs) t = IsParted (λ (u : List ℕ). IsFurther Is x u) (λ (u : List ℕ). AreFurther Is xs u) t

-- a list with a first value, and further ones
pub record IsList {X Y : Type 0} (First : X → List ℕ → Type 0) (Is : Y → List ℕ → Type 0) (x : X) (ys : List Y) (t : List ℕ) : Type 0 where
  pub front : List ℕ
  pub back : List ℕ
  pub parts : t ≡ 91 ∷ (front ++ (back ++ 93 ∷ []))
  pub first : First x front
  pub rest : AreFurther Is ys back

-- ---- rows

-- a number by its digits, without zeros before them (section 6), or a text
abbrev pub IsCell : PlainCell → List ℕ → Type 0
IsCell (number n) t = t ≡ decimal n
IsCell (text bytes) t = IsString bytes t

-- a list of the name and the cells
abbrev pub IsRow : Row → List ℕ → Type 0
IsRow r t = IsList IsString IsCell r.name r.cells t

-- a list of rows, with white space after it
pub record AreRows (first : Row) (rest : List Row) (t : List ℕ) : Type 0 where
  pub rows : List ℕ
  pub space : List ℕ
  pub parts : t ≡ rows ++ space
  pub are : IsList IsRow IsRow first rest rows
  pub blank : list_all is_space space ≡ true

-- ---- bytes

abbrev pub is_byte : ℕ → Bool
is_byte b = nat_lt b 256

abbrev pub cell_has_bytes : PlainCell → Bool
cell_has_bytes (number n) = true
cell_has_bytes (text bytes) = list_all is_byte bytes

-- the texts of the row are of bytes
abbrev pub has_bytes : Row → Bool
has_bytes r = list_all is_byte r.name && list_all cell_has_bytes r.cells
