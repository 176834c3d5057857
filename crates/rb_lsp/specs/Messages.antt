-- A message on a stream: fields, an empty line, and a body as long as the fields tell. (LSP 3.17, base protocol; fields are
-- those of HTTP, RFC 9112 section 5, as httparse has them.)
use Rattle.std.specs.Prelude.{◌≡◌, ℕ, ◌+◌, ◌<◌, ◌≤◌, Bool, List, [], ◌∷◌, ◌++◌, length, map, drop, slice_range, codes, decimal, if◌then◌else◌, Option, Some, None}
use Rattle.std.specs.Str.{str_eq_ignore_ascii_case}
use Rattle.httparse.specs.Grammar.{Field, LineEnd, ReadsSection, print_section}
use Rattle.httparse.specs.Spans.{name_and_value}
use Rattle.rb_text.specs.Numbers.{number_of}
use Rattle.rb_lsp.specs.declared.rpc.limits.TheConstants.{MAX_FIELDS, MAX_HEAD, MAX_BODY}
use Rattle.rb_lsp.specs.declared.rpc.head.Framed.{Framed}
use Rattle.rb_lsp.specs.declared.rpc.head.Framed.TheVariants as found

-- the field that tells the length of the body; case doesn't matter
abbrev pub is_length_name : List ℕ → Bool
is_length_name name = str_eq_ignore_ascii_case name (codes "content-length")

-- the length that fields tell, by name and value: the first that tells one
abbrev pub told_length : List (List ℕ × List ℕ) → Option ℕ
told_length [] = None
told_length (f ∷ fs) = if is_length_name f.0 then number_of f.1 else told_length fs

-- The bytes are a message with this body, and then the rest.
pub record IsMessage (bytes body rest : List ℕ) : Type 0 where
  pub fields : List Field
  pub last : LineEnd
  pub section : ReadsSection bytes fields last (body ++ rest)
  pub told : told_length (map name_and_value fields) ≡ Some (length body)
  pub few : length fields ≤ MAX_FIELDS
  pub short : length (print_section fields last) ≤ MAX_HEAD
  pub small : length body ≤ MAX_BODY

-- they begin with no message
abbrev pub HasNoMessage : List ℕ → Type 0
HasNoMessage bytes = (body rest : List ℕ) → ¬ (IsMessage bytes body rest)

-- nor do they, whatever comes after them
abbrev pub NeverHasMessage : List ℕ → Type 0
NeverHasMessage bytes = (more : List ℕ) → HasNoMessage (bytes ++ more)

-- what is found at the front of bytes
abbrev pub Finds : List ℕ → Framed → Type 0
Finds bytes (found.Message start stop) =
    (start ≤ stop) × (stop ≤ length bytes) × IsMessage bytes (slice_range bytes start stop) (drop stop bytes)
Finds bytes found.Partial = HasNoMessage bytes × (length bytes < MAX_HEAD + MAX_BODY)
Finds bytes found.Bad = NeverHasMessage bytes

-- the message with this body, as it goes out
abbrev pub frame : List ℕ → List ℕ
frame body = codes "Content-Length: " ++ (decimal (length body) ++ (13 ∷ 10 ∷ 13 ∷ 10 ∷ body))

-- ---- laws

abbrev pub MessagesAreOne : Type 0
MessagesAreOne = (bytes a b x y : List ℕ) → IsMessage bytes a x → IsMessage bytes b y → (a ≡ b) × (x ≡ y)

abbrev pub FramedBodiesAreMessages : Type 0
FramedBodiesAreMessages = (body rest : List ℕ) → length body ≤ MAX_BODY → IsMessage (frame body ++ rest) body rest
