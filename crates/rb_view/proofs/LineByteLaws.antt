-- The lines of a script are of its bytes.
use Rattle.std.proofs.Common.{◌≡◌, ◌∙◌, ℕ, zero, suc, ◌<◌, ◌⊎◌, inl, inr, Bool, true, false, List, [], ◌∷◌, ◌++◌, get_or, map, refl, ap, sym}
use Rattle.std.specs.Prelude.{◌==◌, if◌then◌else◌}
use Rattle.std.specs.List.{list_all}
use Rattle.std.proofs.lemmas.Bool.{and_from, and_parts, lt-ltb}
use Rattle.std.proofs.lemmas.List.Folds.{list_all-append, list_all-map}
use Rattle.rb_texts.proofs.KindLaws.{wider}
use Rattle.rb_view.specs.Json.{is_byte}
use Rattle.rb_script.specs.Bytes.{line_feed, carriage_return}
use Rattle.rb_script.specs.Lines.{Line, put_before, without_returns, in_first, cut, lines}
use Rattle.rb_script.specs.Marks.{rule}
use Rattle.rb_script.specs.Reads.{ReadsPlain, ReadsDouble, ReadsBlock, ReadsSome}
use Rattle.rb_script.specs.Script.{PlainBlock}

abbrev pub of_bytes : Line → Bool
of_bytes line = list_all is_byte line

-- each of them is below 256
pub are_bytes : (bytes : List ℕ) → ((k : ℕ) → get_or bytes k 0 < 256) → of_bytes bytes ≡ true
are_bytes [] below = refl
are_bytes (b ∷ bytes) below = and_from (is_byte b) (of_bytes bytes) (lt-ltb b 256 (below zero)) (are_bytes bytes (λ k. below (suc k)))

-- ---- lines that bytes are cut into

put_bytes : (b : ℕ) (line : Line) → is_byte b ≡ true → of_bytes line ≡ true → of_bytes (put_before b line) ≡ true
put_bytes b [] first rest =
    elim (b == carriage_return) as (λ t. of_bytes (if t then [] else b ∷ []) ≡ true) [ true ↦ refl | false ↦ and_from (is_byte b) true first refl ]
put_bytes b (c ∷ line) first rest = and_from (is_byte b) (of_bytes (c ∷ line)) first rest

returns_bytes : (line : Line) → of_bytes line ≡ true → of_bytes (without_returns line) ≡ true
unfolding without_returns
returns_bytes [] h = refl
returns_bytes (b ∷ line) h =
    let p = and_parts (is_byte b) (of_bytes line) h in
    put_bytes b (without_returns line) p.0 (returns_bytes line p.1)

all_returns : (ls : List Line) → list_all of_bytes ls ≡ true → list_all of_bytes (map without_returns ls) ≡ true
all_returns ls h = list_all-map of_bytes without_returns ls ∙ wider of_bytes (λ line. of_bytes (without_returns line)) returns_bytes ls h

first_bytes : (b : ℕ) (ls : List Line) → is_byte b ≡ true → list_all of_bytes ls ≡ true → list_all of_bytes (in_first b ls) ≡ true
first_bytes b [] first rest = and_from (of_bytes (b ∷ [])) true (and_from (is_byte b) true first refl) refl
first_bytes b (line ∷ ls) first rest =
    let p = and_parts (of_bytes line) (list_all of_bytes ls) rest in
    and_from (of_bytes (b ∷ line)) (list_all of_bytes ls) (and_from (is_byte b) (of_bytes line) first p.0) p.1

cut_bytes : (bytes : List ℕ) → list_all is_byte bytes ≡ true → list_all of_bytes (cut bytes) ≡ true
unfolding cut
cut_bytes [] h = refl
cut_bytes (b ∷ bytes) h =
    let p = and_parts (is_byte b) (list_all is_byte bytes) h in
    let more = cut_bytes bytes p.1 in
    elim (b == line_feed) as (λ t. list_all of_bytes (if t then [] ∷ cut bytes else in_first b (cut bytes)) ≡ true) [ true ↦ more | false ↦ first_bytes b (cut bytes) p.0 more ]

pub lines_bytes : (bytes : List ℕ) → list_all is_byte bytes ≡ true → list_all of_bytes (lines bytes) ≡ true
unfolding lines
lines_bytes bytes h = all_returns (cut bytes) (cut_bytes bytes h)

-- ---- the lines of blocks

along : (a b : List Line) → a ≡ b → list_all of_bytes a ≡ true → list_all of_bytes b ≡ true
along a b e h = ap (list_all of_bytes) (sym e) ∙ h

parts : (a b : List Line) → list_all of_bytes (a ++ b) ≡ true → (list_all of_bytes a ≡ true) × (list_all of_bytes b ≡ true)
parts a b h = and_parts (list_all of_bytes a) (list_all of_bytes b) (sym (list_all-append of_bytes a b) ∙ h)

-- what follows a line
past : (line : Line) (ls : List Line) → list_all of_bytes (line ∷ ls) ≡ true → list_all of_bytes ls ≡ true
past line ls h = (and_parts (of_bytes line) (list_all of_bytes ls) h).1

ends_bytes : (after e rest : List Line) → list_all of_bytes after ≡ true → ReadsPlain after e rest ⊎ ReadsDouble after e rest → (list_all of_bytes e ≡ true) × (list_all of_bytes rest ≡ true)
ends_bytes after e rest h (inl p) =
    elim p.closed as (λ _. (list_all of_bytes e ≡ true) × (list_all of_bytes rest ≡ true)) [
      | inl b ↦ (let q = parts e (b.0 ∷ rest) (along after (e ++ b.0 ∷ rest) b.2 h) in (q.0, past b.0 rest q.1))
      | inr b ↦ (along after e b.0 h, along [] rest (sym b.1) refl)
    ]
ends_bytes after e rest h (inr d) =
    let q = parts e (rule ∷ rule ∷ d.more) (past rule (e ++ rule ∷ rule ∷ d.more) (along after (rule ∷ e ++ rule ∷ rule ∷ d.more) d.parts h)) in
    let more = past rule d.more (past rule (rule ∷ d.more) q.1) in
    elim d.closed as (λ _. (list_all of_bytes e ≡ true) × (list_all of_bytes rest ≡ true)) [
      | inl b ↦ (q.0, past b.0 rest (along d.more (b.0 ∷ rest) b.2 more))
      | inr b ↦ (q.0, along d.more rest b.1 more)
    ]

block_bytes : (ls rest : List Line) (b : PlainBlock) → ReadsBlock ls b rest → list_all of_bytes ls ≡ true → (list_all of_bytes b.expected ≡ true) × (list_all of_bytes rest ≡ true)
block_bytes ls rest b r h =
    let x = parts b.lead (b.head ++ (b.input ++ r.separator ∷ r.after)) (along ls (b.lead ++ (b.head ++ (b.input ++ r.separator ∷ r.after))) r.parts h) in
    let y = parts b.head (b.input ++ r.separator ∷ r.after) x.1 in
    let z = parts b.input (r.separator ∷ r.after) y.1 in
    ends_bytes r.after b.expected rest (past r.separator r.after z.1) r.expected

-- each expectation is of bytes
abbrev pub expects_bytes : PlainBlock → Bool
expects_bytes b = list_all of_bytes b.expected

pub blocks_bytes : (bs : List PlainBlock) (ls rest : List Line) → ReadsSome ls bs rest → list_all of_bytes ls ≡ true → list_all expects_bytes bs ≡ true
blocks_bytes [] ls rest r h = refl
blocks_bytes (b ∷ bs) ls rest r h =
    let p = block_bytes ls r.0 b r.1 h in
    and_from (expects_bytes b) (list_all expects_bytes bs) p.0 (blocks_bytes bs r.0 rest r.2 p.1)
