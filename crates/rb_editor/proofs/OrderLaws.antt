-- The lines of a script stand in an editor's lines in their order.
use Rattle.std.proofs.Common.{◌≡◌, ℕ, zero, suc, ◌≤◌, ◌==◌, List, [], ◌∷◌, refl, arith}
use Rattle.rb_lsp.specs.declared.document.position.Encoding.{Encoding}
use Rattle.rb_lsp.specs.Places.{beside_at, ends_line, position_of, units}
use Rattle.rb_lsp.specs.Tables.{feed_start, start_of}
use Rattle.rb_lsp.proofs.PlaceLaws.{test_cases}

beside_line : (n line character : ℕ) → (beside_at n line character).line ≡ line
beside_line n zero character = refl
beside_line n (suc line) character = refl

line_grows : (e : Encoding) (j k : ℕ) (text : List ℕ) → j ≤ k → (position_of e j text).line ≤ (position_of e k text).line
unfolding position_of
line_grows e zero k text up = omega arith
line_grows e (suc j) zero text up = absurd (omega (arith, up))
line_grows e (suc j) (suc k) [] up = omega arith
line_grows e (suc j) (suc k) (b ∷ bytes) up =
    let p = position_of e j bytes in
    let q = position_of e k bytes in
    let rest : p.line ≤ q.line = line_grows e j k bytes (omega (arith, up)) in
    let before = beside_line (units e b) p.line p.character in
    let after = beside_line (units e b) q.line q.character in
    test_cases (ends_line b bytes)
    (λ yes. rw yes (omega (arith, rest)))
    (λ no. rw no (omega (arith, rest, before, after)))

-- a later line begins later
pub feed_grows : (m n : ℕ) (bytes : List ℕ) → m ≤ n → feed_start m bytes ≤ feed_start n bytes
unfolding feed_start
feed_grows zero n bytes up = omega arith
feed_grows (suc m) zero bytes up = absurd (omega (arith, up))
feed_grows (suc m) (suc n) [] up = omega arith
feed_grows (suc m) (suc n) (b ∷ bytes) up =
    let here = feed_grows m n bytes (omega (arith, up)) in
    let there = feed_grows (suc m) (suc n) bytes up in
    test_cases (b == 10)
    (λ yes. rw yes (omega (arith, here)))
    (λ no. rw no (omega (arith, there)))

pub lines_in_order : (encoding : Encoding) (text : List ℕ) (m n : ℕ) → m ≤ n → (start_of encoding m text).line ≤ (start_of encoding n text).line
lines_in_order encoding text m n up = line_grows encoding (feed_start m text) (feed_start n text) text (feed_grows m n text up)
