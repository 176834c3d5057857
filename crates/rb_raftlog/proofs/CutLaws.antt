-- Laws of contents in pieces.
use Rattle.std.proofs.Common.{◌≡◌, ℕ, ◌+◌, ◌-◌, ◌*◌, ◌<◌, ◌≤◌, List, [], ◌∷◌, ◌++◌, length, take, drop, ap, sym, subst, ◌∙◌, arith, length-append, inl, inr}
use Rattle.std.proofs.lemmas.List.{take-append-drop, length-take-le, length-drop, take_rest}
use Rattle.std.proofs.lemmas.Bool.{cases_lt}
use Rattle.rb_raftlog.specs.declared.limits.TheConstants.{PIECE, END}
use Rattle.rb_raftlog.specs.Packed.{joined}
use Rattle.rb_raftlog.specs.Content.{content_end}
use Rattle.rb_raftlog.specs.Cut.{IsCut}
use Rattle.rb_raftlog.proofs.ListLaws.{drop_across}
use Rattle.rb_raftlog.proofs.PartLaws.{parts_size, one_more, with_more, same_cuts}

abbrev Pieces : Type 0
Pieces = List (List ℕ)

-- the length, without going over the bytes
pub cut_size : (ps : Pieces) (rest : List ℕ) → IsCut ps rest → length (joined ps ++ rest) ≡ length ps * PIECE + length rest
cut_size ps rest cut = omega (arith, length-append (joined ps) rest, parts_size PIECE ps cut.whole)

-- the end is in the rest
pub end_in_rest : (ps : Pieces) (rest : List ℕ) → IsCut ps rest → drop (length rest - END) rest ≡ content_end (joined ps ++ rest)
end_in_rest ps rest cut =
    let size : length (joined ps ++ rest) ≡ length (joined ps) + length rest = length-append (joined ps) rest in
    let whole : length (joined ps) ≡ PIECE * length ps = parts_size PIECE ps cut.whole in
    let low : length (joined ps) ≤ length (joined ps ++ rest) - END =
    elim (cases_lt 0 (length ps)) as (λ _. length (joined ps) ≤ length (joined ps ++ rest) - END) [
      | inl some ↦ omega (arith, cut.ended some)
      | inr none ↦ omega arith
    ] in
    let same : length (joined ps ++ rest) - END - length (joined ps) ≡ length rest - END = omega arith in
    sym (drop_across (joined ps) rest (length (joined ps ++ rest) - END) low ∙ ap (λ (n : ℕ). drop n rest) same)

-- the same, of a slice of the rest
pub end_of_rest : (ps : Pieces) (rest slice c : List ℕ) (n : ℕ) → IsCut ps rest → slice ≡ rest → n ≡ length slice - END → joined ps ++ rest ≡ c → take (length slice - n) (drop n slice) ≡ content_end c
end_of_rest ps rest slice c n cut is from view =
    take_rest slice n ∙ ap (λ (m : ℕ). drop m slice) from ∙ ap (λ (l : List ℕ). drop (length l - END) l) is
    ∙ end_in_rest ps rest cut ∙ ap content_end view

-- there are as many pieces where the lengths are equal
counts_same : (m n a b : ℕ) → (0 < m → END ≤ a) → (0 < n → END ≤ b) → a < PIECE + END → b < PIECE + END → m * PIECE + a ≡ n * PIECE + b → m ≡ n
counts_same m n a b h i low under e = grind arith

pub cut_same : (ps qs : Pieces) (r s : List ℕ) → IsCut ps r → IsCut qs s → joined ps ++ r ≡ joined qs ++ s → (ps ≡ qs) × (r ≡ s)
cut_same ps qs r s cut other e =
    let size : length ps * PIECE + length r ≡ length qs * PIECE + length s = sym (cut_size ps r cut) ∙ ap length e ∙ cut_size qs s other in
    let n : length ps ≡ length qs = counts_same (length ps) (length qs) (length r) (length s) cut.ended other.ended cut.short other.short size in
    same_cuts PIECE ps qs r s cut.whole other.whole n e

-- a piece is cut off
pub cut_off_is : (ps qs : Pieces) (rest more whole piece left : List ℕ) → IsCut ps rest → length rest + length more ≡ PIECE + END → whole ≡ rest ++ more → piece ≡ take PIECE whole → left ≡ drop PIECE whole → qs ≡ ps ++ piece ∷ [] → IsCut qs left × (joined qs ++ left ≡ (joined ps ++ rest) ++ more)
cut_off_is ps qs rest more whole piece left cut full e f g h =
    let size : length whole ≡ PIECE + END = ap length e ∙ length-append rest more ∙ full in
    let of_piece : length piece ≡ PIECE = ap length f ∙ length-take-le PIECE whole (omega arith) in
    let of_left : length left ≡ END = ap length g ∙ length-drop PIECE whole ∙ omega arith in
    let P : Pieces → Type 0 = λ l. IsCut l left in (
      subst P (sym h) (record {
        whole = one_more PIECE ps piece cut.whole of_piece;
        short = omega arith;
        ended = λ _. omega arith;
      }),
      ap (λ (l : Pieces). joined l ++ left) h
          ∙ with_more ps piece left rest more (ap (λ (l : List ℕ). l ++ left) f ∙ ap (λ (l : List ℕ). take PIECE whole ++ l) g ∙ take-append-drop PIECE whole ∙ e),
    )
