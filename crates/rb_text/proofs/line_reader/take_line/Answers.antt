use Rattle.std.proofs.Common.{◌≡◌, ◌++◌, ◌∷◌, ◌∙◌, ℕ, List, [], sym, ap, subst, append_assoc}
use Rattle.rb_text.specs.Begun.{Holds, IsLong}
use Rattle.rb_text.proofs.line_reader.take_line.Goals as goal

pub loop-byte-preserved : goal.loop-byte-preserved
loop-byte-preserved c =
    let (part, split, holds) = c.loop-byte.invariant in
    let byte = c.in-Some.byte in
    let left = c.take_next.new.self in (
      part ++ byte ∷ [],
      split ∙ ap (λ (l : List ℕ). part ++ l) c.in-Some.ensures.some ∙ sym (append_assoc part (byte ∷ []) left),
      λ begun h. subst (λ (l : List ℕ). Holds l c.push.new.self) (append_assoc begun part (byte ∷ [])) (c.in-Continue.ensures (begun ++ part) (holds begun h)),
    )

pub returns-in-EndOfLine : goal.returns-in-EndOfLine
returns-in-EndOfLine c = λ begun h.
    let (part, split, holds) = c.loop-byte.invariant in
    let left = c.take_next.new.self in
    let ended = c.in-EndOfLine.ensures (begun ++ part) (holds begun h) in (
      part,
      split ∙ ap (λ (l : List ℕ). part ++ l) (c.in-Some.ensures.some ∙ ap (λ (b : ℕ). b ∷ left) ended.0),
      subst (Holds (begun ++ part)) (sym ended.1) (holds begun h),
    )

pub returns-in-TooLong : goal.returns-in-TooLong
returns-in-TooLong c = λ begun h.
    let (part, split, holds) = c.loop-byte.invariant in
    let byte = c.in-Some.byte in
    let left = c.take_next.new.self in
    let before = holds begun h in
    let parts : begun ++ (part ++ byte ∷ []) ≡ (begun ++ part) ++ byte ∷ [] = sym (append_assoc begun part (byte ∷ [])) in
    let long = c.in-TooLong.ensures (begun ++ part) before in (
      part ++ byte ∷ [],
      split ∙ ap (λ (l : List ℕ). part ++ l) c.in-Some.ensures.some ∙ sym (append_assoc part (byte ∷ []) left),
      record {
        front = begun ++ part;
        last = byte;
        parts = parts;
        within = before.within;
        long = subst IsLong (sym parts) long.0;
      },
    )
