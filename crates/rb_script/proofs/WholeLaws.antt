-- Bytes that are the text of their lines.
use Rattle.std.proofs.Common.{◌≡◌, ◌≢◌, ℕ, ◌+◌, ◌-◌, ◌<◌, ◌≤◌, true, false, cond, eqb, List, [], ◌∷◌, ◌++◌, length, take, drop, get_or, map, zero, suc, refl, ap, sym, ◌∙◌, inl, inr, append_assoc, length-append, append-nil, arith}
use Rattle.std.specs.Prelude.{slice_get, Some, None}
use Rattle.std.proofs.Math.Seq.{get_or-append_seam, drop-append-add}
use Rattle.std.proofs.lemmas.Bool.{ne_eqb, eqb-true, cases_lt}
use Rattle.std.proofs.lemmas.List.{length-take, take_rest}
use Rattle.std.proofs.lemmas.Option.{slice_get_within, slice_get-get_or, none-some}
use Rattle.rb_script.specs.Lines.{Line, put_before, without_returns, in_first, cut, lines, line_text, text_of}
use Rattle.rb_script.specs.Flat.{ends_of}
use Rattle.rb_script.proofs.LineLaws.{lines_at, cut_none}
use Rattle.rb_script.proofs.ShortLaws.{returns_shorter}

-- ---- their text

put_kept : (b : ℕ) (line : Line) → b ≢ 13 → put_before b line ≡ b ∷ line
put_kept b [] h = ap (λ t. cond t [] (b ∷ [])) (ne_eqb b 13 h)
put_kept b (c ∷ line) h = refl

-- a byte in the first line is the first of the text
first_more : (b : ℕ) (parts : List Line) (rest : List ℕ) → b ≢ 13 → 0 < length rest → text_of (map without_returns parts) ≡ rest → text_of (map without_returns (in_first b parts)) ≡ b ∷ rest
unfolding without_returns
first_more b [] rest h some e = absurd (omega (arith, ap length e))
first_more b (line ∷ ls) rest h some e =
    ap (λ (l : Line). text_of (l ∷ map without_returns ls)) (put_kept b (without_returns line) h) ∙ ap (λ (t : List ℕ). b ∷ t) e

-- bytes with no carriage return, the last of which is a line feed
whole : (bytes : List ℕ) (n : ℕ) → ((k : ℕ) → k < length bytes → get_or bytes k 0 ≢ 13) → length bytes ≡ n + 1 → slice_get bytes n ≡ Some 10 → text_of (lines bytes) ≡ bytes
unfolding lines cut without_returns
whole [] n none e found = absurd (omega arith)
whole (b ∷ []) zero none e found = let is : b ≡ 10 = cc found in rw is refl
whole (b ∷ []) (suc n) none e found = absurd (omega arith)
whole (b ∷ c ∷ bytes) zero none e found = absurd (omega arith)
whole (b ∷ c ∷ bytes) (suc n) none e found =
    let rest : text_of (lines (c ∷ bytes)) ≡ c ∷ bytes = whole (c ∷ bytes) n (λ k lt. none (suc k) (omega arith)) (omega arith) found in
    elim (eqb b 10) as (λ t. eqb b 10 ≡ t → text_of (map without_returns (cond t ([] ∷ cut (c ∷ bytes)) (in_first b (cut (c ∷ bytes))))) ≡ b ∷ c ∷ bytes) [
      | true ↦ λ h. ap (λ (t : List ℕ). 10 ∷ t) rest ∙ ap (λ (x : ℕ). x ∷ c ∷ bytes) (sym (eqb-true b 10 h))
      | false ↦ λ h. first_more b (cut (c ∷ bytes)) (c ∷ bytes) (none 0 (omega arith)) (omega arith) rest
    ] refl

pub text_stays : (bytes : List ℕ) → ((k : ℕ) → k < length bytes → get_or bytes k 0 ≢ 13) → (last : ℕ) → slice_get bytes (length bytes - 1) ≡ Some last → last ≡ 10 → text_of (lines bytes) ≡ bytes
text_stays bytes none last found is =
    let within = slice_get_within bytes (length bytes - 1) last found in
    whole bytes (length bytes - 1) none (omega arith) (found ∙ ap (λ (b : ℕ). Some b) is)

-- with no last byte there are none
pub text_none : (bytes : List ℕ) → slice_get bytes (length bytes - 1) ≡ None → text_of (lines bytes) ≡ bytes
unfolding lines cut
text_none [] e = refl
text_none (b ∷ bytes) e =
    let there : slice_get (b ∷ bytes) (length (b ∷ bytes) - 1) ≡ Some (get_or (b ∷ bytes) (length (b ∷ bytes) - 1) 0) =
    slice_get-get_or (b ∷ bytes) (length (b ∷ bytes) - 1) 0 (omega arith) in
    absurd (none-some _ (sym e ∙ there))

-- ---- where they end

-- the first line stands before the first line feed, and what is behind it is the text of the other lines
pub record NextLine (bytes : List ℕ) (feed : ℕ) (rest : List ℕ) : Type 0 where
  pub line : Line
  pub parts : lines bytes ≡ line ∷ lines rest
  pub len : length line ≡ feed
  pub clean : text_of (lines rest) ≡ rest

pub next_line : (bytes : List ℕ) (feed : ℕ) (rest : List ℕ) → rest ≡ drop (feed + 1) bytes → text_of (lines bytes) ≡ bytes → feed < length bytes → get_or bytes feed 0 ≡ 10 → ((k : ℕ) → k < feed → get_or bytes k 0 ≢ 10) → NextLine bytes feed rest
next_line bytes feed rest is clean lt at first =
    let line = without_returns (take feed bytes) in
    let whole_rest : take (length bytes - (feed + 1)) (drop (feed + 1) bytes) ≡ rest = take_rest bytes (feed + 1) ∙ sym is in
    let parts : lines bytes ≡ line ∷ lines rest = lines_at bytes line feed refl lt at first ∙ ap (λ (r : List ℕ). line ∷ lines r) whole_rest in
    let text : line ++ 10 ∷ text_of (lines rest) ≡ bytes = sym (append_assoc line (10 ∷ []) (text_of (lines rest))) ∙ ap text_of (sym parts) ∙ clean in
    let told : get_or bytes (length line) 0 ≡ 10 = ap (λ (t : List ℕ). get_or t (length line) 0) (sym text) ∙ get_or-append_seam line 10 (text_of (lines rest)) 0 in
    let short : length line ≤ feed = omega (arith, returns_shorter (take feed bytes), length-take feed bytes) in
    let len : length line ≡ feed = elim (cases_lt (length line) feed) [
      | inl before ↦ absurd (first (length line) before told)
      | inr le ↦ omega (arith, short, le)
    ] in
    record {
      line = line;
      parts = parts;
      len = len;
      clean = sym (drop-append-add line (10 ∷ text_of (lines rest)) 1) ∙ ap (drop (length line + 1)) text ∙ ap (λ (n : ℕ). drop (n + 1) bytes) len ∙ sym is;
    }

-- with no line feed no line is left
pub none_left : (bytes : List ℕ) → text_of (lines bytes) ≡ bytes → ((k : ℕ) → k < length bytes → get_or bytes k 0 ≢ 10) → bytes ≡ []
unfolding lines cut
none_left [] clean none = refl
none_left (b ∷ bytes) clean none =
    let line = without_returns (b ∷ bytes) in
    let text : line ++ 10 ∷ [] ≡ b ∷ bytes = sym (append-nil (line ++ 10 ∷ [])) ∙ ap text_of (sym (ap (map without_returns) (cut_none b bytes none))) ∙ clean in
    let told : get_or (b ∷ bytes) (length line) 0 ≡ 10 = ap (λ (t : List ℕ). get_or t (length line) 0) (sym text) ∙ get_or-append_seam line 10 [] 0 in
    absurd (none (length line) (omega (arith, ap length text, length-append line (10 ∷ []))) told)

-- a line more, and where it ends
pub ends_more : (so_far next : List ℕ) (end feed : ℕ) (ls : List Line) {rest : List Line} {line : Line} → ls ≡ line ∷ rest → length line ≡ feed → (all : List ℕ) → next ≡ so_far ++ (end + (feed + 1)) ∷ [] → so_far ++ ends_of end ls ≡ all → next ++ ends_of (end + (feed + 1)) rest ≡ all
unfolding ends_of
ends_more so_far next end feed ls {rest} {line} parts len all e is =
    let there = end + (feed + 1) in
    let same : there ≡ end + length line + 1 = omega (arith, len) in
    ap (λ (l : List ℕ). l ++ ends_of there rest) e
    ∙ append_assoc so_far (there ∷ []) (ends_of there rest)
    ∙ ap (λ (n : ℕ). so_far ++ (n ∷ ends_of n rest)) same
    ∙ ap (λ (l : List Line). so_far ++ ends_of end l) (sym parts)
    ∙ is

-- the text that is left is shorter by the line
pub left_less : (ls : List Line) {rest : List Line} {line : Line} {feed : ℕ} → ls ≡ line ∷ rest → length line ≡ feed → (end total : ℕ) → end + length (text_of ls) ≡ total → end + (feed + 1) + length (text_of rest) ≡ total
left_less ls {rest} {line} {feed} parts len end total e =
    let all : length (text_of ls) ≡ length line + 1 + length (text_of rest) =
    ap (λ (l : List Line). length (text_of l)) parts ∙ length-append (line_text line) (text_of rest) ∙ ap (λ (n : ℕ). n + length (text_of rest)) (length-append line (10 ∷ [])) in
    omega (arith, e, all, len)

-- no line is left
pub ends_done : (so_far all : List ℕ) (end : ℕ) (rest : List ℕ) → rest ≡ [] → so_far ++ ends_of end (lines rest) ≡ all → so_far ≡ all
unfolding ends_of lines cut
ends_done so_far all end rest e is = sym (append-nil so_far) ∙ ap (λ (r : List ℕ). so_far ++ ends_of end (lines r)) (sym e) ∙ is
