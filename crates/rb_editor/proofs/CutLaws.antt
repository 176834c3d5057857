-- The lines of a text in which others were put in the place of some.
use Rattle.std.proofs.Common.{◌≡◌, ◌∙◌, ℕ, zero, suc, ◌-◌, ◌<◌, ◌≤◌, Bool, true, false, List, [], ◌∷◌, ◌++◌, length, take, drop, map, refl, ap, sym, arith, append_assoc}
use Rattle.std.specs.Prelude.{◌==◌, ◌&&◌, not, nat_le, if◌then◌else◌, slice_get}
use Rattle.std.specs.List.{list_all, AllByRecursion}
use Rattle.std.proofs.lemmas.Bool.{and_parts}
use Rattle.std.proofs.lemmas.Bool.Decides.{nat_tests}
use Rattle.std.proofs.lemmas.List.{length-map, map-append, drop-map, drop_all, nil_from_length, take_all, take-map}
use Rattle.rb_script.specs.Lines.{Line, cut, in_first, lines, text_of, without_returns}
use Rattle.rb_script.specs.Marks.{rule}
use Rattle.rb_script.specs.LineParts.{IsSolid}
use Rattle.rb_script.specs.Valid.{IsLine}
use Rattle.rb_script.specs.Edits.{is_text_line}
use Rattle.rb_script.specs.Reads.{is_readable}
use Rattle.rb_script.proofs.ListLaws.{every-append}
use Rattle.rb_script.proofs.SharedLaws.{text_lines}
use Rattle.rb_script.proofs.SolidLaws.{solid_expected}
use Rattle.rb_script.proofs.TextLaws.{cut_line}
use Rattle.rb_lsp.specs.Changes.{spliced}
use Rattle.rb_lsp.specs.Tables.{feed_start}
use Rattle.rb_editor.specs.declared.actions.extent.Extent.{Extent}
use Rattle.rb_editor.specs.Actions.{end_above, form, has_end, is_feed, new_text}
use Rattle.rb_editor.specs.ActionLaws.{with_lines}

-- ---- lines and their bytes

-- so many lines have an end
unfoldable pub are_whole : ℕ → List ℕ → Bool
are_whole zero t = true
are_whole (suc n) [] = false
are_whole (suc n) (b ∷ t) = if b == 10 then are_whole n t else are_whole (suc n) t

-- a byte more in the first line leaves the others
drop_first : (b n : ℕ) (ls : List Line) → drop (suc n) ls ≡ drop (suc n) (in_first b ls)
drop_first b n [] = sym (drop_all n [] (omega arith))
drop_first b n (l ∷ ls) = refl

-- what stands behind n lines are the other lines
pub lines_behind : (n : ℕ) (t : List ℕ) → cut (drop (feed_start n t) t) ≡ drop n (cut t)
unfolding feed_start cut
lines_behind zero t = refl
lines_behind (suc n) [] = refl
lines_behind (suc n) (b ∷ t) =
    elim (b == 10) as (λ (x : Bool). cut (drop (if x then feed_start n t else feed_start (suc n) t) t) ≡ drop (suc n) (if x then [] ∷ cut t else in_first b (cut t))) [
      | true ↦ lines_behind n t
      | false ↦ lines_behind (suc n) t ∙ drop_first b n (cut t)
    ]

-- a text that isn't empty has a line
first_some : (b : ℕ) (ls : List Line) → in_first b ls ≡ [] → ⊥
first_some b [] e = cc
first_some b (l ∷ ls) e = cc

cut_some : (b : ℕ) (t : List ℕ) → cut (b ∷ t) ≡ [] → ⊥
unfolding cut
cut_some b t = elim (b == 10) as (λ (x : Bool). (if x then [] ∷ cut t else in_first b (cut t)) ≡ [] → ⊥) [ true ↦ λ e. cc | false ↦ first_some b (cut t) ]

-- a byte more in the first of some lines that are there
first_more : (b n : ℕ) (ls more : List Line) → (ls ≡ [] → ⊥) → in_first b (take (suc n) ls ++ more) ≡ take (suc n) (in_first b ls) ++ more
first_more b n [] more some = absurd (some refl)
first_more b n (l ∷ ls) more some = refl

first_behind : (b : ℕ) (ls more : List Line) → (ls ≡ [] → ⊥) → in_first b (ls ++ more) ≡ in_first b ls ++ more
first_behind b [] more some = absurd (some refl)
first_behind b (l ∷ ls) more some = refl

first_len : (b : ℕ) (ls : List Line) → (ls ≡ [] → ⊥) → length (in_first b ls) ≡ length ls
first_len b [] some = absurd (some refl)
first_len b (l ∷ ls) some = refl

whole_some : (n : ℕ) (t : List ℕ) → are_whole (suc n) t ≡ true → cut t ≡ [] → ⊥
unfolding are_whole
whole_some n [] whole = absurd cc
whole_some n (b ∷ t) whole = cut_some b t

-- lines that have ends stand before whatever follows
pub lines_before : (n : ℕ) (t more : List ℕ) → are_whole n t ≡ true → cut (take (feed_start n t) t ++ more) ≡ take n (cut t) ++ cut more
unfolding feed_start cut are_whole
lines_before zero t more whole = refl
lines_before (suc n) [] more whole = absurd cc
lines_before (suc n) (b ∷ t) more whole =
    elim (b == 10) as (λ (x : Bool). (if x then are_whole n t else are_whole (suc n) t) ≡ true
    → (if x then [] ∷ cut (take (if x then feed_start n t else feed_start (suc n) t) t ++ more) else in_first b (cut (take (if x then feed_start n t else feed_start (suc n) t) t ++ more)))
    ≡ take (suc n) (if x then [] ∷ cut t else in_first b (cut t)) ++ cut more) [
      | true ↦ λ w. ap (λ (ls : List Line). [] ∷ ls) (lines_before n t more w)
      | false ↦ λ w. ap (in_first b) (lines_before (suc n) t more w) ∙ first_more b n (cut t) (cut more) (whole_some n t w)
    ] whole

-- ---- which lines have ends

more_first : (b n : ℕ) (ls : List Line) → suc n < length (in_first b ls) → suc n < length ls
more_first b n [] less = absurd (omega (arith, less))
more_first b n (l ∷ ls) less = less

-- all but the last
pub whole_within : (n : ℕ) (t : List ℕ) → n < length (cut t) → are_whole n t ≡ true
unfolding cut are_whole
whole_within zero t less = refl
whole_within (suc n) [] less = absurd (omega (arith, less))
whole_within (suc n) (b ∷ t) less =
    elim (b == 10) as (λ (x : Bool). suc n < length (if x then [] ∷ cut t else in_first b (cut t)) → (if x then are_whole n t else are_whole (suc n) t) ≡ true) [
      | true ↦ λ l. whole_within n t (omega (arith, l))
      | false ↦ λ l. whole_within (suc n) t (more_first b n (cut t) l)
    ] less

-- a text of two bytes or more ends as without its first
end_later : (b c : ℕ) (t : List ℕ) → has_end (b ∷ c ∷ t) ≡ has_end (c ∷ t)
end_later b c t =
    let one : length (b ∷ c ∷ t) - 1 ≡ suc (length t) = omega arith in
    let other : length (c ∷ t) - 1 ≡ length t = omega arith in
    ap (λ (k : ℕ). is_feed (slice_get (b ∷ c ∷ t) k)) one ∙ ap (λ (k : ℕ). is_feed (slice_get (c ∷ t) k)) (sym other)

-- and the last too, where the text has an end
pub whole_ended : (n : ℕ) (t : List ℕ) → n ≤ length (cut t) → has_end t ≡ true → are_whole n t ≡ true
unfolding cut are_whole
whole_ended zero t most ends = refl
whole_ended (suc n) [] most ends = absurd (omega (arith, most))
whole_ended (suc n) (b ∷ []) most ends =
    elim (b == 10) as (λ (x : Bool). x ≡ true → suc n ≤ length (if x then [] ∷ [] else in_first b []) → (if x then are_whole n [] else false) ≡ true) [
      | true ↦ λ e l. let none : n ≡ 0 = omega (arith, l) in ap (λ (k : ℕ). are_whole k []) none
      | false ↦ λ e l. absurd cc
    ] ends most
whole_ended (suc n) (b ∷ c ∷ t) most ends =
    let later = sym (end_later b c t) ∙ ends in
    elim (b == 10) as (λ (x : Bool). suc n ≤ length (if x then [] ∷ cut (c ∷ t) else in_first b (cut (c ∷ t))) → (if x then are_whole n (c ∷ t) else are_whole (suc n) (c ∷ t)) ≡ true) [
      | true ↦ λ l. whole_ended n (c ∷ t) (omega (arith, l)) later
      | false ↦ λ l. whole_ended (suc n) (c ∷ t) (omega (arith, l, first_len b (cut (c ∷ t)) (cut_some c t))) later
    ] most

-- ---- a last line without an end

open_lines : (b : ℕ) (t more : List ℕ) → has_end (b ∷ t) ≡ false → cut (b ∷ (t ++ 10 ∷ more)) ≡ cut (b ∷ t) ++ cut more
unfolding cut
open_lines b [] more unended =
    ap (λ (x : Bool). if x then [] ∷ cut (10 ∷ more) else in_first b (cut (10 ∷ more))) unended ∙ sym (ap (λ (x : Bool). (if x then [] ∷ [] else in_first b []) ++ cut more) unended)
open_lines b (c ∷ t) more unended =
    let later = open_lines c t more (sym (end_later b c t) ∙ unended) in
    elim (b == 10) as (λ (x : Bool). (if x then [] ∷ cut (c ∷ (t ++ 10 ∷ more)) else in_first b (cut (c ∷ (t ++ 10 ∷ more)))) ≡ (if x then [] ∷ cut (c ∷ t) else in_first b (cut (c ∷ t))) ++ cut more) [
      | true ↦ ap (λ (ls : List Line). [] ∷ ls) later
      | false ↦ ap (in_first b) later ∙ first_behind b (cut (c ∷ t)) (cut more) (cut_some c t)
    ]

-- behind all lines stands nothing
open_start : (n b : ℕ) (t : List ℕ) → has_end (b ∷ t) ≡ false → length (cut (b ∷ t)) ≤ n → feed_start n (b ∷ t) ≡ length (b ∷ t)
unfolding cut feed_start
open_start zero b t unended past = absurd (cut_some b t (nil_from_length (cut (b ∷ t)) (omega (arith, past))))
open_start (suc n) b [] unended past = ap (λ (x : Bool). suc (if x then feed_start n [] else 0)) unended
open_start (suc n) b (c ∷ t) unended past =
    let later = sym (end_later b c t) ∙ unended in
    elim (b == 10) as (λ (x : Bool). length (if x then [] ∷ cut (c ∷ t) else in_first b (cut (c ∷ t))) ≤ suc n → suc (if x then feed_start n (c ∷ t) else feed_start (suc n) (c ∷ t)) ≡ suc (suc (length t))) [
      | true ↦ λ l. ap (λ (k : ℕ). suc k) (open_start n c t later (omega (arith, l)))
      | false ↦ λ l. ap (λ (k : ℕ). suc k) (open_start (suc n) c t later (omega (arith, l, first_len b (cut (c ∷ t)) (cut_some c t))))
    ] past

-- all lines, the last of which gets an end, stand before whatever follows
pub open_before : (n : ℕ) (t more : List ℕ) → 1 ≤ length (cut t) → has_end t ≡ false → n ≡ length (cut t) → cut (take (feed_start n t) t ++ 10 ∷ more) ≡ take n (cut t) ++ cut more
unfolding cut
open_before n [] more some unended all = absurd (omega (arith, some))
open_before n (b ∷ t) more some unended all =
    ap (λ (l : List ℕ). cut (l ++ 10 ∷ more)) (take_all (feed_start n (b ∷ t)) (b ∷ t) (omega (arith, open_start n b t unended (omega (arith, all)))))
    ∙ open_lines b t more unended
    ∙ ap (λ (ls : List Line). ls ++ cut more) (sym (take_all n (cut (b ∷ t)) (omega (arith, all))))

-- ---- lines that are put in

-- lines as they are
cut_text : (ls : List Line) (more : List ℕ) → AllByRecursion IsLine ls → cut (text_of ls ++ more) ≡ ls ++ cut more
cut_text [] more all = refl
cut_text (line ∷ ls) more all =
    ap cut (append_assoc (line ++ 10 ∷ []) (text_of ls) more ∙ append_assoc line (10 ∷ []) (text_of ls ++ more))
    ∙ cut_line line (text_of ls ++ more) all.0.no_end ∙ ap (λ (l : List Line). line ∷ l) (cut_text ls more all.1)

kept : (ls : List Line) → AllByRecursion IsLine ls → map without_returns ls ≡ ls
kept [] all = refl
kept (line ∷ ls) all = ap (λ (l : Line). l ∷ map without_returns ls) all.0.no_return ∙ ap (λ (l : List Line). line ∷ l) (kept ls all.1)

-- what ends the line above, by the lines as they are cut
above_is : (n : ℕ) (t more : List ℕ) (past ends : Bool) → nat_le (length (cut t)) n ≡ past → has_end t ≡ ends → 1 ≤ n → n ≤ length (cut t)
    → cut (take (feed_start n t) t ++ ((if past && not ends then 10 ∷ [] else []) ++ more)) ≡ take n (cut t) ++ cut more
above_is n t more true true p e some most = lines_before n t more (whole_ended n t most e)
above_is n t more false true p e some most = lines_before n t more (whole_ended n t most e)
above_is n t more false false p e some most = lines_before n t more (whole_within n t (grind (arith, nat_tests, p)))
above_is n t more true false p e some most = open_before n t more (omega (arith, some, most)) e (grind (arith, nat_tests, p, most))

rule_line : IsLine rule
unfolding without_returns
rule_line = record { no_end = refl; no_return = refl; short = omega arith }

solid_all : (output : List Line) → AllByRecursion IsSolid output → AllByRecursion IsLine output
solid_all output solid = text_lines output (and_parts (is_readable output) (list_all is_text_line output) (solid_expected output solid)).1

form_lines : (is_double : Bool) (output : List Line) → AllByRecursion IsSolid output → AllByRecursion IsLine (form is_double output)
form_lines false output solid = solid_all output solid
form_lines true output solid = (rule_line, every-append IsLine output (rule ∷ rule ∷ []) (solid_all output solid) (rule_line, (rule_line, tt)))

pub edited_cut : (t : List ℕ) (e : Extent) (output : List Line) → 1 ≤ e.expected → e.expected ≤ length (lines t) → AllByRecursion IsSolid output
    → lines (spliced (feed_start e.expected t) (feed_start e.end t) (new_text t (lines t) e output) t) ≡ with_lines (lines t) e output
unfolding lines new_text
edited_cut t e output some most solid =
    let n = e.expected in
    let raw = cut t in
    let put = form e.is_double output in
    let are = form_lines e.is_double output solid in
    let rest = drop (feed_start e.end t) t in
    let len : length (map without_returns raw) ≡ length raw = length-map raw without_returns in
    let above = end_above t (map without_returns raw) e in
    let all : cut (take (feed_start n t) t ++ ((above ++ text_of put) ++ rest)) ≡ take n raw ++ (put ++ drop e.end raw) =
    ap (λ (l : List ℕ). cut (take (feed_start n t) t ++ l)) (append_assoc above (text_of put) rest)
    ∙ ap (λ (k : ℕ). cut (take (feed_start n t) t ++ ((if nat_le k n && not (has_end t) then 10 ∷ [] else []) ++ (text_of put ++ rest)))) len
    ∙ above_is n t (text_of put ++ rest) (nat_le (length raw) n) (has_end t) refl refl some (omega (arith, most, len))
    ∙ ap (λ (l : List Line). take n raw ++ l) (cut_text put rest are ∙ ap (λ (l : List Line). put ++ l) (lines_behind e.end t)) in
    ap (λ (l : List ℕ). map without_returns (cut l)) (append_assoc (take (feed_start n t) t) (above ++ text_of put) rest)
    ∙ ap (map without_returns) all
    ∙ map-append without_returns (take n raw) (put ++ drop e.end raw)
    ∙ ap (λ (l : List Line). l ++ map without_returns (put ++ drop e.end raw)) (sym (take-map without_returns n raw))
    ∙ ap (λ (l : List Line). take n (map without_returns raw) ++ l)
    (map-append without_returns put (drop e.end raw) ∙ ap (λ (l : List Line). l ++ map without_returns (drop e.end raw)) (kept put are) ∙ ap (λ (l : List Line). put ++ l) (sym (drop-map without_returns e.end raw)))
