-- Above the head of each block of a script are whole blocks and lead lines, and so a head can be written there.
use Rattle.std.proofs.Common.{◌≡◌, ◌∙◌, ℕ, ◌+◌, ◌-◌, ◌<◌, true, false, List, [], ◌∷◌, ◌++◌, length, take, refl, ap, sym, subst, arith, append_assoc, length-append, inl, inr, ◌⊎◌}
use Rattle.std.specs.Prelude.{◌&&◌, not}
use Rattle.std.specs.List.{list_all}
use Rattle.std.proofs.lemmas.Bool.{and_parts, not-true}
use Rattle.std.proofs.lemmas.List.{append_cancel_right, take_at}
use Rattle.rb_script.specs.Lines.{Line}
use Rattle.rb_script.specs.Marks.{continues, is_blank, is_lead, is_rule, is_separator, is_space, is_empty_or_comment, rule, trim_blanks}
use Rattle.rb_script.specs.Script.{PlainBlock}
use Rattle.rb_script.specs.Reads.{IsContinued, ReadsPlain, ReadsDouble, ReadsBlock, ReadsSome, begins_lead, begins_rule, ends_or_rules, is_readable}
use Rattle.rb_script.proofs.LinePartLaws.{rule_passes}
use Rattle.rb_lsp.proofs.PlaceLaws.{test_cases}
use Rattle.rb_editor.specs.declared.offers.part.Part.{Part}
use Rattle.rb_editor.specs.declared.offers.part.Part.TheVariants.{Lead, Head, Input, First, Plain, Double, Closing}
use Rattle.rb_editor.specs.Above.{begins_head, behind_lines, kept, next}
use Rattle.rb_editor.specs.BlockLines.{StandsIn}
use Rattle.rb_editor.proofs.BlockLaws.{regrouped}

-- ---- runs of lines

one_by_one : (p : Part) (head : List ℕ) (xs ys : List Line) → behind_lines p head (xs ++ ys) ≡ behind_lines (behind_lines p head xs).0 (behind_lines p head xs).1 ys
unfolding behind_lines
one_by_one p head [] ys = refl
one_by_one p head (x ∷ xs) ys = one_by_one (next p x) (kept (next p x) x head) xs ys

then_lines : (p q : Part) (head : List ℕ) (xs ys : List Line) → behind_lines p head xs ≡ (q, []) → behind_lines p head (xs ++ ys) ≡ behind_lines q [] ys
then_lines p q head xs ys first = one_by_one p head xs ys ∙ ap (λ (s : Part × List ℕ). behind_lines s.0 s.1 ys) first

-- one line, of which it is known what follows it, and that it is no head
one_line : (p q : Part) (x : Line) (xs : List Line) → next p x ≡ q → kept q x [] ≡ [] → behind_lines p [] (x ∷ xs) ≡ behind_lines q [] xs
unfolding behind_lines
one_line p q x xs step no_head = ap (λ (r : Part). behind_lines r (kept r x []) xs) step ∙ ap (λ (h : List ℕ). behind_lines q h xs) no_head

no_lines : (p : Part) (head : List ℕ) → behind_lines p head [] ≡ (p, head)
unfolding behind_lines
no_lines p head = refl

lead_lines : (ls : List Line) → list_all is_lead ls ≡ true → behind_lines Lead [] ls ≡ (Lead, [])
lead_lines [] all = no_lines Lead []
lead_lines (x ∷ xs) all =
    let b = and_parts (is_lead x) (list_all is_lead xs) all in
    let step : next Lead x ≡ Lead = rw b.0 refl in
    one_line Lead Lead x xs step refl ∙ lead_lines xs b.1

-- the last line of a head, whatever is known of it so far
last_line : (p : Part) (head : List ℕ) (x : Line) → next p x ≡ begins_head x → continues x ≡ false → behind_lines p head (x ∷ []) ≡ (Input, [])
unfolding behind_lines
last_line p head x step last =
    let behind : begins_head x ≡ Input = rw last refl in
    ap (λ (q : Part). behind_lines q (kept q x head) []) (step ∙ behind)

-- a line of a head that asks for the next
next_line : (p : Part) (head : List ℕ) (x : Line) (xs : List Line) → next p x ≡ begins_head x → continues x ≡ true → behind_lines p head (x ∷ xs) ≡ behind_lines Head (kept Head x head) xs
unfolding behind_lines
next_line p head x xs step more =
    let behind : begins_head x ≡ Head = rw more refl in
    ap (λ (q : Part). behind_lines q (kept q x head) xs) (step ∙ behind)

-- a head, whatever is known of it so far
head_lines : (p : Part) (head : List ℕ) (x : Line) (xs : List Line) → next p x ≡ begins_head x → IsContinued (x ∷ xs) → behind_lines p head (x ∷ xs) ≡ (Input, [])
head_lines p head x [] step last = last_line p head x step last
head_lines p head x (y ∷ ys) step more = next_line p head x (y ∷ ys) step more.0 ∙ head_lines Head (kept Head x head) y ys refl more.1

whole_head : (head : List Line) → begins_lead head ≡ false → IsContinued head → behind_lines Lead [] head ≡ (Input, [])
whole_head [] begin more = absurd more
whole_head (x ∷ xs) begin more = let step : next Lead x ≡ begins_head x = rw begin refl in head_lines Lead [] x xs step more

input_lines : (ls : List Line) → list_all (λ (line : Line). not (is_separator line)) ls ≡ true → behind_lines Input [] ls ≡ (Input, [])
input_lines [] all = no_lines Input []
input_lines (x ∷ xs) all =
    let b = and_parts (not (is_separator x)) (list_all (λ (line : Line). not (is_separator line)) xs) all in
    let other = not-true (is_separator x) b.0 in
    let step : next Input x ≡ Input = rw other refl in
    one_line Input Input x xs step refl ∙ input_lines xs b.1

-- ---- an expectation

plain_lines : (ls : List Line) (blank : Line) → list_all (λ (line : Line). not (is_blank line)) ls ≡ true → is_blank blank ≡ true → behind_lines Plain [] (ls ++ blank ∷ []) ≡ (Lead, [])
plain_lines [] blank all is = let step : next Plain blank ≡ Lead = rw is refl in one_line Plain Lead blank [] step refl ∙ no_lines Lead []
plain_lines (x ∷ xs) blank all is =
    let b = and_parts (not (is_blank x)) (list_all (λ (line : Line). not (is_blank line)) xs) all in
    let some = not-true (is_blank x) b.0 in
    let step : next Plain x ≡ Plain = rw some refl in
    one_line Plain Plain x (xs ++ blank ∷ []) step refl ∙ plain_lines xs blank b.1 is

plain_form : (e rest : List Line) (blank : Line) → begins_rule (e ++ blank ∷ rest) ≡ false → list_all (λ (line : Line). not (is_blank line)) e ≡ true → is_blank blank ≡ true
    → behind_lines First [] (e ++ blank ∷ []) ≡ (Lead, [])
plain_form [] rest blank first all is = let step : next First blank ≡ Lead = rw (first, is) refl in one_line First Lead blank [] step refl ∙ no_lines Lead []
plain_form (x ∷ xs) rest blank first all is =
    let b = and_parts (not (is_blank x)) (list_all (λ (line : Line). not (is_blank line)) xs) all in
    let some = not-true (is_blank x) b.0 in
    let step : next First x ≡ Plain = rw (first, some) refl in
    one_line First Plain x (xs ++ blank ∷ []) step refl ∙ plain_lines xs blank b.1 is

double_lines : (e more : List Line) → is_readable e ≡ true → behind_lines Double [] (e ++ rule ∷ rule ∷ more) ≡ behind_lines Lead [] more
double_lines [] more readable =
    let opens : next Double rule ≡ Closing = rw (rule_passes rule refl) refl in
    let closes : next Closing rule ≡ Lead = rw (rule_passes rule refl) refl in
    one_line Double Closing rule (rule ∷ more) opens refl ∙ one_line Closing Lead rule more closes refl
double_lines (x ∷ []) more readable =
    test_cases (is_rule x)
    (λ last. let wrong : false ≡ true = rw last at readable in absurd cc)
    (λ other. let step : next Double x ≡ Double = rw other refl in one_line Double Double x (rule ∷ rule ∷ more) step refl ∙ double_lines [] more refl)
double_lines (x ∷ y ∷ ys) more readable =
    let b = and_parts (not (is_rule x && is_rule y)) (is_readable (y ∷ ys)) readable in
    test_cases (is_rule x)
    (λ opens. let other : is_rule y ≡ false = test_cases (is_rule y) (λ closes. let wrong : false ≡ true = rw (opens, closes) at b.0 in absurd cc) (λ no. no) in
    let first : next Double x ≡ Closing = rw opens refl in
    let second : next Closing y ≡ Double = rw other refl in
    let left = and_parts (not (is_rule y && ends_or_rules ys)) (is_readable ys) b.1 in
    one_line Double Closing x (y ∷ (ys ++ rule ∷ rule ∷ more)) first refl ∙ one_line Closing Double y (ys ++ rule ∷ rule ∷ more) second refl ∙ double_lines ys more left.1)
    (λ other. let step : next Double x ≡ Double = rw other refl in one_line Double Double x (y ∷ (ys ++ rule ∷ rule ∷ more)) step refl ∙ double_lines (y ∷ ys) more b.1)

double_form : (e more : List Line) → is_readable e ≡ true → behind_lines First [] (rule ∷ (e ++ rule ∷ rule ∷ more)) ≡ behind_lines Lead [] more
double_form e more readable = let step : next First rule ≡ Double = rw (rule_passes rule refl) refl in one_line First Double rule (e ++ rule ∷ rule ∷ more) step refl ∙ double_lines e more readable

blank_front : (line : Line) → is_blank line ≡ true → trim_blanks line ≡ []
unfolding trim_blanks
blank_front [] is = refl
blank_front (b ∷ line) is = let p = and_parts (is_space b) (list_all is_space line) is in rw p.0 (blank_front line p.1)

blank_lead : (line : Line) → is_blank line ≡ true → is_lead line ≡ true
unfolding is_lead
blank_lead line is = ap is_empty_or_comment (blank_front line is)

-- lines that were read, after which a head can be written
record Closes (p : Part) (ls rest : List Line) : Type 0 where
  front : List Line
  parts : ls ≡ front ++ rest
  closed : behind_lines p [] front ≡ (Lead, [])

expectation_closes : (after e rest : List Line) → is_readable e ≡ true → ReadsPlain after e rest ⊎ ReadsDouble after e rest → 0 < length rest → Closes First after rest
expectation_closes after e rest readable (inl p) some =
    elim p.closed [
      | inl b ↦ let first : begins_rule (e ++ b.0 ∷ rest) ≡ false = ap begins_rule (sym b.2) ∙ p.first in
          record { front = e ++ b.0 ∷ []; parts = b.2 ∙ sym (append_assoc e (b.0 ∷ []) rest); closed = plain_form e rest b.0 first p.none_blank b.1 }
      | inr b ↦ absurd (omega (arith, some, ap length b.1))
    ]
expectation_closes after e rest readable (inr d) some =
    let shown : (more : List Line) → d.more ≡ more → after ≡ (rule ∷ e) ++ (rule ∷ rule ∷ more) = λ more is. d.parts ∙ ap (λ (l : List Line). (rule ∷ e) ++ (rule ∷ rule ∷ l)) is in
    elim d.closed [
      | inl b ↦ let step : next Lead b.0 ≡ Lead = rw (blank_lead b.0 b.1) refl in
          record {
            front = (rule ∷ e) ++ (rule ∷ rule ∷ b.0 ∷ []);
            parts = shown (b.0 ∷ rest) b.2 ∙ sym (append_assoc (rule ∷ e) (rule ∷ rule ∷ b.0 ∷ []) rest);
            closed = double_form e (b.0 ∷ []) readable ∙ one_line Lead Lead b.0 [] step refl ∙ no_lines Lead [];
          }
      | inr b ↦ record {
        front = (rule ∷ e) ++ (rule ∷ rule ∷ []);
        parts = shown rest b.1 ∙ sym (append_assoc (rule ∷ e) (rule ∷ rule ∷ []) rest);
        closed = double_form e [] readable ∙ no_lines Lead [];
      }
    ]

block_closes : (ls rest : List Line) (b : PlainBlock) → ReadsBlock ls b rest → 0 < length rest → Closes Lead ls rest
block_closes ls rest b r some =
    let e = expectation_closes r.after b.expected rest r.readable r.expected some in
    let step : next Input r.separator ≡ First = rw r.separates refl in
    let below = r.separator ∷ e.front in
    record {
      front = b.lead ++ (b.head ++ (b.input ++ below));
      parts = r.parts ∙ ap (λ (after : List Line). b.lead ++ (b.head ++ (b.input ++ r.separator ∷ after))) e.parts ∙ sym (regrouped b.lead b.head b.input e.front rest r.separator);
      closed = then_lines Lead Lead [] b.lead (b.head ++ (b.input ++ below)) (lead_lines b.lead r.lead)
          ∙ then_lines Lead Input [] b.head (b.input ++ below) (whole_head b.head r.head.0 r.head.1)
          ∙ then_lines Input Input [] b.input below (input_lines b.input r.input)
          ∙ one_line Input First r.separator e.front step refl
          ∙ e.closed;
    }

some_close : (ls rest : List Line) (bs : List PlainBlock) → ReadsSome ls bs rest → 0 < length rest → Closes Lead ls rest
some_close ls rest [] reads some = record { front = []; parts = reads; closed = no_lines Lead [] }
some_close ls rest (b ∷ bs) reads some =
    let later = some_close reads.0 rest bs reads.2 some in
    let len : length reads.0 ≡ length later.front + length rest = ap length later.parts ∙ length-append later.front rest in
    let first = block_closes ls reads.0 b reads.1 (omega (arith, len, some)) in
    record {
      front = first.front ++ later.front;
      parts = first.parts ∙ ap (λ (l : List Line). first.front ++ l) later.parts ∙ sym (append_assoc first.front later.front rest);
      closed = then_lines Lead Lead [] first.front later.front first.closed ∙ later.closed;
    }

-- ---- the line of a head

some_lines : (ls rest : List Line) (b : PlainBlock) → ReadsBlock ls b rest → 0 < length ls
some_lines ls rest b r =
    omega (arith, ap length r.parts, length-append b.lead (b.head ++ (b.input ++ r.separator ∷ r.after)), length-append b.head (b.input ++ r.separator ∷ r.after), length-append b.input (r.separator ∷ r.after))

-- lines that are whole blocks and lead lines
above_known : (above lead from : List Line) (bs : List PlainBlock) → ReadsSome (above ++ from) bs (lead ++ from) → list_all is_lead lead ≡ true → 0 < length (lead ++ from)
    → behind_lines Lead [] above ≡ (Lead, [])
above_known above lead from bs reads leads some =
    let c = some_close (above ++ from) (lead ++ from) bs reads some in
    let same : above ≡ c.front ++ lead = append_cancel_right above (c.front ++ lead) from (c.parts ∙ sym (append_assoc c.front lead from)) in
    ap (behind_lines Lead []) same ∙ then_lines Lead Lead [] c.front lead c.closed ∙ lead_lines lead leads

pub heads_known : (ls : List Line) (n : ℕ) (b : PlainBlock) → StandsIn ls n b → behind_lines Lead [] (take (n - 1) ls) ≡ (Lead, [])
heads_known ls n b h =
    let line = h.line in
    let rest = b.lead ++ line.from in
    let above = line.front ++ b.lead in
    let parts : ls ≡ above ++ line.from = line.parts ∙ sym (append_assoc line.front b.lead line.from) in
    let count : length above ≡ n - 1 = omega (arith, length-append line.front b.lead, line.number) in
    let is_above : take (n - 1) ls ≡ above = ap (take (n - 1)) parts ∙ take_at above line.from (n - 1) count in
    let reads : ReadsSome (above ++ line.from) h.before rest = subst (λ (l : List Line). ReadsSome l h.before rest) parts line.front_is in
    ap (behind_lines Lead []) is_above
    ∙ above_known above b.lead line.from h.before reads line.block.lead (some_lines rest line.rest b line.block)
