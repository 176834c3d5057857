-- The kinds of lines by their tests, and by what they are made of.
use Rattle.std.proofs.Common.{◌≡◌, ℕ, true, false, cond, ◌&&◌, List, [], ◌∷◌, ◌++◌, take, drop, refl, ap, sym, subst, ◌∙◌, inl, inr, ◌⊎◌}
use Rattle.std.specs.Prelude.{◌==◌}
use Rattle.std.proofs.lemmas.Bool.{cases_Bool, and_parts, or_cases, eqb-true}
use Rattle.std.proofs.lemmas.List.{take-append-drop, append-nil}
use Rattle.rb_script.specs.Lines.{Line}
use Rattle.rb_script.specs.Marks.{is_space, is_blank, trim_blanks, is_empty_or_comment, is_lead, rule, is_rule, is_separator, continues}
use Rattle.rb_script.specs.Joined.{body, joined}
use Rattle.rb_script.specs.LineParts.{AreBlanks, IsComment, IsRuleWithin, AsksForNext}
use Rattle.rb_script.specs.Runs.{while_of}
use Rattle.rb_script.proofs.ListLaws.{every_told, all_pass}
use Rattle.rb_script.proofs.RunLaws.{run_parts, run_all, after_over, run_whole}
use Rattle.rb_script.proofs.MarkLaws.{front_is, continues_at, body_at}
use Rattle.rb_script.proofs.ExpectationLaws.{rule_is}

-- ---- blanks

-- a blank is a space or a tab
pub space_sound : (b : ℕ) → is_space b ≡ true → (b ≡ 32) ⊎ (b ≡ 9)
space_sound b h =
    elim (or_cases (b == 32) (b == 9) h) [
      | inl e ↦ inl (eqb-true b 32 e)
      | inr e ↦ inr (eqb-true b 9 e)
    ]

-- and the other way round
pub space_complete : (b : ℕ) → (b ≡ 32) ⊎ (b ≡ 9) → is_space b ≡ true
space_complete b (inl e) = ap is_space e
space_complete b (inr e) = ap is_space e

-- a blank line is of blanks
pub blanks_sound : (line : Line) → is_blank line ≡ true → AreBlanks line
blanks_sound line h = every_told is_space (λ (b : ℕ). (b ≡ 32) ⊎ (b ≡ 9)) space_sound line h

-- and the other way round
pub blanks_complete : (line : Line) → AreBlanks line → is_blank line ≡ true
blanks_complete line h = all_pass is_space (λ (b : ℕ). (b ≡ 32) ⊎ (b ≡ 9)) space_complete line h

-- ---- what stands before the first byte that is no blank

-- blanks at the front are gone
front_gone : (blanks rest : Line) → AreBlanks blanks → trim_blanks (blanks ++ rest) ≡ trim_blanks rest
front_gone blanks rest h = front_is (blanks ++ rest) ∙ after_over is_space blanks rest (blanks_complete blanks h) ∙ sym (front_is rest)

-- each line is blanks and what is left
front_parts : (line : Line) → line ≡ while_of is_space line ++ trim_blanks line
front_parts line = sym (ap (λ (l : Line). while_of is_space line ++ l) (front_is line) ∙ run_parts is_space line)

front_blank : (line : Line) → AreBlanks (while_of is_space line)
front_blank line = blanks_sound (while_of is_space line) (run_all is_space line)

-- ---- lead lines

-- nothing, or a number sign
first_sound : (line : Line) → is_empty_or_comment line ≡ true → (line ≡ []) ⊎ ((text : Line) × (line ≡ 35 ∷ text))
first_sound [] h = inl refl
first_sound (b ∷ text) h = inr (text, ap (λ (x : ℕ). x ∷ text) (eqb-true b 35 h))

-- a lead line is blank or a comment
pub lead_sound : (line : Line) → is_lead line ≡ true → AreBlanks line ⊎ IsComment line
unfolding is_lead
lead_sound line h =
    let blanks = while_of is_space line in
    elim (first_sound (trim_blanks line) h) [
      | inl none ↦ inl (subst AreBlanks (sym (front_parts line ∙ ap (λ (l : Line). blanks ++ l) none ∙ append-nil blanks)) (front_blank line))
      | inr x ↦ inr (record { blanks = blanks; text = x.0; parts = front_parts line ∙ ap (λ (l : Line). blanks ++ l) x.1; blank = front_blank line })
    ]

-- and the other way round
pub lead_complete : (line : Line) → AreBlanks line ⊎ IsComment line → is_lead line ≡ true
unfolding is_lead trim_blanks
lead_complete line (inl blank) = ap is_empty_or_comment (front_is line ∙ (run_whole is_space line (blanks_complete line blank)).1)
lead_complete line (inr c) = ap (λ (l : Line). is_empty_or_comment (trim_blanks l)) c.parts ∙ ap is_empty_or_comment (front_gone c.blanks (35 ∷ c.text) c.blank)

-- ---- the line ----

-- the line ---- passes the test
pub rule_passes : (line : Line) → line ≡ rule → is_rule line ≡ true
unfolding is_rule
rule_passes line e = ap is_rule e

-- a separator is ---- with blanks around it
pub separator_sound : (line : Line) → is_separator line ≡ true → IsRuleWithin line
unfolding is_separator
separator_sound line h =
    let rest = trim_blanks line in
    let p = and_parts (is_rule (take 4 rest)) (is_blank (drop 4 rest)) h in
    record {
      before = while_of is_space line;
      after = drop 4 rest;
      parts = front_parts line ∙ ap (λ (l : Line). while_of is_space line ++ l) (sym (take-append-drop 4 rest) ∙ ap (λ (l : Line). l ++ drop 4 rest) (rule_is (take 4 rest) p.0));
      blank = (front_blank line, blanks_sound (drop 4 rest) p.1);
    }

-- and the other way round
pub separator_complete : (line : Line) → IsRuleWithin line → is_separator line ≡ true
unfolding is_separator is_rule trim_blanks
separator_complete line s =
    ap is_separator s.parts ∙ ap (λ (l : Line). is_rule (take 4 l) && is_blank (drop 4 l)) (front_gone s.before (rule ++ s.after) s.blank.0) ∙ blanks_complete s.after s.blank.1

-- ---- lines that ask for the next

-- a line that asks for the next ends in a backslash, but for blanks
pub continues_sound : (line : Line) → continues line ≡ true → AsksForNext line
unfolding continues
continues_sound [] h = absurd cc
continues_sound (b ∷ line) h =
    elim (cases_Bool (is_blank line)) [
      | inl t ↦
          let is : b ≡ 92 = eqb-true b 92 (sym (ap (λ x. cond x (b == 92) (continues line)) t) ∙ h) in
          record { body = []; blanks = line; parts = ap (λ (x : ℕ). x ∷ line) is; blank = blanks_sound line t }
      | inr f ↦
          let later = continues_sound line (sym (ap (λ x. cond x (b == 92) (continues line)) f) ∙ h) in
          record { body = b ∷ later.body; blanks = later.blanks; parts = ap (λ (l : Line). b ∷ l) later.parts; blank = later.blank }
    ]

-- and the other way round
pub continues_complete : (line : Line) → AsksForNext line → continues line ≡ true
continues_complete line a = ap continues a.parts ∙ continues_at a.body 92 a.blanks refl (blanks_complete a.blanks a.blank)

-- such a line is joined to the next by one blank
pub joined_next : (front blanks : Line) (ls : List Line) → AreBlanks blanks → joined ((front ++ 92 ∷ blanks) ∷ ls) ≡ front ++ 32 ∷ joined ls
unfolding joined
joined_next front blanks ls h =
    ap (λ x. cond x (body (front ++ 92 ∷ blanks) ++ 32 ∷ joined ls) (front ++ 92 ∷ blanks)) (continues_at front 92 blanks refl (blanks_complete blanks h))
    ∙ ap (λ (l : Line). l ++ 32 ∷ joined ls) (body_at front 92 blanks refl (blanks_complete blanks h))

-- the last line stands as it is
pub joined_last : (line : Line) → continues line ≡ false → joined (line ∷ []) ≡ line
unfolding joined
joined_last line f = ap (λ x. cond x (body line ++ 32 ∷ joined []) line) f
