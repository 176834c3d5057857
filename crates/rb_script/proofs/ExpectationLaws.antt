-- Expectations: what is read is in the relation, and what is in the relation is read.
use Rattle.std.proofs.Common.{◌≡◌, true, false, cond, not, ◌&&◌, List, [], ◌∷◌, ◌++◌, drop, Some, None, refl, ap, sym, subst, ◌∙◌, inl, inr, ◌⊎◌}
use Rattle.std.specs.List.{list_all}
use Rattle.std.proofs.lemmas.Bool.{cases_Bool, and_parts, and_from, not-true, not-false}
use Rattle.std.proofs.lemmas.List.{append-nil}
use Rattle.std.proofs.lemmas.Option.{some_pair_parts}
use Rattle.std.proofs.lemmas.Slice.Eq.{bytes_eq-Decides}
use Rattle.rb_script.specs.Lines.{Line}
use Rattle.rb_script.specs.Marks.{is_blank, is_plain, is_rule, rule}
use Rattle.rb_script.specs.Reads.{is_readable, ends_or_rules, begins_rule, begins_blank, ReadsPlain, ReadsDouble}
use Rattle.rb_script.specs.Runs.{while_of, after_while}
use Rattle.rb_script.specs.Expectations.{Expectation, with_line, to_pair, after_blank, then_blank, plain_at, expectation_at}
use Rattle.rb_script.proofs.RunLaws.{run_parts, run_all, after_first, run_of, after_run, run_whole}

-- ---- the double form

-- the line ---- is that line
pub rule_is : (line : Line) → is_rule line ≡ true → line ≡ rule
unfolding is_rule
rule_is line h = (bytes_eq-Decides line rule).0 h

-- a pair of lines ---- stands where the lines before it end
begins-pair : (e more : List Line) → begins_rule (e ++ rule ∷ rule ∷ more) ≡ ends_or_rules e
unfolding is_rule
begins-pair [] more = refl
begins-pair (line ∷ e) more = refl

-- lines that begin with ---- begin with that line
begins_is : (ls : List Line) → begins_rule ls ≡ true → ls ≡ rule ∷ drop 1 ls
begins_is [] h = absurd cc
begins_is (line ∷ ls) h = ap (λ (l : Line). l ∷ ls) (rule_is line h)

-- lines up to a pair of lines ----, which can be read back
pub record Pair (ls e more : List Line) : Type 0 where
  pub parts : ls ≡ e ++ rule ∷ rule ∷ more
  pub readable : is_readable e ≡ true

-- what is found
abbrev some_pair : List Line → List Line → Expectation
some_pair e more = Some (e, more)

-- the pair stands at the front
pair_here : (line : Line) (ls e more : List Line) → is_rule line ≡ true → begins_rule ls ≡ true → some_pair [] (drop 1 ls) ≡ some_pair e more → Pair (line ∷ ls) e more
pair_here line ls e more h g now =
    let both = some_pair_parts [] e (drop 1 ls) more now in
    let e-is = both.0 in
    let more-is = both.1 in
    subst (λ (x : List Line). Pair (line ∷ ls) x more) e-is (subst (λ (x : List Line). Pair (line ∷ ls) [] x) more-is (record {
      parts = ap (λ (l : Line). l ∷ ls) (rule_is line h) ∙ ap (λ (l : List Line). rule ∷ l) (begins_is ls g);
      readable = refl;
    }))

-- the pair stands behind one line more
pair_next : (line : Line) (ls e more : List Line) → (is_rule line && begins_rule ls) ≡ false → Pair ls e more → Pair (line ∷ ls) (line ∷ e) more
pair_next line ls e more f p = record {
  parts = ap (λ (l : List Line). line ∷ l) p.parts;
  readable = and_from (not (is_rule line && ends_or_rules e)) (is_readable e) (ap not (ap (λ b. is_rule line && b) (sym (ap begins_rule p.parts ∙ begins-pair e more)) ∙ f)) p.readable;
}

-- the rest was found
found_later : (line : Line) (found : Expectation) (e more : List Line) → with_line line found ≡ some_pair e more → (e' : List Line) × (found ≡ some_pair e' more) × (line ∷ e' ≡ e)
found_later line None e more h = absurd cc
found_later line (Some x) e more h = let both = some_pair_parts (line ∷ x.0) e x.1 more h in (x.0, ap (λ (m : List Line). some_pair x.0 m) both.1, both.0)

-- what stands before the first pair can be read back
pub pair_sound : (ls e more : List Line) → to_pair ls ≡ Some (e, more) → Pair ls e more
unfolding to_pair
pair_sound [] e more h = absurd cc
pair_sound (line ∷ ls) e more h =
    elim (cases_Bool (is_rule line && begins_rule ls)) [
      | inl t ↦
          let now : Some ([], drop 1 ls) ≡ Some (e, more) = sym (ap (λ b. cond b (Some ([], drop 1 ls)) (with_line line (to_pair ls))) t) ∙ h in
          let p = and_parts (is_rule line) (begins_rule ls) t in
          pair_here line ls e more p.0 p.1 now
      | inr f ↦
          let now : with_line line (to_pair ls) ≡ Some (e, more) = sym (ap (λ b. cond b (Some ([], drop 1 ls)) (with_line line (to_pair ls))) f) ∙ h in
          let later = found_later line (to_pair ls) e more now in
          subst (λ (x : List Line). Pair (line ∷ ls) x more) later.2 (pair_next line ls later.0 more f (pair_sound ls later.0 more later.1))
    ]

-- what can be read back is found before a pair
pub pair_complete : (e more : List Line) → is_readable e ≡ true → to_pair (e ++ rule ∷ rule ∷ more) ≡ Some (e, more)
unfolding to_pair is_rule
pair_complete [] more h = refl
pair_complete (line ∷ e) more h =
    let p = and_parts (not (is_rule line && ends_or_rules e)) (is_readable e) h in
    let f : (is_rule line && begins_rule (e ++ rule ∷ rule ∷ more)) ≡ false = ap (λ b. is_rule line && b) (begins-pair e more) ∙ not-true (is_rule line && ends_or_rules e) p.0 in
    ap (λ b. cond b (Some ([], drop 1 (e ++ rule ∷ rule ∷ more))) (with_line line (to_pair (e ++ rule ∷ rule ∷ more)))) f ∙ ap (with_line line) (pair_complete e more p.1)

-- ---- expectations

-- one blank line is taken if it is there
pub blank_sound : (more rest : List Line) → after_blank more ≡ rest → ((blank : Line) × (is_blank blank ≡ true) × (more ≡ blank ∷ rest)) ⊎ ((begins_blank rest ≡ false) × (more ≡ rest))
blank_sound [] rest e = inr (ap begins_blank (sym e), e)
blank_sound (line ∷ ls) rest e =
    elim (cases_Bool (is_blank line)) [
      | inl t ↦ inl (line, t, ap (λ (l : List Line). line ∷ l) (sym (ap (λ b. cond b ls (line ∷ ls)) t) ∙ e))
      | inr f ↦ let same : line ∷ ls ≡ rest = sym (ap (λ b. cond b ls (line ∷ ls)) f) ∙ e in inr (ap begins_blank (sym same) ∙ f, same)
    ]

-- and what is taken is what the relation says
pub blank_complete : (more rest : List Line) → ((blank : Line) × (is_blank blank ≡ true) × (more ≡ blank ∷ rest)) ⊎ ((begins_blank rest ≡ false) × (more ≡ rest)) → after_blank more ≡ rest
blank_complete more rest (inl found) = ap after_blank found.2 ∙ ap (λ b. cond b rest (found.0 ∷ rest)) found.1
blank_complete more [] (inr none) = ap after_blank none.1
blank_complete more (line ∷ rest) (inr none) = ap after_blank none.1 ∙ ap (λ b. cond b rest (line ∷ rest)) none.0

-- what was read is an expectation
pub record Expects (after e rest : List Line) : Type 0 where
  pub readable : is_readable e ≡ true
  pub expected : ReadsPlain after e rest ⊎ ReadsDouble after e rest

-- where the plain form was read
plain_closed : (ls onwards rest : List Line) → after_while is_plain ls ≡ onwards → after_blank onwards ≡ rest → ((blank : Line) × (is_blank blank ≡ true) × (ls ≡ while_of is_plain ls ++ blank ∷ rest)) ⊎ ((ls ≡ while_of is_plain ls) × (rest ≡ []))
plain_closed ls [] rest e h = inr (sym (run_parts is_plain ls) ∙ ap (λ (l : List Line). while_of is_plain ls ++ l) e ∙ append-nil (while_of is_plain ls), sym h)
plain_closed ls (blank ∷ onwards) rest e h =
    let t = not-false (is_blank blank) (after_first is_plain ls blank onwards e) in
    let rest-is : onwards ≡ rest = sym (ap (λ b. cond b onwards (blank ∷ onwards)) t) ∙ h in
    inl (blank, t, sym (run_parts is_plain ls) ∙ ap (λ (l : List Line). while_of is_plain ls ++ l) e ∙ ap (λ (l : List Line). while_of is_plain ls ++ blank ∷ l) rest-is)

-- the plain form that is read is in the relation
pub plain_sound : (ls e rest : List Line) → begins_rule ls ≡ false → plain_at ls ≡ some_pair e rest → Expects ls e rest
unfolding plain_at
plain_sound ls e rest first h =
    elim (cases_Bool (is_readable (while_of is_plain ls))) [
      | inl t ↦
          let both = some_pair_parts (while_of is_plain ls) e (after_blank (after_while is_plain ls)) rest
          (sym (ap (λ b. cond b (some_pair (while_of is_plain ls) (after_blank (after_while is_plain ls))) None) t) ∙ h) in
          subst (λ (x : List Line). Expects ls x rest) both.0 (record {
            readable = t;
            expected = inl (record { first = first; none_blank = run_all is_plain ls; closed = plain_closed ls (after_while is_plain ls) rest refl both.1 });
          })
      | inr f ↦ let no : None ≡ some_pair e rest = sym (ap (λ b. cond b (some_pair (while_of is_plain ls) (after_blank (after_while is_plain ls))) None) f) ∙ h in absurd cc
    ]

-- the plain form from its parts
pub plain_parts : (ls e rest : List Line) → while_of is_plain ls ≡ e → after_blank (after_while is_plain ls) ≡ rest → is_readable e ≡ true → plain_at ls ≡ some_pair e rest
unfolding plain_at
plain_parts ls e rest f g h =
    ap (λ b. cond b (some_pair (while_of is_plain ls) (after_blank (after_while is_plain ls))) None) (ap is_readable f ∙ h) ∙ ap (λ (l : List Line). some_pair l (after_blank (after_while is_plain ls))) f ∙ ap (λ (l : List Line). some_pair e l) g

-- the plain form in the relation is read
plain_cut : (ls e rest : List Line) → list_all is_plain e ≡ true → is_readable e ≡ true → ((blank : Line) × (is_blank blank ≡ true) × (ls ≡ e ++ blank ∷ rest)) ⊎ ((ls ≡ e) × (rest ≡ [])) → plain_at ls ≡ some_pair e rest
plain_cut ls e rest all readable (inl b) =
    let stops = ap not b.1 in
    plain_parts ls e rest (ap (while_of is_plain) b.2 ∙ run_of is_plain e (b.0 ∷ rest) all stops)
    (ap after_blank (ap (after_while is_plain) b.2 ∙ after_run is_plain e (b.0 ∷ rest) all stops) ∙ ap (λ t. cond t rest (b.0 ∷ rest)) b.1) readable
plain_cut ls e rest all readable (inr b) =
    let run = run_whole is_plain e all in
    plain_parts ls e rest (ap (while_of is_plain) b.0 ∙ run.0) (ap after_blank (ap (after_while is_plain) b.0 ∙ run.1) ∙ sym b.1) readable

-- what was found before the blank line was taken
then_is : (found : Expectation) (e rest : List Line) → then_blank found ≡ some_pair e rest → (more : List Line) × (found ≡ some_pair e more) × (after_blank more ≡ rest)
then_is None e rest h = absurd cc
then_is (Some x) e rest h = let both = some_pair_parts x.0 e (after_blank x.1) rest h in (x.1, ap (λ (l : List Line). some_pair l x.1) both.0, both.1)

-- the expectation that is read is in the relation
pub expectation_sound : (ls e rest : List Line) → expectation_at ls ≡ some_pair e rest → Expects ls e rest
unfolding expectation_at
expectation_sound ls e rest h =
    elim (cases_Bool (begins_rule ls)) [
      | inl t ↦
          let later = then_is (to_pair (drop 1 ls)) e rest (sym (ap (λ b. cond b (then_blank (to_pair (drop 1 ls))) (plain_at ls)) t) ∙ h) in
          let pair = pair_sound (drop 1 ls) e later.0 later.1 in
          record {
            readable = pair.readable;
            expected = inr (record { more = later.0; parts = begins_is ls t ∙ ap (λ (l : List Line). rule ∷ l) pair.parts; closed = blank_sound later.0 rest later.2 });
          }
      | inr f ↦ plain_sound ls e rest f (sym (ap (λ b. cond b (then_blank (to_pair (drop 1 ls))) (plain_at ls)) f) ∙ h)
    ]

-- the expectation in the relation is read
pub expectation_complete : (ls e rest : List Line) → is_readable e ≡ true → ReadsPlain ls e rest ⊎ ReadsDouble ls e rest → expectation_at ls ≡ some_pair e rest
unfolding expectation_at is_rule
expectation_complete ls e rest readable (inl p) = ap (λ b. cond b (then_blank (to_pair (drop 1 ls))) (plain_at ls)) p.first ∙ plain_cut ls e rest p.none_blank readable p.closed
expectation_complete ls e rest readable (inr d) =
    ap (λ (l : List Line). cond (begins_rule l) (then_blank (to_pair (drop 1 l))) (plain_at l)) d.parts ∙ ap then_blank (pair_complete e d.more readable) ∙ ap (λ (l : List Line). some_pair e l) (blank_complete d.more rest d.closed)
