use Rattle.std.proofs.Common.{◌∙◌, ◌++◌, List, [], ◌∷◌, ℕ, ap, rules, string_bytes, lit<}
use Rattle.std.specs.List.{list_any}
use Rattle.rb_program.proofs.ShownLaws.{all_shown, cut_at, is_feed, none_at_all, none_before, none_shown, one_more}
use Rattle.rb_program.proofs.shown.shown_text.Goals as goal

pub loop-line-init : goal.loop-line-init
loop-line-init c = (search rules, none_shown c.args.text.now _ c.new-shown.ensures.bytes)

pub loop-line-preserved : goal.loop-line-preserved
loop-line-preserved c =
    let rest = c.loop-line.rest.now in
    let line = c.in-Some.line.now in
    let below = c.in-Some.below.now in
    let shown = string_bytes c.loop-line.shown in
    let word = string_bytes c.in_ok-word.word in
    let cut = c.in-Some.ensures.byte (lit< tt) (λ w o h. h) in
    let with_word = c.in_ok-push_str.ensures.bytes ∙ ap (λ (xs : List ℕ). shown ++ xs) c.as_str.ensures.value in
    let grown = c.in_ok-push_str-2.ensures.bytes ∙ ap (λ (xs : List ℕ). xs ++ (10 ∷ [])) with_word in
    let none = ap (λ (xs : List ℕ). list_any is_feed xs) cut.0 ∙ none_before rest in
    (search rules, one_more c.args.text.now rest shown line below word _ c.loop-line.invariant.1 (cut_at rest line below cut.0 cut.1 cut.2) (none, c.in_ok-word.ensures) grown)

pub returns : goal.returns
returns c =
    let rest = c.loop-line.rest.now in
    let shown = string_bytes c.loop-line.shown in
    let whole = c.in_ok-push_str-3.ensures.bytes ∙ ap (λ (xs : List ℕ). shown ++ xs) c.as_str-2.ensures.value in
    all_shown c.args.text.now rest shown (string_bytes c.in_ok-last.last) _ c.loop-line.invariant.1 (none_at_all rest (c.in_default.ensures.byte (lit< tt) (λ w o h. h)), c.in_ok-last.ensures) whole
