-- Arguments by their place.
use Rattle.std.proofs.Common.{◌≡◌, ℕ, ◌<◌, List, length, map, get_or, ap, sym, subst, ◌∙◌, arith}
use Rattle.std.proofs.lemmas.List.{length-map, get_or-map}
use Rattle.std.proofs.lemmas.List.Elements.{All-from_recursion, All-get_or}
use Rattle.rb_script.specs.declared.argument.ArgumentSpans.{ArgumentSpans}
use Rattle.rb_script.specs.Directive.{no_argument, plain_argument}
use Rattle.rb_script.specs.Tokens.{SpannedArgument, SpannedDirective, argument_of, plain}
use Rattle.rb_script.specs.Parsed.{spanned, AreParts}
use Rattle.rb_script.specs.Spans.{IsSpanned, no_spans, argument_at}

module _ (d : SpannedDirective) (args : List ArgumentSpans) (i : ℕ) (a : ArgumentSpans) (same : map spanned args ≡ d.args) (lt : i < length (plain d).args) (is : a ≡ get_or args i a) where
  within : i < length d.args
  within = omega (arith, lt, length-map d.args (argument_of d.head))

  -- where the tokens of an argument stand
  pub spanned_there : spanned a ≡ argument_at d i
  spanned_there =
      let inside : i < length args = omega (arith, within, ap length same, length-map args spanned) in
      ap spanned is ∙ sym (get_or-map spanned args i a no_spans inside) ∙ ap (λ (l : List SpannedArgument). get_or l i no_spans) same

  -- the argument itself
  pub plain_there : argument_of d.head (spanned a) ≡ plain_argument (plain d) i
  plain_there = ap (argument_of d.head) spanned_there ∙ sym (get_or-map (argument_of d.head) d.args i no_spans no_argument within)

  -- each token is a part of a line
  pub parts_there : IsSpanned d → AreParts d.head (spanned a)
  parts_there s = subst (AreParts d.head) (sym spanned_there) (All-get_or (AreParts d.head) d.args i no_spans within (All-from_recursion (AreParts d.head) d.args s.args))
