-- What stands above an expectation, by where it stands in the lines.
use Rattle.std.proofs.Common.{◌≡◌, ℕ, List, ◌++◌, map, Some, Ok, ap, sym, ◌∙◌, arith}
use Rattle.std.proofs.lemmas.List.Elements.{All-from_recursion, All-map, recursion_from_All}
use Rattle.std.proofs.lemmas.Simd.{map-map}
use Rattle.rb_script.specs.declared.tokens.Tokens.{Tokens}
use Rattle.rb_script.specs.Lines.{Line}
use Rattle.rb_script.specs.Flat.{between}
use Rattle.rb_script.specs.Joined.{joined}
use Rattle.rb_script.specs.Heads.{with_inputs, directive_of, head_at, few_or}
use Rattle.rb_script.specs.Tokens.{token, argument_of, plain}
use Rattle.rb_script.specs.Parsed.{spanned, AreParts, texts, ParsesHead}
use Rattle.rb_script.specs.Fronts.{PlainFront, front_of, AreInOrder, block_of_front, directive_of_front, HasTokens}
use Rattle.rb_script.proofs.BlockLaws.{few_is}
use Rattle.rb_script.proofs.BetweenLaws.{between_split}

-- ---- tokens

-- the tokens of a head that was parsed are its own
pub parsed_tokens : (all : List Line) (lead head input end number : ℕ) (t : Tokens) → ParsesHead (between head input all) (Ok t) (few_or number (head_at (joined (between head input all)))) → HasTokens (front_of all lead head input end t.name t.args.items)
parsed_tokens all lead head input end number t parses =
    let h = between head input all in
    let found = few_is number (head_at (joined h)) (texts h t) parses.0 in
    record {
      texts_are = found.0 ∙ ap (λ args. Some (token h t.name, args)) (sym (map-map (argument_of h) spanned t.args.items));
      parts = record { name = parses.1.0; args = recursion_from_All (AreParts h) (map spanned t.args.items) (All-map (AreParts h) spanned t.args.items (All-from_recursion (λ a. AreParts h (spanned a)) t.args.items parses.1.1)) };
    }

-- the directive is what the grammar says of the head
pub front_plain : (f : PlainFront) (expected : List Line) → HasTokens f → plain (directive_of_front f) ≡ directive_of (block_of_front f expected)
unfolding directive_of
front_plain f expected tokens = ap (with_inputs f.input) (sym tokens.texts_are)

-- ---- lines

-- the three stand one behind the other
pub front_lines : (all : List Line) (lead head input end : ℕ) → AreInOrder all lead head input end → between lead end all ≡ between lead head all ++ (between head input all ++ between input end all)
front_lines all lead head input end order =
    between_split lead head end all order.0 (omega (arith, order.1, order.2))
    ∙ ap (λ (l : List Line). between lead head all ++ l) (between_split head input end all order.1 order.2)
