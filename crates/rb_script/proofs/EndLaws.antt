-- Where the expectation of a block ends.
use Rattle.std.proofs.Common.{◌≡◌, true, false, not, List, [], ◌∷◌, ◌++◌, refl, ap, sym, ◌∙◌, inl, inr, ◌⊎◌}
use Rattle.std.specs.List.{list_all, AllByRecursion}
use Rattle.std.proofs.lemmas.Bool.{false_from_ne_true}
use Rattle.rb_script.specs.Lines.{Line}
use Rattle.rb_script.specs.Marks.{is_blank, is_plain, is_rule, rule}
use Rattle.rb_script.specs.Script.{PlainBlock}
use Rattle.rb_script.specs.Reads.{begins_rule, begins_blank, ReadsPlain, ReadsDouble, ReadsBlock}
use Rattle.rb_script.specs.Valid.{IsBlock}
use Rattle.rb_script.specs.LineParts.{AreBlanks, IsRuleWithin}
use Rattle.rb_script.specs.Ends.{above, CanBePlain}
use Rattle.rb_script.proofs.ListLaws.{all_pass}
use Rattle.rb_script.proofs.ExpectationLaws.{rule_is}
use Rattle.rb_script.proofs.LinePartLaws.{blanks_complete, separator_complete}

-- no line is blank
none_blank : (ls : List Line) → AllByRecursion (λ line. is_blank line ≡ false) ls → list_all (λ line. not (is_blank line)) ls ≡ true
none_blank ls h = all_pass is_plain (λ line. is_blank line ≡ false) (λ line e. ap not e) ls h

-- a blank line isn't ----
blank_rule : (line : Line) → AreBlanks line → is_rule line ≡ false
blank_rule line h = false_from_ne_true (is_rule line) (λ t. let no : false ≡ true = ap is_blank (sym (rule_is line t)) ∙ blanks_complete line h in cc)

-- lines before a blank one begin as they do
begins_before : (ls rest : List Line) (blank : Line) → begins_rule ls ≡ false → AreBlanks blank → begins_rule (ls ++ blank ∷ rest) ≡ false
begins_before [] rest blank first h = blank_rule blank h
begins_before (line ∷ ls) rest blank first h = first

module _ (b : PlainBlock) (separator : Line) (is : IsBlock b) (s : IsRuleWithin separator) where
  -- a block with an expectation in one of its forms
  block_with : (after rest : List Line) → ReadsPlain after b.expected rest ⊎ ReadsDouble after b.expected rest → ReadsBlock (above b separator after) b rest
  block_with after rest reads = record {
    separator = separator;
    after = after;
    parts = refl;
    lead = is.lead;
    head = is.head;
    directive = is.directive;
    input = is.input;
    separates = separator_complete separator s;
    readable = is.readable;
    expected = reads;
  }

  -- a blank line ends the plain form
  pub plain_at_blank : (blank : Line) (rest : List Line) → CanBePlain b.expected → AreBlanks blank → ReadsBlock (above b separator (b.expected ++ blank ∷ rest)) b rest
  plain_at_blank blank rest plain h =
      block_with (b.expected ++ blank ∷ rest) rest (inl (record {
        first = begins_before b.expected rest blank plain.first h;
        none_blank = none_blank b.expected plain.none_blank;
        closed = inl (blank, blanks_complete blank h, refl);
      }))

  -- and so does the end of the lines
  pub plain_at_end : CanBePlain b.expected → ReadsBlock (above b separator b.expected) b []
  plain_at_end plain = block_with b.expected [] (inl (record { first = plain.first; none_blank = none_blank b.expected plain.none_blank; closed = inr (refl, refl) }))

  -- two lines ---- end the double form, and a blank line behind them is taken
  pub double_at_blank : (blank : Line) (rest : List Line) → AreBlanks blank → ReadsBlock (above b separator (rule ∷ b.expected ++ rule ∷ rule ∷ blank ∷ rest)) b rest
  double_at_blank blank rest h = block_with (rule ∷ b.expected ++ rule ∷ rule ∷ blank ∷ rest) rest (inr (record { more = blank ∷ rest; parts = refl; closed = inl (blank, blanks_complete blank h, refl) }))

  -- another line behind them isn't
  pub double_at_pair : (rest : List Line) → begins_blank rest ≡ false → ReadsBlock (above b separator (rule ∷ b.expected ++ rule ∷ rule ∷ rest)) b rest
  double_at_pair rest h = block_with (rule ∷ b.expected ++ rule ∷ rule ∷ rest) rest (inr (record { more = rest; parts = refl; closed = inr (h, refl) }))
