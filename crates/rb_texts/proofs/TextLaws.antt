-- The text of each item as the texts of its pieces.
use Rattle.std.proofs.Common.{◌≡◌, ℕ, Bool, true, List, length, min, [], ◌∷◌, ◌++◌, take, codes, ap, sym, ◌∙◌, append-nil, arith}
use Rattle.std.specs.Prelude.{if◌then◌else◌}
use Rattle.std.proofs.lemmas.List.{take_min}
use Rattle.rb_vocab.specs.declared.level.Level.{Level}
use Rattle.rb_tracker.specs.declared.config.Config.{Config}
use Rattle.rb_texts.specs.Lines.{Line}
use Rattle.rb_texts.specs.Quoted.{quoted}
use Rattle.rb_texts.specs.Items.{PlainItem}
use Rattle.rb_texts.specs.Configs.{ids_text, part_text, config_text}
use Rattle.rb_texts.specs.Errors.{word_text, WORD_SHOWN}
use Rattle.rb_texts.specs.Texts.{item_text, is_shown, line_of}
use Rattle.rb_texts.proofs.PieceLaws.{added_twice}

-- a word's first bytes in quotes, after a text
pub word_pieces : (text word : List ℕ) (n : ℕ) → n ≡ min (length word) WORD_SHOWN → text ++ (quoted (take n word) ++ []) ≡ text ++ word_text word
word_pieces text word n e =
    let same : n ≡ min WORD_SHOWN (length word) = omega arith in
    ap (λ (l : List ℕ). text ++ l) (append-nil (quoted (take n word)) ∙ ap (λ (m : ℕ). quoted (take m word)) same ∙ ap quoted (take_min WORD_SHOWN word))

-- the whole line of an item that is shown
pub line_joined : (before after : List Line) (level : Level) (item : PlainItem) → is_shown level item ≡ true → after ≡ before ++ item_text item ∷ [] → after ≡ before ++ line_of level item
line_joined before after level item shown push = push ∙ ap (λ (b : Bool). before ++ (if b then item_text item ∷ [] else [])) (sym shown)

-- the parts of a configuration joined the line one after the other
pub config_joined : (before one two three four after : List ℕ) (c : Config) → one ≡ before ++ (codes "voters=(" ++ (ids_text c.incoming ++ (codes ")" ++ [])))
    → two ≡ one ++ part_text (codes " outgoing=(") c.outgoing → three ≡ two ++ part_text (codes " learners=(") c.learners → four ≡ three ++ part_text (codes " next=(") c.next
    → after ≡ four ++ (if c.auto then codes " auto" else []) → after ≡ before ++ config_text c
unfolding config_text
config_joined before one two three four after c voters outgoing learners next auto =
    let to_two = added_twice before one two (codes "voters=(" ++ (ids_text c.incoming ++ (codes ")" ++ []))) _ voters outgoing in
    let to_three = added_twice before two three _ _ to_two learners in
    added_twice before four after _ _ (added_twice before three four _ _ to_three next) auto
