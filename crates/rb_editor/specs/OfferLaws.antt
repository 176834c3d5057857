-- What holds of what an editor is offered. (This project's.)
use Rattle.std.specs.Prelude.{◌≡◌, ◌⊎◌, ℕ, min, zero, suc, ◌+◌, ◌-◌, ◌≤◌, true, List, [], ◌∷◌, ◌++◌, codes, decimal, filter, length, map, take}
use Rattle.rb_script.specs.Lines.{Line, lines}
use Rattle.rb_script.specs.Script.{PlainBlock, PlainScript, text as canonical_text}
use Rattle.rb_script.specs.Reads.{Reads}
use Rattle.rb_directive.specs.declared.table.Row.{Row}
use Rattle.rb_directive.specs.declared.table.OptionRow.{OptionRow}
use Rattle.rb_directive.specs.Names.{argument_text, name_text}
use Rattle.rb_directive.specs.Table.{directives, options as table_options}
use Rattle.rb_report.specs.Manual.{pages}
use Rattle.rb_report.specs.Choices.{choices_of}
use Rattle.rb_report.specs.Nearest.{keys_of}
use Rattle.rb_lsp.specs.declared.document.position.Encoding.{Encoding}
use Rattle.rb_lsp.specs.declared.document.position.Range.{Range}
use Rattle.rb_lsp.specs.Places.{begins}
use Rattle.rb_lsp.specs.Tables.{start_of}
use Rattle.rb_lsp.specs.Changes.{changed}
use Rattle.rb_lsp.specs.Edits.{range_between, new_between}
use Rattle.rb_editor.specs.declared.offers.part.Part.TheVariants.{Lead}
use Rattle.rb_editor.specs.Above.{behind_lines}
use Rattle.rb_editor.specs.BlockLines.{AreApart, StandsIn, blocks_of}
use Rattle.rb_editor.specs.Formatting.{edits, formatted, formatting}
use Rattle.rb_editor.specs.RangeFormatting.{range_formatting}
use Rattle.rb_editor.specs.declared.offers.ids.TheConstants.{MAX_IDS}
use Rattle.rb_editor.specs.Ids.{change_offers, change_wanted, id_offers, nodes_of_head, takes_ids}
use Rattle.rb_editor.specs.Offers.{PlainOffer, begins_with, fits, named, options, takes, values}
use Rattle.rb_editor.specs.Unfinished.{PlainWanted}

-- the blocks of a text are in its lines, one after the other
abbrev pub BlocksStandApart : Type 0
BlocksStandApart = (text : List ℕ) → AreApart 0 (length (lines text)) (blocks_of text)

-- a later line of the text is on no earlier line of an editor
abbrev pub LinesStayInOrder : Type 0
LinesStayInOrder = (encoding : Encoding) (text : List ℕ) (m n : ℕ) → m ≤ n → (start_of encoding m text).line ≤ (start_of encoding n text).line

-- What is sent is the edit that makes the formatted text, where the text begins with a character; and the formatted text is the same script.
pub record Formats (encoding : Encoding) (text : List ℕ) (s : PlainScript) : Type 0 where
  pub sent : formatting encoding text ≡ edits encoding text (formatted (canonical_text s))
  pub made : begins text ≡ true → changed encoding (range_between encoding text (formatted (canonical_text s))) (new_between text (formatted (canonical_text s))) text ≡ formatted (canonical_text s)
  pub reads_back : Reads (formatted (canonical_text s)) s

abbrev pub FormattingMakes : Type 0
FormattingMakes = (encoding : Encoding) (text : List ℕ) (s : PlainScript) → Reads text s → Formats encoding text s

-- what is sent to format the directives in a range is nothing, or what makes a text that is the same script
abbrev pub KeepsScript : Encoding → List ℕ → PlainScript → List ℕ → Type 0
KeepsScript encoding text s sent = (sent ≡ codes "[]") ⊎ ((new : List ℕ) × (sent ≡ edits encoding text new) × Reads new s)

abbrev pub RangeFormattingKeeps : Type 0
RangeFormattingKeeps = (encoding : Encoding) (range : Range) (text : List ℕ) (s : PlainScript) → Reads text s → KeepsScript encoding text s (range_formatting encoding range text)

abbrev pub words : List PlainOffer → List (List ℕ)
words os = map (λ (o : PlainOffer). o.word) os

-- the names that are offered are those of the table that begin so
abbrev pub NamesAreOfTheTable : Type 0
NamesAreOfTheTable = (prefix : List ℕ) → words (named prefix pages) ≡ filter (begins_with prefix) (map (λ (row : Row). name_text row.name) directives)

-- so are the keys: those of the directive's options, and `log-level`, which each directive takes
abbrev pub KeysAreOfTheTable : Type 0
KeysAreOfTheTable = (name prefix : List ℕ)
    → words (options name prefix) ≡ filter (begins_with prefix) (keys_of name (map (λ (row : OptionRow). (name_text row.name, argument_text row.option)) table_options) ++ codes "log-level" ∷ [])

-- and the values: those of an option that takes some values alone, of which none is offered twice in a list
abbrev pub ValuesAreOfTheOption : Type 0
ValuesAreOfTheOption = (name : List ℕ) (w : PlainWanted) → takes name w.key ≡ true → words (values name w) ≡ filter (fits w) (choices_of w.key)

-- the most ids that are offered
abbrev pub most_ids : ℕ
most_ids = MAX_IDS

-- the first n numbers from one on
abbrev pub numbers_from : ℕ → ℕ → List ℕ
numbers_from first zero = []
numbers_from first (suc n) = first ∷ numbers_from (first + 1) n

-- the ids that are offered are those of the nodes, and those that the head itself adds
abbrev pub IdsAreOfTheNodes : Type 0
IdsAreOfTheNodes = (nodes : ℕ) (head : List ℕ) (w : PlainWanted) → takes_ids head w ≡ true
    → words (id_offers nodes head w) ≡ filter (fits w) (map decimal (numbers_from 1 (nodes_of_head nodes head)))

-- a word of a change for each of these ids
abbrev pub changes : List ℕ → List ℕ → List (List ℕ)
changes letter ids = map (λ id. letter ++ decimal id) ids

-- the words of changes that are offered: each node as a voter, as a learner, and removed
abbrev pub ChangesAreOfTheNodes : Type 0
ChangesAreOfTheNodes = (nodes : ℕ) (front : List ℕ)
    → words (change_offers nodes front) ≡ filter (fits (change_wanted front)) (changes (codes "v") (numbers_from 1 (min nodes MAX_IDS)))
    ++ (filter (fits (change_wanted front)) (changes (codes "l") (numbers_from 1 (min nodes MAX_IDS)))
    ++ filter (fits (change_wanted front)) (changes (codes "r") (numbers_from 1 (min nodes MAX_IDS))))

-- Above the head of each block of a script are whole blocks and lead lines: so a head can be written on its line, and names are offered.
abbrev pub HeadsAreKnown : Type 0
HeadsAreKnown = (ls : List Line) (n : ℕ) (b : PlainBlock) → StandsIn ls n b → behind_lines Lead [] (take (n - 1) ls) ≡ (Lead, [])
