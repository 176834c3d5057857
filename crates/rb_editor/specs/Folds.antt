-- The folds of a text. (LSP 3.17, "FoldingRange". Its lines are an editor's, which end at LF, CR LF and CR, and count from 0.)
use Rattle.std.specs.Prelude.{ℕ, ◌-◌, ◌==◌, nat_le, if◌then◌else◌, List, [], ◌++◌, codes, decimal}
use Rattle.rb_lsp.specs.declared.document.position.Encoding.TheVariants.{Utf8}
use Rattle.rb_lsp.specs.declared.document.position.Position.{Position}
use Rattle.rb_lsp.specs.Tables.{start_of}
use Rattle.rb_editor.specs.declared.offers.block_lines.BlockLines.{BlockLines}
use Rattle.rb_editor.specs.BlockLines.{blocks_of}
use Rattle.rb_editor.specs.Texts.{list_text}

-- the editor's line that ends at a position: the one before it, if it begins a line
abbrev pub ended_line : Position → ℕ
ended_line p = if p.character == 0 then p.line - 1 else p.line

-- a fold of an editor's lines
unfoldable pub lines_text : ℕ → ℕ → List ℕ
lines_text first last = codes "{\"startLine\":" ++ (decimal first ++ (codes ",\"endLine\":" ++ (decimal last ++ codes "}")))

-- the fold of a script's lines from one up to the one before another
abbrev pub fold_text : List ℕ → ℕ → ℕ → List ℕ
fold_text text from end = lines_text (start_of Utf8 from text).line (ended_line (start_of Utf8 end text))

-- that of a block's expectation, after a comma, if it has more than one line
unfoldable pub expectation_fold : List ℕ → BlockLines → List ℕ
expectation_fold text b = if nat_le (b.end - b.below) 1 then [] else codes "," ++ fold_text text b.below b.end

-- those of a block: its own, and that of its expectation
unfoldable pub block_folds : List ℕ → BlockLines → List ℕ
block_folds text b = fold_text text b.from b.end ++ expectation_fold text b

unfoldable pub folds : List ℕ → List ℕ
folds text = list_text (block_folds text) (blocks_of text)
