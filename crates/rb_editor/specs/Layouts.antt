-- A script's lines, as they are. (docs/SCRIPTS.md.)
use Rattle.std.specs.Prelude.{◌≡◌, ℕ, ◌==◌, List, length, take, count_by, Err}
use Rattle.rb_script.specs.declared.fault.ScriptFault.{ScriptFault}
use Rattle.rb_script.specs.Lines.{lines}
use Rattle.rb_script.specs.Reads.{Reads}
use Rattle.rb_script.specs.HeadLines.{AreHeadLines}
use Rattle.rb_script.specs.Reading.{read_of}
use Rattle.rb_script.specs.Script.{PlainScript}
use Rattle.rb_lsp.specs.declared.document.position.Encoding.{Encoding}
use Rattle.rb_lsp.specs.declared.document.position.Position.{Position}
use Rattle.rb_lsp.specs.Places.{offset}
use Rattle.rb_lsp.specs.Tables.{IsTable}
use Rattle.rb_editor.specs.Heads.{heads_of}
use Rattle.rb_editor.specs.Findings.{slips_of}
use Rattle.rb_editor.specs.declared.actions.layout.ScriptLayout.{ScriptLayout}

-- a text that is a script, and in what its columns count
pub record PlainRun : Type 0 where
  pub encoding : Encoding
  pub bytes : List ℕ
  pub script : PlainScript

-- the layout of bytes that are the script
pub record IsLayout (encoding : Encoding) (bytes : List ℕ) (s : PlainScript) (layout : ScriptLayout) : Type 0 where
  pub reads : Reads bytes s
  pub lines_are : layout.script.text ≡ lines bytes
  pub heads : AreHeadLines 1 layout.script.text s.blocks layout.script.heads.items
  pub heads_are : layout.script.heads.items ≡ heads_of bytes s
  pub count : length layout.script.heads.items ≡ length s.blocks
  pub table : IsTable encoding bytes layout.table
  pub slips_are : layout.slips.items ≡ slips_of bytes s

-- bytes that are no script
abbrev pub IsNoScript : List ℕ → Type 0
IsNoScript bytes = (fault : ScriptFault) × (read_of bytes ≡ Err fault)

-- the line of a script on which a position of an editor stands, counted from 0: so many lines end before it
abbrev pub line_at : Encoding → Position → List ℕ → ℕ
line_at encoding position text = count_by (λ b. b == 10) (take (offset encoding position text) text)
