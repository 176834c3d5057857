-- A script's lines, and those on which its heads begin, as they are read with it. (This project's.)
use Rattle.std.specs.Prelude.{◌≡◌, ℕ, List}
use Rattle.rb_script.specs.Lines.{lines}
use Rattle.rb_script.specs.Script.{PlainScript}
use Rattle.rb_script.specs.Reads.{Reads}
use Rattle.rb_script.specs.HeadLines.{AreHeadLines}
use Rattle.rb_script_report.specs.declared.layout.Layout.{Layout}

-- The bytes are the script, and this is its layout in them.
pub record IsLayout (bytes : List ℕ) (s : PlainScript) (layout : Layout) : Type 0 where
  pub reads : Reads bytes s
  pub text_is : layout.text ≡ lines bytes
  pub heads_are : AreHeadLines 1 (lines bytes) s.blocks layout.heads.items
