-- Scripts whose blocks are shared. (This project's.)
use Rattle.std.specs.Prelude.{◌≡◌, ℕ, List, length, map}
use Rattle.std.specs.declared.rc.Rc.{Rc}
use Rattle.std.specs.declared.alloc.Global.{Global}
use Rattle.rb_script.specs.Script.{PlainScript, text}
use Rattle.rb_script.specs.Valid.{IsScript}
use Rattle.rb_script.specs.declared.reading.Parts.{Parts}

-- the blocks after their pointers
abbrev pub values : {T : Type 0} → List (Rc T Global) → List T
values pointers = map (λ p. p.value) pointers

pub record IsKeptScript (s : PlainScript) (text_len : ℕ) : Type 0 where
  pub script : IsScript s
  pub len : text_len ≡ length (text s)

abbrev pub parts_view : Parts → PlainScript
parts_view p = record { blocks = values p.blocks.items; tail = p.tail }
