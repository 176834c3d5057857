use Rattle.std.proofs.Common.{◌≡◌, map, string_bytes, take}
use Rattle.rb_report.specs.Names.{shown_name}
use Rattle.rb_program.proofs.arguments.shown_words.Given as goal

abbrev pub invariant-loop-word : goal.invariant-loop-word
invariant-loop-word l = map string_bytes l.shown.items ≡ map (λ word. shown_name (string_bytes word)) (take l.word-index l.words)
