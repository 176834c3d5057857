-- The words so far joined the line.
use Rattle.std.proofs.Common.{◌≡◌, ◌++◌, take}
use Rattle.std.specs.List.{flat_map}
use Rattle.rb_texts.specs.Entries.{change_word}
use Rattle.rb_texts.proofs.entries.add_words.Given as goal

abbrev pub invariant-loop-word : goal.invariant-loop-word
invariant-loop-word l = l.line ≡ l.initial.line ++ flat_map change_word (take l.word-index l.words)
