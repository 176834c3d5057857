use Rattle.std.proofs.Common.{◌≡◌, drop}
use Rattle.rb_tracker.specs.Changes.{words_applied}
use Rattle.rb_tracker.proofs.config.Config.apply_words.Given as goal

abbrev pub invariant-loop-word : goal.invariant-loop-word
invariant-loop-word l = words_applied l.initial.self l.words ≡ words_applied l.self (drop l.word-index l.words)
