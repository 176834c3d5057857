use Rattle.rb_texts.specs.Entries.{change_word}
use Rattle.rb_texts.proofs.PieceLaws.{added_more}
use Rattle.rb_texts.proofs.entries.add_words.Goals as goal

pub loop-word-preserved : goal.loop-word-preserved
loop-word-preserved c =
    added_more change_word c.args.words.now c.loop-word.word-index _ c.args.line.now c.loop-word.line c.add_word.new.line c.loop-word-test.true c.loop-word.invariant c.in_ok-add_word.ensures
