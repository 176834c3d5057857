use Rattle.rb_script.specs.Script.{PlainBlock}
use Rattle.rb_script.specs.Reads.{Reads, alone}
use Rattle.rb_script.specs.Reading.{block_of}
use Rattle.rb_script.proofs.ResultLaws.{answer_fits, fit_answered, none_fits}
use Rattle.rb_script.proofs.ScriptLaws.{alone_sound, alone_complete}
use Rattle.rb_script.proofs.block.Block.read.Goals as goal

pub returns-clause-found : goal.returns-clause-found
returns-clause-found c =
    let bytes = c.args.bytes.now in
    answer_fits (λ (b : PlainBlock). b) (λ b. Reads bytes (alone b)) (block_of bytes)
    (alone_sound bytes) (alone_complete bytes) c.one_block.result c.one_block.ensures.exact

pub returns-clause-only : goal.returns-clause-only
returns-clause-only c =
    let bytes = c.args.bytes.now in
    fit_answered (λ (b : PlainBlock). b) (λ b. Reads bytes (alone b)) (block_of bytes)
    (alone_sound bytes) (alone_complete bytes) c.one_block.result c.one_block.ensures.exact

pub returns-clause-refused : goal.returns-clause-refused
returns-clause-refused c =
    let bytes = c.args.bytes.now in
    none_fits (λ (b : PlainBlock). b) (λ b. Reads bytes (alone b)) (block_of bytes)
    (alone_sound bytes) (alone_complete bytes) c.one_block.result c.one_block.ensures.exact
