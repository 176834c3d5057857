use Rattle.rb_script.proofs.SharedLaws.{expecting_valid}
use Rattle.rb_script.proofs.block.Block.with_expected.Goals as goal

pub new-requires-clause-block : goal.new-requires-clause-block
new-requires-clause-block c =
    let held = expecting_valid _ c.args.lines.now c.self.invariant.block c.requires in
    rw (c.new-expected.ensures, c.in_ok-try_copy.ensures, c.in_ok-try_copy-2.ensures) held
