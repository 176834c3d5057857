use Rattle.rb_files.specs.contracts.entry.FileIdOrd.TheImpl as files
use Rattle.rb_files.proofs.WalkLaws.{taken_by}
use Rattle.rb_files.proofs.finding.Search.offer.Goals as goal

pub returns-then-next-clause-taken : goal.returns-then-next-clause-taken
returns-then-next-clause-taken c = λ e. taken_by c.take.result files.cmp-value.it c.args.words.now c.args.next.path c.args.id c.args.self.now c.take.new.self c.take.ensures.filtered c.take.ensures.known c.take.ensures.added
