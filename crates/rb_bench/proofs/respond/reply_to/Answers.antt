use Rattle.rb_bench.proofs.TurnLaws.{exchange_heard}
use Rattle.rb_bench.proofs.respond.reply_to.Goals as goal

pub returns-in-Command-clause-serve_one : goal.returns-in-Command-clause-serve_one
returns-in-Command-clause-serve_one c = λ ls rest hears.
    exchange_heard c.args.session.now c.args.heard c.in-Command.command c.in-Command.given ls rest _ c.respond.new.session c.in-Command.is hears c.respond.ensures
