use Rattle.rb_laws.proofs.MatchingLaws.{two_match}
use Rattle.rb_laws.proofs.cluster.laws.logs_match.Goals as goal

pub returns : goal.returns
returns c = λ s earlier later j k first second net at there.
    (let h = net.honest in two_match h.members s earlier later j k first second h.single h.begun h.before h.since net.before net.since at there)
