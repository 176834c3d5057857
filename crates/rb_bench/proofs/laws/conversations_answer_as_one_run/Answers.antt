use Rattle.rb_bench.proofs.TalkLaws.{conversation_leads}
use Rattle.rb_bench.proofs.laws.conversations_answer_as_one_run.Goals as goal

pub returns : goal.returns
returns c = λ first last xs fresh converses.
    let (steps, made, leads) = conversation_leads first last xs converses in
    let ran = c.edits_answer_as_one_run.ensures.run first last steps fresh.run leads in
    (steps, made, leads, ran.0, c.started_sessions_stay_fresh.ensures first last steps fresh leads)
