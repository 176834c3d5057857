use Rattle.std.proofs.Common.{ap, ◌∙◌}
use Rattle.serde_json.specs.View.{view}
use Rattle.serde_json.specs.Written.{has_float}
use Rattle.rb_lsp.proofs.PlainTextLaws.{answer_is_plain}
use Rattle.rb_lsp.proofs.server.answers.own_answer.Goals as goal

pub framed_answer-requires : goal.framed_answer-requires
framed_answer-requires c = ap has_float c.in_ok-answer.ensures ∙ answer_is_plain _ c.args.method _ (view c.args.id.now) c.requires
