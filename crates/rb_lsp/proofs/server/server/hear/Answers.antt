use Rattle.std.proofs.Common.{ap, ◌∙◌}
use Rattle.serde_json.specs.View.{view}
use Rattle.rb_lsp.specs.Reading.{waiting}
use Rattle.rb_lsp.specs.Said.{said}
use Rattle.rb_lsp.specs.Replies.{sent, told_of}
use Rattle.rb_lsp.proofs.CancelLaws.{notice_stops, others_heed, others_may, request_heeds, request_may}
use Rattle.rb_lsp.proofs.PlainTextLaws.{id_is_plain_of}
use Rattle.rb_lsp.proofs.server.server.hear.Goals as goal

pub hear_request-requires : goal.hear_request-requires
hear_request-requires g c = id_is_plain_of (view c.args.message.now) _ _ _ c.in-Request.ensures

pub returns-in-Response-clause-out : goal.returns-in-Response-clause-out
unfolding sent
returns-in-Response-clause-out g c = c.silent.ensures.out ∙ ap (told_of g.V.Service.meaning c.silent.result.reach c.args.server.now) c.in-Response.ensures

pub returns-in-Request-clause-only : goal.returns-in-Request-clause-only
returns-in-Request-clause-only g c =
    request_may c.hear_request.result g.V.Service.meaning c.args.server.now _ _ _ _ _ (waiting c.args.reader.now) c.in-Request.ensures c.method_of.ensures c.hear_request.ensures.only c.hear_request.ensures.stops

pub returns-in-Request-clause-cancelled : goal.returns-in-Request-clause-cancelled
returns-in-Request-clause-cancelled g c =
    request_heeds c.hear_request.result g.V.Service.meaning c.args.server.now _ _ _ _ _ (waiting c.args.reader.now) c.in-Request.ensures c.method_of.ensures c.hear_request.ensures.cancelled

pub returns-in-Notification-clause-only : goal.returns-in-Notification-clause-only
returns-in-Notification-clause-only g c =
    let is = c.in-Notification.ensures in
    others_may c.hear_notification.result g.V.Service.meaning c.args.server.now (said (view c.args.message.now)) (waiting c.args.reader.now) (λ id method params asks. absurd cc)
    (notice_stops c.hear_notification.result g.V.Service.meaning c.args.server.now _ _ _ _ is c.method_of-in-Notification.ensures c.hear_notification.ensures.stops)

pub returns-in-Notification-clause-cancelled : goal.returns-in-Notification-clause-cancelled
returns-in-Notification-clause-cancelled g c =
    let is = c.in-Notification.ensures in
    others_heed c.hear_notification.result g.V.Service.meaning c.args.server.now (said (view c.args.message.now)) (waiting c.args.reader.now) (λ id method params asks. absurd cc)
