use Rattle.rb_lsp.proofs.MessageLaws.{long_head}
use Rattle.rb_lsp.proofs.rpc.head.message_at.Goals as goal

pub returns-else-bytes-lt-MAX_HEAD : goal.returns-else-bytes-lt-MAX_HEAD
returns-else-bytes-lt-MAX_HEAD c = long_head c.args.bytes.now (rw c.in-Ok-Partial.field-0-is at c.in-Ok-Partial.ensures.partial) c.if-bytes-lt-MAX_HEAD.false
