-- Whom a leader has heard of since it last looked at its quorum (Ongaro's thesis, section 6.2; etcd raft documentation, "CheckQuorum")
use Rattle.rb_message.specs.declared.kind.MessageKind.{MessageKind}
use Rattle.rb_message.specs.declared.kind.MessageKind.TheVariants as kind

-- a member's answer to its leader
abbrev pub IsAnswer : MessageKind → Type 0
IsAnswer (kind.AppendResponse matched) = Unit {0}
IsAnswer (kind.AppendRefusal refused hint) = Unit {0}
IsAnswer kind.HeartbeatResponse = Unit {0}
IsAnswer _ = ⊥
