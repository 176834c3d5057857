-- Comparing two nodes: numbers and flags, and the rest
use Rattle.std.specs.Prelude.{◌≡◌, length}
use Rattle.rb_raftlog.specs.Content.{content_sum}
use Rattle.rb_raftlog.specs.Log.{last}
use Rattle.rb_node.specs.Node.{PlainNode}

abbrev pub HaveSameRole : PlainNode → PlainNode → Type 0
HaveSameRole a b = (a.id ≡ b.id) × (a.term ≡ b.term) × (a.vote ≡ b.vote) × (a.lead ≡ b.lead) × (a.role ≡ b.role)

abbrev pub HaveSameIndexes : PlainNode → PlainNode → Type 0
HaveSameIndexes a b =
    (a.commit ≡ b.commit) × (a.applied ≡ b.applied) × (a.transferee ≡ b.transferee)
    × (a.pending_change ≡ b.pending_change) × (a.restored ≡ b.restored)

abbrev pub HaveSameCounters : PlainNode → PlainNode → Type 0
HaveSameCounters a b =
    (a.clock ≡ b.clock) × (a.saved ≡ b.saved) × (a.options ≡ b.options)

-- lists of the same lengths, and contents of the same sum
abbrev pub HaveSameLengths : PlainNode → PlainNode → Type 0
HaveSameLengths a b =
    (length a.sent ≡ length b.sent) × (length a.waiting ≡ length b.waiting)
    × (length a.content ≡ length b.content) × (last a.log ≡ last b.log) × (content_sum a.content ≡ content_sum b.content)

abbrev pub HaveSameNumbers : PlainNode → PlainNode → Type 0
HaveSameNumbers a b = HaveSameRole a b × HaveSameIndexes a b × HaveSameCounters a b × HaveSameLengths a b

abbrev pub HaveSameLists : PlainNode → PlainNode → Type 0
HaveSameLists a b =
    (a.votes ≡ b.votes) × (a.tracker ≡ b.tracker) × (a.sent ≡ b.sent) × (a.waiting ≡ b.waiting)
    × (a.log ≡ b.log) × (a.start ≡ b.start) × (a.content ≡ b.content)
