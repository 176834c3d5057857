-- Each line has the parts that say what it is of
use Rattle.std.proofs.Common.{◌≡◌, ℕ, true, false, Bool, List, [], ◌++◌, append_assoc, append-nil, codes, decimal, length, refl, sym, ap, subst, ◌∙◌, if◌then◌else◌}
use Rattle.std.specs.List.{flat_map}
use Rattle.rb_vocab.specs.declared.directive_error.DirectiveError.{DirectiveError}
use Rattle.rb_vocab.specs.declared.directive_error.DirectiveError.TheVariants as errors
use Rattle.rb_vocab.specs.MessageTypes.{type_text}
use Rattle.rb_tracker.specs.Progresses.{PlainProgress}
use Rattle.rb_message.specs.Messages.{has_term, type_of}
use Rattle.rb_message.specs.declared.event.Event.{Event}
use Rattle.rb_message.specs.declared.event.EventKind.{EventKind}
use Rattle.rb_message.specs.declared.event.EventKind.TheVariants as events
use Rattle.rb_message.specs.declared.hard_state.HardState.{HardState}
use Rattle.rb_message.specs.declared.kind.MessageKind.{MessageKind}
use Rattle.rb_message.specs.declared.kind.MessageKind.TheVariants as kinds
use Rattle.rb_message.specs.declared.message.Message.{Message}
use Rattle.rb_texts.specs.Configs.{config_text}
use Rattle.rb_texts.specs.Entries.{place_text, body_text}
use Rattle.rb_texts.specs.Errors.{word_text, error_text}
use Rattle.rb_texts.specs.EventForms.{kind_form, event_form, no_campaign_text, replaced_text, votes_text, fault_text}
use Rattle.rb_texts.specs.Events.{level_text, event_piece_text, event_text}
use Rattle.rb_texts.specs.Items.{PlainNodeLine}
use Rattle.rb_texts.specs.Messages.{answer_text, fields_of, kind_text, term_text, message_text}
use Rattle.rb_texts.specs.Quoted.{quoted}
use Rattle.rb_texts.specs.States.{role_text, progress_state_text, under_way_text, mark_text, hard_state_text, log_text, node_text, progress_text}
use Rattle.rb_texts.specs.declared.item.LogLine.{LogLine}
use Rattle.rb_laws.specs.Lines.{Has, Names, NamesHardState, NamesKind, NamesLog, NamesNode, NamesView, SaysError, SaysEvent}

-- ---- where a part stands

here : (part after : List ℕ) → Has (part ++ after) part
here part after = record { before = []; after = after; is = refl }

-- at the end
pub whole : (part : List ℕ) → Has part part
whole part = record { before = []; after = []; is = sym (append-nil part) }

-- past more of the line
pub past : (more : List ℕ) {line part : List ℕ} → Has line part → Has (more ++ line) part
past more {line} {part} h = record { before = more ++ h.before; after = h.after; is = ap (λ (l : List ℕ). more ++ l) h.is ∙ sym (append_assoc more h.before (part ++ h.after)) }

-- before more of the line
pub more : {line part : List ℕ} (rest : List ℕ) → Has line part → Has (line ++ rest) part
more {line} {part} rest h = record {
  before = h.before;
  after = h.after ++ rest;
  is = ap (λ (l : List ℕ). l ++ rest) h.is ∙ append_assoc h.before (part ++ h.after) rest ∙ ap (λ (l : List ℕ). h.before ++ l) (append_assoc part h.after rest);
}

pub more_two : {line part : List ℕ} (first second : List ℕ) → Has line part → Has ((line ++ first) ++ second) part
more_two first second h = more second (more first h)

pub end : (line part : List ℕ) → Has (line ++ part) part
end line part = record { before = line; after = []; is = ap (λ (l : List ℕ). line ++ l) (sym (append-nil part)) }

-- a name and its value at the end
pub last : (line name value : List ℕ) → Has ((line ++ name) ++ value) (name ++ value)
last line name value = record { before = line; after = []; is = append_assoc line name value ∙ ap (λ (l : List ℕ). line ++ l) (sym (append-nil (name ++ value))) }

-- ---- states

pub hard_named : (h : HardState) → NamesHardState (hard_state_text h) h
unfolding hard_state_text
hard_named h =
    let b = codes " vote=" in
    let v = decimal h.vote in
    let c = codes " commit=" in
    let k = decimal h.commit in
    let one = codes "  hard term=" ++ decimal h.term in
    let two = (one ++ b) ++ v in
    (more_two c k (more_two b v (whole one)), more_two c k (last one b v), last two c k)

pub log_named : (l : LogLine) → NamesLog (log_text l) l
unfolding log_text
log_named l =
    let b = codes " durable=" in
    let d = decimal l.durable in
    let c = codes " commit=" in
    let k = decimal l.commit in
    let e = codes " applied=" in
    let i = decimal l.applied in
    let one = codes "base=" ++ place_text l.base_term l.base in
    let two = (one ++ b) ++ d in
    let next = (two ++ c) ++ k in
    (more_two e i (more_two c k (more_two b d (whole one))), more_two e i (more_two c k (last one b d)), more_two e i (last two c k), last next e i)

pub node_named : (n : PlainNodeLine) → NamesNode (node_text n) n
unfolding node_text
node_named n =
    let role = role_text n.role in
    let a = codes " term=" in
    let t = decimal n.term in
    let b = codes " vote=" in
    let v = decimal n.vote in
    let c = codes " lead=" in
    let l = decimal n.lead in
    let d = codes " commit=" in
    let k = decimal n.commit in
    let e = codes " applied=" in
    let i = decimal n.applied in
    let f = codes " content=" in
    let s = decimal n.content_len in
    let g = codes ":" in
    let q = quoted n.content_end in
    let x1 = decimal n.id ++ codes " " in
    let x2 = x1 ++ role in
    let x3 = (x2 ++ a) ++ t in
    let x4 = (x3 ++ b) ++ v in
    let x5 = (x4 ++ c) ++ l in
    let x6 = (x5 ++ d) ++ k in
    let x7 = (x6 ++ e) ++ i in
    let x8 = (x7 ++ f) ++ s in
    let x9 = (x8 ++ g) ++ q in
    let from7 : (part : List ℕ) → Has x7 part → Has x9 part = λ part h. more_two g q (more_two f s h) in
    let from5 : (part : List ℕ) → Has x5 part → Has x9 part = λ part h. from7 part (more_two e i (more_two d k h)) in
    let from3 : (part : List ℕ) → Has x3 part → Has x9 part = λ part h. from5 part (more_two c l (more_two b v h)) in
    let from2 : (part : List ℕ) → Has x2 part → Has x9 part = λ part h. from3 part (more_two a t h) in (
      from2 x1 (more role (whole x1)),
      from2 role (end x1 role),
      from3 (a ++ t) (last x2 a t),
      from5 (b ++ v) (more_two c l (last x3 b v)),
      from5 (c ++ l) (last x4 c l),
      from7 (d ++ k) (more_two e i (last x5 d k)),
      from7 (e ++ i) (last x6 e i),
      more_two g q (last x7 f s),
      end (x8 ++ g) q,
    )

pub view_named : (id : ℕ) (p : PlainProgress) → NamesView (progress_text id p) id p
unfolding progress_text
view_named id p =
    let state = progress_state_text p.state in
    let a = codes " match=" in
    let m = decimal p.matched in
    let b = codes " next=" in
    let n = decimal p.next in
    let c = codes " inflight=" in
    let f = decimal (length p.window.in_flight) in
    let u = under_way_text p.state p.waiting p.pending in
    let w = mark_text p.active in
    let x1 = decimal id ++ codes " " in
    let x2 = x1 ++ state in
    let x3 = (x2 ++ a) ++ m in
    let x4 = (x3 ++ b) ++ n in (
      more_two u w (more_two c f (more_two b n (more_two a m (more state (whole x1))))),
      more_two u w (more_two c f (more_two b n (more_two a m (end x1 state)))),
      more_two u w (more_two c f (more_two b n (last x2 a m))),
      more_two u w (more_two c f (last x3 b n)),
      more_two u w (last x4 c f),
    )

-- ---- messages

kind_past : (more l : List ℕ) (k : MessageKind) → NamesKind l k → NamesKind (more ++ l) k
kind_past more l (kinds.Vote last_term last_index transfer) h = past more h
kind_past more l (kinds.PreVote last_term last_index) h = past more h
kind_past more l (kinds.VoteResponse granted) h = past more h
kind_past more l (kinds.PreVoteResponse granted) h = past more h
kind_past more l (kinds.Append a) h = (past more h.0, past more h.1, past more h.2)
kind_past more l (kinds.AppendResponse matched) h = past more h
kind_past more l (kinds.AppendRefusal after hint) h = (past more h.0, past more h.1)
kind_past more l (kinds.Heartbeat commit) h = past more h
kind_past more l (kinds.Snapshot s) h = past more h
kind_past more l (kinds.Proposal b) h = past more h
kind_past more l (kinds.TransferLeader target) h = past more h
kind_past more l _ h = tt

kind_named : (k : MessageKind) → NamesKind (kind_text k) k
unfolding kind_text fields_of
kind_named (kinds.Vote last_term last_index transfer) = here (codes " last=" ++ place_text last_term last_index) _
kind_named (kinds.PreVote last_term last_index) = here (codes " last=" ++ place_text last_term last_index) _
kind_named (kinds.VoteResponse granted) = past (codes " ") (here (answer_text granted) [])
kind_named (kinds.PreVoteResponse granted) = past (codes " ") (here (answer_text granted) [])
kind_named (kinds.Append a) =
    let p = codes " prev=" ++ place_text a.prev_term a.prev in
    let c = codes " commit=" ++ decimal a.commit in
    let e = codes " entries=" ++ decimal (length a.entries) in
    (here p (c ++ (e ++ [])), past p (here c (e ++ [])), past p (past c (here e [])))
kind_named (kinds.AppendResponse matched) = here (codes " match=" ++ decimal matched) []
kind_named (kinds.AppendRefusal after hint) =
    let r = codes " refused=" ++ decimal after in
    let h = codes " hint=" ++ decimal hint in
    (here r (h ++ []), past r (here h []))
kind_named (kinds.Heartbeat commit) = here (codes " commit=" ++ decimal commit) []
kind_named (kinds.Snapshot s) = here (codes " snapshot=" ++ place_text s.term s.index) []
kind_named (kinds.Proposal b) = past (codes " ") (here (body_text b) [])
kind_named (kinds.TransferLeader target) = here (codes " target=" ++ decimal target) []
kind_named _ = tt

term_is : (b : Bool) (text : List ℕ) → b ≡ true → (if b then text else []) ≡ text
term_is true text is = refl
term_is false text is = absurd (let no : false ≡ true = is in cc)

pub ends_named : (m : Message) → Has (message_text m) (decimal m.from ++ codes "->" ++ decimal m.to)
unfolding message_text
ends_named m = more_two (term_text m) (kind_text m.kind) (more_two (codes " ") (type_text (type_of m.kind)) (whole (decimal m.from ++ codes "->" ++ decimal m.to)))

pub type_named : (m : Message) → Has (message_text m) (codes " " ++ type_text (type_of m.kind))
unfolding message_text
type_named m = more_two (term_text m) (kind_text m.kind) (last (decimal m.from ++ codes "->" ++ decimal m.to) (codes " ") (type_text (type_of m.kind)))

pub its_term_named : (m : Message) → has_term m.kind ≡ true → Names (message_text m) (codes " term=") m.term
unfolding message_text
its_term_named m is =
    let line = decimal m.from ++ codes "->" ++ decimal m.to ++ codes " " ++ type_text (type_of m.kind) in
    let text = codes " term=" ++ decimal m.term in
    more (kind_text m.kind) (subst (λ (x : List ℕ). Has (line ++ x) text) (sym (term_is (has_term m.kind) text is)) (end line text))

pub values_named : (m : Message) → NamesKind (message_text m) m.kind
unfolding message_text
values_named m = kind_past (decimal m.from ++ codes "->" ++ decimal m.to ++ codes " " ++ type_text (type_of m.kind) ++ term_text m) (kind_text m.kind) m.kind (kind_named m.kind)

-- ---- events

event_past : (more l : List ℕ) (k : EventKind) → SaysEvent l k → SaysEvent (more ++ l) k
event_past more l (events.Started term index c) h = (past more h.0, past more h.1)
event_past more l (events.Restarted saved base last lost) h = (past more h.0, past more h.1, past more h.2, past more h.3)
event_past more l (events.Became role term) h = (past more h.0, past more h.1)
event_past more l (events.CannotCampaign why) h = past more h
event_past more l (events.VoteCounted type granted from result) h = (past more h.0, past more h.1, past more h.2, past more h.3)
event_past more l (events.Ignored type from why) h = (past more h.0, past more h.1)
event_past more l (events.RefusedVote type from why) h = (past more h.0, past more h.1)
event_past more l events.DroppedProposal h = past more h
event_past more l (events.RemovedEntries last es) h = past more h
event_past more l (events.Conflict index commit) h = (past more h.0, past more h.1)
event_past more l events.AppendsNothing h = past more h
event_past more l (events.ReplacedChange index why) h = (past more h.0, past more h.1)
event_past more l (events.Switched c) h = past more h
event_past more l (events.RefusedChange index fault) h = (past more h.0, past more h.1)
event_past more l (events.Restored term index) h = past more h
event_past more l (events.TransferStarts to) h = past more h
event_past more l (events.TransferEnds to) h = past more h
event_past more l events.LostQuorum h = past more h

-- one piece, and two
one_piece : (p : List ℕ) → Has (p ++ []) p
one_piece p = here p []

two_pieces : (p q : List ℕ) → Has (p ++ (q ++ [])) p × Has (p ++ (q ++ [])) q
two_pieces p q = (here p (q ++ []), past p (here q []))

event_said : (id : ℕ) (k : EventKind) → SaysEvent (flat_map event_piece_text (kind_form id k).pieces) k
unfolding kind_form
event_said id (events.Started term index c) = two_pieces (codes " started at " ++ place_text term index) (codes " with " ++ config_text c)
event_said id (events.Restarted saved base last lost) =
    let a = codes " restarted at term=" ++ decimal saved.term in
    let b = codes " vote=" ++ decimal saved.vote in
    let c = codes " log=" ++ decimal base ++ codes ".." ++ decimal last in
    let d = codes " commit=" ++ decimal saved.commit in
    (here a (b ++ (c ++ (d ++ []))), past a (here b (c ++ (d ++ []))), past a (past b (here c (d ++ []))), past a (past b (past c (here d []))))
event_said id (events.Became role term) = two_pieces (codes " became " ++ role_text role) (codes " at term " ++ decimal term)
event_said id (events.CannotCampaign why) = one_piece (codes " can't campaign: " ++ no_campaign_text why)
event_said id (events.VoteCounted type granted from result) =
    let a = codes " has " ++ type_text type in
    let b = codes " " ++ answer_text granted in
    let c = codes " from " ++ decimal from in
    let d = codes ": " ++ votes_text result in
    (here a (b ++ (c ++ (d ++ []))), past a (here b (c ++ (d ++ []))), past a (past b (here c (d ++ []))), past a (past b (past c (here d []))))
event_said id (events.Ignored type from why) = two_pieces (codes " ignored " ++ type_text type) (codes " from " ++ decimal from)
event_said id (events.RefusedVote type from why) = two_pieces (codes " refused " ++ type_text type) (codes " from " ++ decimal from)
event_said id events.DroppedProposal = one_piece (codes " dropped a proposal")
event_said id (events.RemovedEntries last es) = one_piece (codes " removed entries up to " ++ decimal last)
event_said id (events.Conflict index commit) = two_pieces (codes " conflict at " ++ decimal index) (codes ", commit " ++ decimal commit)
event_said id events.AppendsNothing = one_piece (codes " appends nothing: index limit")
event_said id (events.ReplacedChange index why) = two_pieces (codes " replaced change at " ++ decimal index) (codes " by an empty entry: " ++ replaced_text why)
event_said id (events.Switched c) = one_piece (codes " switched to " ++ config_text c)
event_said id (events.RefusedChange index fault) = two_pieces (codes " refused change at " ++ decimal index) (codes ": " ++ fault_text fault)
event_said id (events.Restored term index) = one_piece (codes " restored snapshot " ++ place_text term index)
event_said id (events.TransferStarts to) = one_piece (codes " starts transfer to " ++ decimal to)
event_said id (events.TransferEnds to) = one_piece (codes " ends transfer to " ++ decimal to)
event_said id events.LostQuorum = one_piece (codes " lost its quorum")

pub node_told : (e : Event) → Has (event_text e) (decimal e.id)
unfolding event_text
node_told e = past (level_text (event_form e).level) (here (decimal e.id) (flat_map event_piece_text (event_form e).pieces))

pub event_told : (e : Event) → SaysEvent (event_text e) e.kind
unfolding event_text
event_told e =
    let words = flat_map event_piece_text (event_form e).pieces in
    event_past (level_text (event_form e).level) (decimal e.id ++ words) e.kind (event_past (decimal e.id) words e.kind (event_said e.id e.kind))

-- ---- errors

pub error_said : (e : DirectiveError) → SaysError (error_text e) e
unfolding error_text
error_said (errors.UnknownDirective name) = past (codes "error: ") (whole (codes "unknown directive " ++ word_text name))
error_said (errors.UnsupportedOption key) = past (codes "error: ") (whole (codes "unsupported option " ++ word_text key))
error_said (errors.BadArgument word) = past (codes "error: ") (whole (codes "bad argument " ++ word_text word))
error_said (errors.MissingArgument name) = past (codes "error: ") (whole (codes "missing argument " ++ word_text name))
error_said (errors.NoSuchNode id) = past (codes "error: ") (whole (codes "no node " ++ decimal id))
error_said errors.TooManyNodes = past (codes "error: ") (whole (codes "too many nodes"))
error_said errors.IndexTooLow = past (codes "error: ") (whole (codes "index must be above 1"))
error_said errors.AlreadyCompacted = past (codes "error: ") (whole (codes "already compacted"))
error_said errors.IndexPastApplied = past (codes "error: ") (whole (codes "index past applied"))
error_said (errors.BadChange word) = past (codes "error: ") (whole (codes "bad change " ++ word_text word))
error_said errors.FirstVersionTakesOne = past (codes "error: ") (whole (codes "v1 takes one change and no transition"))
