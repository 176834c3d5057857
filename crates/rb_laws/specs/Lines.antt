-- What a line has to say: each value by its name, each event and each error in its own words. (The words are this project's.)
use Rattle.std.specs.Prelude.{ℕ, ◌≡◌, List, ◌++◌, codes, decimal, length}
use Rattle.rb_vocab.specs.declared.directive_error.DirectiveError.{DirectiveError}
use Rattle.rb_vocab.specs.declared.directive_error.DirectiveError.TheVariants as errors
use Rattle.rb_vocab.specs.MessageTypes.{type_text}
use Rattle.rb_message.specs.declared.event.EventKind.{EventKind}
use Rattle.rb_message.specs.declared.event.EventKind.TheVariants as events
use Rattle.rb_message.specs.declared.hard_state.HardState.{HardState}
use Rattle.rb_message.specs.declared.kind.MessageKind.{MessageKind}
use Rattle.rb_message.specs.declared.kind.MessageKind.TheVariants as kinds
use Rattle.rb_tracker.specs.Progresses.{PlainProgress}
use Rattle.rb_texts.specs.declared.item.LogLine.{LogLine}
use Rattle.rb_texts.specs.Configs.{config_text}
use Rattle.rb_texts.specs.Entries.{place_text, body_text}
use Rattle.rb_texts.specs.Errors.{word_text}
use Rattle.rb_texts.specs.EventForms.{no_campaign_text, replaced_text, votes_text, fault_text}
use Rattle.rb_texts.specs.Items.{PlainNodeLine}
use Rattle.rb_texts.specs.Messages.{answer_text}
use Rattle.rb_texts.specs.Quoted.{quoted}
use Rattle.rb_texts.specs.States.{role_text, progress_state_text}

-- a line has a part
pub record Has (line part : List ℕ) : Type 0 where
  pub before : List ℕ
  pub after : List ℕ
  pub is : line ≡ before ++ (part ++ after)

-- a line names a number
abbrev pub Names : List ℕ → List ℕ → ℕ → Type 0
Names line name n = Has line (name ++ decimal n)

-- ---- states

abbrev pub NamesHardState : List ℕ → HardState → Type 0
NamesHardState l h = Names l (codes "  hard term=") h.term × Names l (codes " vote=") h.vote × Names l (codes " commit=") h.commit

abbrev pub NamesLog : List ℕ → LogLine → Type 0
NamesLog l v =
    Has l (codes "base=" ++ place_text v.base_term v.base) × Names l (codes " durable=") v.durable × Names l (codes " commit=") v.commit
    × Names l (codes " applied=") v.applied

abbrev pub NamesNode : List ℕ → PlainNodeLine → Type 0
NamesNode l n =
    Has l (decimal n.id ++ codes " ") × Has l (role_text n.role) × Names l (codes " term=") n.term × Names l (codes " vote=") n.vote
    × Names l (codes " lead=") n.lead × Names l (codes " commit=") n.commit × Names l (codes " applied=") n.applied
    × Names l (codes " content=") n.content_len × Has l (quoted n.content_end)

abbrev pub NamesView : List ℕ → ℕ → PlainProgress → Type 0
NamesView l id p =
    Has l (decimal id ++ codes " ") × Has l (progress_state_text p.state) × Names l (codes " match=") p.matched × Names l (codes " next=") p.next
    × Names l (codes " inflight=") (length p.window.in_flight)

-- ---- messages

abbrev pub NamesKind : List ℕ → MessageKind → Type 0
NamesKind l (kinds.Vote last_term last_index transfer) = Has l (codes " last=" ++ place_text last_term last_index)
NamesKind l (kinds.PreVote last_term last_index) = Has l (codes " last=" ++ place_text last_term last_index)
NamesKind l (kinds.VoteResponse granted) = Has l (answer_text granted)
NamesKind l (kinds.PreVoteResponse granted) = Has l (answer_text granted)
NamesKind l (kinds.Append a) = Has l (codes " prev=" ++ place_text a.prev_term a.prev) × Names l (codes " commit=") a.commit × Names l (codes " entries=") (length a.entries)
NamesKind l (kinds.AppendResponse matched) = Names l (codes " match=") matched
NamesKind l (kinds.AppendRefusal after hint) = Names l (codes " refused=") after × Names l (codes " hint=") hint
NamesKind l (kinds.Heartbeat commit) = Names l (codes " commit=") commit
NamesKind l (kinds.Snapshot s) = Has l (codes " snapshot=" ++ place_text s.term s.index)
NamesKind l (kinds.Proposal b) = Has l (body_text b)
NamesKind l (kinds.TransferLeader target) = Names l (codes " target=") target
NamesKind l _ = Unit {0}

-- ---- events

abbrev pub SaysEvent : List ℕ → EventKind → Type 0
SaysEvent l (events.Started term index c) = Has l (codes " started at " ++ place_text term index) × Has l (codes " with " ++ config_text c)
SaysEvent l (events.Restarted saved base last lost) =
    Names l (codes " restarted at term=") saved.term × Names l (codes " vote=") saved.vote × Has l (codes " log=" ++ decimal base ++ codes ".." ++ decimal last)
    × Names l (codes " commit=") saved.commit
SaysEvent l (events.Became role term) = Has l (codes " became " ++ role_text role) × Names l (codes " at term ") term
SaysEvent l (events.CannotCampaign why) = Has l (codes " can't campaign: " ++ no_campaign_text why)
SaysEvent l (events.VoteCounted type granted from result) =
    Has l (codes " has " ++ type_text type) × Has l (codes " " ++ answer_text granted) × Names l (codes " from ") from × Has l (codes ": " ++ votes_text result)
SaysEvent l (events.Ignored type from why) = Has l (codes " ignored " ++ type_text type) × Names l (codes " from ") from
SaysEvent l (events.RefusedVote type from why) = Has l (codes " refused " ++ type_text type) × Names l (codes " from ") from
SaysEvent l events.DroppedProposal = Has l (codes " dropped a proposal")
SaysEvent l (events.RemovedEntries last es) = Names l (codes " removed entries up to ") last
SaysEvent l (events.Conflict index commit) = Names l (codes " conflict at ") index × Names l (codes ", commit ") commit
SaysEvent l events.AppendsNothing = Has l (codes " appends nothing: index limit")
SaysEvent l (events.ReplacedChange index why) = Names l (codes " replaced change at ") index × Has l (codes " by an empty entry: " ++ replaced_text why)
SaysEvent l (events.Switched c) = Has l (codes " switched to " ++ config_text c)
SaysEvent l (events.RefusedChange index fault) = Names l (codes " refused change at ") index × Has l (codes ": " ++ fault_text fault)
SaysEvent l (events.Restored term index) = Has l (codes " restored snapshot " ++ place_text term index)
SaysEvent l (events.TransferStarts to) = Names l (codes " starts transfer to ") to
SaysEvent l (events.TransferEnds to) = Names l (codes " ends transfer to ") to
SaysEvent l events.LostQuorum = Has l (codes " lost its quorum")

-- ---- errors

abbrev pub SaysError : List ℕ → DirectiveError → Type 0
SaysError l (errors.UnknownDirective name) = Has l (codes "unknown directive " ++ word_text name)
SaysError l (errors.UnsupportedOption key) = Has l (codes "unsupported option " ++ word_text key)
SaysError l (errors.BadArgument word) = Has l (codes "bad argument " ++ word_text word)
SaysError l (errors.MissingArgument name) = Has l (codes "missing argument " ++ word_text name)
SaysError l (errors.NoSuchNode id) = Names l (codes "no node ") id
SaysError l errors.TooManyNodes = Has l (codes "too many nodes")
SaysError l errors.IndexTooLow = Has l (codes "index must be above 1")
SaysError l errors.AlreadyCompacted = Has l (codes "already compacted")
SaysError l errors.IndexPastApplied = Has l (codes "index past applied")
SaysError l (errors.BadChange word) = Has l (codes "bad change " ++ word_text word)
SaysError l errors.FirstVersionTakesOne = Has l (codes "v1 takes one change and no transition")
