-- Events as a line shows them: the level, the node, and what happened.
use Rattle.std.specs.Prelude.{ℕ, codes, decimal, List, ◌++◌}
use Rattle.std.specs.List.{flat_map}
use Rattle.rb_vocab.specs.declared.level.Level.{Level}
use Rattle.rb_vocab.specs.declared.level.Level.TheVariants as levels
use Rattle.rb_message.specs.declared.event.Event.{Event}
use Rattle.rb_texts.specs.Configs.{config_text}
use Rattle.rb_texts.specs.Entries.{place_text}
use Rattle.rb_texts.specs.declared.form.EventPiece.{EventPiece}
use Rattle.rb_texts.specs.EventForms.{PlainPiece, plain_piece, words, numbered, placed, ranged, named, answered, configured, event_form}
use Rattle.rb_texts.specs.Messages.{answer_text}

-- the level at the beginning of an event's line (no event has one of the last two)
abbrev pub level_text : Level → List ℕ
level_text levels.Debug = codes "DEBUG "
level_text levels.Info = codes "INFO "
level_text levels.Warn = codes "WARN "
level_text levels.Error = codes "ERROR "
level_text levels.Fatal = codes "FATAL "
level_text levels.None = codes "NONE "

abbrev pub event_piece_text : PlainPiece → List ℕ
event_piece_text (words before) = before
event_piece_text (numbered before n) = before ++ decimal n
event_piece_text (placed before term index) = before ++ place_text term index
event_piece_text (ranged before first last) = before ++ decimal first ++ codes ".." ++ decimal last
event_piece_text (named before name) = before ++ name
event_piece_text (answered before granted) = before ++ answer_text granted
event_piece_text (configured before c) = before ++ config_text c

abbrev pub given_text : EventPiece → List ℕ
given_text piece = event_piece_text (plain_piece piece)

unfoldable pub event_text : Event → List ℕ
event_text e = level_text (event_form e).level ++ (decimal e.id ++ flat_map event_piece_text (event_form e).pieces)
