-- Entries of a log as a line shows them. (An entry is named by its term and its index, Ongaro's thesis, section 3.5; the letters
-- of a change's words are those of etcd raft's interaction tests; the texts are this project's.)
use Rattle.std.specs.Prelude.{ℕ, codes, decimal, List, ◌++◌}
use Rattle.std.specs.List.{flat_map}
use Rattle.rb_raftlog.specs.declared.entry.Body.{Body}
use Rattle.rb_raftlog.specs.declared.entry.Body.TheVariants as bodies
use Rattle.rb_raftlog.specs.declared.entry.Entry.{Entry}
use Rattle.rb_vocab.specs.declared.change.Word.{Word}
use Rattle.rb_vocab.specs.declared.change.WordKind.{WordKind}
use Rattle.rb_vocab.specs.declared.change.WordKind.TheVariants as words
pub use Rattle.rb_vocab.specs.Transitions.{transition_text}
use Rattle.rb_texts.specs.Quoted.{quoted}

-- a place in a log
abbrev pub place_text : ℕ → ℕ → List ℕ
place_text term index = decimal term ++ codes "/" ++ decimal index

abbrev pub letter : WordKind → List ℕ
letter words.Voter = codes "v"
letter words.Learner = codes "l"
letter words.Remove = codes "r"
letter words.Update = codes "u"

-- a word of a change, after a blank
abbrev pub change_word : Word → List ℕ
change_word w = codes " " ++ letter w.kind ++ decimal w.id

-- what an entry brings: a payload, whole, or a change of the configuration
unfoldable pub body_text : Body → List ℕ
body_text (bodies.Payload bytes) = quoted bytes
body_text (bodies.Change transition words) = codes "change " ++ transition_text transition ++ flat_map change_word words

unfoldable pub entry_text : ℕ → Entry → List ℕ
entry_text index e = place_text e.term index ++ codes " " ++ body_text e.body
