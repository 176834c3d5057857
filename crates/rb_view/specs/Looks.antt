-- What is after a directive of a script, shown by what other directives would print there. (This project's.)
use Rattle.std.specs.Prelude.{ℕ, zero, suc, ◌+◌, min, if◌then◌else◌, List, [], ◌∷◌, ◌++◌, length, map, take, drop, codes, decimal, Result, Ok, Err}
use Rattle.std.specs.Str.{bytes_eq}
use Rattle.rb_script.specs.declared.fault.ScriptFault.{ScriptFault}
use Rattle.rb_script.specs.Lines.{Line}
use Rattle.rb_script.specs.Script.{PlainBlock, PlainScript}
use Rattle.rb_script.specs.Reading.{block_of, directive_of}
use Rattle.rb_machine.specs.Cluster.{Cluster}
use Rattle.rb_machine.specs.Outcome.{outcome}
use Rattle.rb_replay.specs.Run.{state}
use Rattle.rb_view.specs.declared.look.looking.TheConstants.{MOST_NODES}

abbrev pub answer_of : Cluster → Result PlainBlock ScriptFault → List Line
answer_of c (Ok b) = (outcome c (directive_of b)).output
answer_of c (Err fault) = []

-- what the directive of this text would print in a cluster
unfoldable pub answer_in : Cluster → List ℕ → List Line
answer_in c question = answer_of c (block_of question)

-- the text of a directive that is shown at each level
abbrev pub question : List ℕ → List ℕ
question head = head ++ codes " log-level=debug\n----\n"

-- a line without the word, where it begins with it
abbrev pub without : List ℕ → Line → Line
without word line = if bytes_eq (take (length word) line) word then drop (length word) line else line

abbrev pub shown : List ℕ → Line → Line
shown word line = codes "  " ++ without word line

-- a title, and below it the answer to a question, without a word before its lines
abbrev pub section : Cluster → List ℕ → List ℕ → List ℕ → List Line
section c title head word = title ∷ map (shown word) (answer_in c (question head))

-- the answer to a directive, below its own text
abbrev pub asked : Cluster → List ℕ → List Line
asked c head = section c head head []

abbrev pub of_node : Cluster → ℕ → List Line
of_node c id = asked c (codes "raft-log " ++ decimal id) ++ asked c (codes "status " ++ decimal id)

-- the log of each node, and what it knows of others: as many nodes as n, from this id on
abbrev pub of_nodes : Cluster → ℕ → ℕ → List Line
of_nodes c id zero = []
of_nodes c id (suc n) = of_node c id ++ of_nodes c (id + 1) n

-- what drops all that is in flight, and so prints it
abbrev pub all_dropped : List ℕ
all_dropped = codes "deliver-msgs drop=(1,2,3,4,5,6,7,8,9,10,11,12,13,14,15,16,17,18,19,20,21,22,23,24,25,26,27,28,29,30,31,32)"

abbrev pub looked_in : Cluster → List Line
looked_in c = asked c (codes "raft-state") ++ (of_nodes c 1 (min (length c.nodes) MOST_NODES) ++ section c (codes "on their way") all_dropped (codes "drop "))

-- how many nodes there are after a script
abbrev pub nodes_after : PlainScript → ℕ
nodes_after s = length (state s (length s.blocks)).nodes

-- what is to be seen after so many directives of a script
unfoldable pub looked : PlainScript → ℕ → List Line
looked s place = looked_in (state s place)
