-- Ids of nodes, and words of changes, which have one. (docs/SCRIPTS.md. The nodes are those of the cluster after the directives above, and those
-- that the head itself adds.)
use Rattle.std.specs.Prelude.{ℕ, ◌+◌, ◌-◌, Bool, false, min, nat_le, nat_lt, if◌then◌else◌, List, [], ◌++◌, codes, map, take, unwrap_or, Some}
use Rattle.std.specs.Str.{bytes_eq}
use Rattle.rb_script.specs.declared.limits.TheConstants.{MAX_ARGUMENTS}
use Rattle.rb_text.specs.Numbers.{number_of}
use Rattle.rb_directive.specs.Ids.{id_words, takes_id}
use Rattle.rb_editor.specs.declared.offers.ids.TheConstants.{IDS, LEARNERS, MAX_IDS, REMOVALS, VOTERS}
use Rattle.rb_editor.specs.declared.offers.unfinished.UnfinishedKind.{UnfinishedKind}
use Rattle.rb_editor.specs.declared.offers.unfinished.UnfinishedKind.TheVariants as wanted_kinds
use Rattle.rb_editor.specs.Unfinished.{PlainWanted, last_piece, name_of, value_in}
use Rattle.rb_editor.specs.Offers.{PlainOffer, chosen, line_of}
use Rattle.rb_editor.specs.Words.{arguments_of, first_word, words_before}

-- the first n of the words for each id
abbrev pub first_ids : ℕ → List (List ℕ)
first_ids n = take n (map (λ i. i.now) IDS)

abbrev pub first_voters : ℕ → List (List ℕ)
first_voters n = take n (map (λ i. i.now) VOTERS)

abbrev pub first_learners : ℕ → List (List ℕ)
first_learners n = take n (map (λ i. i.now) LEARNERS)

abbrev pub first_removals : ℕ → List (List ℕ)
first_removals n = take n (map (λ i. i.now) REMOVALS)

-- how many nodes a head adds, its lines joined
abbrev pub added : List ℕ → ℕ
added head = if bytes_eq (name_of head) (codes "add-nodes") then unwrap_or (number_of (first_word MAX_ARGUMENTS (arguments_of head))) 0 else 0

-- more nodes, unless they are too many
abbrev pub with_more : ℕ → ℕ → ℕ
with_more nodes more = if nat_le more (MAX_IDS - nodes) then nodes + more else nodes

-- how many nodes there are to a head, in a cluster with this many
abbrev pub nodes_of_head : ℕ → List ℕ → ℕ
nodes_of_head nodes head = with_more (min nodes MAX_IDS) (added head)

abbrev pub takes_ids_at : UnfinishedKind → List ℕ → List ℕ → Bool
takes_ids_at wanted_kinds.Name head key = false
takes_ids_at wanted_kinds.Argument head key = nat_lt (words_before MAX_ARGUMENTS (arguments_of head)) (id_words (name_of head))
takes_ids_at wanted_kinds.Value head key = takes_id (name_of head) key
takes_ids_at wanted_kinds.Nothing head key = false

-- a head can continue with an id, by what it ends in
abbrev pub takes_ids : List ℕ → PlainWanted → Bool
takes_ids head w = takes_ids_at w.kind head w.key

-- the ids that a head can continue with, in a cluster with this many nodes
unfoldable pub id_offers : ℕ → List ℕ → PlainWanted → List PlainOffer
id_offers nodes head w = if takes_ids head w then chosen w (Some (line_of (name_of head))) (first_ids (nodes_of_head nodes head)) else []

-- the word of a change with which a line of input ends
abbrev pub change_wanted : List ℕ → PlainWanted
change_wanted front = value_in [] (last_piece front) front

-- the words that a line of input can continue with, in a cluster with this many nodes
unfoldable pub change_offers : ℕ → List ℕ → List PlainOffer
change_offers nodes front =
    chosen (change_wanted front) (Some (codes "the node becomes a voter")) (first_voters (min nodes MAX_IDS))
    ++ (chosen (change_wanted front) (Some (codes "the node becomes a learner")) (first_learners (min nodes MAX_IDS))
    ++ chosen (change_wanted front) (Some (codes "the node is removed")) (first_removals (min nodes MAX_IDS)))
