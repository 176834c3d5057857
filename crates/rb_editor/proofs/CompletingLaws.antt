-- The ids that completion offers are those of the cluster's nodes.
use Rattle.std.proofs.Common.{◌≡◌, ◌∙◌, ◌≢◌, ℕ, ◌-◌, true, min, List, length, map, take, Some, Ok, refl, ap, arith}
use Rattle.std.specs.Prelude.{codes, decimal, filter, nat_le}
use Rattle.std.specs.Str.{bytes_eq}
use Rattle.std.proofs.lemmas.Bool.{le-leb}
use Rattle.std.proofs.lemmas.Slice.Eq.{bytes_eq-Decides}
use Rattle.rb_script.specs.Script.{PlainScript}
use Rattle.rb_script.specs.Reading.{read_of}
use Rattle.rb_replay.specs.Run.{state}
use Rattle.rb_lsp.proofs.PlaceLaws.{test_cases}
use Rattle.rb_editor.specs.Ids.{added, id_offers, nodes_of_head, takes_ids, with_more}
use Rattle.rb_editor.specs.OfferLaws.{most_ids, numbers_from, words}
use Rattle.rb_editor.specs.Offers.{fits}
use Rattle.rb_editor.specs.Places.{PlainPlace, head_takes_ids, place_takes_ids}
use Rattle.rb_editor.specs.Unfinished.{name_of, wanted_of}
use Rattle.rb_editor.proofs.IdLaws.{ids_offered}
use Rattle.rb_editor.specs.Completing.{nodes_at, nodes_of}

-- a head that is no `add-nodes` adds none
none_added : (head : List ℕ) → name_of head ≢ codes "add-nodes" → added head ≡ 0
none_added head other =
    test_cases (bytes_eq (name_of head) (codes "add-nodes"))
    (λ yes. absurd (other ((bytes_eq-Decides (name_of head) (codes "add-nodes")).0 yes)))
    (λ no. rw no refl)

none_more : (n : ℕ) → with_more n 0 ≡ n
none_more n = let fits : nat_le 0 (most_ids - n) ≡ true = le-leb 0 (most_ids - n) (omega arith) in rw fits (omega arith)

takes_there : (p : PlainPlace) (head : List ℕ) → p.head ≡ Some head → takes_ids head (wanted_of head) ≡ true → place_takes_ids p ≡ true
unfolding place_takes_ids
takes_there p head is takes = let there : head_takes_ids p.head ≡ true = ap head_takes_ids is ∙ takes in rw there refl

nodes_there : (text : List ℕ) (p : PlainPlace) (s : PlainScript) → place_takes_ids p ≡ true → read_of (take p.block text) ≡ Ok s → nodes_at text p ≡ length (state s (length s.blocks)).nodes
nodes_there text p s takes read = rw takes (ap nodes_of read)

pub ids_of_cluster : (text head : List ℕ) (p : PlainPlace) (s : PlainScript) → p.head ≡ Some head → read_of (take p.block text) ≡ Ok s → name_of head ≢ codes "add-nodes"
    → takes_ids head (wanted_of head) ≡ true
    → words (id_offers (nodes_at text p) head (wanted_of head)) ≡ filter (fits (wanted_of head)) (map decimal (numbers_from 1 (min (length (state s (length s.blocks)).nodes) most_ids)))
ids_of_cluster text head p s is read other takes =
    let w = wanted_of head in
    let here = nodes_there text p s (takes_there p head is takes) read in
    let count : nodes_of_head (nodes_at text p) head ≡ min (length (state s (length s.blocks)).nodes) most_ids =
    ap (λ (n : ℕ). with_more (min n most_ids) (added head)) here ∙ ap (with_more (min (length (state s (length s.blocks)).nodes) most_ids)) (none_added head other)
    ∙ none_more (min (length (state s (length s.blocks)).nodes) most_ids) in
    ids_offered (nodes_at text p) head w takes ∙ ap (λ (n : ℕ). filter (fits w) (map decimal (numbers_from 1 n))) count
