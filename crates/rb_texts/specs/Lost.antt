-- What a restart loses, as a text. (This project's texts.)
use Rattle.std.specs.Prelude.{ℕ, ◌+◌, ◌==◌, Bool, not, ◌&&◌, ◌||◌, nat_lt, if◌then◌else◌, codes, decimal, List, [], ◌∷◌, ◌++◌}
use Rattle.rb_message.specs.declared.hard_state.HardState.{HardState}
use Rattle.rb_message.specs.declared.unsaved.Unsaved.{Unsaved}

-- ---- what is lost, by the saved hard state and what a node had

abbrev pub loses_entries : Unsaved → Bool
loses_entries u = nat_lt u.durable u.last

abbrev pub loses_term : HardState → Unsaved → Bool
loses_term saved u = not (u.term == saved.term)

-- a vote of another term is another vote
abbrev pub loses_vote : HardState → Unsaved → Bool
loses_vote saved u = not (u.vote == 0) && (loses_term saved u || not (u.vote == saved.vote))

abbrev pub loses : HardState → Unsaved → Bool
loses saved u = loses_entries u || loses_term saved u || loses_vote saved u

-- ---- its text

-- the indexes of entries
abbrev pub indexes_text : ℕ → ℕ → List ℕ
indexes_text first last = if first == last then codes "entry " ++ decimal last else codes "entries " ++ decimal first ++ codes ".." ++ decimal last

-- a part, if it is lost
abbrev pub part_if : Bool → List ℕ → List (List ℕ)
part_if lost text = if lost then text ∷ [] else []

abbrev pub lost_parts : HardState → Unsaved → List (List ℕ)
lost_parts saved u =
    part_if (loses_entries u) (indexes_text (u.durable + 1) u.last)
    ++ part_if (loses_term saved u) (codes "term " ++ decimal u.term)
    ++ part_if (loses_vote saved u) (codes "the vote for " ++ decimal u.vote)

-- texts with a comma after each, but "and" before the last
abbrev pub listed : List (List ℕ) → List ℕ
listed [] = []
listed (text ∷ []) = text
listed (text ∷ last ∷ []) = text ++ codes " and " ++ last
listed (text ∷ next ∷ other ∷ texts) = text ++ codes ", " ++ listed (next ∷ other ∷ texts)

abbrev pub lost_text : HardState → Unsaved → List ℕ
lost_text saved u = listed (lost_parts saved u)
