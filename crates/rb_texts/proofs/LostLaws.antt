-- What a restart loses, one part after the other, in one line.
use Rattle.std.proofs.Common.{◌≡◌, ◌∙◌, ℕ, ◌+◌, Bool, true, false, List, [], ◌∷◌, ◌++◌, codes, decimal, refl, ap, sym, append_assoc, append-nil}
use Rattle.std.specs.Prelude.{not, ◌&&◌, ◌==◌, if◌then◌else◌}
use Rattle.std.specs.List.{list_all}
use Rattle.std.proofs.lemmas.Bool.{and_from, and_parts}
use Rattle.rb_message.specs.declared.hard_state.HardState.{HardState}
use Rattle.rb_message.specs.declared.unsaved.Unsaved.{Unsaved}
use Rattle.rb_texts.specs.Lost.{loses_entries, loses_term, loses_vote, indexes_text, part_if, listed, lost_text}
use Rattle.rb_texts.specs.Shapes.{is_one_line}
use Rattle.rb_texts.proofs.KindLaws.{joined_of}
use Rattle.rb_texts.proofs.OneLineLaws.{joined, decimal_one_line}

-- the text before a part
abbrev pub separator : Bool → Bool → List ℕ
separator is_first is_last = if is_first then [] else if is_last then codes " and " else codes ", "

-- three parts that are there or not, each after its separator
parts_listed : (e t v : Bool) (line entries term vote : List ℕ)
    → ((line ++ (if e then entries else [])) ++ (if t then separator (not e) (not v) ++ term else [])) ++ (if v then separator (not e && not t) true ++ vote else [])
    ≡ line ++ listed (part_if e entries ++ part_if t term ++ part_if v vote)
parts_listed true true true line entries term vote = simp (append_assoc)
parts_listed true true false line entries term vote = simp (append_assoc, append-nil)
parts_listed true false true line entries term vote = simp (append_assoc, append-nil)
parts_listed true false false line entries term vote = simp (append_assoc, append-nil)
parts_listed false true true line entries term vote = simp (append_assoc, append-nil)
parts_listed false true false line entries term vote = simp (append_assoc, append-nil)
parts_listed false false true line entries term vote = simp (append-nil)
parts_listed false false false line entries term vote = simp (append-nil)

-- they join a line one after the other
pub lost_joined : (saved : HardState) (u : Unsaved) (e t v : Bool) (before_term before_vote line one two three : List ℕ)
    → e ≡ loses_entries u → t ≡ loses_term saved u → v ≡ loses_vote saved u
    → before_term ≡ separator (not e) (not v) → before_vote ≡ separator (not e && not t) true
    → one ≡ line ++ (if loses_entries u then indexes_text (u.durable + 1) u.last else [])
    → two ≡ one ++ (if t then before_term ++ (codes "term " ++ decimal u.term) else [])
    → three ≡ two ++ (if v then before_vote ++ (codes "the vote for " ++ decimal u.vote) else [])
    → three ≡ line ++ lost_text saved u
lost_joined saved u e t v before_term before_vote line one two three is_e is_t is_v is_term is_vote entries term vote =
    let indexes = indexes_text (u.durable + 1) u.last in
    let of_term = codes "term " ++ decimal u.term in
    let of_vote = codes "the vote for " ++ decimal u.vote in
    let first : one ≡ line ++ (if e then indexes else []) = entries ∙ ap (λ (b : Bool). line ++ (if b then indexes else [])) (sym is_e) in
    let second : two ≡ one ++ (if t then separator (not e) (not v) ++ of_term else []) = term ∙ ap (λ (l : List ℕ). one ++ (if t then l ++ of_term else [])) is_term in
    let third : three ≡ two ++ (if v then separator (not e && not t) true ++ of_vote else []) = vote ∙ ap (λ (l : List ℕ). two ++ (if v then l ++ of_vote else [])) is_vote in
    third
    ∙ ap (λ (l : List ℕ). l ++ (if v then separator (not e && not t) true ++ of_vote else []))
    (second ∙ ap (λ (l : List ℕ). l ++ (if t then separator (not e) (not v) ++ of_term else [])) first)
    ∙ parts_listed e t v line indexes of_term of_vote
    ∙ ap (λ (b : Bool). line ++ listed (part_if b indexes ++ part_if t of_term ++ part_if v of_vote)) is_e
    ∙ ap (λ (b : Bool). line ++ listed (part_if (loses_entries u) indexes ++ part_if b of_term ++ part_if v of_vote)) is_t
    ∙ ap (λ (b : Bool). line ++ listed (part_if (loses_entries u) indexes ++ part_if (loses_term saved u) of_term ++ part_if b of_vote)) is_v

-- ---- it is in one line

listed_one_line : (texts : List (List ℕ)) → list_all is_one_line texts ≡ true → is_one_line (listed texts) ≡ true
listed_one_line [] h = refl
listed_one_line (text ∷ []) h = (and_parts (is_one_line text) true h).0
listed_one_line (text ∷ last ∷ []) h =
    let parts = and_parts (is_one_line text) (is_one_line last && true) h in
    joined (text ++ codes " and ") last (joined text (codes " and ") parts.0 refl) (and_parts (is_one_line last) true parts.1).0
listed_one_line (text ∷ next ∷ other ∷ texts) h =
    let parts = and_parts (is_one_line text) (list_all is_one_line (next ∷ other ∷ texts)) h in
    joined (text ++ codes ", ") (listed (next ∷ other ∷ texts)) (joined text (codes ", ") parts.0 refl) (listed_one_line (next ∷ other ∷ texts) parts.1)

part_one_line : (lost : Bool) (text : List ℕ) → is_one_line text ≡ true → list_all is_one_line (part_if lost text) ≡ true
part_one_line true text h = and_from (is_one_line text) true h refl
part_one_line false text h = refl

indexes_one_line : (first last : ℕ) → is_one_line (indexes_text first last) ≡ true
indexes_one_line first last =
    elim (first == last) as (λ b. is_one_line (if b then codes "entry " ++ decimal last else codes "entries " ++ decimal first ++ codes ".." ++ decimal last) ≡ true) [
      | true ↦ joined (codes "entry ") (decimal last) refl (decimal_one_line last)
      | false ↦
          joined (codes "entries " ++ decimal first ++ codes "..") (decimal last)
          (joined (codes "entries " ++ decimal first) (codes "..") (joined (codes "entries ") (decimal first) refl (decimal_one_line first)) refl) (decimal_one_line last)
    ]

pub lost_one_line : (saved : HardState) (u : Unsaved) → is_one_line (lost_text saved u) ≡ true
lost_one_line saved u =
    let entries = part_if (loses_entries u) (indexes_text (u.durable + 1) u.last) in
    let term = part_if (loses_term saved u) (codes "term " ++ decimal u.term) in
    let vote = part_if (loses_vote saved u) (codes "the vote for " ++ decimal u.vote) in
    listed_one_line (entries ++ term ++ vote)
    (joined_of is_one_line (entries ++ term) vote
    (joined_of is_one_line entries term (part_one_line (loses_entries u) (indexes_text (u.durable + 1) u.last) (indexes_one_line (u.durable + 1) u.last))
    (part_one_line (loses_term saved u) (codes "term " ++ decimal u.term) (joined (codes "term ") (decimal u.term) refl (decimal_one_line u.term))))
    (part_one_line (loses_vote saved u) (codes "the vote for " ++ decimal u.vote) (joined (codes "the vote for ") (decimal u.vote) refl (decimal_one_line u.vote))))
