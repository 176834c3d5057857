-- The ids that are offered are numbers from 1, and so are those of the words of changes.
use Rattle.std.proofs.Common.{◌≡◌, ◌∙◌, ℕ, zero, suc, ◌+◌, ◌-◌, ◌≤◌, Bool, true, false, min, List, ◌∷◌, ◌++◌, map, take, refl, ap, ap₂, sym, arith, append_assoc}
use Rattle.std.specs.Prelude.{OnOk, Result, Ok, Err, Some, codes, decimal, filter, if◌then◌else◌, nat_le}
use Rattle.std.specs.Fmt.{digits}
use Rattle.std.proofs.lemmas.Bool.Decides.{nat_tests}
use Rattle.std.proofs.lemmas.List.{map-append, take-map}
use Rattle.std.proofs.Math.Nat.{min-le_right}
use Rattle.rb_editor.specs.declared.offers.ids.TheConstants.{IDS, LEARNERS, MAX_IDS, REMOVALS, VOTERS}
use Rattle.rb_editor.specs.Ids.{added, change_offers, change_wanted, first_ids, first_learners, first_removals, first_voters, id_offers, nodes_of_head, takes_ids, with_more}
use Rattle.rb_editor.specs.OfferLaws.{changes, numbers_from, words}
use Rattle.rb_editor.specs.Offers.{PlainOffer, chosen, fits, line_of}
use Rattle.rb_editor.specs.Unfinished.{PlainWanted, name_of}
use Rattle.rb_editor.proofs.OfferLaws.{chosen_words}

-- ---- there are no more nodes than ids

more_by : (nodes more : ℕ) (t : Bool) → nodes ≤ MAX_IDS → nat_le more (MAX_IDS - nodes) ≡ t → (if t then nodes + more else nodes) ≤ MAX_IDS
more_by nodes more true few fits = grind (arith, nat_tests, fits, few)
more_by nodes more false few fits = few

few_more : (nodes more : ℕ) → nodes ≤ MAX_IDS → with_more nodes more ≤ MAX_IDS
few_more nodes more few = more_by nodes more (nat_le more (MAX_IDS - nodes)) few refl

few_of_head : (nodes : ℕ) (head : List ℕ) → nodes_of_head nodes head ≤ MAX_IDS
few_of_head nodes head = few_more (min nodes MAX_IDS) (added head) (min-le_right nodes MAX_IDS)

-- ---- the first ids

take_numbers : (first n m : ℕ) → n ≤ m → numbers_from first n ≡ take n (numbers_from first m)
take_numbers first zero m few = refl
take_numbers first (suc n) zero few = absurd (omega (arith, few))
take_numbers first (suc n) (suc m) few = ap (λ (ks : List ℕ). first ∷ ks) (take_numbers (first + 1) n m (omega (arith, few)))

all_ids : map (λ i. i.now) IDS ≡ map decimal (numbers_from 1 MAX_IDS)
unfolding digits
all_ids = refl

-- the first of the words that each id has
firsts : (f : ℕ → List ℕ) (all : List (List ℕ)) (n : ℕ) → all ≡ map f (numbers_from 1 MAX_IDS) → n ≤ MAX_IDS → take n all ≡ map f (numbers_from 1 n)
firsts f all n is few =
    ap (λ (ws : List (List ℕ)). take n ws) is
    ∙ take-map f n (numbers_from 1 MAX_IDS)
    ∙ ap (λ (ks : List ℕ). map f ks) (sym (take_numbers 1 n MAX_IDS few))

all_voters : map (λ i. i.now) VOTERS ≡ changes (codes "v") (numbers_from 1 MAX_IDS)
unfolding digits
all_voters = refl

all_learners : map (λ i. i.now) LEARNERS ≡ changes (codes "l") (numbers_from 1 MAX_IDS)
unfolding digits
all_learners = refl

all_removals : map (λ i. i.now) REMOVALS ≡ changes (codes "r") (numbers_from 1 MAX_IDS)
unfolding digits
all_removals = refl

-- ---- what is offered

pub ids_offered : (nodes : ℕ) (head : List ℕ) (w : PlainWanted) → takes_ids head w ≡ true → words (id_offers nodes head w) ≡ filter (fits w) (map decimal (numbers_from 1 (nodes_of_head nodes head)))
unfolding id_offers
ids_offered nodes head w taken =
    let n = nodes_of_head nodes head in
    rw taken (chosen_words w (Some (line_of (name_of head))) (first_ids n)) ∙ ap (λ (ws : List (List ℕ)). filter (fits w) ws) (firsts decimal (map (λ i. i.now) IDS) n all_ids (few_of_head nodes head))

-- the words of one letter
of_letter : (w : PlainWanted) (letter line : List ℕ) (all : List (List ℕ)) (n : ℕ) → all ≡ changes letter (numbers_from 1 MAX_IDS) → n ≤ MAX_IDS
    → words (chosen w (Some line) (take n all)) ≡ filter (fits w) (changes letter (numbers_from 1 n))
of_letter w letter line all n is few =
    chosen_words w (Some line) (take n all) ∙ ap (λ (ws : List (List ℕ)). filter (fits w) ws) (firsts (λ id. letter ++ decimal id) all n is few)

pub changes_offered : (nodes : ℕ) (front : List ℕ)
    → words (change_offers nodes front) ≡ filter (fits (change_wanted front)) (changes (codes "v") (numbers_from 1 (min nodes MAX_IDS)))
    ++ (filter (fits (change_wanted front)) (changes (codes "l") (numbers_from 1 (min nodes MAX_IDS)))
    ++ filter (fits (change_wanted front)) (changes (codes "r") (numbers_from 1 (min nodes MAX_IDS))))
unfolding change_offers
changes_offered nodes front =
    let w = change_wanted front in
    let n = min nodes MAX_IDS in
    let few = min-le_right nodes MAX_IDS in
    let voters = chosen w (Some (codes "the node becomes a voter")) (first_voters n) in
    let learners = chosen w (Some (codes "the node becomes a learner")) (first_learners n) in
    let removals = chosen w (Some (codes "the node is removed")) (first_removals n) in
    map-append (λ (o : PlainOffer). o.word) voters (learners ++ removals)
    ∙ ap₂ (λ (xs ys : List (List ℕ)). xs ++ ys) (of_letter w (codes "v") (codes "the node becomes a voter") (map (λ i. i.now) VOTERS) n all_voters few)
    (map-append (λ (o : PlainOffer). o.word) learners removals
    ∙ ap₂ (λ (xs ys : List (List ℕ)). xs ++ ys) (of_letter w (codes "l") (codes "the node becomes a learner") (map (λ i. i.now) LEARNERS) n all_learners few)
    (of_letter w (codes "r") (codes "the node is removed") (map (λ i. i.now) REMOVALS) n all_removals few))

-- ---- the words of changes are added letter by letter

of_letters : PlainWanted → ℕ → List PlainOffer
of_letters w n =
    chosen w (Some (codes "the node becomes a voter")) (first_voters n)
    ++ (chosen w (Some (codes "the node becomes a learner")) (first_learners n)
    ++ chosen w (Some (codes "the node is removed")) (first_removals n))

pub changes_added : {X E : Type 0} (r : Result X E) (w : PlainWanted) (n nodes : ℕ) (front : List ℕ) (old one two three : List PlainOffer) → w ≡ change_wanted front → n ≡ min nodes MAX_IDS
    → one ≡ old ++ chosen w (Some (codes "the node becomes a voter")) (first_voters n) → two ≡ one ++ chosen w (Some (codes "the node becomes a learner")) (first_learners n)
    → OnOk r (three ≡ two ++ chosen w (Some (codes "the node is removed")) (first_removals n)) → OnOk r (three ≡ old ++ change_offers nodes front)
unfolding change_offers of_letters
changes_added (Err e) w n nodes front old one two three is count first second third = tt
changes_added (Ok x) w n nodes front old one two three is count first second third =
    let a = chosen w (Some (codes "the node becomes a voter")) (first_voters n) in
    let b = chosen w (Some (codes "the node becomes a learner")) (first_learners n) in
    let d = chosen w (Some (codes "the node is removed")) (first_removals n) in
    third
    ∙ ap (λ (l : List PlainOffer). l ++ d) second
    ∙ append_assoc one b d
    ∙ ap (λ (l : List PlainOffer). l ++ (b ++ d)) first
    ∙ append_assoc old a (b ++ d)
    ∙ ap₂ (λ (v : PlainWanted) (k : ℕ). old ++ of_letters v k) is count
