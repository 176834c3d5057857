-- Runs at the front of lists, and the lines of a head.
use Rattle.std.proofs.Common.{◌≡◌, ℕ, ◌<◌, ◌≤◌, Bool, true, false, cond, ◌&&◌, List, [], ◌∷◌, ◌++◌, length, take, drop, refl, ap, sym, subst, ◌∙◌, inl, inr, arith}
use Rattle.std.specs.List.{list_all}
use Rattle.std.proofs.lemmas.Bool.{cases_Bool, and_parts, both_ways, false_from_ne_true}
use Rattle.std.proofs.lemmas.List.{append-nil, length-append, take-append-drop}
use Rattle.rb_script.specs.Lines.{Line}
use Rattle.rb_script.specs.Marks.{continues}
use Rattle.rb_script.specs.Reads.{IsContinued}
use Rattle.rb_script.specs.Runs.{while_of, after_while, head_of, after_head}
use Rattle.rb_script.proofs.ListLaws.{every_told, all_pass}

-- ---- runs

-- the first item passes
abbrev pub begins_by : {X : Type 0} → (X → Bool) → List X → Bool
begins_by p [] = false
begins_by p (x ∷ xs) = p x

-- the run and what follows it are all
pub run_parts : {X : Type 0} (p : X → Bool) (xs : List X) → while_of p xs ++ after_while p xs ≡ xs
unfolding while_of after_while
run_parts p [] = refl
run_parts {X} p (x ∷ xs) =
    elim (p x) as (λ t. cond t (x ∷ while_of p xs) [] ++ cond t (after_while p xs) (x ∷ xs) ≡ x ∷ xs) [
      | true ↦ ap (λ (l : List X). x ∷ l) (run_parts p xs)
      | false ↦ refl
    ]

-- each item of a run passes
pub run_all : {X : Type 0} (p : X → Bool) (xs : List X) → list_all p (while_of p xs) ≡ true
unfolding while_of
run_all p [] = refl
run_all p (x ∷ xs) =
    elim (p x) as (λ t. p x ≡ t → list_all p (cond t (x ∷ while_of p xs) []) ≡ true) [
      | true ↦ λ h. ap (λ s. s && list_all p (while_of p xs)) h ∙ run_all p xs
      | false ↦ λ h. refl
    ] refl

-- what follows a run is no longer than all
pub after_len : {X : Type 0} (p : X → Bool) (xs : List X) → length (after_while p xs) ≤ length xs
after_len p xs = omega (arith, ap length (run_parts p xs), length-append (while_of p xs) (after_while p xs))

-- what follows a run begins by none of it
pub after_stops : {X : Type 0} (p : X → Bool) (xs : List X) → begins_by p (after_while p xs) ≡ false
unfolding after_while
after_stops p [] = refl
after_stops p (x ∷ xs) =
    elim (p x) as (λ t. p x ≡ t → begins_by p (cond t (after_while p xs) (x ∷ xs)) ≡ false) [
      | true ↦ λ h. after_stops p xs
      | false ↦ λ h. h
    ] refl

pub after_first : {X : Type 0} (p : X → Bool) (xs : List X) (x : X) (after : List X) → after_while p xs ≡ x ∷ after → p x ≡ false
after_first p xs x after e = ap (begins_by p) (sym e) ∙ after_stops p xs

-- where nothing follows, all pass
pub none_after : {X : Type 0} (p : X → Bool) (xs : List X) → after_while p xs ≡ [] → list_all p xs ≡ true
none_after {X} p xs e =
    ap (list_all p) (sym (run_parts p xs) ∙ ap (λ (l : List X). while_of p xs ++ l) e ∙ append-nil (while_of p xs)) ∙ run_all p xs

-- an item that passes begins the run
pub while_one : {X : Type 0} (p : X → Bool) (x : X) (xs : List X) → p x ≡ true → while_of p (x ∷ xs) ≡ x ∷ while_of p xs
unfolding while_of
while_one p x xs h = ap (λ t. cond t (x ∷ while_of p xs) []) h

-- and what follows the run stays
pub after_one : {X : Type 0} (p : X → Bool) (x : X) (xs : List X) → p x ≡ true → after_while p (x ∷ xs) ≡ after_while p xs
unfolding after_while
after_one p x xs h = ap (λ t. cond t (after_while p xs) (x ∷ xs)) h

-- items that pass before others
pub while_over : {X : Type 0} (p : X → Bool) (run rest : List X) → list_all p run ≡ true → while_of p (run ++ rest) ≡ run ++ while_of p rest
while_over p [] rest all = refl
while_over {X} p (x ∷ run) rest all =
    let both = and_parts (p x) (list_all p run) all in
    while_one p x (run ++ rest) both.0 ∙ ap (λ (l : List X). x ∷ l) (while_over p run rest both.1)

-- what follows them is what follows the run of the others
pub after_over : {X : Type 0} (p : X → Bool) (run rest : List X) → list_all p run ≡ true → after_while p (run ++ rest) ≡ after_while p rest
after_over p [] rest all = refl
after_over p (x ∷ run) rest all =
    let both = and_parts (p x) (list_all p run) all in
    after_one p x (run ++ rest) both.0 ∙ after_over p run rest both.1

-- where the first item doesn't pass there is no run
no_run : {X : Type 0} (p : X → Bool) (xs : List X) → begins_by p xs ≡ false → while_of p xs ≡ []
unfolding while_of
no_run p [] stops = refl
no_run p (x ∷ xs) stops = ap (λ t. cond t (x ∷ while_of p xs) []) stops

-- and what follows is all
pub no_run_after : {X : Type 0} (p : X → Bool) (xs : List X) → begins_by p xs ≡ false → after_while p xs ≡ xs
unfolding after_while
no_run_after p [] stops = refl
no_run_after p (x ∷ xs) stops = ap (λ t. cond t (after_while p xs) (x ∷ xs)) stops

-- items that pass, before what doesn't begin by one, are the run
pub run_of : {X : Type 0} (p : X → Bool) (run rest : List X) → list_all p run ≡ true → begins_by p rest ≡ false → while_of p (run ++ rest) ≡ run
run_of {X} p run rest all stops = while_over p run rest all ∙ ap (λ (l : List X). run ++ l) (no_run p rest stops) ∙ append-nil run

-- and what follows it is the others
pub after_run : {X : Type 0} (p : X → Bool) (run rest : List X) → list_all p run ≡ true → begins_by p rest ≡ false → after_while p (run ++ rest) ≡ rest
after_run p run rest all stops = after_over p run rest all ∙ no_run_after p rest stops

-- where all pass they are the run, and nothing follows
pub run_whole : {X : Type 0} (p : X → Bool) (run : List X) → list_all p run ≡ true → (while_of p run ≡ run) × (after_while p run ≡ [])
run_whole p run all = (ap (while_of p) (sym (append-nil run)) ∙ run_of p run [] all refl, ap (after_while p) (sym (append-nil run)) ∙ after_run p run [] all refl)

-- cut behind items that pass, before what doesn't begin by one
pub run_cut : {X : Type 0} (p : X → Bool) (xs : List X) (i : ℕ) → list_all p (take i xs) ≡ true → begins_by p (drop i xs) ≡ false → (take i xs ≡ while_of p xs) × (drop i xs ≡ after_while p xs)
run_cut p xs i all stops =
    let whole = take-append-drop i xs in
    (sym (run_of p (take i xs) (drop i xs) all stops) ∙ ap (while_of p) whole, sym (after_run p (take i xs) (drop i xs) all stops) ∙ ap (after_while p) whole)

-- what follows a run is shorter than all, where there is one
pub after_shorter : {X : Type 0} (p : X → Bool) (xs : List X) → begins_by p xs ≡ true → length (after_while p xs) < length xs
after_shorter p [] h = absurd cc
after_shorter p (x ∷ xs) h = omega (arith, ap length (after_one p x xs h), after_len p xs)

-- what passes one test passes a wider one
pub all_wider : {X : Type 0} (p q : X → Bool) → ((x : X) → p x ≡ true → q x ≡ true) → (xs : List X) → list_all p xs ≡ true → list_all q xs ≡ true
all_wider {X} p q wider xs h = all_pass q (λ (x : X). q x ≡ true) (λ x e. e) xs (every_told p (λ (x : X). q x ≡ true) wider xs h)

pub begins_wider : {X : Type 0} (p q : X → Bool) → ((x : X) → p x ≡ true → q x ≡ true) → (xs : List X) → begins_by q xs ≡ false → begins_by p xs ≡ false
begins_wider p q wider [] h = refl
begins_wider p q wider (x ∷ xs) h = false_from_ne_true (p x) (λ e. both_ways (q x) h (wider x e))

-- ---- the head

-- the lines that ask for the next, and one more
pub head_is : (ls : List Line) → head_of ls ≡ while_of continues ls ++ take 1 (after_while continues ls)
unfolding head_of while_of after_while
head_is [] = refl
head_is (line ∷ ls) =
    elim (continues line) as (λ t. cond t (line ∷ head_of ls) (line ∷ []) ≡ cond t (line ∷ while_of continues ls) [] ++ take 1 (cond t (after_while continues ls) (line ∷ ls))) [
      | true ↦ ap (λ (l : List Line). line ∷ l) (head_is ls)
      | false ↦ refl
    ]

-- and what follows that one
pub after_head_is : (ls : List Line) → after_head ls ≡ drop 1 (after_while continues ls)
unfolding after_head after_while
after_head_is [] = refl
after_head_is (line ∷ ls) = elim (continues line) as (λ t. cond t (after_head ls) ls ≡ drop 1 (cond t (after_while continues ls) (line ∷ ls))) [ true ↦ after_head_is ls | false ↦ refl ]

-- the head and what follows make up the lines
pub head-append-after : (ls : List Line) → head_of ls ++ after_head ls ≡ ls
unfolding head_of after_head
head-append-after [] = refl
head-append-after (line ∷ ls) = elim (continues line) as (λ t. cond t (line ∷ head_of ls) (line ∷ []) ++ cond t (after_head ls) ls ≡ line ∷ ls) [ true ↦ ap (λ (l : List Line). line ∷ l) (head-append-after ls) | false ↦ refl ]

-- a line that asks for a next one stands before a head
IsContinued-more : (line : Line) (ls : List Line) → continues line ≡ true → IsContinued ls → IsContinued (line ∷ ls)
IsContinued-more line [] h c = absurd c
IsContinued-more line (next ∷ ls) h c = (h, c)

-- a head with a line after it asks for no more
pub head_continued : (ls : List Line) (line : Line) (after : List Line) → after_head ls ≡ line ∷ after → IsContinued (head_of ls)
unfolding head_of after_head
head_continued [] line after e = absurd cc
head_continued (first ∷ ls) line after e =
    elim (cases_Bool (continues first)) [
      | inl t ↦ subst (λ b. IsContinued (cond b (first ∷ head_of ls) (first ∷ []))) (sym t) (IsContinued-more first (head_of ls) t (head_continued ls line after (sym (ap (λ b. cond b (after_head ls) ls) t) ∙ e)))
      | inr f ↦ subst (λ b. IsContinued (cond b (first ∷ head_of ls) (first ∷ []))) (sym f) f
    ]

-- lines that ask for each other are the head, whatever follows
pub head_run : (head rest : List Line) → IsContinued head → (head_of (head ++ rest) ≡ head) × (after_head (head ++ rest) ≡ rest)
unfolding head_of after_head
head_run [] rest c = absurd c
head_run (line ∷ []) rest c = (ap (λ b. cond b (line ∷ head_of rest) (line ∷ [])) c, ap (λ b. cond b (after_head rest) rest) c)
head_run (line ∷ next ∷ ls) rest c =
    let r = head_run (next ∷ ls) rest c.1 in
    (ap (λ b. cond b (line ∷ head_of (next ∷ ls ++ rest)) (line ∷ [])) c.0 ∙ ap (λ (l : List Line). line ∷ l) r.0, ap (λ b. cond b (after_head (next ∷ ls ++ rest)) (next ∷ ls ++ rest)) c.0 ∙ r.1)
