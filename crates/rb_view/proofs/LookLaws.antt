-- What stands behind a directive.
use Rattle.std.proofs.Common.{◌≡◌, ℕ, suc, ◌+◌, ◌-◌, ◌≤◌, List, [], ◌∷◌, ◌++◌, length, take, drop, map, refl, ap, ap₂, sym, ◌∙◌, arith, append_assoc, ◌<◌, Bool, cond}
use Rattle.std.specs.Prelude.{Some, None, Ok, slice_get}
use Rattle.std.specs.List.{take-map}
use Rattle.std.proofs.lemmas.List.{length-map, map-append, length-take, take-take, take_more}
use Rattle.std.proofs.lemmas.Bool.{ne_eqb}
use Rattle.std.proofs.lemmas.Option.{slice_get_within, get_or_from_slice_get}
use Rattle.rb_script.specs.Lines.{Line}
use Rattle.rb_script.specs.Directive.{PlainDirective}
use Rattle.rb_script.specs.Script.{PlainBlock, PlainScript}
use Rattle.rb_script.specs.Reading.{block_of, directive_of}
use Rattle.rb_machine.specs.Cluster.{Cluster, empty}
use Rattle.rb_machine.specs.Outcome.{outcome}
use Rattle.rb_replay.specs.Run.{directives, led, answers, at_place, state, outputs, output_at}
use Rattle.rb_replay.proofs.RunLaws.{state_next}
use Rattle.rb_view.specs.Looks.{answer_in, answer_of, shown, of_node, of_nodes}

-- the output of the directive behind some
nth_answer : (c : Cluster) (xs : List PlainDirective) (d : PlainDirective) (ys : List PlainDirective) → slice_get (answers c (xs ++ d ∷ ys)) (length xs) ≡ Some (outcome (led c xs) d).output
nth_answer c [] d ys = refl
nth_answer c (x ∷ xs) d ys = nth_answer (outcome c x).cluster xs d ys

answer-is : (c : Cluster) (question : List ℕ) (b : PlainBlock) → block_of question ≡ Ok b → answer_in c question ≡ (outcome c (directive_of b)).output
unfolding answer_in
answer-is c question b one = ap (answer_of c) one

-- what stands at the place behind n others
place-is : {T : Type 0} (xs : List T) (n : ℕ) → at_place xs (n + 1) ≡ slice_get xs n
place-is {T} xs n =
    let some : n + 1 ≡ 0 → ⊥ = λ e. omega (arith, e) in
    ap (λ (t : Bool). cond t None (slice_get xs (n + 1 - 1))) (ne_eqb (n + 1) 0 some) ∙ ap (slice_get xs) (omega arith)

pub answers-stand : (s new : PlainScript) (question : List ℕ) (b : PlainBlock) (n : ℕ) → block_of question ≡ Ok b → n ≤ length s.blocks → new.blocks ≡ take n s.blocks ++ b ∷ drop n s.blocks → output_at new (n + 1) ≡ Some (answer_in (state s n) question)
answers-stand s new question b n one within placed =
    let front : List PlainDirective = take n (map directive_of s.blocks) in
    let rest : List PlainDirective = map directive_of (drop n s.blocks) in
    let all : outputs new ≡ answers empty (front ++ directive_of b ∷ rest) =
    ap (λ (bs : List PlainBlock). answers empty (map directive_of bs)) placed
    ∙ ap (answers empty) (map-append directive_of (take n s.blocks) (b ∷ drop n s.blocks) ∙ ap (λ (ds : List PlainDirective). ds ++ directive_of b ∷ rest) (sym (take-map directive_of n s.blocks))) in
    let long : length front ≡ n = omega (arith, length-take n (map directive_of s.blocks), length-map s.blocks directive_of) in
    let there : slice_get (outputs new) (length front) ≡ Some (outcome (led empty front) (directive_of b)).output = ap (λ (os : List (List Line)). slice_get os (length front)) all ∙ nth_answer empty front (directive_of b) rest in
    let here : output_at new (n + 1) ≡ slice_get (outputs new) (length front) = place-is (outputs new) n ∙ ap (slice_get (outputs new)) (sym long) in
    here ∙ there ∙ ap (λ (ls : List Line). Some ls) (sym (answer-is (state s n) question b one))

-- one line more of an answer
pub shown_more : (word : List ℕ) (lines added now : List Line) (title line : Line) (answer : List Line) (i : ℕ) → slice_get answer i ≡ Some line
    → lines ≡ added ++ title ∷ map (shown word) (take i answer) → now ≡ lines ++ shown word line ∷ [] → now ≡ added ++ title ∷ map (shown word) (take (i + 1) answer)
shown_more word lines added now title line answer i there so_far next =
    let within : i < length answer = slice_get_within answer i line there in
    let more : take (i + 1) answer ≡ take i answer ++ line ∷ [] = take_more answer i line within ∙ ap (λ (l : Line). take i answer ++ l ∷ []) (get_or_from_slice_get answer i line line there) in
    let all : map (shown word) (take (i + 1) answer) ≡ map (shown word) (take i answer) ++ shown word line ∷ [] = ap (map (shown word)) more ∙ map-append (shown word) (take i answer) (line ∷ []) in
    next ∙ ap (λ (ls : List Line). ls ++ shown word line ∷ []) so_far ∙ append_assoc added (title ∷ map (shown word) (take i answer)) (shown word line ∷ []) ∙ ap (λ (ls : List Line). added ++ title ∷ ls) (sym all)

-- the block behind i others, by its place
pub place_there : (bs : List PlainBlock) (i : ℕ) (b : PlainBlock) → at_place bs (i + 1) ≡ Some b → slice_get bs i ≡ Some b
place_there bs i b there = sym (place-is bs i) ∙ there

-- the machine one directive on
pub machine_next : (s : PlainScript) (i : ℕ) (b : PlainBlock) (before after : Cluster) → slice_get s.blocks i ≡ Some b → before ≡ state s i → after ≡ (outcome before (directive_of b)).cluster → after ≡ state s (i + 1)
machine_next s i b before after there here next =
    let within : i < length s.blocks = slice_get_within s.blocks i b there in
    next ∙ ap₂ (λ (c : Cluster) (x : PlainBlock). (outcome c (directive_of x)).cluster) here (sym (get_or_from_slice_get s.blocks i b b there)) ∙ sym (state_next s i b within)

-- a node more
pub nodes_more : (c : Cluster) (lines added now : List Line) (i count : ℕ) → i < count → lines ++ of_nodes c (i + 1) (count - i) ≡ added ++ of_nodes c 1 count → now ≡ lines ++ of_node c (i + 1)
    → now ++ of_nodes c (i + 1 + 1) (count - (i + 1)) ≡ added ++ of_nodes c 1 count
nodes_more c lines added now i count less so_far next =
    let left : count - i ≡ suc (count - (i + 1)) = omega arith in
    ap (λ (ls : List Line). ls ++ of_nodes c (i + 1 + 1) (count - (i + 1))) next
    ∙ append_assoc lines (of_node c (i + 1)) (of_nodes c (i + 1 + 1) (count - (i + 1)))
    ∙ ap (λ (n : ℕ). lines ++ of_nodes c (i + 1) n) (sym left) ∙ so_far

-- three parts, one behind the other
pub three_parts : (a b d first second third : List Line) → first ≡ a → second ≡ first ++ b → third ≡ second ++ d → third ≡ a ++ (b ++ d)
three_parts a b d first second third one two three = three ∙ ap (λ (ls : List Line). ls ++ d) (two ∙ ap (λ (ls : List Line). ls ++ b) one) ∙ append_assoc a b d

-- a front of a front
take_less : {X : Type 0} (from front : ℕ) (xs ys : List X) → from ≤ front → take front xs ≡ take front ys → take from xs ≡ take from ys
take_less {X} from front xs ys le same =
    sym (take-take from front xs le) ∙ ap (λ (l : List X). take from l) same ∙ take-take from front ys le

-- scripts that begin with the same directives lead to the same cluster up to there
pub same_state : (s t : PlainScript) (from front : ℕ) → from ≤ front → take front (directives t) ≡ take front (directives s) → state s from ≡ state t from
same_state s t from front le same = ap (led empty) (sym (take_less from front (directives t) (directives s) le same))
