-- Laws of one run.
use Rattle.std.proofs.Common.{◌≡◌, ℕ, zero, suc, ◌+◌, ◌-◌, ◌<◌, ◌≤◌, List, [], ◌∷◌, ◌++◌, length, take, drop, map, Some, refl, ap, ap₂, sym, ◌∙◌, arith, get_or}
use Rattle.std.proofs.lemmas.List.{length-map, drop_more, get_or-map}
use Rattle.std.proofs.lemmas.Option.{get_or_from_slice_get, slice_get_within}
use Rattle.std.proofs.Math.Seq.{take-add}
use Rattle.std.specs.Prelude.{slice_get}
use Rattle.rb_script.specs.Lines.{Line}
use Rattle.rb_script.specs.Script.{PlainBlock, PlainScript}
use Rattle.rb_script.specs.Directive.{PlainDirective}
use Rattle.rb_script.specs.Reading.{directive_of}
use Rattle.rb_machine.specs.Cluster.{Cluster, empty}
use Rattle.rb_machine.specs.Outcome.{outcome}
use Rattle.rb_replay.specs.Run.{directives, led, answers, state, outputs}

-- the first, and those behind them up to a place
pub take-between : {T : Type 0} (from to : ℕ) (xs : List T) → from ≤ to → take from xs ++ take (to - from) (drop from xs) ≡ take to xs
take-between from to xs le =
    let whole : from + (to - from) ≡ to = omega arith in
    sym (take-add from (to - from) xs) ∙ ap (λ (n : ℕ). take n xs) whole

pub led-append : (c : Cluster) (xs ys : List PlainDirective) → led c (xs ++ ys) ≡ led (led c xs) ys
led-append c [] ys = refl
led-append c (x ∷ xs) ys = led-append (outcome c x).cluster xs ys

pub length-answers : (c : Cluster) (xs : List PlainDirective) → length (answers c xs) ≡ length xs
length-answers c [] = refl
length-answers c (x ∷ xs) = ap suc (length-answers (outcome c x).cluster xs)

pub take-answers : (c : Cluster) (n : ℕ) (xs : List PlainDirective) → take n (answers c xs) ≡ answers c (take n xs)
take-answers c zero xs = refl
take-answers c (suc n) [] = refl
take-answers c (suc n) (x ∷ xs) = ap (λ os. (outcome c x).output ∷ os) (take-answers (outcome c x).cluster n xs)

pub drop-answers : (c : Cluster) (n : ℕ) (xs : List PlainDirective) → drop n (answers c xs) ≡ answers (led c (take n xs)) (drop n xs)
drop-answers c zero xs = refl
drop-answers c (suc n) [] = refl
drop-answers c (suc n) (x ∷ xs) = drop-answers (outcome c x).cluster n xs

pub length-directives : (s : PlainScript) → length (directives s) ≡ length s.blocks
length-directives s = length-map s.blocks directive_of

pub length-outputs : (s : PlainScript) → length (outputs s) ≡ length s.blocks
length-outputs s = length-answers empty (directives s) ∙ length-directives s

-- the cluster some points on
pub state-add : (s : PlainScript) (i j : ℕ) → state s (i + j) ≡ led (state s i) (take j (drop i (directives s)))
state-add s i j = rw take-add (led-append empty (take i (directives s)) (take j (drop i (directives s))))

pub drop-outputs : (s : PlainScript) (i : ℕ) → drop i (outputs s) ≡ answers (state s i) (drop i (directives s))
drop-outputs s i = drop-answers empty i (directives s)

-- Scripts whose directives agree from a point on, in equal clusters there, have equal clusters from there on.
pub states-on : (new old : PlainScript) (i k j : ℕ) → drop i (directives new) ≡ drop k (directives old) → state new i ≡ state old k → state new (i + j) ≡ state old (k + j)
states-on new old i k j rest same = state-add new i j ∙ ap₂ (λ (c : Cluster) (ds : List PlainDirective). led c (take j ds)) same rest ∙ sym (state-add old k j)

-- and equal outputs
pub outputs-on : (new old : PlainScript) (i k : ℕ) → drop i (directives new) ≡ drop k (directives old) → state new i ≡ state old k → drop i (outputs new) ≡ drop k (outputs old)
outputs-on new old i k rest same = drop-outputs new i ∙ ap₂ (λ (c : Cluster) (ds : List PlainDirective). answers c ds) same rest ∙ sym (drop-outputs old k)

-- Scripts with an equal front have equal clusters there, and equal outputs.
pub states-front : (new old : PlainScript) (i : ℕ) → take i (directives new) ≡ take i (directives old) → state new i ≡ state old i
states-front new old i same = ap (led empty) same

pub outputs-front : (new old : PlainScript) (i : ℕ) → take i (directives new) ≡ take i (directives old) → take i (outputs new) ≡ take i (outputs old)
outputs-front new old i same = take-answers empty i (directives new) ∙ ap (answers empty) same ∙ sym (take-answers empty i (directives old))

-- Scripts of the same directives run the same.
pub states-same : (new old : PlainScript) (ps : List ℕ) → directives new ≡ directives old → map (state new) ps ≡ map (state old) ps
states-same new old ps same = ap (λ (ds : List PlainDirective). map (λ (i : ℕ). led empty (take i ds)) ps) same

pub outputs-same : (new old : PlainScript) → directives new ≡ directives old → outputs new ≡ outputs old
outputs-same new old same = ap (answers empty) same

pub lengths-same : (new old : PlainScript) → directives new ≡ directives old → length new.blocks ≡ length old.blocks
lengths-same new old same = sym (length-directives new) ∙ ap length same ∙ length-directives old

-- the cluster one directive on, and its output
left_next : (s : PlainScript) (i : ℕ) (b : PlainBlock) → i < length s.blocks → drop i (directives s) ≡ directive_of (get_or s.blocks i b) ∷ drop (i + 1) (directives s)
left_next s i b lt =
    drop_more (directives s) i (directive_of b) (omega (arith, lt, length-directives s))
    ∙ ap (λ (d : PlainDirective). d ∷ drop (i + 1) (directives s)) (get_or-map directive_of s.blocks i b (directive_of b) lt)

pub state_next : (s : PlainScript) (i : ℕ) (b : PlainBlock) → i < length s.blocks → state s (i + 1) ≡ (outcome (state s i) (directive_of (get_or s.blocks i b))).cluster
state_next s i b lt = state-add s i 1 ∙ ap (λ (ds : List PlainDirective). led (state s i) (take 1 ds)) (left_next s i b lt)

pub outputs_next : (s : PlainScript) (i : ℕ) (b : PlainBlock) → i < length s.blocks → take (i + 1) (outputs s) ≡ take i (outputs s) ++ (outcome (state s i) (directive_of (get_or s.blocks i b))).output ∷ []
outputs_next s i b lt =
    take-add i 1 (outputs s) ∙ ap (λ (os : List (List Line)). take i (outputs s) ++ take 1 os) (drop-outputs s i ∙ ap (answers (state s i)) (left_next s i b lt))

-- the same where the block at a place was run
pub run_next : (s : PlainScript) (i : ℕ) (b : PlainBlock) (c after : Cluster) (output : List Line) (had has : List (List Line)) → slice_get s.blocks i ≡ Some b
    → c ≡ state s i → after ≡ (outcome c (directive_of b)).cluster → output ≡ (outcome c (directive_of b)).output → had ≡ take i (outputs s) → has ≡ had ++ output ∷ []
    → (after ≡ state s (i + 1)) × (has ≡ take (i + 1) (outputs s))
run_next s i b c after output had has got here next printed so_far more =
    let within = slice_get_within s.blocks i b got in
    let block : b ≡ get_or s.blocks i b = sym (get_or_from_slice_get s.blocks i b b got) in (
      next ∙ ap₂ (λ (d : Cluster) (x : PlainBlock). (outcome d (directive_of x)).cluster) here block ∙ sym (state_next s i b within),
      more ∙ ap₂ (λ (os : List (List Line)) (l : List Line). os ++ l ∷ []) so_far (printed ∙ ap₂ (λ (d : Cluster) (x : PlainBlock). (outcome d (directive_of x)).output) here block) ∙ sym (outputs_next s i b within),
    )
