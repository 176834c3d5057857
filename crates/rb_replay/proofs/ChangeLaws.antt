-- What an edit changes.
use Rattle.std.proofs.Common.{◌≡◌, ℕ, zero, suc, ◌+◌, ◌-◌, ◌≤◌, Bool, true, false, List, [], ◌∷◌, ◌++◌, length, take, drop, map, refl, ap, ap₂, sym, subst, ◌∙◌, arith, get_or, append_assoc}
use Rattle.std.specs.Prelude.{Result, Ok, Option, IfSome, insert, remove, slice_set, nat_lt, nat_le, not}
use Rattle.std.specs.List.{list_all}
use Rattle.std.proofs.lemmas.Bool.Decides.{nat_tests}
use Rattle.std.proofs.lemmas.List.{take_at, drop_at, length-take-le, length-drop, length-append, set_split, take-set, drop-set-lt, length-set, take-map, drop-map}
use Rattle.std.proofs.Math.Seq.{take-add}
use Rattle.rb_script.specs.declared.limits.TheConstants.{MAX_DIRECTIVES, MAX_SCRIPT}
use Rattle.rb_script.specs.declared.edit.Edit.{Edit}
use Rattle.rb_script.specs.declared.edit.Edit.TheVariants.{Insert, Replace, Remove, Expect, Accept}
use Rattle.rb_script.specs.declared.fault.EditFault.{EditFault}
use Rattle.rb_script.specs.declared.fault.EditFault.TheVariants.{NoSuchPlace, BadExpectation, TooManyDirectives, TooLong}
use Rattle.rb_script.specs.Lines.{Line}
use Rattle.rb_script.specs.Directive.{PlainDirective}
use Rattle.rb_script.specs.Script.{PlainBlock, PlainScript, text, expecting, all_expecting, with_outputs}
use Rattle.rb_script.specs.Reading.{directive_of}
use Rattle.rb_script.specs.Edits.{edited, unless, fitting, is_no_place, with_blocks, block_at_place, is_expectation}
use Rattle.rb_replay.specs.declared.splice.Splice.{Splice}
use Rattle.rb_replay.specs.declared.splice.Effect.TheVariants as effects
use Rattle.rb_replay.specs.Run.{directives, outputs}
use Rattle.rb_replay.specs.Report.{differing, mismatches}
use Rattle.rb_replay.specs.Holding.{Holding, IsOneRun}
use Rattle.rb_replay.specs.Reuse.{Change, change_by, effect_of, change, change_of, change_for, IsChange, IsOneBlock}
use Rattle.rb_replay.specs.Splices.{no_splice, IsUpdated}
use Rattle.rb_replay.proofs.RunLaws.{outputs-same, length-outputs}
use Rattle.rb_replay.proofs.DifferingLaws.{differing-accepted}

-- ---- what an edit that is not refused makes

unless-ok : (test : Bool) (fault : EditFault) (made : Result PlainScript EditFault) (new : PlainScript) → unless test fault made ≡ Ok new → (test ≡ false) × (made ≡ Ok new)
unless-ok true fault made new e = absurd cc
unless-ok false fault made new e = (refl, e)

fitting-ok : (s new : PlainScript) → fitting s ≡ Ok new → s ≡ new
fitting-ok s new e = let made : Ok s ≡ Ok new = (unless-ok (nat_lt MAX_SCRIPT (length (text s))) TooLong (Ok s) new e).1 in cc

is-place : (k n : ℕ) → is_no_place k n ≡ false → (1 ≤ k) × (k ≤ n)
is-place zero n e = absurd cc
is-place (suc k) n e = (omega arith, grind (arith, nat_tests))

pub inserted : (s new : PlainScript) (k : ℕ) (b : PlainBlock) (os : List (List Line)) → edited s (Insert k b) os ≡ Ok new → (1 ≤ k) × (k ≤ length s.blocks + 1) × (with_blocks s (insert s.blocks (k - 1) b) ≡ new)
unfolding edited
inserted s new k b os e =
    let first = unless-ok (is_no_place k (length s.blocks + 1)) NoSuchPlace _ new e in
    let second = unless-ok (nat_le MAX_DIRECTIVES (length s.blocks)) TooManyDirectives _ new first.1 in
    let place = is-place k (length s.blocks + 1) first.0 in
    (place.0, place.1, fitting-ok (with_blocks s (insert s.blocks (k - 1) b)) new second.1)

pub replaced : (s new : PlainScript) (k : ℕ) (b : PlainBlock) (os : List (List Line)) → edited s (Replace k b) os ≡ Ok new → (1 ≤ k) × (k ≤ length s.blocks) × (with_blocks s (slice_set s.blocks (k - 1) b) ≡ new)
unfolding edited
replaced s new k b os e =
    let first = unless-ok (is_no_place k (length s.blocks)) NoSuchPlace _ new e in
    let place = is-place k (length s.blocks) first.0 in
    (place.0, place.1, fitting-ok (with_blocks s (slice_set s.blocks (k - 1) b)) new first.1)

pub removed : (s new : PlainScript) (k : ℕ) (os : List (List Line)) → edited s (Remove k) os ≡ Ok new → (1 ≤ k) × (k ≤ length s.blocks) × (with_blocks s (remove s.blocks (k - 1)) ≡ new)
unfolding edited
removed s new k os e =
    let first = unless-ok (is_no_place k (length s.blocks)) NoSuchPlace _ new e in
    let place = is-place k (length s.blocks) first.0 in
    let made : Ok (with_blocks s (remove s.blocks (k - 1))) ≡ Ok new = first.1 in
    (place.0, place.1, cc)

pub expected : (s new : PlainScript) (k : ℕ) (lines : List Line) (os : List (List Line)) → edited s (Expect k lines) os ≡ Ok new → (1 ≤ k) × (k ≤ length s.blocks) × (with_blocks s (slice_set s.blocks (k - 1) (expecting (block_at_place s.blocks k) lines)) ≡ new)
unfolding edited
expected s new k lines os e =
    let first = unless-ok (is_no_place k (length s.blocks)) NoSuchPlace _ new e in
    let second = unless-ok (not (is_expectation lines)) BadExpectation _ new first.1 in
    let place = is-place k (length s.blocks) first.0 in
    (place.0, place.1, fitting-ok (with_blocks s (slice_set s.blocks (k - 1) (expecting (block_at_place s.blocks k) lines))) new second.1)

pub accepted : (s new : PlainScript) (os : List (List Line)) → edited s Accept os ≡ Ok new → with_outputs s os ≡ new
unfolding edited
accepted s new os e = fitting-ok (with_outputs s os) new (unless-ok (not (list_all is_expectation os)) BadExpectation _ new e).1

-- ---- edits that change directives

-- what stays whole has the same directives
whole-front : (n : ℕ) (xs ys : List PlainBlock) → take n xs ≡ take n ys → take n (map directive_of xs) ≡ take n (map directive_of ys)
whole-front n xs ys same = take-map directive_of n xs ∙ ap (map directive_of) same ∙ sym (take-map directive_of n ys)

whole-rest : (n m : ℕ) (xs ys : List PlainBlock) → drop n xs ≡ drop m ys → drop n (map directive_of xs) ≡ drop m (map directive_of ys)
whole-rest n m xs ys same = drop-map directive_of n xs ∙ ap (map directive_of) same ∙ sym (drop-map directive_of m ys)

-- the change of an edit
pub record IsEditChange (c : Change) : Type 0 where
  pub is : IsChange c
  pub one : IsOneBlock c

spliced-change : (h : Holding) (new : PlainScript) (f : ℕ) (put : List PlainBlock) (r t : ℕ) → IsOneRun h → take f h.script.blocks ++ (put ++ drop r h.script.blocks) ≡ new.blocks → f ≤ r → r ≤ f + 1 → r ≤ length h.script.blocks → length put ≤ 1 → t ≡ f + length put → IsEditChange (change h new f r t)
spliced-change h new f put r t fresh made fr rf rs few t_is =
    let bs : List PlainBlock = h.script.blocks in
    let long : length (take f h.script.blocks) ≡ f = length-take-le f h.script.blocks (omega arith) in
    let joined : length (take f h.script.blocks ++ put) ≡ t = length-append (take f h.script.blocks) put ∙ omega arith in
    let whole : length (take f h.script.blocks ++ (put ++ drop r h.script.blocks)) ≡ f + (length put + (length h.script.blocks - r)) = length-append (take f h.script.blocks) (put ++ drop r h.script.blocks) ∙ ap₂ (λ (a b : ℕ). a + b) long (length-append put (drop r h.script.blocks) ∙ ap (λ (a : ℕ). length put + a) (length-drop r h.script.blocks)) in
    let size : length new.blocks ≡ f + (length put + (length h.script.blocks - r)) = ap length (sym made) ∙ whole in
    let front : take f new.blocks ≡ take f h.script.blocks = ap (take f) (sym made) ∙ take_at (take f h.script.blocks) (put ++ drop r h.script.blocks) f long in
    let rest : drop t new.blocks ≡ drop r h.script.blocks = ap (drop t) (sym made) ∙ ap (drop t) (sym (append_assoc (take f h.script.blocks) put (drop r h.script.blocks))) ∙ drop_at (take f h.script.blocks ++ put) (drop r h.script.blocks) t joined in
    record {
      is = record {
        same_front = whole-front f new.blocks h.script.blocks front;
        same_rest = whole-rest t r new.blocks h.script.blocks rest;
        old_from = fr;
        new_from = omega arith;
        old_within = rs;
        new_within = omega arith;
        lengths = omega arith;
        spaced = fresh.spaced;
        kept = fresh.near;
      };
      one = record {
        whole = record { same_front = front; same_rest = rest };
        old_to = rf;
        new_to = omega arith;
      };
    }

insert-change : (h : Holding) (new : PlainScript) (k : ℕ) (b : PlainBlock) → IsOneRun h → edited h.script (Insert k b) (outputs h.script) ≡ Ok new → IsEditChange (change h new (k - 1) (k - 1) k)
insert-change h new k b fresh e =
    let made = inserted h.script new k b (outputs h.script) e in
    spliced-change h new (k - 1) (b ∷ []) (k - 1) k fresh (ap (λ (s : PlainScript). s.blocks) made.2) (omega arith) (omega arith) (omega (arith, made.1)) (omega arith) (omega (arith, made.0))

replace-change : (h : Holding) (new : PlainScript) (k : ℕ) (b : PlainBlock) → IsOneRun h → edited h.script (Replace k b) (outputs h.script) ≡ Ok new → IsEditChange (change h new (k - 1) k k)
replace-change h new k b fresh e =
    let made = replaced h.script new k b (outputs h.script) e in
    let next : suc (k - 1) ≡ k = omega (arith, made.0) in
    let split : slice_set h.script.blocks (k - 1) b ≡ take (k - 1) h.script.blocks ++ b ∷ drop (suc (k - 1)) h.script.blocks = set_split h.script.blocks (k - 1) b (omega (arith, made.0, made.1)) in
    spliced-change h new (k - 1) (b ∷ []) k k fresh
    (ap (λ (n : ℕ). take (k - 1) h.script.blocks ++ b ∷ drop n h.script.blocks) (sym next) ∙ sym split ∙ ap (λ (s : PlainScript). s.blocks) made.2)
    (omega (arith, made.0)) (omega (arith, made.0)) made.1 (omega arith) (omega (arith, made.0))

remove-change : (h : Holding) (new : PlainScript) (k : ℕ) → IsOneRun h → edited h.script (Remove k) (outputs h.script) ≡ Ok new → IsEditChange (change h new (k - 1) k (k - 1))
remove-change h new k fresh e =
    let made = removed h.script new k (outputs h.script) e in
    let next : suc (k - 1) ≡ k = omega (arith, made.0) in
    spliced-change h new (k - 1) [] k (k - 1) fresh
    (ap (λ (n : ℕ). take (k - 1) h.script.blocks ++ drop n h.script.blocks) (sym next) ∙ ap (λ (s : PlainScript). s.blocks) made.2)
    (omega arith) (omega arith) made.1 (omega arith) (omega arith)

pub edit-change : (h : Holding) (edit : Edit) (new : PlainScript) → IsOneRun h → edited h.script edit (outputs h.script) ≡ Ok new → IfSome (change_of h new edit) IsEditChange
edit-change h (Insert k b) new fresh e = insert-change h new k b fresh e
edit-change h (Replace k b) new fresh e = replace-change h new k b fresh e
edit-change h (Remove k) new fresh e = remove-change h new k fresh e
edit-change h (Expect k lines) new fresh e = tt
edit-change h Accept new fresh e = tt

-- by what the code calls it
pub splice-change : (h : Holding) (edit : Edit) (new : PlainScript) (splice : Splice) → IsOneRun h → edited h.script edit (outputs h.script) ≡ Ok new
    → effect_of edit ≡ effects.Replay splice → IsEditChange (change_by h new splice)
splice-change h edit new splice fresh e is = subst (λ (o : Option Change). IfSome o IsEditChange) (ap (change_for h new) is) (edit-change h edit new fresh e)

-- ---- edits of expectations

-- an expectation is no part of a directive
expecting-directive : (b : PlainBlock) (lines : List Line) → directive_of (expecting b lines) ≡ directive_of b
unfolding directive_of
expecting-directive b lines = refl

set-directives : (bs : List PlainBlock) (i : ℕ) (d : PlainBlock) (lines : List Line) → map directive_of (slice_set bs i (expecting (get_or bs i d) lines)) ≡ map directive_of bs
set-directives [] i d lines = refl
set-directives (b ∷ bs) zero d lines = ap (λ (x : PlainDirective). x ∷ map directive_of bs) (expecting-directive b lines)
set-directives (b ∷ bs) (suc i) d lines = ap (λ (ds : List PlainDirective). directive_of b ∷ ds) (set-directives bs i d lines)

all-directives : (bs : List PlainBlock) (os : List (List Line)) → length os ≡ length bs → map directive_of (all_expecting bs os) ≡ map directive_of bs
unfolding all_expecting
all-directives [] os e = refl
all-directives (b ∷ bs) [] e = absurd (omega arith)
all-directives (b ∷ bs) (o ∷ os) e = ap₂ (λ (x : PlainDirective) (xs : List PlainDirective). x ∷ xs) (expecting-directive b o) (all-directives bs os (omega arith))

pub expect-directives : (s new : PlainScript) (k : ℕ) (lines : List Line) (os : List (List Line)) → edited s (Expect k lines) os ≡ Ok new → directives new ≡ directives s
expect-directives s new k lines os e =
    let made = expected s new k lines os e in
    sym (ap directives made.2) ∙ set-directives s.blocks (k - 1) _ lines

pub expect-new_mismatches : (s new : PlainScript) (k : ℕ) (lines : List Line) → edited s (Expect k lines) (outputs s) ≡ Ok new → IsUpdated s new no_splice (k - 1) (take 1 (drop (k - 1) (outputs s))) k
expect-new_mismatches s new k lines e =
    let made = expected s new k lines (outputs s) e in
    let same : outputs new ≡ outputs s = outputs-same new s (expect-directives s new k lines (outputs s) e) in
    let b : PlainBlock = expecting (block_at_place s.blocks k) lines in
    let blocks : slice_set s.blocks (k - 1) (expecting (block_at_place s.blocks k) lines) ≡ new.blocks = ap (λ (s : PlainScript). s.blocks) made.2 in
    let size : length new.blocks ≡ length s.blocks = ap length (sym blocks) ∙ length-set s.blocks (k - 1) (expecting (block_at_place s.blocks k) lines) in
    let rest : length (drop (k - 1) (outputs s)) ≡ length (outputs s) - (k - 1) = length-drop (k - 1) (outputs s) in
    let one : length (take 1 (drop (k - 1) (outputs s))) ≡ 1 = length-take-le 1 (drop (k - 1) (outputs s)) (omega (arith, length-outputs s, made.0, made.1)) in
    let end : k - 1 + length (take 1 (drop (k - 1) (outputs s))) ≡ k = omega (arith, made.0) in
    record {
      same_front = ap (take (k - 1)) (sym blocks) ∙ take-set s.blocks (k - 1) (expecting (block_at_place s.blocks k) lines);
      same_answers = ap (take (k - 1)) same;
      answers_on = ap (λ (os : List (List Line)). take (k - 1) (outputs new) ++ take 1 (drop (k - 1) os)) (sym same) ∙ sym (take-add (k - 1) 1 (outputs new)) ∙ ap (λ (n : ℕ). take n (outputs new)) (omega (arith, one));
      same_rest = ap (λ (n : ℕ). drop n new.blocks) end ∙ ap (drop k) (sym blocks) ∙ drop-set-lt k s.blocks (k - 1) (expecting (block_at_place s.blocks k) lines) (omega (arith, made.0));
      same_end = ap (λ (n : ℕ). drop n (outputs new)) end ∙ ap (drop k) same;
      moved = end ∙ omega arith;
      in_rest = omega arith;
      order = omega arith;
      old_within = made.1;
      new_within = omega (arith, made.1);
    }

pub accept-directives : (s new : PlainScript) → edited s Accept (outputs s) ≡ Ok new → directives new ≡ directives s
accept-directives s new e = sym (ap directives (accepted s new (outputs s) e)) ∙ all-directives s.blocks (outputs s) (length-outputs s)

pub accept-none : (s new : PlainScript) → edited s Accept (outputs s) ≡ Ok new → mismatches new ≡ []
accept-none s new e =
    let same : outputs new ≡ outputs s = outputs-same new s (accept-directives s new e) in
    ap (differing 1 new.blocks) same ∙ sym (ap (λ (s' : PlainScript). differing 1 s'.blocks (outputs s)) (accepted s new (outputs s) e)) ∙ differing-accepted 1 s.blocks (outputs s)

-- ---- what a session is edited to

pub made-of : (h inside : Holding) (edit : Edit) (os : List (List Line)) (made : Result PlainScript EditFault) → inside ≡ h → IsOneRun inside → os ≡ inside.outputs → edited inside.script edit os ≡ made → edited h.script edit (outputs h.script) ≡ made
made-of h inside edit os made view fresh outs is =
    sym (ap (λ (h : Holding). edited h.script edit (outputs h.script)) view) ∙ ap (edited inside.script edit) (sym (outs ∙ fresh.answered)) ∙ is

-- ---- edits by what the code calls them

pub record IsExpected (s new : PlainScript) (place : ℕ) : Type 0 where
  pub same : directives new ≡ directives s
  pub first : 1 ≤ place
  pub within : place ≤ length s.blocks
  pub new_mismatches : IsUpdated s new no_splice (place - 1) (take 1 (drop (place - 1) (outputs s))) place

pub expect-edit : (s new : PlainScript) (edit : Edit) (place : ℕ) → effect_of edit ≡ effects.Expect place → edited s edit (outputs s) ≡ Ok new → IsExpected s new place
expect-edit s new (Expect k lines) place is e =
    let made = expected s new k lines (outputs s) e in
    let same : k ≡ place = cc in
    subst (λ (p : ℕ). IsExpected s new p) same (record {
      same = expect-directives s new k lines (outputs s) e;
      first = made.0;
      within = made.1;
      new_mismatches = expect-new_mismatches s new k lines e;
    })
expect-edit s new edit place is e = absurd cc

pub accept-edit : (s new : PlainScript) (edit : Edit) → effect_of edit ≡ effects.Accept → edited s edit (outputs s) ≡ Ok new → (directives new ≡ directives s) × (mismatches new ≡ [])
accept-edit s new Accept is e = (accept-directives s new e, accept-none s new e)
accept-edit s new edit is e = absurd cc
