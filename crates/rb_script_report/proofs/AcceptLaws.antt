-- What is accepted and what is left.
use Rattle.std.proofs.Common.{◌≡◌, ◌∙◌, ℕ, zero, suc, ◌+◌, Bool, true, false, List, [], ◌∷◌, length, drop, Some, Result, Ok, Err, refl, ap, sym, subst, arith}
use Rattle.std.specs.Prelude.{slice_get, nat_lt, ◌<◌, ◌&&◌, ◌||◌, not, if◌then◌else◌, IfOk, IfErr}
use Rattle.std.specs.List.{list_all}
use Rattle.std.proofs.lemmas.Bool.{ltb-true}
use Rattle.std.proofs.lemmas.Option.{slice_get_within}
use Rattle.rb_script.specs.declared.edit.Edit.TheVariants.{Accept}
use Rattle.rb_script.specs.declared.fault.EditFault.{EditFault}
use Rattle.rb_script.specs.declared.fault.EditFault.TheVariants.{BadExpectation, TooLong}
use Rattle.rb_script.specs.declared.limits.TheConstants.{MAX_SCRIPT}
use Rattle.rb_script.specs.Lines.{Line}
use Rattle.rb_script.specs.Script.{PlainBlock, PlainScript, text, expecting, all_expecting, with_outputs}
use Rattle.rb_script.specs.Valid.{IsScript}
use Rattle.rb_script.specs.Reads.{Reads}
use Rattle.rb_script.specs.Edits.{edited, is_expectation, unless, Makes, EditFails}
use Rattle.rb_script.proofs.ScriptLaws.{reads_once}
use Rattle.rb_script.proofs.TextLaws.{text_reads}
use Rattle.rb_replay.specs.Report.{same_lines}
use Rattle.rb_replay.proofs.ChangeLaws.{accepted}
use Rattle.rb_replay.proofs.DifferingLaws.{same_lines-Decides}
use Rattle.rb_script_report.specs.declared.accept_options.AcceptFilter.{AcceptFilter}
use Rattle.rb_script_report.specs.declared.accept_options.AcceptFilter.TheVariants as picks
use Rattle.rb_script_report.specs.declared.accept_options.AcceptOptions.{AcceptOptions}
use Rattle.rb_script_report.specs.Errors.{is_unexpected}
use Rattle.rb_text.proofs.SentLaws.{drop-get}
use Rattle.rb_script_report.specs.Accepting.{is_picked, is_left, accepted_of}
use Rattle.rb_script_report.specs.Refusing.{has_long_line, bad_head}

-- ---- the script with what is accepted

one_block : (t : Bool) (b : PlainBlock) (o : List Line) → expecting b (if t then b.expected else o) ≡ (if t then b else expecting b o)
one_block true b o = refl
one_block false b o = refl

pub accepted_at : (wanted : AcceptOptions) (ls : List Line) (heads : List ℕ) (bs : List PlainBlock) (os : List (List Line)) (k line : ℕ) (b : PlainBlock) (o : List Line)
    → slice_get heads k ≡ Some line → slice_get bs k ≡ Some b → slice_get os k ≡ Some o
    → slice_get (all_expecting bs (accepted_of wanted ls heads bs os)) k ≡ Some (if is_left wanted ls line b o then b else expecting b o)
unfolding all_expecting
accepted_at wanted ls [] bs os k line b o h hb ho = absurd (omega (arith, slice_get_within [] k line h))
accepted_at wanted ls (n ∷ heads) [] os k line b o h hb ho = absurd (omega (arith, slice_get_within [] k b hb))
accepted_at wanted ls (n ∷ heads) (c ∷ bs) [] k line b o h hb ho = absurd (omega (arith, slice_get_within [] k o ho))
accepted_at wanted ls (n ∷ heads) (c ∷ bs) (p ∷ os) zero line b o h hb ho =
    let head : n ≡ line = cc in
    let block : c ≡ b = cc in
    let output : p ≡ o = cc in
    rw (head, block, output) (ap (λ (x : PlainBlock). Some x) (one_block (is_left wanted ls line b o) b o))
accepted_at wanted ls (n ∷ heads) (c ∷ bs) (p ∷ os) (suc k) line b o h hb ho = accepted_at wanted ls heads bs os k line b o h hb ho

-- as many as there are directives
pub accepted_len : (wanted : AcceptOptions) (ls : List Line) (heads : List ℕ) (bs : List PlainBlock) (os : List (List Line)) → length heads ≡ length bs → length os ≡ length bs → length (accepted_of wanted ls heads bs os) ≡ length bs
accepted_len wanted ls [] [] os h e = refl
accepted_len wanted ls [] (b ∷ bs) os h e = absurd (omega (arith, h))
accepted_len wanted ls (n ∷ heads) [] os h e = absurd (omega (arith, h))
accepted_len wanted ls (n ∷ heads) (b ∷ bs) [] h e = absurd (omega (arith, e))
accepted_len wanted ls (n ∷ heads) (b ∷ bs) (o ∷ os) h e = let rest = accepted_len wanted ls heads bs os (omega (arith, h)) (omega (arith, e)) in omega (arith, rest)

-- what the edit answered is that script
pub made_of : (r : Result PlainScript EditFault) (s : PlainScript) (os : List (List Line)) → Makes r (edited s Accept os) → IfOk r (λ new. new ≡ with_outputs s os)
made_of (Ok new) s os made = sym (accepted s new os made)
made_of (Err e) s os made = tt

-- and where it refused, for that fault
pub fails_of : (r : Result PlainScript EditFault) (s : PlainScript) (os : List (List Line)) → Makes r (edited s Accept os) → IfErr r (λ fault. EditFails fault (edited s Accept os))
fails_of (Ok new) s os made = tt
fails_of (Err e) s os made = made

-- ---- where it does not fit

second_test : (t u : Bool) (s : PlainScript) → unless t BadExpectation (unless u TooLong (Ok s)) ≡ Err TooLong → u ≡ true
second_test true u s e = absurd cc
second_test false true s e = refl
second_test false false s e = absurd cc

-- the edit is refused as too long only where the text is
pub too_long : (s : PlainScript) (os : List (List Line)) → edited s Accept os ≡ Err TooLong → MAX_SCRIPT < length (text (with_outputs s os))
unfolding edited
too_long s os e = ltb-true MAX_SCRIPT (length (text (with_outputs s os))) (second_test (not (list_all is_expectation os)) (nat_lt MAX_SCRIPT (length (text (with_outputs s os)))) (with_outputs s os) e)

-- one head more is looked at
pub bad-step : (heads : List ℕ) (os : List (List Line)) (i line : ℕ) (o : List Line) (t : Bool) → slice_get heads i ≡ Some line → slice_get os i ≡ Some o → has_long_line o ≡ t
    → bad_head (drop i heads) (drop i os) ≡ (if t then line else bad_head (drop (i + 1) heads) (drop (i + 1) os))
bad-step heads os i line o t head output is =
    ap (λ (ns : List ℕ). bad_head ns (drop i os)) (drop-get heads i line head)
    ∙ ap (λ (outs : List (List Line)). bad_head (line ∷ drop (i + 1) heads) outs) (drop-get os i o output)
    ∙ ap (λ (x : Bool). if x then line else bad_head (drop (i + 1) heads) (drop (i + 1) os)) is

-- ---- reading back

-- two scripts with one canonical text are one
pub text_once : (s t : PlainScript) → IsScript s → IsScript t → text s ≡ text t → s ≡ t
text_once s t hs ht same = reads_once (text s) s t (text_reads s hs) (subst (λ (bytes : List ℕ). Reads bytes t) (sym same) (text_reads t ht))

-- ---- what is left, and what is when all is asked for

left_when : (t : Bool) (b c : PlainBlock) → t ≡ true → (if t then b else c) ≡ b
left_when true b c is = refl
left_when false b c is = absurd cc

-- a new error is left
new_left : (p e u s : Bool) → e ≡ false → u ≡ true → s ≡ false → ((not p || (not e && u)) && not s) ≡ true
new_left true false true false none new differs = refl
new_left false false true false none new differs = refl
new_left p e u true none new differs = absurd cc
new_left p e false false none new differs = absurd cc
new_left p true true false none new differs = absurd cc

pub left_new : (wanted : AcceptOptions) (ls : List Line) (heads : List ℕ) (bs : List PlainBlock) (os : List (List Line)) (k line : ℕ) (b : PlainBlock) (o : List Line) → wanted.errors ≡ false
    → slice_get heads k ≡ Some line → slice_get bs k ≡ Some b → slice_get os k ≡ Some o → is_unexpected ls line o ≡ true → same_lines b.expected o ≡ false
    → slice_get (all_expecting bs (accepted_of wanted ls heads bs os)) k ≡ Some b
left_new wanted ls heads bs os k line b o none h hb ho new differs =
    accepted_at wanted ls heads bs os k line b o h hb ho
    ∙ ap (λ (x : PlainBlock). Some x) (left_when (is_left wanted ls line b o) b (expecting b o) (new_left (is_picked wanted.picked line) wanted.errors (is_unexpected ls line o) (same_lines b.expected o) none new differs))

-- of a directive that isn't picked the block stays: it is left, or expects its output already
unpicked : (p r s : Bool) (b : PlainBlock) (o : List Line) → p ≡ false → (s ≡ true → expecting b o ≡ b) → (if (not p || r) && not s then b else expecting b o) ≡ b
unpicked true r s b o none same = absurd cc
unpicked false r true b o none same = same refl
unpicked false r false b o none same = refl

same_stays : (b : PlainBlock) (o : List Line) → same_lines b.expected o ≡ true → expecting b o ≡ b
same_stays b o same = ap (λ (ls : List Line). expecting b ls) (sym ((same_lines-Decides b.expected o).0 same))

pub stays : (wanted : AcceptOptions) (ls : List Line) (heads : List ℕ) (bs : List PlainBlock) (os : List (List Line)) (k line : ℕ) (b : PlainBlock) (o : List Line)
    → slice_get heads k ≡ Some line → slice_get bs k ≡ Some b → slice_get os k ≡ Some o → is_picked wanted.picked line ≡ false
    → slice_get (all_expecting bs (accepted_of wanted ls heads bs os)) k ≡ Some b
stays wanted ls heads bs os k line b o h hb ho none =
    accepted_at wanted ls heads bs os k line b o h hb ho
    ∙ ap (λ (x : PlainBlock). Some x) (unpicked (is_picked wanted.picked line) (not wanted.errors && is_unexpected ls line o) (same_lines b.expected o) b o none (same_stays b o))

-- where each directive is picked and errors are taken, the output is
one_taken : (p : AcceptFilter) (e u s : Bool) (line : ℕ) (x o : List Line) → p ≡ picks.All → e ≡ true → (if (not (is_picked p line) || (not e && u)) && not s then x else o) ≡ o
one_taken picks.All true u s line x o all taken = refl
one_taken picks.All false u s line x o all taken = absurd cc
one_taken (picks.Heads heads) e u s line x o all taken = absurd cc
one_taken (picks.UpTo last) e u s line x o all taken = absurd cc

pub all_accepted : (wanted : AcceptOptions) (ls : List Line) (heads : List ℕ) (bs : List PlainBlock) (os : List (List Line)) → wanted.errors ≡ true → wanted.picked ≡ picks.All → length heads ≡ length bs → length os ≡ length bs → accepted_of wanted ls heads bs os ≡ os
all_accepted wanted ls [] [] [] taken all h e = refl
all_accepted wanted ls [] [] (o ∷ os) taken all h e = absurd (omega (arith, e))
all_accepted wanted ls [] (b ∷ bs) os taken all h e = absurd (omega (arith, h))
all_accepted wanted ls (n ∷ heads) [] os taken all h e = absurd (omega (arith, h))
all_accepted wanted ls (n ∷ heads) (b ∷ bs) [] taken all h e = absurd (omega (arith, e))
all_accepted wanted ls (n ∷ heads) (b ∷ bs) (o ∷ os) taken all h e =
    ap (λ (x : List Line). x ∷ accepted_of wanted ls heads bs os) (one_taken wanted.picked wanted.errors (is_unexpected ls n o) (same_lines b.expected o) n b.expected o all taken)
    ∙ ap (λ (xs : List (List Line)). o ∷ xs) (all_accepted wanted ls heads bs os taken all (omega (arith, h)) (omega (arith, e)))
