-- What is said as outputs are accepted.
use Rattle.std.proofs.Common.{◌≡◌, ◌∙◌, ℕ, ◌-◌, Bool, true, false, List, [], ◌∷◌, ◌++◌, Option, None, Some, length, refl, ap, sym, append_assoc, append-nil, arith}
use Rattle.std.specs.Prelude.{◌==◌, ◌&&◌, if◌then◌else◌, nat_lt, slice_get}
use Rattle.std.specs.List.{list_any}
use Rattle.rb_script.specs.Lines.{Line}
use Rattle.rb_script.specs.Script.{PlainBlock}
use Rattle.rb_replay.specs.Report.{mismatches}
use Rattle.rb_replay.specs.Run.{outputs}
use Rattle.rb_files.specs.declared.path_error.PathError.{PathError}
use Rattle.rb_report.specs.declared.check.failure.Failure.{Failure}
use Rattle.rb_report.specs.Failures.{failure_text}
use Rattle.rb_report.specs.Notices.{left_text as left_note}
use Rattle.rb_script_report.specs.declared.accept_options.AcceptFilter.{AcceptFilter}
use Rattle.rb_script_report.specs.declared.accept_options.AcceptFilter.TheVariants as picks
use Rattle.rb_script_report.specs.declared.accept_options.AcceptOptions.{AcceptOptions}
use Rattle.rb_script_report.specs.declared.written.AcceptFault.{AcceptFault}
use Rattle.rb_script_report.specs.Accepting.{all_left, is_left, is_picked, left_heads}
use Rattle.rb_script_report.specs.Checked.{head_of}
use Rattle.rb_script_report.specs.Errors.{first_line}
use Rattle.rb_check.specs.declared.format.Format.{Format}
use Rattle.rb_check.specs.declared.remark.Remark.TheVariants as remarks
use Rattle.rb_check.specs.declared.report_state.ReportForm.{ReportForm}
use Rattle.rb_check.specs.declared.script_result.ScriptResult.{ScriptResult}
use Rattle.rb_check.specs.AcceptTexts.{echoes_text, ended_text, leaving_text, left_in, left_shown, refusal_failure, refusal_note, refusal_says, refusal_text}
use Rattle.rb_check.specs.Results.{after_accepting}
use Rattle.rb_check.specs.Shown.{cause_text, cleared, failure_lines, in_form, left_text, remark_text, says_cause}
use Rattle.rb_check.specs.Subjects.{PlainChecked, result_of}

-- ---- if no output is left

none_of : (left picked : Bool) (line : ℕ) (rest t more : List ℕ) → (if left then line ∷ [] else []) ++ rest ≡ [] → (rest ≡ [] → more ≡ []) → (if picked && left then t else []) ++ more ≡ []
none_of true picked line rest t more e next = absurd cc
none_of false true line rest t more e next = next e
none_of false false line rest t more e next = next e

none_shown : (wanted : AcceptOptions) (ls : List Line) (path : List ℕ) (heads : List ℕ) (bs : List PlainBlock) (os : List (List Line)) → left_heads wanted ls heads bs os ≡ [] → all_left wanted ls path heads bs os ≡ []
none_shown wanted ls path [] bs os e = refl
none_shown wanted ls path (line ∷ heads) [] os e = refl
none_shown wanted ls path (line ∷ heads) (b ∷ bs) [] e = refl
none_shown wanted ls path (line ∷ heads) (b ∷ bs) (o ∷ os) e =
    none_of (is_left wanted ls line b o) (is_picked wanted.picked line) line (left_heads wanted ls heads bs os) (left_note path line (head_of b) (first_line o)) (all_left wanted ls path heads bs os) e
    (λ rest. none_shown wanted ls path heads bs os rest)

in_form_none : (o : Option Format) → in_form o [] (λ _. []) ≡ []
in_form_none None = refl
in_form_none (Some f) = refl

no_echoes : (form : ReportForm) (path : List ℕ) (picked : AcceptFilter) → echoes_text form path picked [] ≡ []
no_echoes form path picks.All = refl
no_echoes form path (picks.Heads heads) = refl
no_echoes form path (picks.UpTo line) = refl

pub leaves_none : (form : ReportForm) (wanted : AcceptOptions) (c : PlainChecked) → left_in wanted c ≡ [] → leaving_text form wanted c ≡ []
leaves_none form wanted c none =
    ap (λ (left : List ℕ). left_text form c.path wanted.picked left ++ (left_shown form wanted c ++ echoes_text form c.path wanted.picked left)) none
    ∙ ap (λ (t : List ℕ). t ++ echoes_text form c.path wanted.picked []) (ap (λ (t : List ℕ). in_form form.format t (λ _. [])) (none_shown wanted c.layout.text c.path c.layout.heads.items c.script.blocks (outputs c.script) none) ∙ in_form_none form.format)
    ∙ no_echoes form c.path wanted.picked

-- ---- below a new error

pub echoes_if : (form : ReportForm) (path : List ℕ) (picked : AcceptFilter) (line : ℕ) (left : List ℕ) (below : Bool) → picked ≡ picks.UpTo line → below ≡ list_any (λ head. nat_lt line head) left
    → echoes_text form path picked left ≡ (if below then remark_text form path (remarks.Echoes line) else [])
echoes_if form path picked line left below is same = ap (λ (p : AcceptFilter). echoes_text form path p left) is ∙ ap (λ (b : Bool). if b then remark_text form path (remarks.Echoes line) else []) (sym same)

-- ---- what became of the others

same_number : (n : ℕ) → (n == n) ≡ true
same_number n = grind arith

-- none was accepted
pub ended_none : (form : ReportForm) (c : PlainChecked) (r : ScriptResult) → r ≡ result_of c → ended_text form c r ≡ []
ended_none form c r is = ap (ended_text form c) is ∙ ap (λ (b : Bool). if b then [] else remark_text form c.path (remarks.Accepted 0)) (same_number (length (mismatches c.script)))

pub after_all : (r : ScriptResult) (left : List ℕ) → length left ≡ r.left → r ≡ after_accepting r left
after_all r left all = sym (ap (λ (b : Bool). if b then r else record r { left = length left; accepted = r.left - length left; first = slice_get left 0 }) (ap (λ (n : ℕ). n == r.left) all ∙ same_number r.left))

failure_by : (b : Bool) (r s : ScriptResult) → s.failure ≡ r.failure → (if b then r else s).failure ≡ r.failure
failure_by true r s same = refl
failure_by false r s same = same

pub after_failure : (r : ScriptResult) (left : List ℕ) → (after_accepting r left).failure ≡ r.failure
after_failure r left = failure_by (length left == r.left) r (record r { left = length left; accepted = r.left - length left; first = slice_get left 0 }) refl

-- some was
pub ended_some : (form : ReportForm) (c : PlainChecked) (r : ScriptResult) (left : List ℕ) → r ≡ result_of c → (length left == r.left) ≡ false → ended_text form c (after_accepting r left) ≡ remark_text form c.path (remarks.Accepted (after_accepting r left).accepted)
ended_some form c r left is some =
    let n = length (mismatches c.script) in
    let whole = result_of c in
    let made = record whole { left = length left; accepted = n - length left; first = slice_get left 0 } in
    let other : (length left == n) ≡ false = sym (ap (λ (s : ScriptResult). length left == s.left) is) ∙ some in
    let after : after_accepting r left ≡ made = ap (λ (s : ScriptResult). after_accepting s left) is ∙ ap (λ (b : Bool). if b then whole else made) other in
    ap (ended_text form c) after ∙ ap (λ (b : Bool). if b then [] else remark_text form c.path (remarks.Accepted made.accepted)) other ∙ sym (ap (λ (s : ScriptResult). remark_text form c.path (remarks.Accepted s.accepted)) after)

-- ---- a script that can't be written

pub refusal_whole : (shows : Bool) (path : List ℕ) (fault : AcceptFault) (error : PathError) (words note : List ℕ) → error.failure ≡ refusal_failure fault → says_cause error ≡ refusal_says fault → note ≡ refusal_note path fault
    → (cleared shows ++ failure_lines path error words) ++ note ≡ cleared shows ++ refusal_text path fault words
refusal_whole shows path fault error words note failure says same =
    append_assoc (cleared shows) (failure_lines path error words) note
    ∙ ap (λ (l : List ℕ). cleared shows ++ l) (append_assoc (failure_text path error.failure) (cause_text (says_cause error) path words) note
    ∙ ap (λ (f : Failure). failure_text path f ++ (cause_text (says_cause error) path words ++ note)) failure
    ∙ ap (λ (b : Bool). failure_text path (refusal_failure fault) ++ (cause_text b path words ++ note)) says
    ∙ ap (λ (n : List ℕ). failure_text path (refusal_failure fault) ++ (cause_text (refusal_says fault) path words ++ n)) same)

-- with nothing after it
pub refusal_alone : (shows : Bool) (path : List ℕ) (fault : AcceptFault) (error : PathError) (words : List ℕ) → error.failure ≡ refusal_failure fault → says_cause error ≡ refusal_says fault → [] ≡ refusal_note path fault
    → cleared shows ++ failure_lines path error words ≡ cleared shows ++ refusal_text path fault words
refusal_alone shows path fault error words failure says none = sym (append-nil (cleared shows ++ failure_lines path error words)) ∙ refusal_whole shows path fault error words [] failure says none
