-- A conversation has one text.
use Rattle.std.proofs.Common.{◌≡◌, ℕ, zero, suc, ◌-◌, inl, inr, Bool, true, false, ◌||◌, List, [], ◌∷◌, ◌++◌, Option, Some, None, Result, Ok, Err, refl, ap, sym, subst, ◌∙◌, length, take, map, append_assoc, arith}
use Rattle.std.proofs.lemmas.Bool.{cases_lt}
use Rattle.std.specs.Prelude.{nat_lt, MatchBool}
use Rattle.std.specs.List.{list_any, flat_map}
use Rattle.rb_script.specs.declared.limits.TheConstants.{MAX_SCRIPT}
use Rattle.rb_script.specs.declared.fault.ScriptFault.{ScriptFault}
use Rattle.rb_script.specs.declared.fault.EditFault.{EditFault}
use Rattle.rb_script.specs.declared.edit.Edit.{Edit}
use Rattle.rb_script.specs.declared.edit.Edit.TheVariants as edits
use Rattle.rb_script.specs.Lines.{Line, text_of}
use Rattle.rb_script.specs.Script.{PlainScript}
use Rattle.rb_script.specs.Edits.{edited}
use Rattle.rb_bench.specs.declared.command.Command.{Command}
use Rattle.rb_bench.specs.declared.command.Command.TheVariants as commands
use Rattle.rb_bench.specs.Commands.{command_of}
use Rattle.rb_replay.specs.Run.{state, outputs}
use Rattle.rb_replay.specs.Report.{mismatches}
use Rattle.rb_replay.specs.Holding.{Holding, IsOneRun}
use Rattle.rb_replay.specs.Reuse.{Change, IsFirstMeeting, ReusesIf, change_of, start, stop, points_after}
use Rattle.rb_report.specs.declared.check.status.Status.{Status}
use Rattle.rb_bench.specs.Responses.{Says, IsDone, AnswersMade, AnswersBlock, AnswersCommand, edit_of, done}
use Rattle.rb_bench.specs.Talk.{Exchange, taken, answer_of, wanted, is_long, HasLong, IsCut, Responds, Converses, Ends, Talks, refusals}

-- ---- one edit

first_one : (c : Change) (o p : Option ℕ) → IsFirstMeeting c o → IsFirstMeeting c p → o ≡ p
first_one c None None first other = refl
first_one c None (Some s) first other = absurd (first s other.0)
first_one c (Some s) None first other = absurd (other s first.0)
first_one c (Some s) (Some t) first other =
    elim (cases_lt s t) [
      | inl lt ↦ absurd (other.1 s lt first.0)
      | inr ge ↦ elim (cases_lt t s) [
        | inl lt ↦ absurd (first.1 t lt other.0)
        | inr le ↦ let same : s ≡ t = omega arith in ap (λ (n : ℕ). Some n) same
      ]
    ]

-- what is used again is one
reused_once : (o : Option Change) (old : List ℕ) (m n : ℕ) (ps qs : List ℕ) → ReusesIf o old m ps → ReusesIf o old n qs → (m ≡ n) × (ps ≡ qs)
reused_once None old m n ps qs one other = (one.0 ∙ sym other.0, one.1 ∙ sym other.1)
reused_once (Some c) old m n ps qs one other =
    let same = first_one c one.cost.meeting other.cost.meeting one.cost.is_first other.cost.is_first in
    (one.cost.is_cost ∙ ap (λ o. stop c o - start c) same ∙ sym other.cost.is_cost, one.are_points ∙ ap (λ o. points_after c o) same ∙ sym other.are_points)

-- the session of a script that was run
abbrev fresh_of : PlainScript → ℕ → List ℕ → Holding
fresh_of s checkpoint_interval points = record { script = s; checkpoint_interval = checkpoint_interval; outputs = outputs s; mismatches = mismatches s; points = points; kept = map (state s) points }

fresh_is : (h : Holding) → IsOneRun h → h ≡ fresh_of h.script h.checkpoint_interval h.points
fresh_is h f = let answered = f.answered in let compared = f.compared in let states = f.states in
    ap (λ o. record { script = h.script; checkpoint_interval = h.checkpoint_interval; outputs = o; mismatches = h.mismatches; points = h.points; kept = h.kept }) answered
    ∙ ap (λ m. record { script = h.script; checkpoint_interval = h.checkpoint_interval; outputs = outputs h.script; mismatches = m; points = h.points; kept = h.kept }) compared
    ∙ ap (λ k. record { script = h.script; checkpoint_interval = h.checkpoint_interval; outputs = outputs h.script; mismatches = mismatches h.script; points = h.points; kept = k }) states

held_once : (g h : Holding) → IsOneRun g → IsOneRun h → g.script ≡ h.script → g.checkpoint_interval ≡ h.checkpoint_interval → g.points ≡ h.points → g ≡ h
held_once g h f e s k p =
    fresh_is g f ∙ ap (λ t. fresh_of t g.checkpoint_interval g.points) s ∙ ap (λ t. fresh_of h.script t g.points) k ∙ ap (λ t. fresh_of h.script h.checkpoint_interval t) p ∙ sym (fresh_is h e)

made_once : (made : Result PlainScript EditFault) (s t : PlainScript) → made ≡ Ok s → made ≡ Ok t → s ≡ t
made_once made s t e f = let same : Ok s ≡ Ok t = sym e ∙ f in cc

-- what is answered, and the session after it
abbrev IsOne : Holding → List ℕ → Holding → List ℕ → Holding → Type 0
IsOne h answer after other next = (answer ≡ other) × (after ≡ next) × (IsOneRun h → IsOneRun after)

says_once : (h : Holding) (text answer : List ℕ) (after : Holding) (other : List ℕ) (next : Holding) → Says text h answer after → Says text h other next → IsOne h answer after other next
says_once h text answer after other next a b = (a.0 ∙ sym b.0, a.1 ∙ sym b.1, λ f. subst IsOneRun (sym a.1) f)

done_once : (h : Holding) (edit : Edit) (answer : List ℕ) (after : Holding) (other : List ℕ) (next : Holding) → IsDone h edit answer after → IsDone h edit other next → IsOne h answer after other next
done_once h edit answer after other next a b =
    let one = a.edited_is in
    let two = b.edited_is in
    let script = made_once (edited h.script edit (outputs h.script)) after.script next.script one.script two.script in
    let again = subst (λ (s : PlainScript). ReusesIf (change_of h s edit) h.points b.changed.executed next.points) (sym script) two.reuse in
    let (cost, points) = reused_once (change_of h after.script edit) h.points a.changed.executed b.changed.executed after.points next.points one.reuse again in
    let counts : a.changed.mismatches ≡ b.changed.mismatches = one.mismatches_are ∙ ap (λ (s : PlainScript). length (mismatches s)) script ∙ sym two.mismatches_are in
    let texts : done a.changed ≡ done b.changed =
    ap (λ (n : ℕ). done (record { executed = n; mismatches = a.changed.mismatches })) cost ∙ ap (λ (n : ℕ). done (record { executed = b.changed.executed; mismatches = n })) counts in
    (a.answer_is ∙ texts ∙ sym b.answer_is, held_once after next one.fresh two.fresh script (one.checkpoint_interval ∙ sym two.checkpoint_interval) points, λ _. one.fresh)

made_answer : (h : Holding) (edit : Edit) (made : Result PlainScript EditFault) (no_memory : Bool) (answer : List ℕ) (after : Holding) (other : List ℕ) (next : Holding) → AnswersMade h edit made no_memory answer after → AnswersMade h edit made no_memory other next
    → IsOne h answer after other next
made_answer h edit (Err fault) no_memory answer after other next a b = says_once h _ answer after other next a b
made_answer h edit (Ok new) true answer after other next a b = says_once h _ answer after other next a b
made_answer h edit (Ok new) false answer after other next a b = done_once h edit answer after other next a b

block_answer : (h : Holding) (made : Result Edit ScriptFault) (answer : List ℕ) (after : Holding) (other : List ℕ) (next : Holding) → AnswersBlock h made answer after → AnswersBlock h made other next → IsOne h answer after other next
block_answer h (Err fault) answer after other next a b = says_once h _ answer after other next a b
block_answer h (Ok edit) answer after other next a b = made_answer h edit (edited h.script edit (outputs h.script)) false answer after other next a b

given_answer : (h : Holding) (long no_memory : Bool) (late early : List ℕ) (made : Result Edit ScriptFault) (answer : List ℕ) (after : Holding) (other : List ℕ) (next : Holding)
    → MatchBool long (Says early h answer after) (MatchBool no_memory (Says late h answer after) (AnswersBlock h made answer after))
    → MatchBool long (Says early h other next) (MatchBool no_memory (Says late h other next) (AnswersBlock h made other next)) → IsOne h answer after other next
given_answer h true no_memory late early made answer after other next a b = says_once h _ answer after other next a b
given_answer h false true late early made answer after other next a b = says_once h _ answer after other next a b
given_answer h false false late early made answer after other next a b = block_answer h made answer after other next a b

command_answer : (h : Holding) (c : Command) (given : List Line) (no_memory : Bool) (answer : List ℕ) (after : Holding) (other : List ℕ) (next : Holding) → AnswersCommand h c given no_memory answer after → AnswersCommand h c given no_memory other next
    → IsOne h answer after other next
command_answer h (commands.Given purpose place count) given no_memory answer after other next a b =
    given_answer h (nat_lt MAX_SCRIPT (length (text_of given))) no_memory _ _ (edit_of purpose place given) answer after other next a b
command_answer h (commands.Remove place) given no_memory answer after other next a b =
    made_answer h (edits.Remove place) (edited h.script (edits.Remove place) (outputs h.script)) no_memory answer after other next a b
command_answer h commands.Accept given no_memory answer after other next a b = made_answer h edits.Accept (edited h.script edits.Accept (outputs h.script)) no_memory answer after other next a b
command_answer h c given no_memory answer after other next a b = says_once h _ answer after other next a b

-- ---- lines

-- of equal lists, fronts of equal length and what is left are equal
split_once : {A : Type 0} (xs ys more rest : List A) → xs ++ more ≡ ys ++ rest → length xs ≡ length ys → (xs ≡ ys) × (more ≡ rest)
split_once [] [] more rest e n = (refl, e)
split_once [] (y ∷ ys) more rest e n = absurd cc
split_once (x ∷ xs) [] more rest e n = absurd cc
split_once (x ∷ xs) (y ∷ ys) more rest e n =
    let head : x ≡ y = cc in
    let tails : xs ++ more ≡ ys ++ rest = cc in
    let lengths : length xs ≡ length ys = omega (arith, n) in
    let (same, left) = split_once xs ys more rest tails lengths in
    (ap (λ h. h ∷ xs) head ∙ ap (λ l. y ∷ l) same, left)

-- an exchange takes lines that are told by the first
taken_once : (h g : Holding) (x y : Exchange) (more rest : List Line) → Responds h x → Responds g y → taken x ++ more ≡ taken y ++ rest → (x.line ≡ y.line) × (x.given ≡ y.given) × (more ≡ rest)
taken_once h g x y more rest r s e =
    let line : x.line ≡ y.line = cc in
    let (same, left) = split_once (taken x) (taken y) more rest e (r.whole ∙ ap (λ l. wanted l) line ∙ sym s.whole) in
    let given : x.given ≡ y.given = cc in
    (line, given, left)

-- ---- the end

take_long : (n : ℕ) (ls : List Line) → list_any is_long (take n ls) ≡ true → list_any is_long ls ≡ true
take_long zero ls e = absurd cc
take_long (suc n) [] e = e
take_long (suc n) (l ∷ ls) e =
    elim (is_long l) as (λ t. (t || list_any is_long (take n ls)) ≡ true → (t || list_any is_long ls) ≡ true) [
      | true ↦ λ _. refl
      | false ↦ λ f. take_long n ls f
    ] e

long_or_cut : (line : Line) (ls : List Line) → HasLong (line ∷ ls) → IsCut (line ∷ ls) → ⊥
long_or_cut line ls long cut = let no : true ≡ false = sym (take_long (wanted line) (line ∷ ls) long) ∙ cut.0 in absurd cc

ends_once : (h : Holding) (ls : List Line) (text other : List ℕ) (status end : Status) → Ends h ls text status → Ends h ls other end → (text ≡ other) × (status ≡ end)
ends_once h [] text other status end a b = (a.0 ∙ sym b.0, a.1 ∙ sym b.1)
ends_once h (line ∷ ls) text other status end (inl a, s) (inl b, t) = (a.1 ∙ sym b.1, s ∙ sym t)
ends_once h (line ∷ ls) text other status end (inr a, s) (inr b, t) = (a.1 ∙ sym b.1, s ∙ sym t)
ends_once h (line ∷ ls) text other status end (inl a, s) (inr b, t) = absurd (long_or_cut line ls a.0 b.0)
ends_once h (line ∷ ls) text other status end (inr a, s) (inl b, t) = absurd (long_or_cut line ls b.0 a.0)

-- ---- exchange after exchange

one_text : (h : Holding) (xs ys : List Exchange) (last end : Holding) (rest left : List Line) (text other : List ℕ) (status code : Status) → IsOneRun h → Converses h xs last → Converses h ys end
    → flat_map taken xs ++ rest ≡ flat_map taken ys ++ left → refusals xs ≡ refusals ys → Ends last rest text status → Ends end left other code
    → (flat_map answer_of xs ++ text ≡ flat_map answer_of ys ++ other) × (status ≡ code)
one_text h [] [] last end rest left text other status code f c d e m a b =
    ends_once h rest text other status code (subst (λ (g : Holding). Ends g rest text status) c a)
    (subst (λ (l : List Line). Ends h l other code) (sym e) (subst (λ (g : Holding). Ends g left other code) d b))
one_text h [] (y ∷ ys) last end rest left text other status code f c d e m a b = absurd cc
one_text h (x ∷ xs) [] last end rest left text other status code f c d e m a b = absurd cc
one_text h (x ∷ xs) (y ∷ ys) last end rest left text other status code f (r, more) (s, others) e m a b =
    let lines : taken x ++ (flat_map taken xs ++ rest) ≡ taken y ++ (flat_map taken ys ++ left) =
    sym (append_assoc (taken x) (flat_map taken xs) rest) ∙ e ∙ append_assoc (taken y) (flat_map taken ys) left in
    let (line, given, tails) = taken_once h h x y (flat_map taken xs ++ rest) (flat_map taken ys ++ left) r s lines in
    let memory : x.no_memory ≡ y.no_memory = cc in
    let refused : refusals xs ≡ refusals ys = cc in
    let by_line = subst (λ (l : Line). AnswersCommand h (command_of l) y.given y.no_memory y.answer y.after) (sym line) s.answers in
    let by_given = subst (λ (g : List Line). AnswersCommand h (command_of x.line) g y.no_memory y.answer y.after) (sym given) by_line in
    let same = subst (λ (t : Bool). AnswersCommand h (command_of x.line) x.given t y.answer y.after) (sym memory) by_given in
    let (answer, after, fresh) = command_answer h (command_of x.line) x.given x.no_memory x.answer x.after y.answer y.after r.answers same in
    let (texts, codes) = one_text x.after xs ys last end rest left text other status code (fresh f) more (subst (λ (g : Holding). Converses g ys end) (sym after) others) tails refused a b in (
      append_assoc x.answer (flat_map answer_of xs) text ∙ ap (λ (l : List ℕ). l ++ (flat_map answer_of xs ++ text)) answer ∙ ap (λ (l : List ℕ). y.answer ++ l) texts
          ∙ sym (append_assoc y.answer (flat_map answer_of ys) other),
      codes,
    )

pub talks_once : (first : Holding) (ls : List Line) (text other : List ℕ) (status code : Status) (one : Talks first ls text status) (two : Talks first ls other code) → IsOneRun first → refusals one.begins.exchanges ≡ refusals two.begins.exchanges → (text ≡ other) × (status ≡ code)
talks_once first ls text other status code one two f m =
    let (texts, codes) = one_text first one.begins.exchanges two.begins.exchanges one.last two.last one.rest two.rest one.ending two.ending status code f one.begins.converses two.begins.converses
    (sym one.begins.lines_are ∙ two.begins.lines_are) m one.ends two.ends in
    (one.text_is ∙ ap (λ (l : List ℕ). l ++ one.ending) one.begins.text_is ∙ texts ∙ sym (two.text_is ∙ ap (λ (l : List ℕ). l ++ two.ending) two.begins.text_is), codes)
