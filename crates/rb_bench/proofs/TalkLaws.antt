-- A conversation as a list of edits.
use Rattle.std.proofs.Common.{◌≡◌, ℕ, ◌⊎◌, inl, inr, Bool, true, false, List, [], ◌∷◌, Option, Some, None, Result, Ok, Err, refl, subst, length}
use Rattle.std.specs.Prelude.{nat_lt, MatchBool}
use Rattle.std.specs.Result.{result_ok}
use Rattle.rb_script.specs.declared.limits.TheConstants.{MAX_SCRIPT}
use Rattle.rb_script.specs.declared.fault.ScriptFault.{ScriptFault}
use Rattle.rb_script.specs.declared.fault.EditFault.{EditFault}
use Rattle.rb_script.specs.declared.fault.EditFault.TheVariants.{TooLong, OutOfMemory}
use Rattle.rb_script.specs.declared.edit.Edit.{Edit}
use Rattle.rb_script.specs.declared.edit.Edit.TheVariants as edits
use Rattle.rb_script.specs.Lines.{Line, text_of}
use Rattle.rb_script.specs.Script.{PlainScript}
use Rattle.rb_script.specs.Edits.{edited}
use Rattle.rb_bench.specs.declared.command.Command.{Command}
use Rattle.rb_bench.specs.declared.command.Command.TheVariants as commands
use Rattle.rb_bench.specs.Commands.{command_of}
use Rattle.rb_replay.specs.declared.session.Changed.{Changed}
use Rattle.rb_replay.specs.Run.{outputs}
use Rattle.rb_replay.specs.Holding.{Holding}
use Rattle.rb_replay.specs.After.{Answered, Leads}
use Rattle.rb_bench.specs.Names.{edit_name}
use Rattle.rb_bench.specs.Responses.{Says, AnswersMade, AnswersEdit, AnswersBlock, AnswersCommand, edit_of, fault_text, refused}
use Rattle.rb_bench.specs.Talk.{Exchange, Converses}
use Rattle.rb_bench.specs.Made.{edit_for, IsPrevented, MakesNone, Makes, AreMade}

-- no edit was made, or the one that was asked for
abbrev pub IsStep : Holding → Option Edit → List Line → Bool → List ℕ → Holding → Type 0
IsStep h asked given no_memory answer after = MakesNone h asked given no_memory answer after ⊎ ((edit : Edit) × (changed : Changed) × Makes h asked edit changed answer after)

says_step : (h : Holding) (given : List Line) (no_memory : Bool) (text answer : List ℕ) (after : Holding) → Says text h answer after → IsStep h None given no_memory answer after
says_step h given no_memory text answer after a = inl (inl refl, a.1)

refused_step : (h : Holding) (edit : Edit) (given : List Line) (no_memory : Bool) (name answer : List ℕ) (after : Holding) → IsPrevented h edit given no_memory → Says (refused name) h answer after → IsStep h (Some edit) given no_memory answer after
refused_step h edit given no_memory name answer after why a = inl (inr (record { edit = edit; asked_is = refl; prevented = why; name = name; answer_is = a.0 }), a.1)

made_step : (h : Holding) (edit : Edit) (given : List Line) (made : Result PlainScript EditFault) (no_memory : Bool) (answer : List ℕ) (after : Holding) → edited h.script edit (outputs h.script) ≡ made → AnswersMade h edit made no_memory answer after
    → IsStep h (Some edit) given no_memory answer after
made_step h edit given (Err fault) no_memory answer after e a = refused_step h edit given no_memory (edit_name fault) answer after (inr (inr (fault, e))) a
made_step h edit given (Ok new) true answer after e a = refused_step h edit given true (edit_name OutOfMemory) answer after (inl refl) a
made_step h edit given (Ok new) false answer after e a = inr (edit, a.changed, record { asked_is = refl; edited_is = a.edited_is; answer_is = a.answer_is })

edit_step : (h : Holding) (edit : Edit) (given : List Line) (no_memory : Bool) (answer : List ℕ) (after : Holding) → AnswersEdit h edit no_memory answer after → IsStep h (Some edit) given no_memory answer after
edit_step h edit given no_memory answer after a = made_step h edit given (edited h.script edit (outputs h.script)) no_memory answer after refl a

-- where memory or too many given bytes come first
early_step : (h : Holding) (given : List Line) (no_memory : Bool) (made : Result Edit ScriptFault) (name answer : List ℕ) (after : Holding) → ((edit : Edit) → IsPrevented h edit given no_memory) → Says (refused name) h answer after
    → IsStep h (result_ok made) given no_memory answer after
early_step h given no_memory (Err fault) name answer after why a = says_step h given no_memory (refused name) answer after a
early_step h given no_memory (Ok edit) name answer after why a = refused_step h edit given no_memory name answer after (why edit) a

block_step : (h : Holding) (given : List Line) (made : Result Edit ScriptFault) (answer : List ℕ) (after : Holding) → AnswersBlock h made answer after → IsStep h (result_ok made) given false answer after
block_step h given (Err fault) answer after a = says_step h given false (refused (fault_text fault)) answer after a
block_step h given (Ok edit) answer after a = edit_step h edit given false answer after a

given_step : (h : Holding) (given : List Line) (long no_memory : Bool) (late early : List ℕ) (made : Result Edit ScriptFault) (answer : List ℕ) (after : Holding) → nat_lt MAX_SCRIPT (length (text_of given)) ≡ long
    → MatchBool long (Says (refused early) h answer after) (MatchBool no_memory (Says (refused late) h answer after) (AnswersBlock h made answer after)) → IsStep h (result_ok made) given no_memory answer after
given_step h given true no_memory late early made answer after e a = early_step h given no_memory made early answer after (λ edit. inr (inl e)) a
given_step h given false true late early made answer after e a = early_step h given true made late answer after (λ edit. inl refl) a
given_step h given false false late early made answer after e a = block_step h given made answer after a

command_step : (h : Holding) (c : Command) (given : List Line) (no_memory : Bool) (answer : List ℕ) (after : Holding) → AnswersCommand h c given no_memory answer after → IsStep h (edit_for c given) given no_memory answer after
command_step h (commands.Given purpose place count) given no_memory answer after a =
    given_step h given (nat_lt MAX_SCRIPT (length (text_of given))) no_memory (edit_name OutOfMemory) (edit_name TooLong) (edit_of purpose place given) answer after refl a
command_step h (commands.Remove place) given no_memory answer after a = edit_step h (edits.Remove place) given no_memory answer after a
command_step h commands.Accept given no_memory answer after a = edit_step h edits.Accept given no_memory answer after a
command_step h c given no_memory answer after a = says_step h given no_memory _ answer after a

-- the edits that exchanges made lead to the last session
abbrev pub Lead : Holding → List Exchange → Holding → Type 0
Lead h xs last = (steps : Answered) × AreMade h xs steps × Leads h steps last

one_more : (h last : Holding) (x : Exchange) (xs : List Exchange) → IsStep h (edit_for (command_of x.line) x.given) x.given x.no_memory x.answer x.after → Lead x.after xs last → Lead h (x ∷ xs) last
one_more h last x xs (inl none) (steps, made, leads) = (steps, inl (none, made), subst (λ (m : Holding). Leads m steps last) none.1 leads)
one_more h last x xs (inr (edit, changed, makes)) (steps, made, leads) =
    ((edit, Ok changed) ∷ steps, inr (edit, changed, steps, refl, makes, made), (x.after, makes.edited_is, leads))

-- the accepted edits of a conversation, each with its answer
pub conversation_leads : (h last : Holding) (xs : List Exchange) → Converses h xs last → Lead h xs last
conversation_leads h last [] e = ([], refl, e)
conversation_leads h last (x ∷ xs) (r, more) =
    one_more h last x xs (command_step h (command_of x.line) x.given x.no_memory x.answer x.after r.answers) (conversation_leads x.after last xs more)
