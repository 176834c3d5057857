-- Reading that stops before the end of the input.
use Rattle.std.proofs.Common.{◌≡◌, ◌<◌, ◌≤◌, ℕ, inl, inr, List, [], ◌∷◌, ◌++◌, Option, Some, None, Result, Ok, Err, refl, ap, sym, subst, ◌∙◌, length, append_assoc, arith}
use Rattle.std.specs.Prelude.{IfOk, OnErr}
use Rattle.std.specs.List.{list_any, flat_map}
use Rattle.std.specs.Io.KnownBytes.{Consumes}
use Rattle.rb_script.specs.declared.limits.TheConstants.{MAX_LINE}
use Rattle.rb_script.specs.Lines.{Line, lines, without_returns}
use Rattle.rb_bench.specs.declared.command.Command.{Command}
use Rattle.rb_bench.specs.Commands.{command_of}
use Rattle.rb_replay.specs.Holding.{Holding}
use Rattle.rb_text.specs.declared.line_reader.LineReader.{LineReader}
use Rattle.rb_text.specs.declared.source.InputFault.{InputFault}
use Rattle.rb_text.specs.Begun.{HasNoNewline}
use Rattle.rb_text.specs.Given.{LosesLine}
use Rattle.rb_text.specs.Left.{left_of}
use Rattle.rb_text.specs.Taken.{AreWhole, StopsInLine, TakesWhole}
use Rattle.rb_text.proofs.CutLaws.{lines_none, lines_whole, lines_of_whole, whole_both}
use Rattle.rb_text.proofs.TakenLaws.{takes_then}
use Rattle.rb_bench.specs.declared.given_lines.GivenLines.{GivenLines}
use Rattle.rb_bench.specs.declared.hear.HeardCommand.{HeardCommand}
use Rattle.rb_bench.specs.declared.hear.HeardCommand.TheVariants as heards
use Rattle.rb_report.specs.declared.check.status.Status.{Status}
use Rattle.rb_bench.specs.declared.fault.BenchFault.{BenchFault}
use Rattle.rb_bench.specs.Talk.{is_long, given_count, taken}
use Rattle.rb_bench.specs.Hearing.{IsCommand}
use Rattle.rb_bench.specs.Serves.{IsStarted}
use Rattle.rb_bench.specs.Stopping.{AreTooFew, IsUnfinished, Came, IfCame, StopsBehind, TakesHeard, TakesTurn, AnswersCame, ServesCame}
use Rattle.rb_bench.proofs.HearLaws.{Takes, cut_after, short_line}
use Rattle.rb_bench.proofs.TurnLaws.{HasGone}

-- ---- bytes that came behind others

three : (all whole mid begun rest : List ℕ) → all ≡ whole ++ mid → mid ≡ begun ++ rest → all ≡ (whole ++ begun) ++ rest
three all whole mid begun rest e f = e ∙ ap (λ (l : List ℕ). whole ++ l) f ∙ sym (append_assoc whole begun rest)

-- so many lines were taken whole, and then the beginning of one came
came_short : (all mid after : Option (List ℕ)) (count wanted : ℕ) (given : GivenLines) (whole begun : List ℕ) → Takes all mid count given → AreWhole whole → Consumes all mid whole
    → HasNoNewline begun → length (without_returns begun) ≤ MAX_LINE → Consumes mid after begun → count < wanted → IfCame all after (Came (AreTooFew wanted))
came_short None mid after count wanted given whole begun t w c free short lost lt = tt
came_short (Some all) None after count wanted given whole begun t w c free short lost lt = absurd t
came_short (Some all) (Some mid) None count wanted given whole begun t w c free short lost lt = absurd lost
came_short (Some all) (Some mid) (Some rest) count wanted given whole begun t w c free short lost lt =
    let same = lines_of_whole all whole mid t.ls w c t.lines_are in (
      whole ++ begun,
      three all whole mid begun rest c lost,
      record {
        whole = whole;
        begun = begun;
        bytes_are = refl;
        are_whole = w;
        no_newline = free;
        short = short;
        held = (omega (arith, ap length same, t.count_is, lt), ap (list_any is_long) same ∙ t.short);
      },
    )

pub stops_short : (x y : LineReader) (a b after : Option (List ℕ)) (count wanted : ℕ) (given : GivenLines) → Takes (left_of x a) (left_of y b) count given → TakesWhole x y a b → StopsInLine y b after → count < wanted
    → StopsBehind (AreTooFew wanted) x a after
stops_short x y a b after count wanted given t whole s lt =
    let took = whole s.going in record {
      going = took.going;
      came = came_short (left_of x a) (left_of y b) after count wanted given took.bytes s.begun t took.are_whole took.taken s.no_newline s.short s.lost lt;
    }

-- nothing but the beginning of a line came
came_first : (all after : Option (List ℕ)) (begun : List ℕ) → HasNoNewline begun → length (without_returns begun) ≤ MAX_LINE → Consumes all after begun → IfCame all after (Came IsUnfinished)
came_first None after begun free short lost = tt
came_first (Some all) None begun free short lost = absurd lost
came_first (Some all) (Some rest) begun free short lost =
    (begun, lost, record { whole = []; begun = begun; bytes_are = refl; are_whole = inl refl; no_newline = free; short = short; held = inl lines_none })

pub stops_first : (x : LineReader) (a after : Option (List ℕ)) → StopsInLine x a after → StopsBehind IsUnfinished x a after
stops_first x a after s = record { going = s.going; came = came_first (left_of x a) after s.begun s.no_newline s.short s.lost }

-- a command came whose lines are too few
came_after : (all mid after : Option (List ℕ)) (line : Line) (whole : List ℕ) → LosesLine all mid line → length line ≤ MAX_LINE → AreWhole whole → Consumes all mid whole
    → IfCame mid after (Came (AreTooFew (given_count (command_of line)))) → IfCame all after (Came IsUnfinished)
came_after None mid after line whole l le w c more = tt
came_after (Some all) None after line whole l le w c more = absurd l
came_after (Some all) (Some mid) None line whole l le w c more = absurd more
came_after (Some all) (Some mid) (Some rest) line whole l le w c (bytes, e, came) =
    let first = lines_of_whole all whole mid (line ∷ []) w c l in
    let lines_are = lines_whole whole came.whole w ∙ ap (λ (ls : List Line). ls ++ lines came.whole) first in (
      whole ++ bytes,
      three all whole mid bytes rest c e,
      record {
        whole = whole ++ came.whole;
        begun = came.begun;
        bytes_are = ap (λ (l : List ℕ). whole ++ l) came.bytes_are ∙ sym (append_assoc whole came.whole came.begun);
        are_whole = whole_both whole came.whole w came.are_whole;
        no_newline = came.no_newline;
        short = came.short;
        held = inr (cut_after line (lines came.whole) (lines (whole ++ came.whole)) lines_are (short_line line le) came.held.1 came.held.0);
      },
    )

pub stops_after : (x y : LineReader) (a b after : Option (List ℕ)) (command : Command) (held line : Line) → LosesLine (left_of x a) (left_of y b) line → length line ≤ MAX_LINE → TakesWhole x y a b
    → command ≡ command_of held → held ≡ line → StopsBehind (AreTooFew (given_count command)) y b after → StopsBehind IsUnfinished x a after
stops_after x y a b after command held line l le whole c e s =
    let took = whole s.going in
    let came = subst (λ (m : Command). IfCame (left_of y b) after (Came (AreTooFew (given_count m)))) (c ∙ ap command_of e) s.came in
    record { going = took.going; came = came_after (left_of x a) (left_of y b) after line took.bytes l le took.are_whole took.taken came }

pub heard_then : (r : Result HeardCommand InputFault) (x y z : LineReader) (a b c : Option (List ℕ)) → TakesWhole x y a b → IfOk r (λ heard. TakesHeard heard y z b c) → IfOk r (λ heard. TakesHeard heard x z a c)
heard_then (Ok (heards.Command command given)) x y z a b c first h = takes_then x y z a b c first h
heard_then r x y z a b c first h = tt

heard_command : (heard : HeardCommand) (x y : LineReader) (a b : Option (List ℕ)) → IsCommand heard → TakesHeard heard x y a b → TakesWhole x y a b
heard_command (heards.Command command given) x y a b is h = h
heard_command heard x y a b is h = absurd is

-- ---- turns

pub turn_takes : (status : Option Status) (heard : HeardCommand) (x y : LineReader) (a b : Option (List ℕ)) → (status ≡ None → IsCommand heard) → TakesHeard heard x y a b → TakesTurn status x y a b
turn_takes None heard x y a b going h = heard_command heard x y a b (going refl) h
turn_takes (Some status) heard x y a b going h = tt

-- behind the turns that went out no command came whole
answers_came : (all mid after : Option (List ℕ)) (first now : Holding) (old new : Option (List ℕ)) (whole : List ℕ) → HasGone all mid first now old new → AreWhole whole → Consumes all mid whole
    → IfCame mid after (Came IsUnfinished) → AnswersCame first all after old new
answers_came None mid after first now old new whole gone w c more = tt
answers_came (Some all) None after first now old new whole gone w c more = absurd gone
answers_came (Some all) (Some mid) None first now old new whole gone w c more = absurd more
answers_came (Some all) (Some mid) (Some rest) first now old new whole gone w c (bytes, e, came) =
    let same = lines_of_whole all whole mid (flat_map taken gone.begins.exchanges) w c gone.begins.lines_are in (
      whole ++ bytes,
      three all whole mid bytes rest c e,
      record {
        whole = whole ++ came.whole;
        begun = came.begun;
        bytes_are = ap (λ (l : List ℕ). whole ++ l) came.bytes_are ∙ sym (append_assoc whole came.whole came.begun);
        are_whole = whole_both whole came.whole w came.are_whole;
        no_newline = came.no_newline;
        short = came.short;
        held = record {
          rest = lines came.whole;
          last = now;
          text = gone.text;
          begins = record {
            exchanges = gone.begins.exchanges;
            lines_are = lines_whole whole came.whole w ∙ ap (λ (ls : List Line). ls ++ lines came.whole) same;
            converses = gone.begins.converses;
            text_is = gone.begins.text_is;
          };
          unfinished = came.held;
          went_out = gone.went_out;
        };
      },
    )

pub answers_stopped : (x y : LineReader) (a b after : Option (List ℕ)) (first now : Holding) (old held new : Option (List ℕ)) → HasGone (left_of x a) (left_of y b) first now old held → TakesWhole x y a b
    → StopsBehind IsUnfinished y b after → new ≡ held → AnswersCame first (left_of x a) after old new
answers_stopped x y a b after first now old held new gone whole s e =
    let took = whole s.going in
    let came = answers_came (left_of x a) (left_of y b) after first now old held took.bytes gone took.are_whole took.taken s.came in
    subst (λ (o : Option (List ℕ)). AnswersCame first (left_of x a) after old o) (sym e) came

-- where all is left to be read
pub serves_came : (r : Result Status BenchFault) (fault : BenchFault) (left all after : Option (List ℕ)) (script : List ℕ) (every : ℕ) (first : Holding) (old new : Option (List ℕ)) → left ≡ all → IsStarted script every first
    → OnErr r (AnswersCame first left after old new) → r ≡ Err fault → ServesCame script every all after old new
serves_came (Ok status) fault left all after script every first old new e s h is = absurd cc
serves_came (Err other) fault left all after script every first old new e s h is = (first, s, subst (λ (o : Option (List ℕ)). AnswersCame first o after old new) e h)
