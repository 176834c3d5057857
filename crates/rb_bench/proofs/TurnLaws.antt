-- One serve_one, and the turns so far.
use Rattle.std.proofs.Common.{◌≡◌, ℕ, ◌⊎◌, inl, inr, Bool, List, [], ◌∷◌, ◌++◌, Option, Some, None, Ok, Err, refl, ap, sym, subst, ◌∙◌, append_assoc, append-nil}
use Rattle.std.specs.List.{flat_map}
use Rattle.std.specs.Io.KnownBytes.{Appends}
use Rattle.std.proofs.KnownBytes.{Appends-nil, Appends-trans}
use Rattle.std.proofs.lemmas.List.Concat.{flat_map-append}
use Rattle.rb_script.specs.Writes.{AppendsFront}
use Rattle.rb_report.specs.declared.check.status.Status.{Status}
use Rattle.rb_bench.specs.declared.fault.BenchFault.{BenchFault}
use Rattle.rb_script.specs.Lines.{Line, lines}
use Rattle.rb_bench.specs.declared.command.Command.{Command}
use Rattle.rb_replay.specs.Holding.{Holding}
use Rattle.rb_bench.specs.declared.given_lines.GivenLines.{GivenLines}
use Rattle.rb_bench.specs.declared.hear.HeardCommand.{HeardCommand}
use Rattle.rb_bench.specs.declared.hear.HeardCommand.TheVariants as heards
use Rattle.rb_bench.specs.Responses.{AnswersCommand}
use Rattle.rb_bench.specs.Talk.{Exchange, taken, answer_of, Converses, Responds, Ends, Talks, Begins}
use Rattle.rb_bench.specs.Serves.{WentOut, WentOutInPart, TalksOut}
use Rattle.rb_bench.specs.Hearing.{IsGiven, HearsCommand, Hears, HearsOf}
use Rattle.rb_bench.specs.Turns.{IsExchange, IsTurn, IsDue, Turned, TurnedInPart, TurnsOut}
use Rattle.rb_bench.specs.Known.{IfKnown}

-- a command that was heard is an exchange
exchanged : (h : Holding) (command : Command) (given : GivenLines) (ls rest : List Line) (answer : List ℕ) (after : Holding) → HearsCommand command given ls rest
    → ((given_lines : List Line) → IsGiven given given_lines → (no_memory : Bool) × AnswersCommand h command given_lines no_memory answer after) → IsExchange h ls rest answer after
exchanged h command given ls rest answer after heard answers =
    let (no_memory, p) = answers heard.given_lines heard.is_given in record {
      exchange = record { line = heard.line; given = heard.given_lines; no_memory = no_memory; answer = answer; after = after };
      lines_are = heard.lines_are;
      responds = record {
        whole = heard.whole;
        short = heard.short;
        answers = subst (λ (c : Command). AnswersCommand h c heard.given_lines no_memory answer after) heard.command_is p;
      };
      answer_is = refl;
      after_is = refl;
    }

pub exchange_heard : (h : Holding) (heard : HeardCommand) (command : Command) (given : GivenLines) (ls rest : List Line) (answer : List ℕ) (after : Holding) → heard ≡ heards.Command command given → Hears heard ls rest
    → ((given_lines : List Line) → IsGiven given given_lines → (no_memory : Bool) × AnswersCommand h command given_lines no_memory answer after) → IsExchange h ls rest answer after
exchange_heard h heard command given ls rest answer after e hears answers = exchanged h command given ls rest answer after (subst (λ (m : HeardCommand). Hears m ls rest) e hears) answers

-- ---- a serve_one

-- what was answered went out
pub turned : (before left : Option (List ℕ)) (heard : HeardCommand) (h after : Holding) (text : List ℕ) (status : Option Status) (old new : Option (List ℕ)) → HearsOf before left heard
    → ((ls rest : List Line) → Hears heard ls rest → IsTurn h ls rest text after status) → Appends old new text → TurnsOut before left (Ok status) h after old new
turned None left heard h after text status old new hears turns out = tt
turned (Some bytes) None heard h after text status old new hears turns out = absurd hears
turned (Some bytes) (Some rest) heard h after text status old new hears turns out = record { text = text; serve_one = turns (lines bytes) (lines rest) hears; went_out = out }

-- a beginning of it
pub turn_failed : (before left : Option (List ℕ)) (heard : HeardCommand) (h after : Holding) (text : List ℕ) (status : Option Status) (fault : BenchFault) (old new : Option (List ℕ)) → HearsOf before left heard
    → ((ls rest : List Line) → Hears heard ls rest → IsTurn h ls rest text after status) → AppendsFront old new text → TurnsOut before left (Err fault) h after old new
turn_failed None left heard h after text status fault old new hears turns out = tt
turn_failed (Some bytes) None heard h after text status fault old new hears turns out = absurd hears
turn_failed (Some bytes) (Some rest) heard h after text status fault old new hears turns out =
    record { text = text; is_due = inr (lines rest, after, status, turns (lines bytes) (lines rest) hears); went_out = out }

-- ---- serve_one after serve_one

-- the turns so far, from the first session and all lines to this session and the lines that are left, went out
pub record Goes (first now : Holding) (all rest : List Line) (old new : Option (List ℕ)) : Type 0 where
  pub text : List ℕ
  pub begins : Begins first all rest text now
  pub went_out : Appends old new text

-- the same of bytes that may not be known
abbrev pub HasGone : Option (List ℕ) → Option (List ℕ) → Holding → Holding → Option (List ℕ) → Option (List ℕ) → Type 0
HasGone all left first now old new = IfKnown all left (λ ls rest. Goes first now ls rest old new)

converses_more : (first now after : Holding) (xs : List Exchange) (x : Exchange) → Converses first xs now → Responds now x → x.after ≡ after → Converses first (xs ++ x ∷ []) after
converses_more first now after [] x c r e = (subst (λ (h : Holding). Responds h x) c r, sym e)
converses_more first now after (y ∷ ys) x (s, c) r e = (s, converses_more y.after now after ys x c r e)

taken_more : (xs : List Exchange) (x : Exchange) (ls rest all : List Line) → all ≡ flat_map taken xs ++ ls → ls ≡ taken x ++ rest → all ≡ flat_map taken (xs ++ x ∷ []) ++ rest
taken_more xs x ls rest all e f =
    e ∙ ap (λ (l : List Line). flat_map taken xs ++ l) f ∙ sym (append_assoc (flat_map taken xs) (taken x) rest)
    ∙ ap (λ (l : List Line). (flat_map taken xs ++ l) ++ rest) (sym (append-nil (taken x))) ∙ ap (λ (l : List Line). l ++ rest) (sym (flat_map-append taken xs (x ∷ [])))

answer_more : (xs : List Exchange) (x : Exchange) (text : List ℕ) → x.answer ≡ text → flat_map answer_of (xs ++ x ∷ []) ≡ flat_map answer_of xs ++ text
answer_more xs x text e =
    flat_map-append answer_of xs (x ∷ []) ∙ ap (λ (l : List ℕ). flat_map answer_of xs ++ l) (append-nil x.answer ∙ e)

-- one more exchange
begins_more : (first now after : Holding) (all ls rest : List Line) (said text : List ℕ) → Begins first all ls said now → IsExchange now ls rest text after → Begins first all rest (said ++ text) after
begins_more first now after all ls rest said text b x = record {
  exchanges = b.exchanges ++ x.exchange ∷ [];
  lines_are = taken_more b.exchanges x.exchange ls rest all b.lines_are x.lines_are;
  converses = converses_more first now after b.exchanges x.exchange b.converses x.responds x.after_is;
  text_is = ap (λ (l : List ℕ). l ++ text) b.text_is ∙ sym (answer_more b.exchanges x.exchange text x.answer_is);
}

pub gone_none : (left : Option (List ℕ)) (h : Holding) (old : Option (List ℕ)) → HasGone left left h h old old
gone_none None h old = tt
gone_none (Some bytes) h old = record { text = []; begins = record { exchanges = []; lines_are = refl; converses = refl; text_is = refl }; went_out = Appends-nil old }

goes_more : (first now after : Holding) (all ls rest : List Line) (old mid new : Option (List ℕ)) → Goes first now all ls old mid → Turned now ls rest after None mid new → Goes first after all rest old new
goes_more first now after all ls rest old mid new g t = record {
  text = g.text ++ t.text;
  begins = begins_more first now after all ls rest g.text t.text g.begins t.serve_one;
  went_out = Appends-trans old mid new g.text t.text g.went_out t.went_out;
}

pub gone_more : (all left rest : Option (List ℕ)) (first now after : Holding) (old mid new : Option (List ℕ)) → HasGone all left first now old mid → TurnsOut left rest (Ok None) now after mid new → HasGone all rest first after old new
gone_more None left rest first now after old mid new g t = tt
gone_more (Some all) None rest first now after old mid new g t = absurd g
gone_more (Some all) (Some left) None first now after old mid new g t = absurd t
gone_more (Some all) (Some left) (Some rest) first now after old mid new g t = goes_more first now after (lines all) (lines left) (lines rest) old mid new g t

-- the end
talks_more : (first now : Holding) (all ls : List Line) (said text : List ℕ) (status : Status) → Begins first all ls said now → Ends now ls text status → Talks first all (said ++ text) status
talks_more first now all ls said text status b e =
    record { rest = ls; last = now; answers = said; ending = text; begins = b; ends = e; text_is = refl }

closes : (first now : Holding) (all ls : List Line) (after : Holding) (rest : List Line) (status : Status) (old mid new : Option (List ℕ)) → Goes first now all ls old mid → Turned now ls rest after (Some status) mid new → WentOut first all status old new
closes first now all ls after rest status old mid new g t = record {
  text = g.text ++ t.text;
  talks = talks_more first now all ls g.text t.text status g.begins t.serve_one;
  went_out = Appends-trans old mid new g.text t.text g.went_out t.went_out;
}

pub gone_closed : (all left rest : Option (List ℕ)) (first now after : Holding) (status : Status) (old mid new : Option (List ℕ)) → HasGone all left first now old mid → TurnsOut left rest (Ok (Some status)) now after mid new → TalksOut all (Ok status) first old new
gone_closed None left rest first now after status old mid new g t = tt
gone_closed (Some all) None rest first now after status old mid new g t = absurd g
gone_closed (Some all) (Some left) None first now after status old mid new g t = absurd t
gone_closed (Some all) (Some left) (Some rest) first now after status old mid new g t = closes first now (lines all) (lines left) after (lines rest) status old mid new g t

-- ---- a failed call

front_more : (old mid new : Option (List ℕ)) (a text : List ℕ) → Appends old mid a → AppendsFront mid new text → AppendsFront old new (a ++ text)
front_more old mid new a text h f = record {
  front = a ++ f.front;
  rest = f.rest;
  parts = ap (λ (l : List ℕ). a ++ l) f.parts ∙ sym (append_assoc a f.front f.rest);
  appended = Appends-trans old mid new a f.front h f.appended;
}

begins_due : (first now : Holding) (all ls : List Line) (said text : List ℕ) → Begins first all ls said now → IsDue now ls text
    → ((rest : List Line) × (last : Holding) × Begins first all rest (said ++ text) last) ⊎ ((status : Status) × Talks first all (said ++ text) status)
begins_due first now all ls said text b (inl e) =
    inl (ls, now, subst (λ (l : List ℕ). Begins first all ls l now) (sym (append-nil said) ∙ ap (λ (l : List ℕ). said ++ l) (sym e)) b)
begins_due first now all ls said text b (inr (rest, after, None, t)) = inl (rest, after, begins_more first now after all ls rest said text b t)
begins_due first now all ls said text b (inr (rest, after, Some status, t)) = inr (status, talks_more first now all ls said text status b t)

in_part : (first now : Holding) (all ls : List Line) (old mid new : Option (List ℕ)) → Goes first now all ls old mid → TurnedInPart now ls mid new → WentOutInPart first all old new
in_part first now all ls old mid new g t = record {
  text = g.text ++ t.text;
  begins = begins_due first now all ls g.text t.text g.begins t.is_due;
  went_out = front_more old mid new g.text t.text g.went_out t.went_out;
}

pub gone_failed : (all left rest : Option (List ℕ)) (first now after : Holding) (fault : BenchFault) (old mid new : Option (List ℕ)) → HasGone all left first now old mid → TurnsOut left rest (Err fault) now after mid new → TalksOut all (Err fault) first old new
gone_failed None left rest first now after fault old mid new g t = tt
gone_failed (Some all) None rest first now after fault old mid new g t = absurd g
gone_failed (Some all) (Some left) rest first now after fault old mid new g t = in_part first now (lines all) (lines left) old mid new g t
