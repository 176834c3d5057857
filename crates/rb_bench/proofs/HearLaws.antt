-- Commands with their lines, as they come in.
use Rattle.std.proofs.Common.{◌≡◌, ℕ, zero, suc, ◌+◌, ◌<◌, ◌≤◌, true, false, ◌||◌, List, [], ◌∷◌, ◌++◌, Option, Some, None, Result, Ok, Err, refl, ap, sym, subst, ◌∙◌, length, take, append_assoc, append-nil, length-append, arith}
use Rattle.std.specs.Prelude.{IfSome, IfOk}
use Rattle.std.specs.List.{list_any}
use Rattle.std.specs.Io.KnownBytes.{IsAtEnd}
use Rattle.std.proofs.lemmas.Bool.Decides.{nat_tests}
use Rattle.std.proofs.Math.Bool.{or-true}
use Rattle.rb_script.specs.declared.limits.TheConstants.{MAX_LINE}
use Rattle.rb_script.specs.Lines.{Line, lines}
use Rattle.rb_script.proofs.LineLaws.{lines_nil}
use Rattle.rb_bench.specs.declared.command.Command.{Command}
use Rattle.rb_bench.specs.Commands.{command_of}
use Rattle.rb_text.specs.declared.source.InputFault.{InputFault}
use Rattle.rb_text.specs.Given.{LosesLine, LosesLong, IsFirstLong}
use Rattle.rb_bench.specs.declared.given_lines.GivenLines.{GivenLines}
use Rattle.rb_bench.specs.declared.hear.HeardCommand.{HeardCommand}
use Rattle.rb_bench.specs.declared.hear.HeardCommand.TheVariants as heards
use Rattle.rb_bench.specs.Talk.{is_long, given_count, asked, HasLong, IsCut}
use Rattle.rb_bench.specs.Hearing.{IsGiven, HasTaken, Gathers, GathersOf, Hears, HearsOf}
use Rattle.rb_bench.specs.Known.{IfKnown}

-- ---- long lines

pub short_line : (line : Line) → length line ≤ MAX_LINE → is_long line ≡ false
short_line line le = grind (arith, nat_tests)

long_line : (line : Line) → MAX_LINE < length line → is_long line ≡ true
long_line line lt = grind (arith, nat_tests)

-- one more line that is short
short_push : (ls : List Line) (line : Line) → list_any is_long ls ≡ false → is_long line ≡ false → list_any is_long (ls ++ line ∷ []) ≡ false
short_push [] line h k = ap (λ t. t || false) k
short_push (l ∷ ls) line h k =
    elim (is_long l) as (λ t. (t || list_any is_long ls) ≡ false → (t || list_any is_long (ls ++ line ∷ [])) ≡ false) [
      | true ↦ λ e. e
      | false ↦ λ e. short_push ls line e k
    ] h

-- a long line among the first
long_among : (ls : List Line) (line : Line) (rest : List Line) (count : ℕ) → length ls < count → is_long line ≡ true → list_any is_long (take count (ls ++ line ∷ rest)) ≡ true
long_among [] line rest zero lt h = absurd (omega arith)
long_among [] line rest (suc count) lt h = ap (λ t. t || list_any is_long (take count rest)) h
long_among (l ∷ ls) line rest zero lt h = absurd (omega arith)
long_among (l ∷ ls) line rest (suc count) lt h =
    ap (λ t. is_long l || t) (long_among ls line rest count (omega arith) h) ∙ or-true (is_long l)

-- ---- taking lines

-- so many lines were taken, of bytes that may not be known
abbrev pub Takes : Option (List ℕ) → Option (List ℕ) → ℕ → GivenLines → Type 0
Takes before after count given = IfKnown before after (λ ls rest. HasTaken ls rest count given)

pub takes_none : (left : Option (List ℕ)) (given : GivenLines) → IsGiven given [] → Takes left left 0 given
takes_none None given h = tt
takes_none (Some bytes) given h = record { ls = []; lines_are = refl; count_is = refl; short = refl; is_given = h }

takes_line : (before mid after : Option (List ℕ)) (count : ℕ) (given new : GivenLines) (line : Line) → Takes before mid count given → LosesLine mid after line → length line ≤ MAX_LINE
    → ((ls : List Line) → IsGiven given ls → IsGiven new (ls ++ line ∷ [])) → Takes before after (count + 1) new
takes_line None mid after count given new line t l le add = tt
takes_line (Some bytes) None after count given new line t l le add = absurd t
takes_line (Some bytes) (Some more) None count given new line t l le add = absurd l
takes_line (Some bytes) (Some more) (Some rest) count given new line t l le add = record {
  ls = t.ls ++ line ∷ [];
  lines_are = t.lines_are ∙ ap (λ (m : List Line). t.ls ++ m) l ∙ sym (append_assoc t.ls (line ∷ []) (lines rest));
  count_is = length-append t.ls (line ∷ []) ∙ ap (λ (n : ℕ). n + 1) t.count_is;
  short = short_push t.ls line t.short (short_line line le);
  is_given = add t.ls t.is_given;
}

pub takes_more : (before mid after : Option (List ℕ)) (count : ℕ) (given new : GivenLines) (held line : Line) → Takes before mid count given → LosesLine mid after line → length line ≤ MAX_LINE → held ≡ line
    → ((ls : List Line) → IsGiven given ls → IsGiven new (ls ++ held ∷ [])) → Takes before after (count + 1) new
takes_more before mid after count given new held line t l le e add =
    takes_line before mid after count given new line t l le (λ ls g. subst (λ (m : Line). IsGiven new (ls ++ m ∷ [])) e (add ls g))

long_first : (ls all : List Line) (count n : ℕ) (more : List Line) → all ≡ ls ++ more → length ls ≡ n → n < count → IsFirstLong more → list_any is_long (take count all) ≡ true
long_first ls all count n [] e c lt h = absurd h
long_first ls all count n (line ∷ rest) e c lt h =
    ap (λ (l : List Line). list_any is_long (take count l)) e ∙ long_among ls line rest count (omega arith) (long_line line h)

pub gathers_long : (before mid after : Option (List ℕ)) (count : ℕ) (given : GivenLines) (command : Command) → Takes before mid count given → count < given_count command → IfSome mid (λ all. IsFirstLong (lines all)) → LosesLong mid after
    → GathersOf before after command heards.LineTooLong
gathers_long None mid after count given command t lt h lost = tt
gathers_long (Some bytes) None after count given command t lt h lost = absurd t
gathers_long (Some bytes) (Some more) None count given command t lt h lost = absurd lost.2
gathers_long (Some bytes) (Some more) (Some rest) count given command t lt h lost =
    long_first t.ls (lines bytes) (given_count command) count (lines more) t.lines_are t.count_is lt h

pub gathers_cut : (before mid after : Option (List ℕ)) (count : ℕ) (given : GivenLines) (command : Command) → Takes before mid count given → count < given_count command → IsAtEnd mid → after ≡ Some [] → GathersOf before after command heards.CutOff
gathers_cut None mid after count given command t lt h e = tt
gathers_cut (Some bytes) None after count given command t lt h e = absurd t
gathers_cut (Some bytes) (Some more) None count given command t lt h e = absurd cc
gathers_cut (Some bytes) (Some more) (Some rest) count given command t lt h e =
    let all : lines bytes ≡ t.ls = t.lines_are ∙ ap (λ (l : List Line). t.ls ++ l) (lines_nil more h) ∙ append-nil t.ls in
    (ap (list_any is_long) all ∙ t.short, omega (arith, ap length all, t.count_is))

pub gathers_all : (before after : Option (List ℕ)) (count : ℕ) (given : GivenLines) (command : Command) → Takes before after count given → count ≡ given_count command → GathersOf before after command (heards.Command command given)
gathers_all None after count given command t e = tt
gathers_all (Some bytes) None count given command t e = absurd t
gathers_all (Some bytes) (Some rest) count given command t e = (refl, subst (λ (n : ℕ). HasTaken (lines bytes) (lines rest) n given) e t)

-- ---- hearing a command

take_next : (n : ℕ) (line : Line) (ls : List Line) → take (1 + n) (line ∷ ls) ≡ line ∷ take n ls
take_next n line ls = let e : 1 + n ≡ suc n = omega arith in ap (λ (m : ℕ). take m (line ∷ ls)) e

asked_next : (line : Line) (ls : List Line) → list_any is_long (asked (line ∷ ls)) ≡ (is_long line || list_any is_long (take (given_count (command_of line)) ls))
asked_next line ls = ap (list_any is_long) (take_next (given_count (command_of line)) line ls)

asked_long : (line : Line) (ls all : List Line) → all ≡ line ∷ ls → list_any is_long (take (given_count (command_of line)) ls) ≡ true → HasLong all
asked_long line ls all e h =
    ap (λ (l : List Line). list_any is_long (asked l)) e ∙ asked_next line ls ∙ ap (λ t. is_long line || t) h ∙ or-true (is_long line)

pub cut_after : (line : Line) (ls all : List Line) → all ≡ line ∷ ls → is_long line ≡ false → list_any is_long ls ≡ false → length ls < given_count (command_of line) → IsCut all
cut_after line ls all e short h lt = subst (λ (l : List Line). IsCut l) (sym e) (ap (λ t. t || list_any is_long ls) short ∙ h, omega arith)

hears_lines : (heard : HeardCommand) (line : Line) (ls more rest : List Line) → ls ≡ line ∷ more → is_long line ≡ false → Gathers (command_of line) heard more rest → Hears heard ls rest
hears_lines (heards.Command command given) line ls more rest e short (command_is, t) = record {
  line = line;
  given_lines = t.ls;
  command_is = command_is;
  lines_are = e ∙ ap (λ (l : List Line). line ∷ l) t.lines_are;
  whole = omega (arith, t.count_is);
  short = ap (λ b. b || list_any is_long t.ls) short ∙ t.short;
  is_given = t.is_given;
}
hears_lines heards.End line ls more rest e short h = absurd h
hears_lines heards.LineTooLong line ls more rest e short h = asked_long line more ls e h
hears_lines heards.CutOff line ls more rest e short (h, lt) = cut_after line more ls e short h lt

hears_known : (before mid after : Option (List ℕ)) (heard : HeardCommand) (line : Line) → LosesLine before mid line → length line ≤ MAX_LINE → GathersOf mid after (command_of line) heard → HearsOf before after heard
hears_known None mid after heard line l le h = tt
hears_known (Some bytes) None after heard line l le h = absurd l
hears_known (Some bytes) (Some more) None heard line l le h = absurd h
hears_known (Some bytes) (Some more) (Some rest) heard line l le h = hears_lines heard line (lines bytes) (lines more) (lines rest) l (short_line line le) h

-- after a line came what was gathered for it
pub hears_after : (before mid after : Option (List ℕ)) (r : Result HeardCommand InputFault) (command : Command) (held line : Line) → LosesLine before mid line → length line ≤ MAX_LINE → command ≡ command_of held → held ≡ line
    → IfOk r (λ heard. GathersOf mid after command heard) → IfOk r (λ heard. HearsOf before after heard)
hears_after before mid after (Err fault) command held line l le c e h = tt
hears_after before mid after (Ok heard) command held line l le c e h =
    hears_known before mid after heard line l le (subst (λ (m : Command). GathersOf mid after m heard) (c ∙ ap command_of e) h)

pub hears_end : (before after : Option (List ℕ)) → IsAtEnd before → after ≡ Some [] → HearsOf before after heards.End
hears_end None after h e = tt
hears_end (Some bytes) None h e = absurd cc
hears_end (Some bytes) (Some rest) h e = lines_nil bytes h

first_asked : (ls : List Line) → IsFirstLong ls → HasLong ls
first_asked [] h = absurd h
first_asked (line ∷ ls) h = asked_next line ls ∙ ap (λ t. t || list_any is_long (take (given_count (command_of line)) ls)) (long_line line h)

pub hears_long : (before after : Option (List ℕ)) → IfSome before (λ all. IsFirstLong (lines all)) → LosesLong before after → HearsOf before after heards.LineTooLong
hears_long None after h lost = tt
hears_long (Some bytes) None h lost = absurd lost.2
hears_long (Some bytes) (Some rest) h lost = first_asked (lines bytes) h
