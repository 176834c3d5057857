-- The arrows of the picture of a script, or of a part of it. (This project's.)
use Rattle.std.specs.Prelude.{ℕ, ◌+◌, ◌-◌, Bool, false, nat_lt, if◌then◌else◌, List, [], ◌∷◌, length, fold, map, Option, Some, None}
use Rattle.rb_script.specs.Reading.{directive_of}
use Rattle.rb_script.specs.Script.{PlainBlock, PlainScript}
use Rattle.rb_directive.specs.declared.requests.MailChoice.{MailChoice}
use Rattle.rb_texts.specs.Items.{PlainItem}
use Rattle.rb_machine.specs.Cluster.{Cluster, empty}
use Rattle.rb_machine.specs.Outcome.{Execution, execution, shown_items, outcome}
use Rattle.rb_view.specs.declared.chart.arrow.Arrow.{Arrow}
use Rattle.rb_view.specs.declared.chart.builder.ChartBuilder.{ChartBuilder}
use Rattle.rb_view.specs.declared.chart.draw.TheConstants.{MAX_EVENTS}
use Rattle.rb_view.specs.declared.chart.part.ChartPart.{ChartPart}
use Rattle.rb_view.specs.declared.chart.part.ChartPhase.{ChartPhase}
use Rattle.rb_view.specs.declared.chart.part.ChartPhase.TheVariants as phases
use Rattle.rb_view.specs.declared.chart.path.DrawnArrow.{DrawnArrow}
use Rattle.rb_view.specs.InFlight.{flying, mail_choice}
use Rattle.rb_view.specs.Arrows.{PlainArrows, no_arrows, begun, choosing, drawing, coming_in}

-- ---- the part that is drawn

abbrev pub is_before : Option ℕ → ℕ → Bool
is_before None line = false
is_before (Some first) line = nat_lt line first

abbrev pub is_after : Option ℕ → ℕ → Bool
is_after None line = false
is_after (Some last) line = nat_lt last line

-- a directive whose head is at a line is drawn, or is above or below what is
abbrev pub phase_at : ChartPart → ℕ → ChartPhase
phase_at p line = if is_after p.until line then phases.Below else (if is_before p.from line then phases.Above else phases.Within)

-- ---- what is drawn

-- The arrows, and which phase it is. Above what is drawn only the messages in flight are kept. The room is for one item more than a picture may have:
-- once it is 0, there were too many.
pub record PlainView : Type 0 where
  pub phase : ChartPhase
  pub arrows : PlainArrows
  pub room : ℕ

-- what of a picture that is being drawn is stated
abbrev pub view_of : ChartBuilder → PlainView
view_of b = record { phase = b.phase; arrows = b.arrows; room = b.room }

-- messages come in from above where the first directive is drawn
abbrev pub entered : ChartPhase → ChartPhase → PlainArrows → PlainArrows
entered phases.Above phases.Within d = coming_in d.in_flight.messages
entered old new d = d

-- each takes the room of an item
abbrev pub room_entered : ChartPhase → ChartPhase → PlainView → ℕ
room_entered phases.Above phases.Within v = v.room - length v.arrows.in_flight.messages
room_entered old new v = v.room

-- a directive of this phase, which chooses these messages
abbrev pub entering : ChartPhase → MailChoice → PlainView → PlainView
entering new choice v = record { phase = new; arrows = choosing choice (entered v.phase new v.arrows); room = room_entered v.phase new v }

abbrev pub seen : ChartPhase → PlainArrows → PlainItem → PlainArrows
seen phases.Above d item = record d { in_flight = flying d.in_flight item }
seen phases.Within d item = drawing d item
seen phases.Below d item = d

-- an item that is drawn takes room
abbrev pub room_seen : ChartPhase → ℕ → ℕ
room_seen phases.Within room = room - 1
room_seen phase room = room

abbrev pub seeing : PlainView → PlainItem → PlainView
seeing v item = record v { arrows = seen v.phase v.arrows item; room = room_seen v.phase v.room }

abbrev pub beginning : PlainView → PlainView
beginning v = record v { arrows = begun v.arrows }

-- a directive
abbrev pub shown : PlainView → Execution → PlainView
shown v h = fold seeing (beginning v) (shown_items h)

-- directives one after another, whose heads are at these lines
abbrev pub views_from : ChartPart → PlainView → Cluster → List ℕ → List PlainBlock → PlainView
views_from p v c [] bs = v
views_from p v c (line ∷ heads) [] = v
views_from p v c (line ∷ heads) (b ∷ bs) =
    views_from p (shown (entering (phase_at p line) (mail_choice (directive_of b)) v) (execution c (directive_of b))) (outcome c (directive_of b)).cluster heads bs

abbrev pub no_view : ℕ → PlainView
no_view room = record { phase = phases.Above; arrows = no_arrows; room = room }

-- none where no directive is drawn
abbrev pub arrows_of : PlainView → List Arrow
arrows_of v = v.arrows.arrows

-- a script's part
abbrev pub drawn_view : ChartPart → List ℕ → PlainScript → PlainView
drawn_view p heads s = views_from p (no_view (MAX_EVENTS + 1)) empty heads s.blocks

-- its arrows
abbrev pub drawn_arrows : ChartPart → List ℕ → PlainScript → List Arrow
drawn_arrows p heads s = arrows_of (drawn_view p heads s)

abbrev pub has_room : PlainView → Bool
has_room v = nat_lt 0 v.room

-- a picture has room for all items of it, and for the messages that come in
abbrev pub fits : ChartPart → List ℕ → PlainScript → Bool
fits p heads s = has_room (drawn_view p heads s)

-- those of a picture, without their places
abbrev pub without_places : List DrawnArrow → List Arrow
without_places ds = map (λ (d : DrawnArrow). d.arrow) ds
