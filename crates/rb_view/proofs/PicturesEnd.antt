-- A picture, or a part of one, shows what is pending where it ends.
use Rattle.std.proofs.Common.{◌≡◌, ◌∙◌, ℕ, suc, ◌+◌, ◌<◌, Bool, true, false, if◌then◌else◌, List, [], ◌∷◌, map, Option, Some, None, refl, ap, sym, subst, ltb-true, ltb-false, lt-ltb, le-ltb, arith}
use Rattle.std.specs.Prelude.{fold}
use Rattle.rb_script.specs.Reading.{directive_of}
use Rattle.rb_script.specs.Script.{PlainBlock, PlainScript}
use Rattle.rb_directive.specs.declared.requests.MailChoice.{MailChoice}
use Rattle.rb_message.specs.declared.message.Message.{Message}
use Rattle.rb_texts.specs.Items.{PlainItem}
use Rattle.rb_machine.specs.Cluster.{Cluster, empty}
use Rattle.rb_machine.specs.Outcome.{Execution, execution, outcome, shown_items}
use Rattle.rb_view.specs.declared.chart.draw.TheConstants.{MAX_EVENTS}
use Rattle.rb_view.specs.declared.chart.part.ChartPart.{ChartPart}
use Rattle.rb_view.specs.declared.chart.part.ChartPhase.{ChartPhase}
use Rattle.rb_view.specs.declared.chart.part.ChartPhase.TheVariants as phases
use Rattle.rb_view.specs.InFlight.{flying, mail_choice}
use Rattle.rb_view.specs.Arrows.{PlainArrows, begun, choosing, coming_in}
use Rattle.rb_view.specs.Drawn.{PlainView, beginning, drawn_arrows, entered, entering, is_after, is_before, no_view, phase_at, seeing, seen, shown, views_from}
use Rattle.rb_view.specs.Promises.{Ascend, Shows, pending_drawn, pending_with, waiting_arrow, waiting_arrows}
use Rattle.rb_view.proofs.FlightDirectives.{by_directive}
use Rattle.rb_view.proofs.PendingArrows.{shows_after, shows_coming_in}

-- ---- one directive

seen_phase : (items : List PlainItem) (v : PlainView) → (fold seeing v items).phase ≡ v.phase
seen_phase [] v = refl
seen_phase (item ∷ items) v = seen_phase items (seeing v item)

seen_arrows : (items : List PlainItem) (v : PlainView) → (fold seeing v items).arrows ≡ fold (seen v.phase) v.arrows items
seen_arrows [] v = refl
seen_arrows (item ∷ items) v = seen_arrows items (seeing v item)

-- above what is drawn only the messages in flight are kept, and below it nothing changes
seen_above : (items : List PlainItem) (d : PlainArrows) → fold (seen phases.Above) d items ≡ record d { in_flight = fold flying d.in_flight items }
seen_above [] d = refl
seen_above (item ∷ items) d = seen_above items (record d { in_flight = flying d.in_flight item })

seen_below : (items : List PlainItem) (d : PlainArrows) → fold (seen phases.Below) d items ≡ d
seen_below [] d = refl
seen_below (item ∷ items) d = seen_below items d

-- the arrows after a directive
abbrev next_arrows : ChartPhase → MailChoice → PlainArrows → Execution → PlainArrows
next_arrows phase choice d h = fold (seen phase) (begun (choosing choice d)) (shown_items h)

next_is : (phase : ChartPhase) (choice : MailChoice) (v : PlainView) (h : Execution)
    → (shown (entering phase choice v) h).arrows ≡ next_arrows phase choice (entered v.phase phase v.arrows) h
next_is phase choice v h = seen_arrows (shown_items h) (beginning (entering phase choice v))

next_phase : (phase : ChartPhase) (choice : MailChoice) (v : PlainView) (h : Execution) → (shown (entering phase choice v) h).phase ≡ phase
next_phase phase choice v h = seen_phase (shown_items h) (beginning (entering phase choice v))

-- ---- lines that ascend

-- they are past a line, one after another
abbrev Rises : ℕ → List ℕ → Type 0
Rises low [] = Unit {0}
Rises low (line ∷ heads) = (low < line) × Rises line heads

rises_from : (low : ℕ) (heads : List ℕ) → Ascend (low ∷ heads) → Rises low heads
rises_from low [] ascend = tt
rises_from low (line ∷ heads) ascend = (
  ascend 0 1 (omega arith) (omega arith),
  rises_from line heads (λ i j before within. ascend (suc i) (suc j) (omega (arith, before)) (omega (arith, within))),
)

after_later : (until : Option ℕ) (low line : ℕ) → low < line → is_after until low ≡ true → is_after until line ≡ true
after_later None low line less is = is
after_later (Some last) low line less is = let past = ltb-true last low is in lt-ltb last line (omega (arith, past, less))

-- all of them are after a line
abbrev AllAfter : Option ℕ → List ℕ → Type 0
AllAfter until [] = Unit {0}
AllAfter until (line ∷ heads) = (is_after until line ≡ true) × AllAfter until heads

all_after : (until : Option ℕ) (low : ℕ) (heads : List ℕ) → is_after until low ≡ true → Rises low heads → AllAfter until heads
all_after until low [] is rises = tt
all_after until low (line ∷ heads) is rises = let later = after_later until low line rises.0 is in (later, all_after until line heads later rises.1)

before_later : (from : Option ℕ) (low line : ℕ) → low < line → is_before from low ≡ false → is_before from line ≡ false
before_later None low line less is = is
before_later (Some first) low line less is = let past = ltb-false low first is in le-ltb line first (omega (arith, past, less))

-- ---- directives, one after another

abbrev Ends : ChartPart → PlainView → Cluster → List Message → List ℕ → List PlainBlock → Type 0
Ends p v c pending heads bs = waiting_arrows (views_from p v c heads bs).arrows.arrows ≡ map waiting_arrow (pending_drawn p pending c heads bs)

-- the first one is of this phase
abbrev EndsBy : ChartPhase → ChartPart → PlainView → Cluster → List Message → List ℕ → PlainBlock → List PlainBlock → Type 0
EndsBy phase p v c pending heads b bs =
    Ends p (shown (entering phase (mail_choice (directive_of b)) v) (execution c (directive_of b))) (outcome c (directive_of b)).cluster
    (pending_with phase (outcome c (directive_of b)).cluster pending) heads bs

below_arrows : (old : ChartPhase) (d : PlainArrows) → entered old phases.Below d ≡ d
below_arrows phases.Above d = refl
below_arrows phases.Within d = refl
below_arrows phases.Below d = refl

phase_below : (p : ChartPart) (line : ℕ) → is_after p.until line ≡ true → phase_at p line ≡ phases.Below
phase_below p line is = ap (λ (t : Bool). if t then phases.Below else (if is_before p.from line then phases.Above else phases.Within)) is

phase_within : (p : ChartPart) (line : ℕ) → is_after p.until line ≡ false → is_before p.from line ≡ false → phase_at p line ≡ phases.Within
phase_within p line after before =
    ap (λ (t : Bool). if t then phases.Below else (if is_before p.from line then phases.Above else phases.Within)) after
    ∙ ap (λ (t : Bool). if t then phases.Above else phases.Within) before

phase_above : (p : ChartPart) (line : ℕ) → is_after p.until line ≡ false → is_before p.from line ≡ true → phase_at p line ≡ phases.Above
phase_above p line after before =
    ap (λ (t : Bool). if t then phases.Below else (if is_before p.from line then phases.Above else phases.Within)) after
    ∙ ap (λ (t : Bool). if t then phases.Above else phases.Within) before

-- below what is drawn
ends_below : (p : ChartPart) (heads : List ℕ) (bs : List PlainBlock) (v : PlainView) (c : Cluster) (pending : List Message) → AllAfter p.until heads
    → waiting_arrows v.arrows.arrows ≡ map waiting_arrow pending → Ends p v c pending heads bs
ends_below p [] bs v c pending after is = is
ends_below p (line ∷ heads) [] v c pending after is = is
ends_below p (line ∷ heads) (b ∷ bs) v c pending after is =
    let h = execution c (directive_of b) in
    let choice = mail_choice (directive_of b) in
    let same : (shown (entering phases.Below choice v) h).arrows.arrows ≡ v.arrows.arrows =
    ap (λ (d : PlainArrows). d.arrows) (next_is phases.Below choice v h ∙ seen_below (shown_items h) (begun (choosing choice (entered v.phase phases.Below v.arrows))))
    ∙ ap (λ (d : PlainArrows). d.arrows) (below_arrows v.phase v.arrows) in
    subst (λ (phase : ChartPhase). EndsBy phase p v c pending heads b bs) (sym (phase_below p line after.0))
    (ends_below p heads bs (shown (entering phases.Below choice v) h) (outcome c (directive_of b)).cluster pending after.1 (ap waiting_arrows same ∙ is))

-- within it
within_by : (p : ChartPart) (line : ℕ) (heads : List ℕ) (b : PlainBlock) (bs : List PlainBlock) (v : PlainView) (c : Cluster) (after : Bool) → is_after p.until line ≡ after
    → is_before p.from line ≡ false → Rises line heads → v.phase ≡ phases.Within → Shows c v.arrows
    → ((w : PlainView) (d : Cluster) → w.phase ≡ phases.Within → Shows d w.arrows → Ends p w d d.pending heads bs)
    → Ends p v c c.pending (line ∷ heads) (b ∷ bs)
within_by p line heads b bs v c true past before rises phase shows rest =
    ends_below p (line ∷ heads) (b ∷ bs) v c c.pending (past, all_after p.until line heads past rises) shows.waiting
within_by p line heads b bs v c false past before rises phase shows rest =
    let h = execution c (directive_of b) in
    let choice = mail_choice (directive_of b) in
    let is : (shown (entering phases.Within choice v) h).arrows ≡ next_arrows phases.Within choice v.arrows h =
    next_is phases.Within choice v h ∙ ap (λ (old : ChartPhase). next_arrows phases.Within choice (entered old phases.Within v.arrows) h) phase in
    subst (λ (now : ChartPhase). EndsBy now p v c c.pending heads b bs) (sym (phase_within p line past before))
    (rest (shown (entering phases.Within choice v) h) (outcome c (directive_of b)).cluster (next_phase phases.Within choice v h)
    (subst (Shows (outcome c (directive_of b)).cluster) (sym is) (shows_after c v.arrows (directive_of b) shows)))

ends_within : (p : ChartPart) (low : ℕ) (heads : List ℕ) (bs : List PlainBlock) (v : PlainView) (c : Cluster) → is_before p.from low ≡ false → Rises low heads
    → v.phase ≡ phases.Within → Shows c v.arrows → Ends p v c c.pending heads bs
ends_within p low [] bs v c before rises phase shows = shows.waiting
ends_within p low (line ∷ heads) [] v c before rises phase shows = shows.waiting
ends_within p low (line ∷ heads) (b ∷ bs) v c before rises phase shows =
    let from = before_later p.from low line rises.0 before in
    within_by p line heads b bs v c (is_after p.until line) refl from rises.1 phase shows (λ w d now there. ends_within p line heads bs w d from rises.1 now there)

-- above it
abbrev Flies : PlainView → Cluster → List Message → Type 0
Flies v c pending = (v.phase ≡ phases.Above) × (v.arrows.in_flight.messages ≡ c.pending) × (waiting_arrows v.arrows.arrows ≡ map waiting_arrow pending)

above_next : (v : PlainView) (c : Cluster) (b : PlainBlock) (pending : List Message) → Flies v c pending
    → Flies (shown (entering phases.Above (mail_choice (directive_of b)) v) (execution c (directive_of b))) (outcome c (directive_of b)).cluster pending
above_next v c b pending flies =
    let h = execution c (directive_of b) in
    let choice = mail_choice (directive_of b) in
    let items = shown_items h in
    let is : (shown (entering phases.Above choice v) h).arrows ≡ record v.arrows { in_flight = fold flying (begun (choosing choice v.arrows)).in_flight items } =
    next_is phases.Above choice v h ∙ ap (λ (old : ChartPhase). next_arrows phases.Above choice (entered old phases.Above v.arrows) h) flies.0 ∙ seen_above items (begun (choosing choice v.arrows)) in (
      next_phase phases.Above choice v h,
      ap (λ (d : PlainArrows). d.in_flight.messages) is ∙ (by_directive c (directive_of b) v.arrows.in_flight flies.1).messages,
      ap (λ (d : PlainArrows). waiting_arrows d.arrows) is ∙ flies.2,
    )

-- the first directive that is drawn
first_shows : (v : PlainView) (c : Cluster) (b : PlainBlock) (pending : List Message) → Flies v c pending
    → Shows (outcome c (directive_of b)).cluster (shown (entering phases.Within (mail_choice (directive_of b)) v) (execution c (directive_of b))).arrows
first_shows v c b pending flies =
    let h = execution c (directive_of b) in
    let choice = mail_choice (directive_of b) in
    let is : (shown (entering phases.Within choice v) h).arrows ≡ next_arrows phases.Within choice (coming_in c.pending) h =
    next_is phases.Within choice v h ∙ ap (λ (old : ChartPhase). next_arrows phases.Within choice (entered old phases.Within v.arrows) h) flies.0
    ∙ ap (λ (ms : List Message). next_arrows phases.Within choice (coming_in ms) h) flies.1 in
    subst (Shows (outcome c (directive_of b)).cluster) (sym is) (shows_after c (coming_in c.pending) (directive_of b) (shows_coming_in c))

above_by : (p : ChartPart) (line : ℕ) (heads : List ℕ) (b : PlainBlock) (bs : List PlainBlock) (v : PlainView) (c : Cluster) (pending : List Message) (after before : Bool)
    → is_after p.until line ≡ after → is_before p.from line ≡ before → Rises line heads → Flies v c pending
    → ((w : PlainView) (d : Cluster) → Flies w d pending → Ends p w d pending heads bs)
    → Ends p v c pending (line ∷ heads) (b ∷ bs)
above_by p line heads b bs v c pending true before past is rises flies rest =
    ends_below p (line ∷ heads) (b ∷ bs) v c pending (past, all_after p.until line heads past rises) flies.2
above_by p line heads b bs v c pending false true past is rises flies rest =
    subst (λ (now : ChartPhase). EndsBy now p v c pending heads b bs) (sym (phase_above p line past is))
    (rest (shown (entering phases.Above (mail_choice (directive_of b)) v) (execution c (directive_of b))) (outcome c (directive_of b)).cluster (above_next v c b pending flies))
above_by p line heads b bs v c pending false false past is rises flies rest =
    let h = execution c (directive_of b) in
    let choice = mail_choice (directive_of b) in
    subst (λ (now : ChartPhase). EndsBy now p v c pending heads b bs) (sym (phase_within p line past is))
    (ends_within p line heads bs (shown (entering phases.Within choice v) h) (outcome c (directive_of b)).cluster is rises (next_phase phases.Within choice v h) (first_shows v c b pending flies))

ends_above : (p : ChartPart) (heads : List ℕ) (bs : List PlainBlock) (v : PlainView) (c : Cluster) (pending : List Message) → Ascend heads → Flies v c pending → Ends p v c pending heads bs
ends_above p [] bs v c pending ascend flies = flies.2
ends_above p (line ∷ heads) [] v c pending ascend flies = flies.2
ends_above p (line ∷ heads) (b ∷ bs) v c pending ascend flies =
    above_by p line heads b bs v c pending (is_after p.until line) (is_before p.from line) refl refl (rises_from line heads ascend) flies
    (λ w d there. ends_above p heads bs w d pending (λ i j before within. ascend (suc i) (suc j) (omega (arith, before)) (omega (arith, within))) there)

pub drawn_ends : (p : ChartPart) (heads : List ℕ) (s : PlainScript) → Ascend heads
    → waiting_arrows (drawn_arrows p heads s) ≡ map waiting_arrow (pending_drawn p [] empty heads s.blocks)
unfolding empty
drawn_ends p heads s ascend = ends_above p heads s.blocks (no_view (MAX_EVENTS + 1)) empty [] ascend (refl, refl, refl)
