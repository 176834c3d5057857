-- Arrows as elements of SVG, and where they are across the picture. How far down they are isn't stated. (SVG 2, W3C, section 9.3; sizes:
-- docs/FORMATS.md.)
use Rattle.std.specs.Prelude.{ℕ, ◌+◌, ◌-◌, ◌*◌, ◌^◌, Bool, not, ◌==◌, nat_lt, min, if◌then◌else◌, codes, decimal, List, [], ◌++◌}
use Rattle.rb_vocab.specs.MessageTypes.{class_of}
use Rattle.rb_view.specs.declared.chart.arrow.Arrow.{Arrow}
use Rattle.rb_view.specs.declared.chart.arrow.ArrowPlace.{ArrowPlace}
use Rattle.rb_view.specs.declared.chart.css_class.DeliveryState.{DeliveryState}
use Rattle.rb_view.specs.declared.chart.css_class.DeliveryState.TheVariants as states
use Rattle.rb_view.specs.declared.chart.path.DrawnArrow.{DrawnArrow}
use Rattle.rb_view.specs.Shapes.{arrow_text, cross_text, loop_text}

-- ---- across the picture, where sums stop at the largest number

abbrev pub right_of : ℕ → ℕ → ℕ
right_of x far = min (x + far) (2 ^ 64 - 1)

-- to the left or to the right
abbrev pub beside : ℕ → Bool → ℕ → ℕ
beside x is_left far = if is_left then x - far else right_of x far

-- the middle of a node's band
abbrev pub middle : ℕ → ℕ
middle id = right_of 280 (min (220 * (id - 1)) (2 ^ 64 - 1))

abbrev pub is_left : Arrow → Bool
is_left a = nat_lt a.to a.from

-- where it leaves its sender's band, and where its label ends and it bends
abbrev pub start_of : Arrow → ℕ
start_of a = beside (middle a.from) (is_left a) 5

abbrev pub bend_of : Arrow → ℕ
bend_of a = beside (middle a.from) (is_left a) 170

-- where it ends: at its receiver's band where it is delivered, before it where it is lost, next to its label where it is in flight or never
-- was written
abbrev pub end_as : DeliveryState → Bool → Arrow → ℕ
end_as states.Waiting is_short a = beside (bend_of a) (is_left a) 26
end_as states.Delivered is_short a = beside (middle a.to) (not (is_left a)) 6
end_as states.Lost is_short a = if is_short then beside (bend_of a) (is_left a) 14 else beside (middle a.to) (not (is_left a)) 24

abbrev pub end_of : Arrow → Bool → ℕ
end_of a is_short = end_as a.state is_short a

-- a message of a node to itself
abbrev pub is_loop : Arrow → Bool
is_loop a = a.to == a.from

abbrev pub loop_of : Arrow → ℕ
loop_of a = right_of (middle a.from) 6

-- ---- elements

abbrev pub path_text : Arrow → ArrowPlace → List ℕ
path_text a p =
    if is_loop a then loop_text (class_of a.message_type) a.state (loop_of a) p.y (right_of (loop_of a) 40) p.end
    else arrow_text (class_of a.message_type) a.state (start_of a) p.y (bend_of a) (end_of a p.is_short) p.end

abbrev pub cross_of : Arrow → Bool → ℕ
cross_of a is_short = if is_loop a then loop_of a else end_of a is_short

-- a cross where it is lost
abbrev pub cross_at : DeliveryState → Arrow → ArrowPlace → List ℕ
cross_at states.Lost a p = cross_text (cross_of a p.is_short) p.end
cross_at state a p = []

abbrev pub drawn_text : DrawnArrow → List ℕ
drawn_text d = path_text d.arrow d.place ++ cross_at d.arrow.state d.arrow d.place
