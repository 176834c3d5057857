-- Shapes as elements of SVG. (SVG 2, W3C: paths in section 9.3, rectangles in 10.2, texts in 11; the classes are those of assets/style.svg.)
use Rattle.std.specs.Prelude.{ℕ, ◌-◌, ◌&&◌, nat_le, if◌then◌else◌, codes, decimal, List, [], ◌++◌, length, take, drop}
use Rattle.std.specs.List.{flat_map}
use Rattle.rb_vocab.specs.declared.message_type.MessageClass.{MessageClass}
use Rattle.rb_vocab.specs.MessageTypes.{class_text}
use Rattle.rb_message.specs.declared.role.Role.{Role}
use Rattle.rb_texts.specs.States.{role_text}
use Rattle.rb_view.specs.declared.chart.css_class.DeliveryState.{DeliveryState}
use Rattle.rb_view.specs.declared.chart.css_class.DeliveryState.TheVariants as states
use Rattle.rb_view.specs.declared.chart.css_class.CssClass.{CssClass}
use Rattle.rb_view.specs.declared.chart.css_class.CssClass.TheVariants as looks
use Rattle.rb_view.specs.declared.chart.shape.Shape.{Shape}
use Rattle.rb_view.specs.declared.chart.shape.Shape.TheVariants as shapes
use Rattle.rb_view.specs.XmlEscapes.{escaped}

-- ---- classes

abbrev pub delivery_state_text : DeliveryState → List ℕ
delivery_state_text states.Waiting = codes "waiting"
delivery_state_text states.Delivered = codes "delivered"
delivery_state_text states.Lost = codes "lost"

-- where words end at their place, ` end` follows their class
abbrev pub look_text : CssClass → List ℕ
look_text looks.LineNumber = codes "line"
look_text looks.Head = codes "head"
look_text looks.Name = codes "name"
look_text looks.Quiet = codes "quiet"
look_text looks.Bad = codes "bad"
look_text looks.Won = codes "won"
look_text looks.Turn = codes "turn"
look_text looks.Moved = codes "moved"
look_text looks.Change = codes "change"
look_text looks.Installed = codes "installed"
look_text (looks.Label class) = class_text class
look_text (looks.LeftLabel class) = class_text class ++ codes " end"

-- ---- elements

-- the line above a directive's row
abbrev pub edge_text : ℕ → List ℕ
edge_text y = codes "<rect class=\"edge\" y=\"" ++ (decimal y ++ codes "\" width=\"100%\" height=\"1\"/>\n")

-- a node in one role
abbrev pub band_text : Role → ℕ → ℕ → ℕ → ℕ → List ℕ
band_text role x y width height =
    codes "<rect class=\"" ++ (role_text role ++ (codes "\" x=\"" ++ (decimal x ++ (codes "\" y=\"" ++ (decimal y
    ++ (codes "\" width=\"" ++ (decimal width ++ (codes "\" height=\"" ++ (decimal height ++ codes "\"/>\n")))))))))

-- a message's line: along its label to where it bends, and from there to where it ends
abbrev pub arrow_text : MessageClass → DeliveryState → ℕ → ℕ → ℕ → ℕ → ℕ → List ℕ
arrow_text class state x y bend to_x to_y =
    codes "<path class=\"arrow " ++ (class_text class ++ (codes " " ++ (delivery_state_text state ++ (codes "\" d=\"M" ++ (decimal x ++ (codes " " ++ (decimal y
    ++ (codes "H" ++ (decimal bend ++ (codes "L" ++ (decimal to_x ++ (codes " " ++ (decimal to_y ++ codes "\"/>\n")))))))))))))

-- the line of a message to the node that sends it
abbrev pub loop_text : MessageClass → DeliveryState → ℕ → ℕ → ℕ → ℕ → List ℕ
loop_text class state x y out to_y =
    codes "<path class=\"arrow " ++ (class_text class ++ (codes " " ++ (delivery_state_text state ++ (codes "\" d=\"M" ++ (decimal x ++ (codes " " ++ (decimal y
    ++ (codes "C" ++ (decimal out ++ (codes " " ++ (decimal y ++ (codes " " ++ (decimal out ++ (codes " " ++ (decimal to_y
    ++ (codes " " ++ (decimal x ++ (codes " " ++ (decimal to_y ++ codes "\"/>\n")))))))))))))))))))

-- where a message is lost
abbrev pub cross_text : ℕ → ℕ → List ℕ
cross_text x y = codes "<path class=\"cross\" d=\"M" ++ (decimal x ++ (codes " " ++ (decimal y ++ codes "m-4 -4l8 8m0 -8l-8 8\"/>\n")))

-- words, as they are in a text of XML
abbrev pub words_text : CssClass → ℕ → ℕ → List ℕ → List ℕ
words_text look x y words =
    codes "<text class=\"" ++ (look_text look ++ (codes "\" x=\"" ++ (decimal x ++ (codes "\" y=\"" ++ (decimal y
    ++ (codes "\">" ++ (flat_map escaped words ++ codes "</text>\n")))))))

-- the words from one position up to another; none where these are none
abbrev pub part_of : ℕ → ℕ → List ℕ → List ℕ
part_of from to words = if nat_le from to && nat_le to (length words) then take (to - from) (drop from words) else []

-- a shape, where these are the words of all
abbrev pub shape_text : List ℕ → Shape → List ℕ
shape_text words (shapes.Edge y) = edge_text y
shape_text words (shapes.Band role x y width height) = band_text role x y width height
shape_text words (shapes.Words look x y from to) = words_text look x y (part_of from to words)

abbrev pub shapes_text : List ℕ → List Shape → List ℕ
shapes_text words ss = flat_map (shape_text words) ss
