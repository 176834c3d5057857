-- Pictures as documents of SVG. (SVG 2, W3C, sections 5.1 and 5.8; its description is for readers who can't see, WAI-ARIA 1.2,
-- `aria-labelledby` and `aria-describedby`.)
use Rattle.std.specs.Prelude.{ℕ, codes, decimal, List, ◌++◌}
use Rattle.std.specs.List.{flat_map}
use Rattle.rb_view.specs.declared.chart.shape.Shape.{Shape}
use Rattle.rb_view.specs.XmlEscapes.{escaped}
use Rattle.rb_view.specs.declared.chart.path.DrawnArrow.{DrawnArrow}
use Rattle.rb_view.specs.declared.chart.writing.ChartLayer.{ChartLayer}
use Rattle.rb_view.specs.declared.chart.writing.ChartLayer.TheVariants as layers
use Rattle.rb_view.specs.Paths.{drawn_text}
use Rattle.rb_view.specs.Shapes.{shapes_text}

-- a picture: its size in pixels, its title, what it tells who can't see, and its shapes from the lowest layer up, with their words
pub record PlainChart : Type 0 where
  pub width : ℕ
  pub height : ℕ
  pub title : List ℕ
  pub told : List ℕ
  pub under : List Shape
  pub arrows : List DrawnArrow
  pub texts : List Shape
  pub words : List ℕ

-- what is before the shapes: the size, the title and what is told as they are in texts of XML, how all looks, and the background
abbrev pub front_text : List ℕ → ℕ → ℕ → List ℕ → List ℕ → List ℕ
front_text style width height title told =
    codes "<svg xmlns=\"http://www.w3.org/2000/svg\" role=\"img\" aria-labelledby=\"title\" aria-describedby=\"what\" viewBox=\"0 0 "
    ++ (decimal width ++ (codes " " ++ (decimal height ++ (codes "\" width=\"" ++ (decimal width ++ (codes "\" height=\"" ++ (decimal height
    ++ (codes "\">\n<title id=\"title\">" ++ (flat_map escaped title ++ (codes "</title>\n<desc id=\"what\">" ++ (flat_map escaped told
    ++ (codes "</desc>\n" ++ (style ++ codes "<rect class=\"background\" width=\"100%\" height=\"100%\"/>\n")))))))))))))

-- a part of a document
abbrev pub layer_text : ChartLayer → List ℕ
layer_text (layers.Front style width height title told) = front_text style.now width height title.now told.now
layer_text (layers.Shapes words shapes) = shapes_text words.now shapes.now
layer_text (layers.Arrows arrows) = flat_map drawn_text arrows.now
layer_text layers.End = codes "</svg>\n"

-- a picture, where this is how it looks: what lies below, the arrows, and the texts
abbrev pub chart_text : List ℕ → PlainChart → List ℕ
chart_text style c =
    front_text style c.width c.height c.title c.told
    ++ (shapes_text c.words c.under ++ (flat_map drawn_text c.arrows ++ (shapes_text c.words c.texts ++ codes "</svg>\n")))
