-- The text of an arrow, and of a picture, of parts that are known.
use Rattle.std.proofs.Common.{◌≡◌, ◌∙◌, ℕ, Bool, true, false, List, ◌++◌, ap, sym}
use Rattle.std.specs.Prelude.{codes, if◌then◌else◌}
use Rattle.std.specs.List.{flat_map}
use Rattle.rb_view.specs.declared.chart.arrow.Arrow.{Arrow}
use Rattle.rb_view.specs.declared.chart.arrow.ArrowPlace.{ArrowPlace}
use Rattle.rb_vocab.specs.declared.message_type.MessageClass.{MessageClass}
use Rattle.rb_vocab.specs.MessageTypes.{class_of}
use Rattle.rb_view.specs.declared.chart.path.DrawnArrow.{DrawnArrow}
use Rattle.rb_view.specs.declared.chart.shape.Shape.{Shape}
use Rattle.rb_view.specs.Charts.{PlainChart, chart_text, front_text}
use Rattle.rb_view.specs.Paths.{bend_of, drawn_text, end_of, is_loop, loop_of, path_text, right_of, start_of}
use Rattle.rb_view.specs.Shapes.{arrow_text, loop_text, shapes_text}

path_by : (a : Arrow) (p : ArrowPlace) (b : Bool) → is_loop a ≡ b
    → (if b then loop_text (class_of a.message_type) a.state (loop_of a) p.y (right_of (loop_of a) 40) p.end
    else arrow_text (class_of a.message_type) a.state (start_of a) p.y (bend_of a) (end_of a p.is_short) p.end) ≡ path_text a p
path_by a p b is =
    ap (λ (t : Bool). if t then loop_text (class_of a.message_type) a.state (loop_of a) p.y (right_of (loop_of a) 40) p.end
    else arrow_text (class_of a.message_type) a.state (start_of a) p.y (bend_of a) (end_of a p.is_short) p.end) (sym is)

pub looped : (a : Arrow) (p : ArrowPlace) (k : MessageClass) (x out : ℕ) → k ≡ class_of a.message_type → x ≡ loop_of a → out ≡ right_of (loop_of a) 40 → is_loop a ≡ true
    → loop_text k a.state x p.y out p.end ≡ path_text a p
looped a p k x out class at far is =
    ap (λ (l : MessageClass). loop_text l a.state x p.y out p.end) class
    ∙ ap (λ (n : ℕ). loop_text (class_of a.message_type) a.state n p.y out p.end) at
    ∙ ap (λ (n : ℕ). loop_text (class_of a.message_type) a.state (loop_of a) p.y n p.end) far
    ∙ path_by a p true is

pub straight : (a : Arrow) (p : ArrowPlace) (k : MessageClass) (x bend to_x : ℕ) → k ≡ class_of a.message_type → x ≡ start_of a → bend ≡ bend_of a → to_x ≡ end_of a p.is_short → is_loop a ≡ false
    → arrow_text k a.state x p.y bend to_x p.end ≡ path_text a p
straight a p k x bend to_x class at bends ends is =
    ap (λ (l : MessageClass). arrow_text l a.state x p.y bend to_x p.end) class
    ∙ ap (λ (n : ℕ). arrow_text (class_of a.message_type) a.state n p.y bend to_x p.end) at
    ∙ ap (λ (n : ℕ). arrow_text (class_of a.message_type) a.state (start_of a) p.y n to_x p.end) bends
    ∙ ap (λ (n : ℕ). arrow_text (class_of a.message_type) a.state (start_of a) p.y (bend_of a) n p.end) ends
    ∙ path_by a p false is

abbrev plain : ℕ → ℕ → List ℕ → List ℕ → List Shape → List DrawnArrow → List Shape → List ℕ → PlainChart
plain width height title told under arrows texts words =
    record { width = width; height = height; title = title; told = told; under = under; arrows = arrows; texts = texts; words = words }

-- a picture in the parts in which it is written
pub layered : (style : List ℕ) (k : PlainChart) (width height : ℕ) (title told words t d w : List ℕ) (under texts u x : List Shape) (arrows o : List DrawnArrow)
    → plain width height title told under arrows texts words ≡ k → t ≡ title → d ≡ told → w ≡ words → u ≡ under → o ≡ arrows → x ≡ texts
    → front_text style width height t d ++ (shapes_text w u ++ (flat_map drawn_text o ++ (shapes_text w x ++ codes "</svg>\n"))) ≡ chart_text style k
layered style k width height title told words t d w under texts u x arrows o view p q m r s v =
    let all : List ℕ → List ℕ → List ℕ → List Shape → List DrawnArrow → List Shape → List ℕ =
    λ a b l e f h. front_text style width height a b ++ (shapes_text l e ++ (flat_map drawn_text f ++ (shapes_text l h ++ codes "</svg>\n"))) in
    ap (λ (y : List ℕ). all y d w u o x) p ∙ ap (λ (y : List ℕ). all title y w u o x) q ∙ ap (λ (y : List ℕ). all title told y u o x) m
    ∙ ap (λ (y : List Shape). all title told words y o x) r ∙ ap (λ (y : List DrawnArrow). all title told words under y x) s
    ∙ ap (λ (y : List Shape). all title told words under arrows y) v ∙ ap (λ (c : PlainChart). chart_text style c) view
