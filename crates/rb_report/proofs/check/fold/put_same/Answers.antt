use Rattle.std.proofs.Common.{◌≡◌, ◌∙◌, ◌<◌, ◌+◌, ◌-◌, ◌≤◌, ℕ, Bool, List, cond, take, drop, length, ◌++◌, refl, ap, sym, arith}
use Rattle.std.specs.Prelude.{codes, decimal}
use Rattle.std.proofs.lemmas.Bool.{lt-leb}
use Rattle.std.proofs.lemmas.List.{length-take-le, length-drop}
use Rattle.rb_script.specs.Lines.{Line}
use Rattle.rb_text.proofs.SentLaws.{and_then, no_more, writes_along}
use Rattle.rb_report.specs.declared.check.colors.Colors.{Colors}
use Rattle.rb_report.specs.declared.check.position.DiffPosition.{DiffPosition}
use Rattle.rb_report.specs.declared.check.side.Side.TheVariants.{Both}
use Rattle.rb_report.specs.Folds.{fold_text}
use Rattle.rb_report.specs.LineRanges.{in_range}
use Rattle.rb_report.specs.Pieces.{noun}
use Rattle.rb_report.specs.Steps.{after_lines}
use Rattle.rb_report.specs.Whys.{reasons_in, told_lines, told_same}
use Rattle.rb_report.proofs.PositionLaws.{at-after}
use Rattle.rb_report.proofs.check.fold.put_same.Goals as goal

-- of many lines, by the first of them, the last and their position, and the word for those between
folded : (colors : Colors) (why : List Line) (p q : DiffPosition) (n : ℕ) (ls first before rest : List Line) (word : List ℕ) → n ≡ length ls → 6 < n → first ≡ take 3 ls → before ≡ take (n - 3) ls → q ≡ after_lines Both p before → rest ≡ drop (n - 3) ls
    → word ≡ noun (n - 6) (codes " line") (codes " lines")
    → told_same colors why p ls ≡ told_lines colors Both why p first ++ ((codes "  .. " ++ (decimal (n - 6) ++ (word ++ codes "\n"))) ++ told_lines colors Both why q rest)
folded colors why p q n ls first before rest word count many first_is before_is q_is rest_is word_is =
    let text = λ (k : ℕ). told_lines colors Both why p (take 3 ls) ++ (fold_text (k - 6) ++ told_lines colors Both why (after_lines Both p (take (k - 3) ls)) (drop (k - 3) ls)) in
    let last = λ (o : DiffPosition) (l : List Line) (w : List ℕ). (codes "  .. " ++ (decimal (n - 6) ++ (w ++ codes "\n"))) ++ told_lines colors Both why o l in
    let here : after_lines Both p (take (n - 3) ls) ≡ q = ap (λ (l : List Line). after_lines Both p l) (sym before_is) ∙ sym q_is in
    ap (λ (t : Bool). cond t (told_lines colors Both why p ls) (text (length ls))) (lt-leb (length ls) 6 (omega (arith, many, count)))
    ∙ ap text (sym count)
    ∙ ap (λ (l : List Line). told_lines colors Both why p l ++ last (after_lines Both p (take (n - 3) ls)) (drop (n - 3) ls) (noun (n - 6) (codes " line") (codes " lines"))) (sym first_is)
    ∙ ap (λ (o : DiffPosition). told_lines colors Both why p first ++ last o (drop (n - 3) ls) (noun (n - 6) (codes " line") (codes " lines"))) here
    ∙ ap (λ (l : List Line). told_lines colors Both why p first ++ last q l (noun (n - 6) (codes " line") (codes " lines"))) (sym rest_is)
    ∙ ap (λ (w : List ℕ). told_lines colors Both why p first ++ last q rest w) (sym word_is)

pub put_explained_lines-requires-2 : goal.put_explained_lines-requires-2
put_explained_lines-requires-2 g c = omega (arith, c.requires, ap length c.front.ensures, length-take-le 3 (in_range c.args.lines) (omega (arith, c.len-count.ensures, c.if-count.false)))

pub after-next-requires : goal.after-next-requires
after-next-requires g c = omega (arith, c.requires, c.len-count.ensures, c.if-count.false, ap length c.front-2.ensures, length-take-le (c.len-count.result - 3) (in_range c.args.lines) (omega (arith, c.len-count.ensures)))

pub put_explained_lines-requires-3 : goal.put_explained_lines-requires-3
put_explained_lines-requires-3 g c = omega (
  arith,
  c.requires,
  c.len-count.ensures,
  c.if-count.false,
  ap (λ (p : DiffPosition). p.at) c.after-next.ensures,
  at-after Both c.args.position (in_range c.front-2.result),
  ap length c.front-2.ensures,
  length-take-le (c.len-count.result - 3) (in_range c.args.lines) (omega (arith, c.len-count.ensures)),
  ap length c.behind.ensures,
  length-drop (c.len-count.result - 3) (in_range c.args.lines),
)

pub returns-in_err-put_explained_lines-clause-wrote : goal.returns-in_err-put_explained_lines-clause-wrote
returns-in_err-put_explained_lines-clause-wrote g c =
    let n : ℕ = c.len-count.result in
    let ls = in_range c.args.lines in
    let is = folded c.args.view.colors (reasons_in c.args.view.why) c.args.position (after_lines Both c.args.position (take (n - 3) ls)) n ls (in_range c.front.result) (take (n - 3) ls) (drop (n - 3) ls) (noun (n - 6) (codes " line") (codes " lines"))
    c.len-count.ensures (omega (arith, c.if-count.false)) c.front.ensures refl refl refl refl in
    writes_along _ _ _ _ _ (sym is) (no_more _ _ _ _ _ c.from_residual.ensures.0 c.in_err-put_explained_lines.ensures.wrote)

pub returns-in_err-put_pieces-clause-wrote : goal.returns-in_err-put_pieces-clause-wrote
returns-in_err-put_pieces-clause-wrote g c =
    let n : ℕ = c.len-count.result in
    let ls = in_range c.args.lines in
    let is = folded c.args.view.colors (reasons_in c.args.view.why) c.args.position (after_lines Both c.args.position (take (n - 3) ls)) n ls (in_range c.front.result) (take (n - 3) ls) (drop (n - 3) ls) c.noun.result.now
    c.len-count.ensures (omega (arith, c.if-count.false)) c.front.ensures refl refl refl c.noun.ensures in
    writes_along _ _ _ _ _ (sym is) (and_then _ _ _ _ _ _ c.in_ok-put_explained_lines.ensures.wrote (no_more _ _ _ _ _ c.from_residual-in_err-put_pieces.ensures.0 c.in_err-put_pieces.ensures.wrote))

pub returns-clause-wrote : goal.returns-clause-wrote
returns-clause-wrote g c =
    let n : ℕ = c.len-count.result in
    let ls = in_range c.args.lines in
    let is = folded c.args.view.colors (reasons_in c.args.view.why) c.args.position c.after-next.result n ls (in_range c.front.result) (in_range c.front-2.result) (in_range c.behind.result) c.noun.result.now
    c.len-count.ensures (omega (arith, c.if-count.false)) c.front.ensures c.front-2.ensures c.after-next.ensures c.behind.ensures c.noun.ensures in
    writes_along _ _ _ _ _ (sym is) (and_then _ _ _ _ _ _ c.in_ok-put_explained_lines.ensures.wrote (and_then _ _ _ _ _ _ c.in_ok-put_pieces.ensures.wrote c.put_explained_lines-3.ensures.wrote))
