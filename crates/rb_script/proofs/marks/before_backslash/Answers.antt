use Rattle.std.proofs.Common.{ℕ, ◌∷◌, ◌++◌, refl, sym, ap, ◌∙◌}
use Rattle.std.proofs.lemmas.Bool.{ne_eqb}
use Rattle.rb_script.proofs.MarkLaws.{behind_all, cut_last, behind_more, continues_last, continues_none}
use Rattle.rb_script.proofs.LinePartLaws.{blanks_sound}
use Rattle.rb_script.proofs.marks.before_backslash.Goals as goal

pub loop-last-init : goal.loop-last-init
loop-last-init c = behind_all c.args.line.now

pub loop-last-preserved : goal.loop-last-preserved
loop-last-preserved c = behind_more c.args.line.now c.loop-last.front.now c.in-Some.shorter.now c.in-Some.last.now c.loop-last.invariant c.in-Some.ensures.cases.0 (sym c.is_space.ensures ∙ c.if-not-is_space.false)

pub returns-then-last-eq92 : goal.returns-then-last-eq92
returns-then-last-eq92 c =
    let shorter = c.in-Some.shorter.now in
    let behind = c.loop-last.invariant in
    let parts = cut_last c.args.line.now c.loop-last.front.now shorter c.in-Some.last.now behind c.in-Some.ensures.cases.0 in
    (record { body = shorter; blanks = behind.blanks; parts = parts ∙ ap (λ (b : ℕ). shorter ++ b ∷ behind.blanks) c.if-last-eq92.true; blank = blanks_sound behind.blanks behind.blank }, refl)

pub returns-then-not-is_space : goal.returns-then-not-is_space
returns-then-not-is_space c =
    continues_last c.args.line.now c.loop-last.front.now c.in-Some.shorter.now c.in-Some.last.now c.loop-last.invariant c.in-Some.ensures.cases.0 (sym c.is_space.ensures ∙ c.if-not-is_space.true)
    ∙ ne_eqb c.in-Some.last.now 92 c.if-last-eq92.false

pub returns : goal.returns
returns c = continues_none c.args.line.now c.loop-last.front.now c.loop-last.invariant c.in_default.ensures.cases
