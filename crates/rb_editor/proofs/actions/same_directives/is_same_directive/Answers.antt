use Rattle.std.proofs.Common.{◌∙◌, [], arith, drop, sym}
use Rattle.std.proofs.lemmas.List.{get_or-drop, length-drop, take_more_same}
use Rattle.rb_editor.proofs.actions.same_directives.is_same_directive.Goals as goal

pub loop-i-preserved : goal.loop-i-preserved
loop-i-preserved c =
    let one = c.args.one.now in
    let other = c.args.other.now in
    let a = c.args.a.from in
    let b = c.args.b.from in
    let i = c.loop-i.i in
    let within = c.is_same_line.ensures.within c.if-not-is_same_line.false in
    take_more_same (drop a one) (drop b other) i []
    (omega (arith, length-drop a one, within.0))
    (omega (arith, length-drop b other, within.1))
    c.loop-i.invariant
    (get_or-drop a one i [] ∙ c.is_same_line.ensures.same c.if-not-is_same_line.false ∙ sym (get_or-drop b other i []))
