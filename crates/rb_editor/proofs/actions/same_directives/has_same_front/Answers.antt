use Rattle.std.proofs.Common.{◌∙◌, [], arith, map, sym}
use Rattle.std.proofs.lemmas.List.{get_or-map, length-map, take_more_same}
use Rattle.rb_editor.specs.Stops.{directive_in}
use Rattle.rb_editor.proofs.actions.same_directives.has_same_front.Goals as goal

pub loop-i-preserved : goal.loop-i-preserved
loop-i-preserved c =
    let olds = c.args.olds.now in
    let news = c.args.news.now in
    let i = c.loop-i.i in
    let old = directive_in c.args.one.now in
    let new = directive_in c.args.other.now in
    take_more_same (map old olds) (map new news) i []
    (omega (arith, length-map olds old, c.requires.old, c.loop-i-test.true))
    (omega (arith, length-map news new, c.requires.new, c.loop-i-test.true))
    c.loop-i.invariant
    (get_or-map old olds i _ [] (omega (arith, c.requires.old, c.loop-i-test.true))
    ∙ c.is_same_directive.ensures c.if-not-is_same_directive.false
    ∙ sym (get_or-map new news i _ [] (omega (arith, c.requires.new, c.loop-i-test.true))))
