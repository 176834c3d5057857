use Rattle.std.proofs.Common.{◌∙◌, sym, arith}
use Rattle.std.proofs.lemmas.List.{drop_all}
use Rattle.rb_lsp.proofs.DocumentLaws.{drop_next, place_here, place_next, place_past}
use Rattle.rb_lsp.proofs.server.documents.place_in.Goals as goal

pub returns-then-is_of-clause-place : goal.returns-then-is_of-clause-place
returns-then-is_of-clause-place g c =
    let next = drop_next c.args.documents.now c.loop-i.i c.index-documents-i.result c.loop-i-test.true c.index-documents-i.is in
    omega (arith, c.loop-i.invariant, place_here c.args.uri.now c.args.documents.now c.loop-i.i c.index-documents-i.result next (sym c.is_of.ensures ∙ c.if-is_of.true))

pub loop-i-preserved : goal.loop-i-preserved
loop-i-preserved g c =
    let next = drop_next c.args.documents.now c.loop-i.i c.index-documents-i.result c.loop-i-test.true c.index-documents-i.is in
    omega (arith, c.loop-i.invariant, place_next c.args.uri.now c.args.documents.now c.loop-i.i c.index-documents-i.result next (sym c.is_of.ensures ∙ c.if-is_of.false))

pub returns-clause-place : goal.returns-clause-place
returns-clause-place g c =
    omega (arith, c.loop-i.invariant, c.loop-i-test.false, place_past c.args.uri.now _ (drop_all c.loop-i.i c.args.documents.now (omega (arith, c.loop-i-test.false))))
