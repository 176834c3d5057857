use Rattle.std.proofs.Common.{◌-◌, ℕ, arith, ap, drop, length-drop}
use Rattle.std.proofs.lemmas.List.{take_rest}
use Rattle.rb_lsp.specs.Places.{offset_at}
use Rattle.rb_lsp.proofs.PlaceLaws.{offset_on}
use Rattle.rb_lsp.proofs.document.position.offsets.Goals as goal

pub returns-clause-to : goal.returns-clause-to
returns-clause-to c =
    let e = c.args.encoding in
    let text = c.args.text.now in
    let first = c.args.range.start.line in
    let last = c.args.range.end.line in
    let character = c.args.range.end.character in
    let here = c.line_start-start.ensures.value in
    let further = rw take_rest at c.offset-2.ensures.value in
    let same = ap (λ (n : ℕ). offset_at e (last - first) character (drop n text)) here in
    let within = rw take_rest at c.offset-2.ensures.within in (
      omega (arith, here, further, same, offset_on e first last character text c.if-range.false),
      omega (arith, within, c.line_start-start.ensures.within, length-drop c.line_start-start.result text),
    )
