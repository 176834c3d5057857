use Rattle.std.proofs.Common.{◌≡◌, length, false, arith, ap, sym, ◌∙◌}
use Rattle.rb_script.specs.Tokens.{plain}
use Rattle.rb_directive.specs.ShortForms.{of_word}
use Rattle.rb_directive.proofs.ShortFormLaws.{told_by_word}
use Rattle.rb_directive.proofs.short_form.short_request.Goals as goal

pub returns-else-has_equals : goal.returns-else-has_equals
returns-else-has_equals c =
    let d = plain c.args.directive.now in
    let one : length d.args ≡ 1 = omega (arith, c.args-2.ensures, c.in-1.is) in
    told_by_word c.args.row.now d c.of_word.result one (sym c.has_equals.ensures ∙ c.if-has_equals.false) (c.of_word.ensures ∙ ap (of_word c.args.row.now) c.key.ensures.plain)
