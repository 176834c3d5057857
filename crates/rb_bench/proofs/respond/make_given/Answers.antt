use Rattle.std.proofs.Common.{List, ap, sym, ◌∙◌, length}
use Rattle.rb_script.specs.Lines.{Line, text_of}
use Rattle.rb_bench.specs.Responses.{edit_of}
use Rattle.rb_bench.proofs.MakeLaws.{short_text, given_made}
use Rattle.rb_bench.proofs.respond.make_given.Goals as goal

pub returns-in-Ok : goal.returns-in-Ok
returns-in-Ok c = λ ls given.
    let kept = given.kept c.if-given.false c.if-given-gt-MAX_SCRIPT.false in
    given_made c.args.session.now c.args.purpose c.args.place ls _ _ c.in-Ok.edit (short_text (length (text_of ls)) c.args.given.text_len given.len c.if-given-gt-MAX_SCRIPT.false)
    (ap (λ (l : List Line). edit_of c.args.purpose c.args.place l) (sym kept) ∙ c.in-Ok.ensures) c.make.ensures
