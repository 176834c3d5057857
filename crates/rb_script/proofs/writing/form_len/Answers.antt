use Rattle.std.proofs.Common.{◌≡◌, ◌+◌, Bool, cond, length, sym, ap, ◌∙◌, arith}
use Rattle.rb_script.specs.Lines.{text_of}
use Rattle.rb_script.specs.Script.{shown}
use Rattle.rb_script.proofs.LengthLaws.{shown-length}
use Rattle.rb_script.proofs.writing.form_len.Goals as goal
use Rattle.rb_script.proofs.writing.form_len.Goals.{then-is_double, else-is_double}

pub returns : goal.returns
returns c =
    let e = c.args.expected.now in
    let shown_is : length (text_of (shown e)) ≡ length (text_of e) + c.if-is_double.marks = elim c.if-is_double.branch [
      | then-is_double w ↦ shown-length e c.args.is_double c.if-is_double.marks c.requires (w.marks-is ∙ sym (ap (λ (t : Bool). cond t 15 0) w.if-is_double.true))
      | else-is_double w ↦ shown-length e c.args.is_double c.if-is_double.marks c.requires (w.marks-is ∙ sym (ap (λ (t : Bool). cond t 15 0) w.if-is_double.false))
    ] in
    omega (arith, shown_is, ap length c.text.ensures)
