use Rattle.std.proofs.Common.{◌++◌, ◌∙◌, ap, sym, codes, decimal, append_assoc}
use Rattle.std.proofs.lemmas.Result.{on_ok_weaker}
use Rattle.rb_texts.proofs.PieceLaws.{added_twice}
use Rattle.rb_texts.proofs.messages.add_way.Goals as goal

pub returns : goal.returns
returns c =
    let before = c.args.line.now in
    on_ok_weaker c.add_numbered-2.result
    (λ e. added_twice before c.add_numbered.new.line c.add_numbered-2.new.line (decimal c.args.from ++ codes "->") (decimal c.args.to ++ codes " ") c.in_ok-add_numbered.ensures e
    ∙ ap (λ l. before ++ l) (sym (append_assoc (decimal c.args.from ++ codes "->") (decimal c.args.to) (codes " "))))
    c.add_numbered-2.ensures
