use Rattle.std.proofs.Common.{ℕ, List, ◌++◌, codes, ap, ◌∙◌}
use Rattle.std.proofs.lemmas.Result.{on_ok_weaker}
use Rattle.rb_texts.proofs.reason.add_no_use.Goals as goal

pub returns : goal.returns
returns c =
    on_ok_weaker c.add_pieces.result
    (λ adds. adds ∙ ap (λ (role : List ℕ). c.args.line.now ++ (codes "a " ++ (role ++ codes " has no use for it"))) c.role_name.ensures)
    c.add_pieces.ensures
