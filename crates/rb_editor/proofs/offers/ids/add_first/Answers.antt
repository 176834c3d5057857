use Rattle.std.proofs.Common.{◌≡◌, ℕ, ◌++◌, List, sym, subst}
use Rattle.std.specs.Prelude.{OnOk, Some}
use Rattle.std.specs.Borrow.{Bor}
use Rattle.std.proofs.lemmas.List.{take-map}
use Rattle.rb_editor.specs.Offers.{chosen}
use Rattle.rb_editor.proofs.offers.ids.add_first.Goals as goal

pub returns : goal.returns
returns c =
    subst (λ (ws : List (List ℕ)). OnOk c.add_chosen.result (c.add_chosen.new.list.items ≡ c.args.list.now.items ++ chosen c.args.wanted.now (Some c.args.line.now) ws))
    (sym (take-map (λ (i : Bor (List ℕ)). i.now) c.args.count c.args.words.now)) c.add_chosen.ensures
