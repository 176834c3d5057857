use Rattle.std.proofs.Common.{◌≡◌, ℕ, List, ◌++◌, append_assoc}
use Rattle.std.specs.Prelude.{codes}
use Rattle.std.specs.List.{flat_map}
use Rattle.rb_text.specs.Json.{in_page}
use Rattle.rb_text.proofs.SentLaws.{and_then, no_more, writes_along}
use Rattle.rb_view.specs.Rows.{before, front_text}
use Rattle.rb_view.specs.declared.rows.row.RowPlace.{RowPlace}
use Rattle.rb_view.proofs.rows.row.put_front.Goals as goal

-- the front in the parts in which it goes out
parted : (opening : List ℕ) (place : RowPlace) (name : List ℕ) → opening ≡ before place ++ codes "[\"" → opening ++ (flat_map in_page name ++ codes "\"") ≡ before place ++ front_text name
parted opening place name is = rw is (append_assoc (before place) (codes "[\"") (flat_map in_page name ++ codes "\""))

pub returns-in_err-put-clause-wrote : goal.returns-in_err-put-clause-wrote
returns-in_err-put-clause-wrote g c =
    writes_along _ _ _ _ _ (parted c.opening.result.now c.args.place c.args.name.now c.opening.ensures) (no_more _ _ _ _ _ c.from_residual.ensures.0 c.in_err-put.ensures.wrote)

pub returns-in_err-put_in_page-clause-wrote : goal.returns-in_err-put_in_page-clause-wrote
returns-in_err-put_in_page-clause-wrote g c =
    writes_along _ _ _ _ _ (parted c.opening.result.now c.args.place c.args.name.now c.opening.ensures)
    (and_then _ _ _ _ _ _ c.in_ok-put.ensures.wrote (no_more _ _ _ _ _ c.from_residual-in_err-put_in_page.ensures.0 c.in_err-put_in_page.ensures.wrote))

pub returns-clause-wrote : goal.returns-clause-wrote
returns-clause-wrote g c =
    writes_along _ _ _ _ _ (parted c.opening.result.now c.args.place c.args.name.now c.opening.ensures)
    (and_then _ _ _ _ _ _ c.in_ok-put.ensures.wrote (and_then _ _ _ _ _ _ c.in_ok-put_in_page.ensures.wrote c.put-2.ensures.wrote))
