use Rattle.std.proofs.Common.{◌∙◌, ℕ, List, [], ◌++◌, ◌∷◌, Bor, ap, get_or, sym}
use Rattle.rb_files.specs.Names.{strange_names, text_names}
use Rattle.rb_files.proofs.NameLaws.{strange_more, text_more}
use Rattle.rb_files.proofs.listing.gathered.Goals as goal

pub loop-part-preserved : goal.loop-part-preserved
loop-part-preserved c =
    let parts = c.args.parts.now in
    let i = c.loop-part.part-index in
    let none : Bor (List ℕ) = record { ref_ptr = (0, 0); now = [] } in
    let name = (get_or parts i none).now in
    record {
      names = c.in_ok-add.ensures.names ∙ ap (λ (ns : List (List ℕ)). ns ++ text_names (name ∷ [])) c.loop-part.invariant.names ∙ sym (text_more parts i none c.loop-part-test.true);
      strange = c.in_ok-add.ensures.strange ∙ ap (λ (ns : List (List ℕ)). ns ++ strange_names (name ∷ [])) c.loop-part.invariant.strange ∙ sym (strange_more parts i none c.loop-part-test.true);
    }
