use Rattle.std.proofs.Common.{◌≡◌, ◌∙◌, ℕ, List, [], ◌∷◌, ◌++◌, Bor, ap, get_or, map, option_map, string_bytes, take, sym, subst, arith}
use Rattle.std.proofs.lemmas.Grind.{common_steps}
use Rattle.std.proofs.lemmas.List.{take_more}
use Rattle.rb_files.proofs.IgnoredLaws.{named, names_none, names_one}
use Rattle.rb_files.proofs.ignored.ignored_by.Goals as goal
use Rattle.rb_files.proofs.ignored.ignored_by.Goals.{in-Some+in_ok-join+in_ok-push, in_default}

pub loop-line-preserved : goal.loop-line-preserved
loop-line-preserved c =
    let folder = c.args.folder.now in
    let lines = c.deref-line-items.result.now in
    let i = c.loop-line.line-index in
    let none : Bor (List ℕ) = record { ref_ptr = (0, 0); now = [] } in
    let line = get_or lines i none in
    subst (λ ls. map string_bytes c.match-named_by.paths.items ≡ named folder ls) (sym (take_more lines i none c.loop-line-test.true))
    (elim c.match-named_by.branch [
      | in-Some+in_ok-join+in_ok-push w ↦
          let more : c.match-named_by.paths.items ≡ c.loop-line.paths.items ++ w.into_string.result ∷ [] = grind (arith, common_steps) in
          ap (map string_bytes) more
          ∙ names_one folder (take i lines) line w.in-Some.name.now c.loop-line.paths.items w.into_string.result c.loop-line.invariant
          (sym c.named_by.ensures ∙ ap (option_map (λ n. n.now)) w.in-Some.is) (grind arith)
      | in_default w ↦
          ap (λ p. map string_bytes p.items) w.paths-is
          ∙ names_none folder (take i lines) line c.loop-line.paths.items c.loop-line.invariant
          (sym c.named_by.ensures ∙ ap (option_map (λ n. n.now)) w.in_default.is)
    ])
