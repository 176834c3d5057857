use Rattle.std.proofs.Common.{◌≡◌, ℕ, List, [], ◌∷◌, ◌++◌, length, min, take, ap, subst, ◌∙◌, arith}
use Rattle.std.specs.List.{flat_map}
use Rattle.std.proofs.lemmas.List.{take_min}
use Rattle.rb_script.specs.Writes.{Writes}
use Rattle.rb_texts.specs.Errors.{word_text, WORD_SHOWN}
use Rattle.rb_texts.specs.Quoted.{quoted}
use Rattle.rb_texts.specs.Quoted as quotes
use Rattle.rb_view.specs.Rows.{cell_text, text}
use Rattle.rb_view.proofs.rows.cell.put_quoting.Goals as goal

-- a text, and the first bytes of a word in quotes
quoting : (front word : List ℕ) (n : ℕ) → n ≡ min (length word) WORD_SHOWN → front ++ (34 ∷ (flat_map quotes.escaped (take n word) ++ 34 ∷ [])) ≡ front ++ word_text word
unfolding quoted
quoting front word n e =
    let same : n ≡ min WORD_SHOWN (length word) = omega arith in
    ap (λ (l : List ℕ). front ++ l) (ap (λ (m : ℕ). quoted (take m word)) same ∙ ap quoted (take_min WORD_SHOWN word))

pub returns-clause-wrote : goal.returns-clause-wrote
returns-clause-wrote g c =
    subst (λ (t : List ℕ). Writes c.put_text.result (g.S.Sink.held c.args.sink.now) (g.S.Sink.held c.put_text.new.sink) (cell_text (text t)))
    (quoting c.args.front.now c.args.word.now c.min.result c.min.ensures) c.put_text.ensures.wrote
