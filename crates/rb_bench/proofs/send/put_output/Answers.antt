use Rattle.std.proofs.Common.{◌≡◌, [], ◌∷◌, ◌++◌, length, decimal, append_assoc, append-nil}
use Rattle.std.specs.Prelude.{codes}
use Rattle.rb_script.specs.Lines.{text_of}
use Rattle.rb_bench.specs.Responses.{output_text}
use Rattle.rb_text.proofs.SentLaws.{writes_along}
use Rattle.rb_bench.proofs.send.put_output.Goals as goal

pub returns-clause-wrote : goal.returns-clause-wrote
returns-clause-wrote g c =
    let ls = c.args.output.now in
    let same : codes "output " ++ (decimal (length ls) ++ (10 ∷ (text_of ls ++ []))) ≡ output_text ls = simp (append_assoc, append-nil) in
    writes_along _ _ _ _ (output_text ls) same (rw (c.len.ensures, c.text.ensures) at c.put_pieces.ensures.wrote)
