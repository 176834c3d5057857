use Rattle.std.proofs.Common.{◌≡◌, ◌-◌, ◌≤◌, ◌++◌, [], ◌∷◌, ap, ap₂, sym, ◌∙◌, List, ℕ, Bool, false, length, arith, subst, Option, Some, None}
use Rattle.std.specs.Prelude.{codes, slice_get, ◌==◌, if◌then◌else◌}
use Rattle.std.specs.Option.{unwrap_or, option_map}
use Rattle.std.proofs.lemmas.Bool.Decides.{nat_tests}
use Rattle.rb_script.specs.Lines.{Line, text_of}
use Rattle.rb_script.specs.Script.{PlainBlock, PlainScript}
use Rattle.rb_script.specs.Writes.{Writes}
use Rattle.rb_replay.specs.Run.{outputs, at_place, output_at}
use Rattle.rb_replay.specs.Report.{marked, mismatch_line, mismatch_lines, expected_at}
use Rattle.rb_replay.specs.Holding.{Holding}
use Rattle.rb_replay.proofs.RunLaws.{length-outputs}
use Rattle.rb_replay.proofs.FreshLaws.{held-outputs}
use Rattle.rb_replay.proofs.session.Session.put_mismatch_at.Goals as goal

not_zero : (k : ℕ) → 1 ≤ k → (k == 0) ≡ false
not_zero k first = grind (arith, nat_tests)

-- what stands at a place from 1 on
at_place-first : {T : Type 0} (xs : List T) (k : ℕ) → 1 ≤ k → at_place xs k ≡ slice_get xs (k - 1)
at_place-first xs k first = ap (λ (t : Bool). if t then None else slice_get xs (k - 1)) (not_zero k first)

expected-found : (s : PlainScript) (k : ℕ) (b : PlainBlock) → 1 ≤ k → slice_get s.blocks (k - 1) ≡ Some b → b.expected ≡ expected_at s k
expected-found s k b first found = sym (ap (λ (o : Option PlainBlock). unwrap_or (option_map (λ (b : PlainBlock). b.expected) o) []) (at_place-first s.blocks k first ∙ found))

output-found : (s : PlainScript) (k : ℕ) (output : List Line) → 1 ≤ k → slice_get (outputs s) (k - 1) ≡ Some output → output ≡ unwrap_or (output_at s k) []
output-found s k output first found = sym (ap (λ (o : Option (List Line)). unwrap_or o []) (at_place-first (outputs s) k first ∙ found))

pub at-requires : goal.at-requires
at-requires g c =
    let held : c.self.inside.outputs ≡ outputs c.args.self.now.script = held-outputs c.self.view_is c.self.invariant in
    omega (arith, ap length held, length-outputs c.args.self.now.script, c.requires.first, c.requires.within)

pub returns-clause-wrote : goal.returns-clause-wrote
returns-clause-wrote g c =
    let held : c.self.inside.outputs ≡ outputs c.args.self.now.script = held-outputs c.self.view_is c.self.invariant in
    let blocks : (c.self.inside.script).blocks ≡ c.args.self.now.script.blocks = ap (λ (h : Holding). h.script.blocks) c.self.view_is in
    let block : (c.block_at-block.result.now).expected ≡ expected_at c.args.self.now.script c.args.place =
    expected-found c.args.self.now.script c.args.place c.block_at-block.result.now c.requires.first (ap (λ (bs : List PlainBlock). slice_get bs (c.args.place - 1)) (sym blocks) ∙ c.block_at-block.ensures) in
    let output : c.deref.result.now ≡ unwrap_or (output_at c.args.self.now.script c.args.place) [] =
    c.deref.ensures ∙ output-found c.args.self.now.script c.args.place c.at.result.now.value c.requires.first (ap (λ (os : List (List Line)). slice_get os (c.args.place - 1)) (sym held) ∙ c.at.ensures) in
    let parts : text_of (mismatch_line c.args.place ∷ (marked (codes "- ") c.expected.result.now ++ marked (codes "+ ") c.deref.result.now)) ≡ text_of (mismatch_lines c.args.self.now.script c.args.place) =
    ap₂ (λ (a b : List Line). text_of (mismatch_line c.args.place ∷ (marked (codes "- ") a ++ marked (codes "+ ") b))) (c.expected.ensures ∙ block) output in
    subst (λ (l : List ℕ). Writes c.put_mismatch.result (g.S.Sink.held c.args.sink.now) (g.S.Sink.held c.put_mismatch.new.sink) l) parts c.put_mismatch.ensures.wrote
