use Rattle.std.proofs.Common.{◌≡◌, List, ℕ, [], ◌++◌, append-nil, subst}
use Rattle.std.specs.Prelude.{OnOk, codes}
use Rattle.std.specs.List.{flat_map}
use Rattle.rb_check.specs.Commands.{without_front}
use Rattle.rb_check.specs.Junit.{counts_of}
use Rattle.rb_check.specs.Xml.{in_value, line_end}
use Rattle.rb_check.proofs.junit.add_front.Goals as goal

pub returns : goal.returns
returns c =
    let path = c.args.path.now in
    let text : List ℕ → List ℕ → List ℕ = λ counts end. c.args.text.now.items ++ (codes "<testsuite name=\"" ++ (flat_map in_value path ++ (counts ++ (codes "<testcase classname=\"raftbench\" name=\""
    ++ (flat_map in_value path ++ (codes "\" file=\"" ++ (flat_map in_value (without_front (codes "./") path) ++ end))))))) in
    subst (λ (end : List ℕ). OnOk c.add_pieces.result (c.add_pieces.new.text.items ≡ text (counts_of c.args.verdict) end)) (append-nil (line_end c.args.line))
    (subst (λ (counts : List ℕ). OnOk c.add_pieces.result (c.add_pieces.new.text.items ≡ text counts (line_end c.args.line ++ []))) c.counts_of.ensures c.add_pieces.ensures)
