use Rattle.std.proofs.Common.{◌++◌}
use Rattle.std.specs.Prelude.{codes}
use Rattle.rb_check.specs.Objects.{object_front, strings_from}
use Rattle.rb_text.proofs.AddedLaws.{two_parts, three_parts}
use Rattle.rb_check.proofs.object.add_lines.Goals as goal

pub returns : goal.returns
returns c =
    let place = c.args.place in
    let expected = strings_from 0 c.args.expected.now in
    let output = strings_from 0 c.args.output.now in
    let between = codes "],\"output\":[" in
    let t4 = c.add_strings-2.new.text.items in
    two_parts c.args.text.now.items c.add_front.new.text.items t4 (object_front place.path.now place.line c.args.head.now c.args.status.now) (expected ++ (between ++ output))
    c.in_ok-add_front.ensures
    (three_parts c.add_front.new.text.items c.add_strings.new.text.items c.add_pieces.new.text.items t4 expected between output c.in_ok-add_strings.ensures c.in_ok-add_pieces.ensures c.in_ok-add_strings-2.ensures)
