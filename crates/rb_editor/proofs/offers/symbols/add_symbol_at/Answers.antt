use Rattle.std.specs.Prelude.{codes}
use Rattle.rb_editor.specs.Symbols.{name_text, symbol_at}
use Rattle.rb_editor.specs.Texts.{range_text}
use Rattle.rb_text.proofs.AddedLaws.{five_parts}
use Rattle.rb_editor.proofs.offers.symbols.add_symbol_at.Goals as goal

pub returns : goal.returns
unfolding symbol_at
returns c =
    five_parts c.args.out.now.items c.add_name.new.out.items c.add_range.new.out.items c.extend_from_slice.new.self.items c.add_range-2.new.out.items c.extend_from_slice-2.new.self.items
    (name_text c.args.text_lines.now c.args.from) (range_text c.args.start c.args.end) (codes ",\"selectionRange\":") (range_text c.args.start c.args.behind_head) (codes "}")
    c.in_ok-add_name.ensures c.in_ok-add_range.ensures c.in_ok-extend_from_slice.ensures.items c.in_ok-add_range-2.ensures c.in_ok-extend_from_slice-2.ensures.items
