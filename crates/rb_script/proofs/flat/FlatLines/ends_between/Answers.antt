use Rattle.std.proofs.Common.{◌-◌, length, take, drop, ap, sym, ◌∙◌, arith}
use Rattle.rb_script.specs.Flat.{ends_of, parted, between, line_start}
use Rattle.rb_script.proofs.FlatLaws.{ends_between, parted_len}
use Rattle.rb_script.proofs.flat.FlatLines.ends_between.Goals as goal

pub start_of-requires : goal.start_of-requires
start_of-requires c =
    omega (arith, c.requires.order, c.requires.within, ap length c.self.view_is, parted_len 0 c.self.inside.ends.items c.self.inside.text, ap length c.as_slice-ends.ensures)

pub offset_bounds-ends-from : goal.offset_bounds-ends-from
offset_bounds-ends-from c =
    omega (arith, c.requires.order, c.requires.within, ap length c.self.view_is, parted_len 0 c.self.inside.ends.items c.self.inside.text, ap length c.as_slice-ends.ensures)

pub slice_bounds-result-end : goal.slice_bounds-result-end
slice_bounds-result-end c =
    omega (arith, c.requires.order, c.requires.within, ap length c.self.view_is, parted_len 0 c.self.inside.ends.items c.self.inside.text, ap length c.as_slice-ends.ensures)

pub returns : goal.returns
returns c =
    let ends = c.self.inside.ends.items in
    let text = c.self.inside.text in
    let from = c.args.from in
    let to = c.args.to in
    ap (λ e. take (to - from) (drop from e)) c.as_slice-ends.ensures ∙ ends_between ends text from to c.self.invariant
    ∙ ap (λ s. ends_of s (between from to (parted 0 ends text))) (sym (c.start_of.ensures ∙ ap (λ e. line_start 0 e from) c.as_slice-ends.ensures))
    ∙ ap (λ ls. ends_of c.start_of.result (between from to ls)) c.self.view_is
