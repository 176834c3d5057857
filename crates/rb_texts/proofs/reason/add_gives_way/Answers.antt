use Rattle.std.proofs.Common.{◌≡◌, ◌++◌, ◌-◌, ◌∙◌, ℕ, List, ap, arith, length}
use Rattle.std.proofs.lemmas.Result.{on_ok_weaker}
use Rattle.rb_texts.specs.declared.reason.TheConstants.{MAX_ENTRIES}
use Rattle.rb_texts.specs.Reasons.{give_way_text, more_text}
use Rattle.rb_texts.proofs.PieceLaws.{added_twice}
use Rattle.rb_texts.proofs.reason.add_gives_way.Goals as goal

pub returns : goal.returns
returns c =
    let before = c.args.line.now in
    let size : c.len-len.result ≡ length c.args.entries.now = c.len-len.ensures in
    let past : c.saturating_sub.result ≡ length c.args.entries.now - MAX_ENTRIES = omega (arith, size, c.saturating_sub.ensures) in
    let more = added_twice before c.add_few_entries.new.line c.add_more.new.line _ _ c.in_ok-add_few_entries.ensures
    (c.in_ok-add_more.ensures ∙ ap (λ (n : ℕ). c.add_few_entries.new.line ++ more_text n) past) in
    on_ok_weaker c.add_bytes.result
    (λ e. added_twice before c.add_more.new.line c.add_bytes.new.line _ _ more
    (e ∙ ap (λ (l : List ℕ). c.add_more.new.line ++ l) (c.give_way_text.ensures ∙ ap give_way_text size)))
    c.add_bytes.ensures
