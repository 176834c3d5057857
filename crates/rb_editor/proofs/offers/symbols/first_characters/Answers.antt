use Rattle.std.proofs.Common.{◌∙◌, ℕ, ◌+◌, ◌++◌, take, drop, ap, sym, arith}
use Rattle.rb_editor.specs.Symbols.{first_characters}
use Rattle.rb_editor.proofs.NameLaws.{within_more, begins_more, begins_stop, all_bytes}
use Rattle.rb_editor.proofs.offers.symbols.first_characters.Goals as goal
use Rattle.rb_editor.proofs.offers.symbols.first_characters.Goals.{then-not-is_within+else-left-eq0, else-not-is_within}

pub returns-then-left-eq0 : goal.returns-then-left-eq0
returns-then-left-eq0 c = begins_stop c.loop-at.left c.loop-at.at c.args.bytes.now _ c.loop-at-test.true (sym c.is_within.ensures ∙ c.if-not-is_within.true) (omega (arith, c.if-left-eq0.true)) c.loop-at.invariant

pub loop-at-preserved : goal.loop-at-preserved
loop-at-preserved c =
    let bytes = c.args.bytes.now in
    let i = c.loop-at.at in
    elim c.if-not-is_within.branch [
      | then-not-is_within+else-left-eq0 w ↦ ap (λ (n : ℕ). take (i + 1) bytes ++ first_characters n (drop (i + 1) bytes)) w.left-is
          ∙ begins_more c.loop-at.left i bytes _ c.loop-at-test.true (sym c.is_within.ensures ∙ w.if-not-is_within.true) (omega (arith, w.if-left-eq0.false)) c.loop-at.invariant
      | else-not-is_within w ↦ ap (λ (n : ℕ). take (i + 1) bytes ++ first_characters n (drop (i + 1) bytes)) w.left-is
          ∙ within_more c.loop-at.left i bytes _ c.loop-at-test.true (sym c.is_within.ensures ∙ w.if-not-is_within.false) c.loop-at.invariant
    ]

pub returns : goal.returns
returns c = all_bytes c.loop-at.left c.loop-at.at c.args.bytes.now _ c.loop-at-test.false c.loop-at.invariant
