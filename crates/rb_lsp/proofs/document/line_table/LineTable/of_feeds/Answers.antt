use Rattle.std.proofs.Common.{◌∙◌, ℕ, sym, ap, arith}
use Rattle.rb_lsp.specs.declared.document.position.Position.{Position}
use Rattle.rb_lsp.specs.Places.{position_of}
use Rattle.rb_lsp.specs.Tables.{feed_count}
use Rattle.rb_lsp.proofs.PlainLaws.{given_plain, plain_start}
use Rattle.rb_lsp.proofs.document.line_table.LineTable.of_feeds.Goals as goal

pub position_on-end-requires-clause-first : goal.position_on-end-requires-clause-first
position_on-end-requires-clause-first c =
    let e = c.args.encoding in
    let text = c.args.text.now in
    let first : ℕ → Position = λ line. record { line = line; character = 0 } in
    c.line_first-first.ensures
    ∙ ap first c.feed_count-feeds.ensures.value
    ∙ sym (plain_start e (feed_count text) text c.requires.plain (omega arith))
    ∙ ap (λ (k : ℕ). position_of e k text) (sym c.last_start.ensures.value)

pub returns : goal.returns
returns c =
    given_plain c.args.encoding c.args.text.now c.feed_count-feeds.result c.new.result.items c.position_on-end.result c.requires.plain c.feed_count-feeds.ensures.value c.new.ensures.items c.position_on-end.ensures
