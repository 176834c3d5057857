use Rattle.std.proofs.Common.{ap, ◌∙◌, ◌++◌}
use Rattle.std.proofs.lemmas.Result.{on_ok_weaker}
use Rattle.rb_texts.proofs.QuotedLaws.{plain_joined, numbered_joined, quote_joined, all_joined}
use Rattle.rb_texts.proofs.piece.add_quoted.Goals as goal

pub loop-b-init : goal.loop-b-init
loop-b-init c =
    let first = c.add_bytes.new.line in
    record {
      next = c.split_plain.ensures.next;
      whole = plain_joined first c.add_bytes-2.new.line c.args.bytes.now _ _ c.in_ok-add_bytes-2.ensures c.split_plain.ensures.whole c.split_plain.ensures.plain
          ∙ quote_joined c.args.line.now first c.args.bytes.now c.in_ok-add_bytes.ensures;
    }

pub loop-b-preserved : goal.loop-b-preserved
loop-b-preserved c =
    let now = c.loop-b.line in
    let next = c.add_bytes-in-Some.new.line in
    record {
      next = c.split_plain-in-Some.ensures.next;
      whole = plain_joined next c.add_bytes-in-Some-2.new.line c.in-Some.after.now _ _ c.in_ok-add_bytes-4.ensures c.split_plain-in-Some.ensures.whole c.split_plain-in-Some.ensures.plain
          ∙ numbered_joined now next c.loop-b.rest.now c.in-Some.b.now c.in-Some.after.now (c.in_ok-add_bytes-3.ensures ∙ ap (λ l. now ++ l) c.numbered.ensures) c.in-Some.ensures.cases.0 c.loop-b.invariant.next
          ∙ c.loop-b.invariant.whole;
    }

pub returns : goal.returns
returns c = on_ok_weaker c.add_bytes-3.result (all_joined c.args.line.now c.loop-b.line c.add_bytes-3.new.line c.loop-b.rest.now c.args.bytes.now c.in_default.ensures.cases c.loop-b.invariant.whole) c.add_bytes-3.ensures
