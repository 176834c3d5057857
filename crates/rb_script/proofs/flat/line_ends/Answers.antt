use Rattle.std.proofs.Common.{◌+◌, ◌++◌, ◌∷◌, [], ap, ◌∙◌}
use Rattle.std.proofs.lemmas.List.{take_rest}
use Rattle.rb_script.specs.Lines.{lines}
use Rattle.rb_script.specs.Flat.{ends_of}
use Rattle.rb_script.proofs.WholeLaws.{next_line, ends_more, ends_done, left_less, none_left}
use Rattle.rb_script.proofs.flat.line_ends.Goals as goal

pub loop-feed-preserved : goal.loop-feed-preserved
loop-feed-preserved c =
    let bytes = c.loop-feed.rest.now in
    let ls = lines bytes in
    let next = next_line bytes c.in-Some.feed _ (take_rest bytes (c.in-Some.feed + 1)) c.loop-feed.invariant.clean c.in-Some.ensures.found.0 c.in-Some.ensures.found.1 c.in-Some.ensures.first in
    record {
      ends = ends_more c.loop-feed.ends.items c.push.new.self.items c.loop-feed.end c.in-Some.feed ls next.parts next.len (ends_of 0 (lines c.args.bytes.now)) c.in_ok-push.ensures.items c.loop-feed.invariant.ends;
      clean = next.clean;
      total = left_less ls next.parts next.len c.loop-feed.end _ c.loop-feed.invariant.total;
    }

pub returns : goal.returns
returns c =
    ends_done c.loop-feed.ends.items (ends_of 0 (lines c.args.bytes.now)) c.loop-feed.end c.loop-feed.rest.now (none_left c.loop-feed.rest.now c.loop-feed.invariant.clean c.in_default.ensures.none) c.loop-feed.invariant.ends
