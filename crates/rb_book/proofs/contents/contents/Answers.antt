use Rattle.std.proofs.Common.{◌∙◌, ◌++◌, List, ℕ, ap, append_assoc}
use Rattle.std.specs.Prelude.{codes}
use Rattle.rb_book.specs.Contents.{head_text, rows_text}
use Rattle.rb_book.proofs.contents.contents.Goals as goal

pub returns : goal.returns
returns c =
    let head = head_text c.args.title.now in
    let rows = rows_text c.args.chapters.now in
    let end = codes "</ol>\n</body>\n</html>\n" in
    let first = c.in_ok-add_head.ensures ∙ ap (λ (t : List ℕ). t ++ head) c.new-text.ensures.items in
    let second = c.in_ok-add_rows.ensures ∙ ap (λ (t : List ℕ). t ++ rows) first in
    c.in_ok-extend_from_slice.ensures.items ∙ ap (λ (t : List ℕ). t ++ end) second ∙ append_assoc head rows end
