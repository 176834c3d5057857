use Rattle.std.proofs.Common.{◌≡◌, ◌∙◌, ◌++◌, List, ℕ, ap, string_bytes, subst}
use Rattle.std.specs.Prelude.{codes}
use Rattle.rb_script.specs.Writes.{Writes}
use Rattle.rb_book.specs.Contents.{title_or}
use Rattle.rb_book.specs.Html.{address_of, text_of}
use Rattle.rb_book.proofs.chapter.ChapterWrittenPiece.put.Goals as goal

pub returns-clause-wrote : goal.returns-clause-wrote
returns-clause-wrote g c =
    let chapter = c.args.self.now in
    let place = string_bytes chapter.place in
    let wrote = λ (place title differs : List ℕ).
    Writes c.put_pieces.result (g.S.Sink.held c.args.sink.now) (g.S.Sink.held c.put_pieces.new.sink)
    (codes "<li><a href=\"" ++ (address_of place ++ (codes ".html\">" ++ (text_of title ++ (codes "</a><p>" ++ (text_of place ++ (differs ++ codes "</p></li>\n"))))))) in
    let is_place : c.as_bytes-place.result.now ≡ place = c.as_bytes-place.ensures.value in
    let is_title : c.title_or-title.result.now ≡ title_or chapter.title.items place =
    c.title_or-title.ensures ∙ ap (λ (title : List ℕ). title_or title c.as_bytes-place.result.now) c.as_slice.ensures.value
    ∙ ap (λ (other : List ℕ). title_or chapter.title.items other) is_place in
    subst (λ (differs : List ℕ). wrote place (title_or chapter.title.items place) differs) c.differs_text.ensures
    (subst (λ (title : List ℕ). wrote place title c.differs_text.result.now) is_title
    (subst (λ (place : List ℕ). wrote place c.title_or-title.result.now c.differs_text.result.now) is_place c.put_pieces.ensures.wrote))
