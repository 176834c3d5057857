use Rattle.std.proofs.Common.{◌∙◌, ◌++◌, List, [], ◌∷◌, ℕ, refl}
use Rattle.std.specs.Prelude.{codes}
use Rattle.rb_book.specs.declared.html.TheConstants.{BOOK_STYLE}
use Rattle.rb_book.specs.Books.{joined}
use Rattle.rb_book.specs.Contents.{contents_text}
use Rattle.rb_book.specs.Sites.{AddsFiles}
use Rattle.rb_book.proofs.BookLaws.{adds_more, along_four}
use Rattle.rb_book.proofs.book.write_book.Goals as goal

pub returns : goal.returns
returns g c =
    let chapters = c.in_ok-write_chapters.ensures.0 in
    let style = joined c.args.assets.style.now ++ BOOK_STYLE.now in
    let code = joined c.args.assets.code.now in
    let contents = contents_text c.args.title.now c.args.chapters.now in
    let at0 = g.S.Site.files c.args.site.now in
    let at1 = g.S.Site.files c.write_chapters.new.site in
    let at2 = g.S.Site.files c.write.new.self in
    let at3 = g.S.Site.files c.write-2.new.self in
    let at4 = g.S.Site.files c.write-3.new.self in
    let after = λ (s t p : List ℕ). (codes "page.css", s) ∷ (codes "page.js", t) ∷ (codes "index.html", p) ∷ [] in
    let last = adds_more at2 at3 at4 ((codes "page.js", c.as_slice-2.result.now) ∷ []) ((codes "index.html", c.as_slice-3.result.now) ∷ []) c.in_ok-write-2.ensures c.in_ok-write-3.ensures in
    let three =
    adds_more at1 at2 at4 ((codes "page.css", c.as_slice.result.now) ∷ []) ((codes "page.js", c.as_slice-2.result.now) ∷ (codes "index.html", c.as_slice-3.result.now) ∷ [])
    c.in_ok-write.ensures last in
    let told =
    along_four (λ (s t p unused : List ℕ). AddsFiles at1 at4 (after s t p))
    c.as_slice.result.now c.as_slice-2.result.now c.as_slice-3.result.now [] style code contents []
    (c.as_slice.ensures.value ∙ c.in_ok-style.ensures) (c.as_slice-2.ensures.value ∙ c.in_ok-code.ensures) (c.as_slice-3.ensures.value ∙ c.in_ok-page.ensures) refl three in (
      chapters ++ after style code contents,
      (chapters, c.in_ok-write_chapters.ensures.1, refl),
      adds_more at0 at1 at4 chapters (after style code contents) c.in_ok-write_chapters.ensures.2 told,
    )
