use Rattle.std.proofs.Common.{◌≡◌, ◌∙◌, ◌++◌, List, [], ◌∷◌, ℕ, ap, refl, string_bytes}
use Rattle.std.specs.Prelude.{codes, option_copied}
use Rattle.rb_book.specs.Pages.{back_text, front_text}
use Rattle.rb_book.specs.Sites.{AddsFiles}
use Rattle.rb_book.proofs.BookLaws.{adds_more, along_four, along_two}
use Rattle.rb_book.proofs.book.write_chapter.Goals as goal

pub returns : goal.returns
returns g c =
    let chapter = c.args.chapter.now in
    let place = string_bytes chapter.place in
    let page = c.in_ok-page.page.items in
    let picture = c.in_ok-picture.picture.items in
    let old = g.S.Site.files c.args.site.now in
    let between = g.S.Site.files c.write.new.self in
    let new = g.S.Site.files c.write-2.new.self in
    let named = c.as_bytes-name.ensures.value in
    let page_path : c.as_str-2.result.now ≡ place ++ codes ".html" =
    c.as_str-2.ensures.value ∙ c.in_ok-page_path.ensures ∙ ap (λ (p : List ℕ). p ++ codes ".html") c.as_str.ensures.value in
    let picture_path : c.as_str-4.result.now ≡ place ++ codes ".svg" =
    c.as_str-4.ensures.value ∙ c.in_ok-picture_path.ensures ∙ ap (λ (p : List ℕ). p ++ codes ".svg") c.as_str-3.ensures.value in
    let page_is =
    along_four (λ (script name front back : List ℕ). g.D.ChapterTexts.is_page c.args.texts.now script name front back page)
    c.deref.result.now c.as_bytes-name.result.now c.deref-2.result.now c.deref-3.result.now
    chapter.script.items place (front_text (option_copied c.args.last) chapter (option_copied c.args.following)) (back_text chapter)
    c.deref.ensures.value named (c.deref-2.ensures.value ∙ c.in_ok-front.ensures) (c.deref-3.ensures.value ∙ c.in_ok-back.ensures) c.in_ok-page.ensures in
    let picture_is =
    along_two (λ (script name : List ℕ). g.D.ChapterTexts.is_picture c.args.texts.now script name picture)
    c.deref-4.result.now c.as_bytes-name.result.now chapter.script.items place c.deref-4.ensures.value named c.in_ok-picture.ensures in
    let added =
    adds_more old between new ((c.as_str-2.result.now, c.as_slice.result.now) ∷ []) ((c.as_str-4.result.now, c.as_slice-2.result.now) ∷ []) c.in_ok-write.ensures c.in_ok-write-2.ensures in
    let told =
    along_four (λ (p t q u : List ℕ). AddsFiles old new ((p, t) ∷ (q, u) ∷ []))
    c.as_str-2.result.now c.as_slice.result.now c.as_str-4.result.now c.as_slice-2.result.now
    (place ++ codes ".html") page (place ++ codes ".svg") picture
    page_path c.as_slice.ensures.value picture_path c.as_slice-2.ensures.value added in (
      (place ++ codes ".html", page) ∷ (place ++ codes ".svg", picture) ∷ [],
      record { page = page; picture = picture; page_is = page_is; picture_is = picture_is; files_are = refl },
      told,
    )
