use Rattle.std.proofs.Common.{List, Option, option_copied, subst}
use Rattle.std.proofs.lemmas.List.{nil_from_length}
use Rattle.rb_book.specs.declared.chapter.Chapter.{Chapter}
use Rattle.rb_book.specs.Books.{IsChapterOf}
use Rattle.rb_book.proofs.BookLaws.{WrittenSoFar, all_written, none_yet, one_more}
use Rattle.rb_book.proofs.book.write_chapters.Goals as goal

pub loop-chapter-init : goal.loop-chapter-init
loop-chapter-init g c =
    none_yet (IsChapterOf (g.D.ChapterTexts.is_page c.args.texts.now) (g.D.ChapterTexts.is_picture c.args.texts.now)) (g.S.Site.files c.args.site.now) c.args.chapters.now

pub loop-chapter-preserved : goal.loop-chapter-preserved
loop-chapter-preserved g c =
    let all = c.args.chapters.now in
    let is_chapter = IsChapterOf (g.D.ChapterTexts.is_page c.args.texts.now) (g.D.ChapterTexts.is_picture c.args.texts.now) in
    let old = g.S.Site.files c.args.site.now in
    let before = g.S.Site.files c.loop-chapter.site in
    let last = option_copied c.loop-chapter.last in
    let chapter = c.in-Some.chapter.now in
    let own = c.in_ok-write_chapter.ensures.0 in
    let so_far = subst (λ (rest : List Chapter). WrittenSoFar is_chapter old before all last rest) c.in-Some.ensures.cases.0 c.loop-chapter.invariant in
    let is = subst (λ (following : Option Chapter). is_chapter last chapter following own) c.first.ensures.value c.in_ok-write_chapter.ensures.1 in
    one_more is_chapter old before _ all last chapter c.in-Some.others.now own so_far is c.in_ok-write_chapter.ensures.2

pub returns : goal.returns
returns g c =
    let all = c.args.chapters.now in
    let is_chapter = IsChapterOf (g.D.ChapterTexts.is_page c.args.texts.now) (g.D.ChapterTexts.is_picture c.args.texts.now) in
    let old = g.S.Site.files c.args.site.now in
    let now = g.S.Site.files c.loop-chapter.site in
    let last = option_copied c.loop-chapter.last in
    let so_far = subst (λ (rest : List Chapter). WrittenSoFar is_chapter old now all last rest) (nil_from_length c.loop-chapter.rest.now c.in_default.ensures.cases) c.loop-chapter.invariant in
    all_written is_chapter old now all last so_far
