-- The files of the chapters so far were written.
use Rattle.std.proofs.Common.{length, option_copied}
use Rattle.rb_book.specs.Books.{IsChapterOf}
use Rattle.rb_book.proofs.BookLaws.{WrittenSoFar}
use Rattle.rb_book.proofs.book.write_chapters.Given as goal

abbrev pub invariant-loop-chapter : goal.invariant-loop-chapter
invariant-loop-chapter g l =
    WrittenSoFar (IsChapterOf (g.D.ChapterTexts.is_page l.texts) (g.D.ChapterTexts.is_picture l.texts)) (g.S.Site.files l.initial.site) (g.S.Site.files l.site) l.chapters
    (option_copied l.last) l.rest

abbrev pub decreases-loop-chapter : goal.decreases-loop-chapter
decreases-loop-chapter g l = length l.rest
