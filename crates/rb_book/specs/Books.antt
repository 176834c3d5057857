-- The files of a book. (This project's.)
use Rattle.std.specs.Prelude.{◌≡◌, ℕ, List, [], ◌∷◌, ◌++◌, Option, Some, None, codes, slice_get, string_bytes}
use Rattle.std.specs.Borrow.{Bor}
use Rattle.std.specs.List.{flat_map}
use Rattle.rb_book.specs.declared.book.Assets.{Assets}
use Rattle.rb_book.specs.declared.chapter.Chapter.{Chapter}
use Rattle.rb_book.specs.declared.html.TheConstants.{BOOK_STYLE}
use Rattle.rb_book.specs.Contents.{contents_text}
use Rattle.rb_book.specs.Pages.{back_text, front_text}
use Rattle.rb_book.specs.Sites.{SiteFile}

-- parts of a text, one after another
abbrev pub joined : List (Bor (List ℕ)) → List ℕ
joined parts = flat_map (λ (part : Bor (List ℕ)). part.now) parts

-- the files of a chapter between two others are its page, between what is around its rows, and its picture
pub record IsChapterOf (is_page : List ℕ → List ℕ → List ℕ → List ℕ → List ℕ → Type 0) (is_picture : List ℕ → List ℕ → List ℕ → Type 0)
    (last : Option Chapter) (chapter : Chapter) (following : Option Chapter) (files : List SiteFile) : Type 0 where
  pub page : List ℕ
  pub picture : List ℕ
  pub page_is : is_page chapter.script.items (string_bytes chapter.place) (front_text last chapter following) (back_text chapter) page
  pub picture_is : is_picture chapter.script.items (string_bytes chapter.place) picture
  pub files_are : files ≡ (string_bytes chapter.place ++ codes ".html", page) ∷ (string_bytes chapter.place ++ codes ".svg", picture) ∷ []

-- the files of some chapters after another, one after another: each chapter is between the one before it and the one after it
abbrev pub AreChaptersOf : (Option Chapter → Chapter → Option Chapter → List SiteFile → Type 0) → Option Chapter → List Chapter → List SiteFile → Type 0
AreChaptersOf is_chapter last [] files = files ≡ []
AreChaptersOf is_chapter last (chapter ∷ chapters) files =
    (own : List SiteFile) × (others : List SiteFile)
    × is_chapter last chapter (slice_get chapters 0) own × AreChaptersOf is_chapter (Some chapter) chapters others × (files ≡ own ++ others)

-- the files of a book: those of its chapters, and then the style, the code and the contents page
abbrev pub IsBookOf : (List ℕ → List ℕ → List ℕ → List ℕ → List ℕ → Type 0) → (List ℕ → List ℕ → List ℕ → Type 0) → List ℕ → List Chapter → Assets → List SiteFile → Type 0
IsBookOf is_page is_picture title chapters assets files =
    (first : List SiteFile) × AreChaptersOf (IsChapterOf is_page is_picture) None chapters first
    × (files ≡ first ++ ((codes "page.css", joined assets.style.now ++ BOOK_STYLE.now) ∷ (codes "page.js", joined assets.code.now) ∷ (codes "index.html", contents_text title chapters) ∷ []))
