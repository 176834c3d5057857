-- The contents page of a book. (This project's.)
use Rattle.std.specs.Prelude.{ℕ, Bool, true, false, List, [], ◌∷◌, ◌++◌, codes, string_bytes}
use Rattle.std.specs.List.{flat_map}
use Rattle.rb_book.specs.declared.chapter.Chapter.{Chapter}
use Rattle.rb_book.specs.declared.html.TheConstants.{CONTENTS}
use Rattle.rb_book.specs.Html.{address_of, text_of}

-- the title, or this other text if there is none
abbrev pub title_or : List ℕ → List ℕ → List ℕ
title_or [] other = other
title_or (b ∷ title) other = b ∷ title

-- what is after the place of a script
abbrev pub differs_text : Bool → List ℕ
differs_text true = codes ", differs"
differs_text false = []

-- the row of a chapter: a link to its page, and its place
abbrev pub row_text : Chapter → List ℕ
row_text chapter =
    let place = string_bytes chapter.place in
    codes "<li><a href=\"" ++ (address_of place ++ (codes ".html\">" ++ (text_of (title_or chapter.title.items place)
    ++ (codes "</a><p>" ++ (text_of place ++ (differs_text chapter.differs ++ codes "</p></li>\n"))))))

-- a row for each chapter, or one that says that there is none
abbrev pub rows_text : List Chapter → List ℕ
rows_text [] = codes "<li>No script differs.</li>\n"
rows_text (chapter ∷ chapters) = flat_map row_text (chapter ∷ chapters)

-- up to the rows
abbrev pub head_text : List ℕ → List ℕ
head_text title =
    CONTENTS.now ++ (text_of title
    ++ (codes "</title>\n<link rel=\"stylesheet\" href=\"page.css\">\n</head>\n<body class=\"contents\">\n<h1>" ++ (text_of title ++ codes "</h1>\n<ol>\n")))

-- the whole page
abbrev pub contents_text : List ℕ → List Chapter → List ℕ
contents_text title chapters = head_text title ++ (rows_text chapters ++ codes "</ol>\n</body>\n</html>\n")
