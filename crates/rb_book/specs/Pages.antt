-- What is around the rows of a chapter's page. (This project's.)
use Rattle.std.specs.Prelude.{ℕ, List, [], ◌++◌, Option, Some, None, codes, option_map, string_bytes}
use Rattle.rb_book.specs.declared.chapter.Chapter.{Chapter}
use Rattle.rb_book.specs.declared.html.TheConstants.{BETWEEN, ELEMENTS, END, HEAD, LINKED}
use Rattle.rb_book.specs.declared.page.Neighbour.{Neighbour}
use Rattle.rb_book.specs.declared.page.Neighbour.TheVariants.{Following, Last}
use Rattle.rb_book.specs.Html.{address_of, text_of, up_from}

-- how a link begins
abbrev pub link_front : Neighbour → List ℕ
link_front Last = codes "<a rel=\"prev\" href=\""
link_front Following = codes "<a rel=\"next\" href=\""

-- what is before the name in a link
abbrev pub link_sign : Neighbour → List ℕ
link_sign Last = codes ".html\">&larr; "
link_sign Following = codes ".html\">&rarr; "

-- a link from the page at a place to that of another chapter, if there is one
abbrev pub link_text : List ℕ → Neighbour → Option (List ℕ) → List ℕ
link_text place neighbour None = []
link_text place neighbour (Some other) =
    link_front neighbour ++ (up_from place ++ (address_of other ++ (link_sign neighbour ++ (text_of other ++ codes "</a>"))))

-- the link to the contents
abbrev pub first_link_text : List ℕ → List ℕ
first_link_text place = codes "<nav class=\"book\" aria-label=\"Book\"><a href=\"" ++ (up_from place ++ codes "index.html\">Contents</a>")

-- where the page of a chapter is, if there is one
abbrev pub place_of : Option Chapter → Option (List ℕ)
place_of chapter = option_map (λ (c : Chapter). string_bytes c.place) chapter

-- the links of the page at a place to the contents, and to the pages of the chapters before and after it
abbrev pub links_text : List ℕ → Option Chapter → Option Chapter → List ℕ
links_text place last following =
    first_link_text place ++ (link_text place Last (place_of last) ++ (link_text place Following (place_of following) ++ codes "</nav>\n"))

-- what is shown where scripts don't run: a sentence, and the picture
abbrev pub without_text : List ℕ → List ℕ
without_text place =
    codes "<noscript><p>With JavaScript, this page goes through the script step by step. Here is its picture.</p><img src=\""
    ++ (up_from place ++ (address_of place ++ (codes ".svg\" alt=\"The messages of " ++ (text_of place ++ codes "\"></noscript>\n"))))

-- the head of the page at a place, up to its links: the style is the site's
abbrev pub head_text : List ℕ → List ℕ
head_text place = HEAD.now ++ (up_from place ++ LINKED.now)

-- what is before the rows of the page at a place, between two chapters
abbrev pub front_at : List ℕ → Option Chapter → Option Chapter → List ℕ
front_at place last following = head_text place ++ (links_text place last following ++ (without_text place ++ ELEMENTS.now))

abbrev pub front_text : Option Chapter → Chapter → Option Chapter → List ℕ
front_text last chapter following = front_at (string_bytes chapter.place) last following

-- what is after them: the code is the site's
abbrev pub back_text : Chapter → List ℕ
back_text chapter = BETWEEN.now ++ (up_from (string_bytes chapter.place) ++ END.now)
