-- What the manual has, and what its overview shows. (This project's.)
use Rattle.std.specs.Prelude.{ℕ, if◌then◌else◌, List, [], ◌∷◌, ◌++◌, Option, Some, None, map}
use Rattle.std.specs.List.{flat_map}
use Rattle.std.specs.Str.{bytes_eq}
use Rattle.rb_report.specs.declared.help.keys.TheConstants.{KEYS}
use Rattle.rb_report.specs.declared.help.pages.TheConstants.{CLOSING, PAGES}

-- a directive's name, its line of the overview, and its page
abbrev pub Page : Type 0
Page = List ℕ × List ℕ × List ℕ

-- a directive's name, and the key of an option of it
abbrev pub Key : Type 0
Key = List ℕ × List ℕ

unfoldable pub pages : List Page
pages = map (λ p. (p.0.now, p.1.now, p.2.now)) PAGES

unfoldable pub keys : List Key
keys = map (λ k. (k.0.now, k.1.now)) KEYS

-- the page of the directive with this name
abbrev pub page_in : List Page → List ℕ → Option (List ℕ)
page_in [] name = None
page_in (page ∷ some) name = if bytes_eq page.0 name then Some page.2 else page_in some name

-- the line of each page
abbrev pub lines_text : List Page → List ℕ
lines_text ps = flat_map (λ (p : Page). p.1) ps

-- the overview
unfoldable pub manual_text : List ℕ
manual_text = lines_text pages ++ CLOSING.now
