-- The words that a head can continue with, each with its line of help. (docs/SCRIPTS.md, by the manual and the lists of values that are made
-- of it.)
use Rattle.std.specs.Prelude.{ℕ, Bool, ◌==◌, ◌&&◌, ◌||◌, not, if◌then◌else◌, List, [], ◌∷◌, ◌++◌, codes, filter, length, map, take, Option, Some, None}
use Rattle.std.specs.List.{list_any}
use Rattle.std.specs.Str.{bytes_eq}
use Rattle.rb_report.specs.Manual.{Key, Page, keys, pages}
use Rattle.rb_report.specs.Choices.{choices_of, levels}
use Rattle.rb_report.specs.HelpLines.{option_line, value_line}
use Rattle.rb_script.specs.declared.limits.TheConstants.{MAX_ARGUMENTS}
use Rattle.rb_editor.specs.declared.offers.offer.OfferKind.{OfferKind}
use Rattle.rb_editor.specs.declared.offers.offer.OfferKind.TheVariants as kinds
use Rattle.rb_editor.specs.declared.offers.unfinished.UnfinishedKind.{UnfinishedKind}
use Rattle.rb_editor.specs.declared.offers.unfinished.UnfinishedKind.TheVariants as wanted_kinds
use Rattle.rb_editor.specs.Unfinished.{PlainWanted, is_listed, name_of}
use Rattle.rb_editor.specs.Words.{arguments_of, words_before}

pub record PlainOffer : Type 0 where
  pub kind : OfferKind
  pub word : List ℕ
  pub documentation : List ℕ

-- the word begins with the prefix
abbrev pub begins_with : List ℕ → List ℕ → Bool
begins_with prefix word = bytes_eq prefix (take (length prefix) word)

-- one, if it is kept
abbrev pub if_kept : Bool → PlainOffer → List PlainOffer
if_kept t o = if t then o ∷ [] else []

-- the first word of the head is a level
unfoldable pub takes_level : List ℕ → Bool
takes_level head = bytes_eq (name_of head) (codes "log-level") && (words_before MAX_ARGUMENTS (arguments_of head) == 0)

abbrev pub name_offer : Page → PlainOffer
name_offer p = record { kind = kinds.Directive; word = p.0; documentation = p.1 }

-- the names among these pages that begin so
unfoldable pub named : List ℕ → List Page → List PlainOffer
named prefix ps = map name_offer (filter (λ (p : Page). begins_with prefix p.0) ps)

-- the line of the manual on the directive with this name, among these pages
abbrev pub line_in : List ℕ → List Page → List ℕ
line_in name [] = []
line_in name (p ∷ ps) = if bytes_eq p.0 name then p.1 else line_in name ps

unfoldable pub line_of : List ℕ → List ℕ
line_of name = line_in name pages

abbrev pub key_offer : List ℕ → PlainOffer
key_offer key = record { kind = kinds.Key; word = key; documentation = option_line key }

-- this key of that directive is one of the directive with this name, and begins so
abbrev pub is_key : List ℕ → List ℕ → List ℕ → List ℕ → Bool
is_key name prefix owner key = bytes_eq owner name && begins_with prefix key

-- the keys among these that the directive with this name has, and that begin so
unfoldable pub keyed : List ℕ → List ℕ → List Key → List PlainOffer
keyed name prefix ks = map (λ (k : Key). key_offer k.1) (filter (λ (k : Key). is_key name prefix k.0 k.1) ks)

-- those of the options that a directive takes, each of which takes `log-level`
unfoldable pub options : List ℕ → List ℕ → List PlainOffer
options name prefix =
    keyed name prefix keys ++ if_kept (begins_with prefix (codes "log-level")) (key_offer (codes "log-level"))

-- the directive with this name has an option with this key among these
abbrev pub has_key : List ℕ → List ℕ → List Key → Bool
has_key name key ks = list_any (λ (k : Key). bytes_eq k.0 name && bytes_eq k.1 key) ks

unfoldable pub takes : List ℕ → List ℕ → Bool
takes name key = bytes_eq key (codes "log-level") || has_key name key keys

-- a line for all, or a value's own
abbrev pub line_or : Option (List ℕ) → List ℕ → List ℕ
line_or None value = value_line value
line_or (Some line) value = line

abbrev pub value_offer : Option (List ℕ) → List ℕ → PlainOffer
value_offer line value = record { kind = kinds.Value; word = value; documentation = line_or line value }

-- a value begins like what there is of one, and isn't in the list already
unfoldable pub fits : PlainWanted → List ℕ → Bool
fits w value = begins_with w.prefix value && not (is_listed value w.listed)

-- the values among these that fit
unfoldable pub chosen : PlainWanted → Option (List ℕ) → List (List ℕ) → List PlainOffer
chosen w line cs = map (value_offer line) (filter (fits w) cs)

-- those of an option that the directive takes, if it takes some values alone
abbrev pub values : List ℕ → PlainWanted → List PlainOffer
values name w = if takes name w.key then chosen w None (choices_of w.key) else []

-- the words that an argument can be: options, and for the first of `log-level` the levels
abbrev pub arguments : List ℕ → PlainWanted → List PlainOffer
arguments head w = options (name_of head) w.prefix ++ (if takes_level head then chosen w None levels else [])

abbrev pub offers_at : UnfinishedKind → List ℕ → PlainWanted → List PlainOffer
offers_at wanted_kinds.Name head w = named w.prefix pages
offers_at wanted_kinds.Argument head w = arguments head w
offers_at wanted_kinds.Value head w = values (name_of head) w
offers_at wanted_kinds.Nothing head w = []

-- the words that a head can continue with, by what it ends in
unfoldable pub offers : List ℕ → PlainWanted → List PlainOffer
offers head w = offers_at w.kind head w
