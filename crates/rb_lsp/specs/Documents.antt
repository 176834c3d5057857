-- The documents that an editor has open: the text and the version of each, by its URI. (LSP 3.17, "Text Document Synchronization".)
use Rattle.std.specs.Prelude.{ℕ, suc, ◌+◌, Bool, nat_lt, if◌then◌else◌, List, [], ◌∷◌, ◌++◌, length, take, drop, slice_get, Option, Some, None, option_map, option_and_then}
use Rattle.std.specs.Str.{bytes_eq}
use Rattle.rb_lsp.specs.declared.server.limits.TheConstants.{MAX_DOCUMENTS}

pub record PlainDocument : Type 0 where
  pub uri : List ℕ
  pub text : List ℕ
  pub version : Option ℕ

-- the index of the document with a URI, or the number of documents if there is none
unfoldable pub place_of : List ℕ → List PlainDocument → ℕ
place_of uri [] = 0
place_of uri (d ∷ ds) = if bytes_eq d.uri uri then 0 else suc (place_of uri ds)

-- its text
abbrev pub text_of : List ℕ → List PlainDocument → Option (List ℕ)
text_of uri ds = option_map (λ d. d.text) (slice_get ds (place_of uri ds))

-- its version, where it said one
abbrev pub version_of : List ℕ → List PlainDocument → Option ℕ
version_of uri ds = option_and_then (λ d. d.version) (slice_get ds (place_of uri ds))

-- those without it
abbrev pub closed : List ℕ → List PlainDocument → List PlainDocument
closed uri ds = take (place_of uri ds) ds ++ drop (place_of uri ds + 1) ds

-- one more fits
abbrev pub has_room : List PlainDocument → Bool
has_room ds = nat_lt (length ds) MAX_DOCUMENTS

-- those with this text, of this version, if there is one, and room for it
abbrev pub kept : List ℕ → Option ℕ → Option (List ℕ) → List PlainDocument → List PlainDocument
kept uri version None ds = ds
kept uri version (Some text) ds = if has_room ds then ds ++ record { uri = uri; text = text; version = version } ∷ [] else ds
