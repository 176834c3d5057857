-- What a notification makes of the text of a document. (LSP 3.17, "DidOpenTextDocument Notification", "DidChangeTextDocument
-- Notification" and "DidCloseTextDocument Notification".)
use Rattle.std.specs.Prelude.{ℕ, Bool, false, nat_le, if◌then◌else◌, List, length, Option, Some, None, is_none, is_some, option_and_then, codes}
use Rattle.serde_json.specs.Data.{Data, Items, no_items, item}
use Rattle.serde_json.specs.Find.{get, as_array, as_null}
use Rattle.rb_lsp.specs.declared.document.limits.TheConstants.{MAX_TEXT}
use Rattle.rb_lsp.specs.declared.document.position.Encoding.{Encoding}
use Rattle.rb_lsp.specs.Changes.{changed_by}
use Rattle.rb_lsp.specs.Params.{as_range, range_at, text_at, text_below}
use Rattle.rb_lsp.specs.declared.server.method.Method.{Method}
use Rattle.rb_lsp.specs.declared.server.method.Method.TheVariants.{DidOpen, DidChange}

-- a text that is short enough to be kept
abbrev pub fitting : List ℕ → Option (List ℕ)
fitting text = if nat_le (length text) MAX_TEXT then Some text else None

-- the range is something else than a range; it may be missing or null
abbrev pub is_unfit : Option Data → Bool
is_unfit None = false
is_unfit (Some d) = if is_some (as_null d) then false else is_none (as_range d)

-- The text with one change. Where that has no range it is the whole text; where it has something else there, nobody knows what it replaces,
-- and it can't be made.
abbrev pub with_change : Encoding → Data → List ℕ → Option (List ℕ) → Option (List ℕ)
with_change encoding d text None = None
with_change encoding d text (Some new) = if is_unfit (get (codes "range") d) then None else fitting (changed_by encoding (range_at (codes "range") d) new text)

unfoldable pub changed_once : Encoding → Data → List ℕ → Option (List ℕ)
changed_once encoding d text = with_change encoding d text (text_at (codes "text") d)

-- with changes, one after another
abbrev pub changed_all : Encoding → Items → Option (List ℕ) → Option (List ℕ)
changed_all encoding no_items text = text
changed_all encoding (item d ds) text = changed_all encoding ds (option_and_then (changed_once encoding d) text)

abbrev pub with_changes : Encoding → Option Items → Option (List ℕ) → Option (List ℕ)
with_changes encoding None text = None
with_changes encoding (Some ds) text = changed_all encoding ds text

-- the text after a notification, if it is kept
abbrev pub text_after : Encoding → Method → Data → Option (List ℕ) → Option (List ℕ)
text_after encoding DidOpen d text = option_and_then fitting (text_below (codes "textDocument") (codes "text") d)
text_after encoding DidChange d text = option_and_then (λ t. with_changes encoding (option_and_then as_array (get (codes "contentChanges") d)) (Some t)) text
text_after encoding method d text = None
