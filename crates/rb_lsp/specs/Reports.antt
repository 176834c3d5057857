-- The report of a text's diagnostics that a client asks for. It has an id, and a client that names this id is told that its report is still right. The
-- id is the digest of the text. (LSP 3.17, "Document Diagnostics": "DocumentDiagnosticReport"; FIPS 180-4, SHA-256.)
use Rattle.std.specs.Prelude.{ℕ, Bool, false, if◌then◌else◌, List, ◌++◌, Option, Some, None, codes}
use Rattle.std.specs.Str.{bytes_eq}
use Rattle.hex.specs.Hex.{encode_lower}
use Rattle.sha2.specs.Sha256.{sha256}

unfoldable pub result_id : List ℕ → List ℕ
result_id text = encode_lower (sha256 text)

abbrev pub names : Option (List ℕ) → List ℕ → Bool
names None id = false
names (Some known) id = bytes_eq known id

-- the client has the report of the text
abbrev pub is_known : Option (List ℕ) → List ℕ → Bool
is_known known text = names known (result_id text)

unfoldable pub unchanged_text : List ℕ → List ℕ
unchanged_text id = codes "{\"kind\":\"unchanged\",\"resultId\":\"" ++ (id ++ codes "\"}")

-- the beginning of one with a list of diagnostics
unfoldable pub full_front : List ℕ → List ℕ
full_front id = codes "{\"kind\":\"full\",\"resultId\":\"" ++ (id ++ codes "\",\"items\":")

abbrev pub full_text : List ℕ → List ℕ → List ℕ
full_text id list = full_front id ++ (list ++ codes "}")

-- that of a text with these diagnostics, to a client that names an id or none
abbrev pub report_text : Option (List ℕ) → List ℕ → List ℕ → List ℕ
report_text known text list = if is_known known text then unchanged_text (result_id text) else full_text (result_id text) list
