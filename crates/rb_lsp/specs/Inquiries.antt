-- What a client asks about an open document. (LSP 3.17, "Language Features".)
use Rattle.std.specs.Prelude.{ℕ, List, Option, map, option_map}
use Rattle.serde_json.specs.View.{items_of, view}
use Rattle.rb_lsp.specs.declared.document.position.Position.{Position}
use Rattle.rb_lsp.specs.Params.{positions_in}
use Rattle.rb_lsp.specs.declared.server.query.Query.{Query}
use Rattle.rb_lsp.specs.declared.server.inquiry.Inquiry.{Inquiry}
use Rattle.rb_lsp.specs.declared.server.inquiry.Inquiry.TheVariants as inquiries

pub data PlainInquiry : Type 0 where
  -- a query of the service
  one : Query → PlainInquiry
  -- the report of its diagnostics, by the id of the report that the client has
  report : Option (List ℕ) → PlainInquiry
  -- what can be selected around each of some positions
  selections : List Position → PlainInquiry

-- as the code has it
abbrev pub inquiry_of : Inquiry → PlainInquiry
inquiry_of (inquiries.One query) = one query
inquiry_of (inquiries.Report known) = report (option_map (λ k. k.now) known)
inquiry_of (inquiries.Selections places) = selections (positions_in (items_of (map view places.now)))
