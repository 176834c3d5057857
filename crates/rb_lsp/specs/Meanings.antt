-- What documents mean, which a service defines. (This project's.)
use Rattle.std.specs.Prelude.{ℕ, Bool, true, false, if◌then◌else◌, List, Option, Some, None}
use Rattle.rb_lsp.specs.declared.server.query.Query.{Query}
use Rattle.rb_lsp.specs.declared.server.client.Client.{Client}
use Rattle.rb_lsp.specs.declared.server.stop.Stop.{Stop}
use Rattle.rb_lsp.specs.declared.server.reach.Reach.{Reach}
use Rattle.rb_lsp.specs.declared.server.reach.Reach.TheVariants.{Whole, Stopped, Cancelled, NoMemory}

-- The diagnostics of a text, as a JSON list. They depend on where its run stopped, if it did, on the client, the document's URI, and the text.
abbrev pub Diagnose : Type 0
Diagnose = Option Stop → Client → List ℕ → List ℕ → List ℕ

-- the result of a request, in JSON, by the client, the request, the document's URI and its text
abbrev pub Answer : Type 0
Answer = Client → Query → List ℕ → List ℕ → List ℕ

-- whether a request needs the run of its document's text
abbrev pub NeedsRun : Type 0
NeedsRun = Query → Bool

-- whether the run of a text may stop there
abbrev pub MayStop : Type 0
MayStop = List ℕ → Stop → Bool

pub record Meaning : Type 0 where
  pub diagnose : Diagnose
  pub answer : Answer
  pub needs_run : NeedsRun
  pub may_stop : MayStop

-- ---- the run of a text

-- the text that a request runs, of a document with this text
abbrev pub run_by : Meaning → Query → Option (List ℕ) → Option (List ℕ)
run_by meaning asked None = None
run_by meaning asked (Some text) = if meaning.needs_run asked then Some text else None

-- Whether what runs this text, or none, may be done as far as that. A run stops only where it may.
abbrev pub can_reach : Meaning → Option (List ℕ) → Reach → Bool
can_reach meaning run Whole = true
can_reach meaning run Cancelled = true
can_reach meaning run NoMemory = true
can_reach meaning None (Stopped stop) = false
can_reach meaning (Some text) (Stopped stop) = meaning.may_stop text stop
