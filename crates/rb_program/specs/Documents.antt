-- What is written of a document of a script. (This project's.)
use Rattle.std.specs.Prelude.{ℕ, List, Option, Result}
use Rattle.std.specs.Borrow.{Bor}
use Rattle.rb_report.specs.declared.check.status.Status.{Status}
use Rattle.rb_bench.specs.declared.fault.BenchFault.{BenchFault}
use Rattle.rb_view.specs.declared.chart.style.TheConstants.{STYLE}
use Rattle.rb_view.specs.Pages.{page_joined}
use Rattle.rb_program.specs.declared.document.DocumentKind.{DocumentKind}
use Rattle.rb_program.specs.declared.document.DocumentKind.TheVariants as kinds
use Rattle.rb_program.specs.Written.{TellsOver}
use Rattle.rb_program.specs.Drawn.{DrawsOver}
use Rattle.rb_program.specs.Traced.{TracesOver}

-- what comes of a reader that has these bytes, and then has those left, where a document of this kind and name is wanted
abbrev pub DocumentsOver : DocumentKind → List ℕ → List ℕ → Option (List ℕ) → Result Status BenchFault → Option (List ℕ) → Option (List ℕ) → Type 0
DocumentsOver kinds.Page name all left result old new =
    (front back : List (Bor (List ℕ))) × TellsOver (page_joined front back name) all left result old new
DocumentsOver kinds.Trace name all left result old new = TracesOver name all left result old new
DocumentsOver (kinds.Chart part) name all left result old new = DrawsOver STYLE.now part all left result old new
