-- The choices of a run or a session. (This project's.)
use Rattle.std.specs.Prelude.{◌≡◌, List, Option, codes, option_map, option_and_then, string_bytes}
use Rattle.clap.specs.Words.{Row, Text, first_of}
use Rattle.rb_args.specs.Chosen.{named_by}
use Rattle.rb_bench.specs.declared.choosing.Choice.{Choice}

-- the subcommand that was met, and the values of its FILE and its --every
pub record IsChosen (met : Option (Text × List Row)) (choice : Choice) : Type 0 where
  pub mode : choice.mode ≡ option_and_then (λ p. named_by p.0) met
  pub file : option_map string_bytes choice.file ≡ option_and_then (λ p. first_of (codes "file") p.1) met
  pub every : option_map string_bytes choice.every ≡ option_and_then (λ p. first_of (codes "every") p.1) met
