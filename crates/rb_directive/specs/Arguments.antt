-- The arguments read so far, by name. (This project's.)
use Rattle.std.specs.Prelude.{ℕ, Bool, false, List, [], Option, Some, None, is_some}
use Rattle.std.specs.Option.{unwrap_or}
use Rattle.rb_vocab.specs.declared.level.Level.{Level}
use Rattle.rb_directive.specs.declared.arguments.Arguments.{Arguments}
use Rattle.rb_directive.specs.declared.arguments.WordPlace.TheVariants as places
use Rattle.rb_directive.specs.declared.argument.Argument.{Argument}
use Rattle.rb_directive.specs.declared.argument.Argument.TheVariants as arguments
use Rattle.rb_directive.specs.declared.argument.Number.{Number}
use Rattle.rb_directive.specs.declared.argument.Number.TheVariants as numbers
use Rattle.rb_directive.specs.declared.argument.Bytes.{Bytes}
use Rattle.rb_directive.specs.declared.argument.Bytes.TheVariants as bytes
use Rattle.rb_directive.specs.declared.argument.LevelFor.{LevelFor}
use Rattle.rb_directive.specs.declared.argument.LevelFor.TheVariants as levels
use Rattle.rb_directive.specs.declared.argument.Flag.{Flag}
use Rattle.rb_directive.specs.declared.argument.Ids.{Ids}
use Rattle.rb_directive.specs.declared.argument.Ids.TheVariants as lists
use Rattle.rb_directive.specs.FlagValues.{no_flags, with_value, value_in}
use Rattle.rb_directive.specs.Forms.{Word}
use Rattle.rb_directive.specs.IdLists.{share}

abbrev pub nothing : Arguments
nothing = record {
  next = places.First;
  count = None;
  id = None;
  peer = None;
  from = None;
  to = None;
  index = None;
  inflight = None;
  rounds = None;
  timeout = None;
  skip = None;
  messages = None;
  payload = None;
  content = None;
  level = None;
  log_level = None;
  flags = no_flags;
  transition = None;
  types = None;
  nodes = None;
  voters = None;
  learners = None;
  drop = None;
}

-- ---- reading a value by its name

abbrev pub number_given : Number → Arguments → Option ℕ
number_given numbers.Count g = g.count
number_given numbers.Id g = g.id
number_given numbers.Peer g = g.peer
number_given numbers.From g = g.from
number_given numbers.To g = g.to
number_given numbers.Index g = g.index
number_given numbers.Inflight g = g.inflight
number_given numbers.Rounds g = g.rounds
number_given numbers.Timeout g = g.timeout
number_given numbers.Skip g = g.skip
number_given numbers.Messages g = g.messages

abbrev pub flag_given : Flag → Arguments → Option Bool
flag_given which g = value_in g.flags which

abbrev pub bytes_given : Bytes → Arguments → Option Word
bytes_given bytes.Payload g = g.payload
bytes_given bytes.Content g = g.content

abbrev pub level_given : LevelFor → Arguments → Option Level
level_given levels.Cluster g = g.level
level_given levels.Directive g = g.log_level

abbrev pub ids_given : Ids → Arguments → Option (List ℕ)
ids_given lists.Nodes g = g.nodes
ids_given lists.Voters g = g.voters
ids_given lists.Learners g = g.learners
ids_given lists.Drop g = g.drop

abbrev pub is_given : Argument → Arguments → Bool
is_given (arguments.Number which low high) g = is_some (number_given which g)
is_given (arguments.Bytes which low high) g = is_some (bytes_given which g)
is_given (arguments.Level which) g = is_some (level_given which g)
is_given (arguments.Flag which) g = is_some (flag_given which g)
is_given arguments.Transition g = is_some g.transition
is_given arguments.Types g = is_some g.types
is_given (arguments.Ids which other) g = is_some (ids_given which g)

-- the ids of a list, empty if it isn't given
abbrev pub listed : Ids → Arguments → List ℕ
listed which g = unwrap_or (ids_given which g) []

abbrev pub shares_one : List ℕ → Option (List ℕ) → Bool
shares_one ids None = false
shares_one ids (Some others) = share ids others

-- the other list contains one of the ids
abbrev pub excludes : Option Ids → List ℕ → Arguments → Bool
excludes None ids g = false
excludes (Some other) ids g = shares_one ids (ids_given other g)

-- ---- setting a value by its name

abbrev pub number_set : Number → ℕ → Arguments → Arguments
number_set numbers.Count n g = record g { count = Some n }
number_set numbers.Id n g = record g { id = Some n }
number_set numbers.Peer n g = record g { peer = Some n }
number_set numbers.From n g = record g { from = Some n }
number_set numbers.To n g = record g { to = Some n }
number_set numbers.Index n g = record g { index = Some n }
number_set numbers.Inflight n g = record g { inflight = Some n }
number_set numbers.Rounds n g = record g { rounds = Some n }
number_set numbers.Timeout n g = record g { timeout = Some n }
number_set numbers.Skip n g = record g { skip = Some n }
number_set numbers.Messages n g = record g { messages = Some n }

abbrev pub flag_set : Flag → Bool → Arguments → Arguments
flag_set which b g = record g { flags = with_value which b g.flags }

abbrev pub bytes_set : Bytes → Word → Arguments → Arguments
bytes_set bytes.Payload w g = record g { payload = Some w }
bytes_set bytes.Content w g = record g { content = Some w }

abbrev pub level_set : LevelFor → Level → Arguments → Arguments
level_set levels.Cluster l g = record g { level = Some l }
level_set levels.Directive l g = record g { log_level = Some l }

abbrev pub ids_set : Ids → List ℕ → Arguments → Arguments
ids_set lists.Nodes ids g = record g { nodes = Some ids }
ids_set lists.Voters ids g = record g { voters = Some ids }
ids_set lists.Learners ids g = record g { learners = Some ids }
ids_set lists.Drop ids g = record g { drop = Some ids }
