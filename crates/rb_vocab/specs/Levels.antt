-- Log levels. (etcd raft's interaction tests have these levels; what each hides is this project's.)
use Rattle.std.specs.Prelude.{ℕ, codes, List, Option, Some, None, if◌then◌else◌}
use Rattle.std.specs.Str.{bytes_eq, str_to_ascii_lowercase}
use Rattle.rb_vocab.specs.declared.level.Level.{Level}
use Rattle.rb_vocab.specs.declared.level.Level.TheVariants as levels

-- the level with this name, in any letter case
unfoldable pub level_of : List ℕ → Option Level
level_of word =
    if bytes_eq (str_to_ascii_lowercase word) (codes "debug") then Some levels.Debug
    else (if bytes_eq (str_to_ascii_lowercase word) (codes "info") then Some levels.Info
    else (if bytes_eq (str_to_ascii_lowercase word) (codes "warn") then Some levels.Warn
    else (if bytes_eq (str_to_ascii_lowercase word) (codes "error") then Some levels.Error
    else (if bytes_eq (str_to_ascii_lowercase word) (codes "fatal") then Some levels.Fatal
    else (if bytes_eq (str_to_ascii_lowercase word) (codes "none") then Some levels.None
    else None)))))

-- the position in the order of levels
abbrev pub rank : Level → ℕ
rank levels.Debug = 0
rank levels.Info = 1
rank levels.Warn = 2
rank levels.Error = 3
rank levels.Fatal = 4
rank levels.None = 5
