-- The texts of configurations. (The parts are those of joint consensus, Ongaro's thesis, section 4.3, and etcd's raft; the
-- texts are this project's.)
use Rattle.std.specs.Prelude.{ℕ, if◌then◌else◌, codes, decimal, List, [], ◌∷◌, ◌++◌, map}
use Rattle.std.specs.List.{join_with_byte}
use Rattle.rb_tracker.specs.declared.config.Config.{Config}

-- numbers with a comma between each two
unfoldable pub ids_text : List ℕ → List ℕ
ids_text ids = join_with_byte 44 (map decimal ids)

-- a part of a configuration, shown if it isn't empty
abbrev pub part_text : List ℕ → List ℕ → List ℕ
part_text name [] = []
part_text name (id ∷ ids) = name ++ ids_text (id ∷ ids) ++ codes ")"

unfoldable pub config_text : Config → List ℕ
config_text c =
    codes "voters=(" ++ ids_text c.incoming ++ codes ")"
    ++ part_text (codes " outgoing=(") c.outgoing
    ++ part_text (codes " learners=(") c.learners
    ++ part_text (codes " next=(") c.next
    ++ (if c.auto then codes " auto" else [])
