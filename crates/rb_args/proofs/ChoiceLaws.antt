-- The subcommand that was met, in the rows of the matches.
use Rattle.std.proofs.Common.{◌≡◌, Option, Some, None, option_map, refl}
use Rattle.clap.specs.Words.{Text, all_of, first_of, first_value, matched_of, raw_values, rows_of, subcommand_name_of, subcommand_rows, subcommand_rows_of}
use Rattle.clap.proofs.WalkLemmas.{first_value-rows, raw_values-rows}
use Rattle.clap.specs.declared.parser.matches.Found.{Found}
use Rattle.clap.specs.declared.parser.matches.ArgMatches.{ArgMatches}
use Rattle.clap.specs.declared.parser.matches.ArgMatches.TheViews.{out-ArgMatches, out-SubCommand}
use Rattle.std.specs.Box.{box_value}

pub name_in_rows : (m : ArgMatches) → option_map (λ p. p.0) (subcommand_rows_of m) ≡ subcommand_name_of m
name_in_rows m = elim (out-ArgMatches m).subcommand as (λ s. option_map (λ p. p.0) (subcommand_rows s) ≡ option_map (λ b. (out-SubCommand (box_value b)).name.now) s) [ Some b ↦ refl | None ↦ refl ]

pub pair_is : {A B : Type 0} (o : Option (A × B)) (a : A) (b : B) → option_map (λ p. p.0) o ≡ Some a → option_map (λ p. p.1) o ≡ Some b → o ≡ Some (a, b)
pair_is None a b e f = cc
pair_is (Some (x, y)) a b e f = let p : x ≡ a = cc in let q : y ≡ b = cc in rw (p, q)

-- what is read of the matches, by their rows
pub first_in_rows : (f : Found) (id : Text) → first_value f id ≡ first_of id (rows_of f)
first_in_rows f id = first_value-rows f id

pub all_in_rows : (f : Found) (id : Text) → option_map raw_values (matched_of f id) ≡ all_of id (rows_of f)
all_in_rows f id = raw_values-rows f id
