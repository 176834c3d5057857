-- The bytes that have a meaning in a script, by name. (Their numbers are ASCII's.)
use Rattle.std.specs.Prelude.{ℕ}

abbrev pub tab : ℕ
tab = 9

abbrev pub line_feed : ℕ
line_feed = 10

abbrev pub carriage_return : ℕ
carriage_return = 13

abbrev pub space : ℕ
space = 32

abbrev pub number_sign : ℕ
number_sign = 35

-- an opening parenthesis
abbrev pub opening : ℕ
opening = 40

-- a closing parenthesis
abbrev pub closing : ℕ
closing = 41

abbrev pub comma : ℕ
comma = 44

abbrev pub hyphen : ℕ
hyphen = 45

abbrev pub equals_sign : ℕ
equals_sign = 61

abbrev pub backslash : ℕ
backslash = 92
