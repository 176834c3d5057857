-- How often a source is asked.
use Rattle.std.proofs.Common.{◌≡◌, ℕ, ◌+◌, ◌*◌, ◌<◌, ◌≤◌, Bool, List, [], ◌++◌, Option, Some, None, ap, sym, ◌∙◌, length, length-append, arith}
use Rattle.std.specs.Prelude.{IfSome, if◌then◌else◌}
use Rattle.std.specs.Io.KnownBytes.{Consumes}
use Rattle.rb_text.specs.declared.line_reader.LineReader.{LineReader}
use Rattle.rb_text.specs.Left.{calls_of}
use Rattle.rb_text.specs.Asked.{Asks, AsksFor, AreWanted, Calls, Fails, GoesOn, HasCallsFor, Stops, size_of, wanted}

asks_none : (asked : Option Calls) → Asks asked asked 0
asks_none None = tt
asks_none (Some n) = omega arith

asks_then : (a b c : Option Calls) (m n : ℕ) → Asks a b m → Asks b c n → Asks a c (m + n)
asks_then None b c m n h k = tt
asks_then (Some x) None c m n h k = absurd h
asks_then (Some x) (Some y) None m n h k = absurd k
asks_then (Some x) (Some y) (Some z) m n h k = omega (arith, h, k)

pub fails_none : (asked : Option Calls) → Fails asked asked 0
fails_none None = tt
fails_none (Some n) = omega arith

pub fails_then : (a b c : Option Calls) (m n : ℕ) → Fails a b m → Fails b c n → Fails a c (m + n)
fails_then None b c m n h k = tt
fails_then (Some x) None c m n h k = absurd h
fails_then (Some x) (Some y) None m n h k = absurd k
fails_then (Some x) (Some y) (Some z) m n h k = omega (arith, h, k)

wanted_none : (lines later : LineReader) (left : Option (List ℕ)) → lines.has_ended ≡ later.has_ended → AreWanted lines later left left 0
wanted_none lines later None e = tt
wanted_none lines later (Some bytes) e = let same : wanted later bytes ≡ wanted lines bytes = ap (λ (t : Bool). if t then 0 else length bytes + 1) (sym e) in omega (arith, same)

wanted_then : (x y z : LineReader) (a b c : Option (List ℕ)) (m n : ℕ) → AreWanted x y a b m → AreWanted y z b c n → AreWanted x z a c (m + n)
wanted_then x y z None b c m n h k = tt
wanted_then x y z (Some p) None c m n h k = absurd h
wanted_then x y z (Some p) (Some q) None m n h k = absurd k
wanted_then x y z (Some p) (Some q) (Some r) m n h k = omega (arith, h, k)

-- the source isn't asked
pub goes_none : (lines later : LineReader) (left : Option (List ℕ)) (asked : Option Calls) → lines.has_ended ≡ later.has_ended → calls_of lines ≡ calls_of later → size_of later ≤ size_of lines → GoesOn lines later left left asked asked
goes_none lines later left asked e calls size = record {
  calls = 0;
  asks = asks_none asked;
  counted = omega (arith, calls);
  are_wanted = wanted_none lines later left e;
  no_larger = size;
  unfailed = fails_none asked;
}

-- one step after another
pub goes_then : (x y z : LineReader) (a b c : Option (List ℕ)) (j k l : Option Calls) → GoesOn x y a b j k → GoesOn y z b c k l → GoesOn x z a c j l
goes_then x y z a b c j k l g h = record {
  calls = g.calls + h.calls;
  asks = asks_then j k l g.calls h.calls g.asks h.asks;
  counted = omega (arith, g.counted, h.counted);
  are_wanted = wanted_then x y z a b c g.calls h.calls g.are_wanted h.are_wanted;
  no_larger = omega (arith, g.no_larger, h.no_larger);
  unfailed = fails_then j k l 0 0 g.unfailed h.unfailed;
}

stops_wanted : (x y : LineReader) (a b : Option (List ℕ)) (m n : ℕ) → AreWanted x y a b m → IfSome b (λ bytes. n ≤ wanted y bytes) → IfSome a (λ bytes. m + n ≤ wanted x bytes)
stops_wanted x y None b m n h k = tt
stops_wanted x y (Some p) None m n h k = absurd h
stops_wanted x y (Some p) (Some q) m n h k = omega (arith, h, k)

-- and the last
pub goes_stops : (x y : LineReader) (a b : Option (List ℕ)) (j k l : Option Calls) → GoesOn x y a b j k → Stops y b k l → Stops x a j l
goes_stops x y a b j k l g s = record {
  calls = g.calls + s.calls;
  asks = asks_then j k l g.calls s.calls g.asks s.asks;
  allowed = omega (arith, g.counted, s.allowed);
  wanted_too = stops_wanted x y a b g.calls s.calls g.are_wanted s.wanted_too;
}

none_wanted : (lines : LineReader) (bytes : Option (List ℕ)) → IfSome bytes (λ all. 0 ≤ wanted lines all)
none_wanted lines None = tt
none_wanted lines (Some all) = omega arith

pub going_stops : (x y : LineReader) (a b : Option (List ℕ)) (j k : Option Calls) → GoesOn x y a b j k → Stops x a j k
going_stops x y a b j k g =
    goes_stops x y a b j k k g (record { calls = 0; asks = asks_none k; allowed = omega arith; wanted_too = none_wanted y b })

pub goes_enough : (x y : LineReader) (a b : Option (List ℕ)) (j k : Option Calls) → GoesOn x y a b j k → HasCallsFor x a → HasCallsFor y b
goes_enough x y None b j k g h = absurd h
goes_enough x y (Some p) None j k g h = absurd g.are_wanted
goes_enough x y (Some p) (Some q) j k g h = omega (arith, g.are_wanted, g.counted, h)

-- ---- a new reader of lines

few_wanted : (lines : LineReader) (left : Option (List ℕ)) (calls : ℕ) → ((bytes : List ℕ) → wanted lines bytes ≡ length bytes + 1) → IfSome left (λ bytes. calls ≤ wanted lines bytes) → IfSome left (λ bytes. calls ≤ length bytes + 1)
few_wanted lines None calls e h = tt
few_wanted lines (Some bytes) calls e h = omega (arith, e bytes, h)

-- what a new reader of lines asked for
pub asked_for : (lines : LineReader) (left : Option (List ℕ)) (asked now : Option Calls) (most : ℕ) → ((bytes : List ℕ) → wanted lines bytes ≡ length bytes + 1) → calls_of lines ≡ most → Stops lines left asked now → AsksFor left asked now most
asked_for lines left asked now most e calls s =
    record { calls = s.calls; asks = s.asks; allowed = omega (arith, calls, s.allowed); few = few_wanted lines left s.calls e s.wanted_too }

-- ---- calls that each give a byte

few_read : (left after : Option (List ℕ)) (read : List ℕ) (calls : ℕ) → Consumes left after read → calls ≤ length read + 1 → IfSome left (λ bytes. calls ≤ length bytes + 1)
few_read None after read calls c le = tt
few_read (Some bytes) None read calls c le = absurd c
few_read (Some bytes) (Some rest) read calls c le = omega (arith, ap length c, length-append read rest, le)

pub asked_more : (a b c : Option Calls) (n : ℕ) → Asks a b n → Asks b c 1 → Asks a c (n + 1)
asked_more a b c n h k = asks_then a b c n 1 h k

-- so many calls gave these bytes, and perhaps one more gave none
pub asked_reading : (left after : Option (List ℕ)) (asked now : Option Calls) (read : List ℕ) (calls most : ℕ) → Asks asked now calls → Consumes left after read → calls ≤ length read + 1 → calls ≤ most → AsksFor left asked now most
asked_reading left after asked now read calls most asks c few le =
    record { calls = calls; asks = asks; allowed = le; few = few_read left after read calls c few }
