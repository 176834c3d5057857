-- Results of functions, compared with those of reading. (This project's.)
use Rattle.std.specs.Prelude.{◌≡◌, ◌≢◌, Result, Ok, Err}
use Rattle.rb_script.specs.declared.fault.ScriptFault.{ScriptFault}
use Rattle.rb_script.specs.declared.fault.ScriptFault.TheVariants.{OutOfMemory}

infixl 10 ◌>>=◌
abbrev pub ◌>>=◌ : {A B : Type 0} → Result A ScriptFault → (A → Result B ScriptFault) → Result B ScriptFault
(Ok x) >>= f = f x
(Err e) >>= f = Err e

-- reading gives this fault, or memory ran out
abbrev pub Fails : {Y : Type 0} → ScriptFault → Result Y ScriptFault → Type 0
Fails OutOfMemory read = Unit {0}
Fails fault read = read ≡ Err fault

-- a function's result, by its view, is that of reading, unless memory ran out
abbrev pub Gives : {X Y : Type 0} → (X → Y) → Result X ScriptFault → Result Y ScriptFault → Type 0
Gives view (Ok x) read = read ≡ Ok (view x)
Gives view (Err e) read = Fails e read

-- the text is refused for this fault, and not for lack of memory
abbrev pub Refuses : {Y : Type 0} → ScriptFault → Result Y ScriptFault → Type 0
Refuses fault read = (read ≡ Err fault) × (fault ≢ OutOfMemory)
