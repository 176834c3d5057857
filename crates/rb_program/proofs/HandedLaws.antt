-- What was written, once it is flushed.
use Rattle.std.proofs.Common.{◌≡◌, ◌∙◌, ℕ, List, [], Option, Some, None, Result, Ok, Err, IfErr, append-nil, sym}
use Rattle.std.specs.Io.KnownBytes.{Appends, Keeps}
use Rattle.rb_script.specs.declared.sink.WriteFault.{WriteFault}
use Rattle.rb_script.specs.Writes.{Writes}

kept : (a b c : Option (List ℕ)) (text : List ℕ) → Appends a b text → Keeps b c → Appends a c text
kept None b c text p q = tt
kept (Some x) None c text p q = absurd p
kept (Some x) (Some y) None text p q = absurd q
kept (Some x) (Some y) (Some z) text p q = q ∙ p

-- a flush that fails leaves what was written; the failure of a write stays
pub still_written : {X Y : Type 0} (written : Result X WriteFault) (flushed : Result Y WriteFault) (a b c : Option (List ℕ)) (text : List ℕ) → Writes written a b text → IfErr written (λ fault. flushed ≡ Err fault) → Keeps b c
    → Writes flushed a c text
still_written (Ok x) (Ok y) a b c text w failed k = kept a b c text w k
still_written (Ok x) (Err fault) a b c text w failed k = record { front = text; rest = []; parts = sym (append-nil text); appended = kept a b c text w k }
still_written (Err fault) (Ok y) a b c text w failed k = absurd cc
still_written (Err fault) (Err other) a b c text w failed k = record { front = w.front; rest = w.rest; parts = w.parts; appended = kept a b c w.front w.appended k }
