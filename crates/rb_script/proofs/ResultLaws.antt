-- Results of reading, step by step.
use Rattle.std.proofs.Common.{◌≡◌, ◌≢◌, ◌⊎◌, inl, inr, Bool, true, false, cond, Option, Some, None, Result, Ok, Err, refl, ap, subst}
use Rattle.std.specs.Prelude.{IfSome, IfOk, IfErr}
use Rattle.rb_script.specs.declared.fault.ScriptFault.{ScriptFault}
use Rattle.rb_script.specs.declared.fault.ScriptFault.TheVariants as faults
use Rattle.rb_script.specs.Results.{◌>>=◌, Fails, Gives}

-- both steps were answered
pub bind_ok : {A B : Type 0} (r : Result A ScriptFault) (f : A → Result B ScriptFault) (y : B) → (r >>= f) ≡ Ok y → (x : A) × (r ≡ Ok x) × (f x ≡ Ok y)
bind_ok (Ok x) f y e = (x, refl, e)
bind_ok (Err d) f y e = absurd cc

-- an answer, at the type of faults here
abbrev pub done : {A : Type 0} → A → Result A ScriptFault
done x = Ok x

-- answers that are equal have equal values
pub ok_is : {A : Type 0} (x y : A) → done x ≡ done y → x ≡ y
ok_is x y e = cc

-- the test failed, and what follows was answered
pub guard_ok : {A E : Type 0} (b : Bool) (d : E) (x : Result A E) (y : A) → cond b (Err d) x ≡ Ok y → (b ≡ false) × (x ≡ Ok y)
guard_ok true d x y e = absurd cc
guard_ok false d x y e = (refl, e)

-- a fault of a step is the fault of the whole
pub fails_through : {X Y : Type 0} (e : ScriptFault) (a : Result X ScriptFault) (b : Result Y ScriptFault) → Fails e a → (a ≡ Err e → b ≡ Err e) → Fails e b
fails_through faults.TooLong a b h f = f h
fails_through (faults.LineTooLong n) a b h f = f h
fails_through (faults.BadLine n) a b h f = f h
fails_through (faults.NoSeparator n) a b h f = f h
fails_through (faults.NotClosed n) a b h f = f h
fails_through faults.TooManyDirectives a b h f = f h
fails_through faults.NotOneBlock a b h f = f h
fails_through (faults.TooManyArguments n) a b h f = f h
fails_through faults.OutOfMemory a b h f = tt

-- a fault, at a type that is given
abbrev pub failed : {A : Type 0} → ScriptFault → Result A ScriptFault
failed e = Err e

-- faults that are equal as results are equal
pub same_fault : {X : Type 0} (e d : ScriptFault) → failed {A = X} e ≡ failed {A = X} d → e ≡ d
same_fault e d h = cc

-- the first step failed, or the second did
pub bind_err : {A B : Type 0} (r : Result A ScriptFault) (f : A → Result B ScriptFault) (e : ScriptFault) → (r >>= f) ≡ Err e → (r ≡ Err e) ⊎ ((x : A) × (r ≡ Ok x) × (f x ≡ Err e))
bind_err {A} {B} (Ok x) f e h = inr (x, refl, h)
bind_err {A} {B} (Err d) f e h = inl (ap (λ (y : ScriptFault). failed {A = A} y) (same_fault d e h))

-- the test passed, or what follows failed
pub guard_err : {A E : Type 0} (b : Bool) (d : E) (x : Result A E) (e : E) → cond b (Err d) x ≡ Err e → ((b ≡ true) × (d ≡ e)) ⊎ ((b ≡ false) × (x ≡ Err e))
guard_err true d x e h = let same : d ≡ e = cc in inl (refl, same)
guard_err false d x e h = inr (refl, h)

-- a fault that is found early is the same for each result
pub early_through : (X Y : Type 0) (early : Option ScriptFault) (e : ScriptFault) → IfSome early (λ fault. failed {A = X} e ≡ failed {A = X} fault) → IfSome early (λ fault. failed {A = Y} e ≡ failed {A = Y} fault)
early_through X Y None e h = tt
early_through X Y (Some fault) e h = ap (λ (d : ScriptFault). failed {A = Y} d) (same_fault e fault h)

-- ---- what a function answered, where reading gives what fits and nothing else

-- a fault of an answer is want of memory
memory_is : {X : Type 0} (e : ScriptFault) (x : X) → Fails e (done x) → e ≡ faults.OutOfMemory
memory_is faults.TooLong x h = absurd cc
memory_is (faults.LineTooLong n) x h = absurd cc
memory_is (faults.BadLine n) x h = absurd cc
memory_is (faults.NoSeparator n) x h = absurd cc
memory_is (faults.NotClosed n) x h = absurd cc
memory_is faults.TooManyDirectives x h = absurd cc
memory_is faults.NotOneBlock x h = absurd cc
memory_is (faults.TooManyArguments n) x h = absurd cc
memory_is faults.OutOfMemory x h = refl

module _ {V X : Type 0} (view : V → X) (Fits : X → Type 0) (read : Result X ScriptFault) (sound : (x : X) → read ≡ Ok x → Fits x) (complete : (x : X) → Fits x → read ≡ Ok x) where
  -- what is answered fits
  pub answer_fits : (result : Result V ScriptFault) → Gives view result read → IfOk result (λ v. Fits (view v))
  answer_fits (Ok v) h = sound (view v) h
  answer_fits (Err e) h = tt

  -- what fits is answered, unless memory ran out
  pub fit_answered : (result : Result V ScriptFault) → Gives view result read → (x : X) → Fits x → Gives view result (Ok x)
  fit_answered result h x fits = subst (λ (r : Result X ScriptFault). Gives view result r) (complete x fits) h

  -- and is refused for want of memory alone
  pub only_memory : (result : Result V ScriptFault) → Gives view result read → (x : X) → Fits x → IfErr result (λ e. e ≡ faults.OutOfMemory)
  only_memory (Ok v) h x fits = tt
  only_memory (Err e) h x fits = memory_is e x (fit_answered (Err e) h x fits)

  -- where a fault is answered nothing fits, unless memory ran out
  pub none_fits : (result : Result V ScriptFault) → Gives view result read → IfErr result (λ e. e ≢ faults.OutOfMemory → (x : X) → Fits x → ⊥)
  none_fits (Ok v) h = tt
  none_fits (Err e) h = λ ne x fits. ne (only_memory (Err e) h x fits)
