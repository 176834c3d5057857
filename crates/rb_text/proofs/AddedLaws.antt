-- A list, and others that are put behind it, one after another.
use Rattle.std.proofs.Common.{◌≡◌, ◌∙◌, List, ◌++◌, ap, append_assoc}

pub two_parts : {X : Type 0} (t0 t1 t2 a b : List X) → t1 ≡ t0 ++ a → t2 ≡ t1 ++ b → t2 ≡ t0 ++ (a ++ b)
two_parts {X} t0 t1 t2 a b first second = second ∙ ap (λ (l : List X). l ++ b) first ∙ append_assoc t0 a b

pub three_parts : {X : Type 0} (t0 t1 t2 t3 a b c : List X) → t1 ≡ t0 ++ a → t2 ≡ t1 ++ b → t3 ≡ t2 ++ c → t3 ≡ t0 ++ (a ++ (b ++ c))
three_parts t0 t1 t2 t3 a b c first second third = two_parts t0 t1 t3 a (b ++ c) first (two_parts t1 t2 t3 b c second third)

pub five_parts : {X : Type 0} (t0 t1 t2 t3 t4 t5 a b c d e : List X) → t1 ≡ t0 ++ a → t2 ≡ t1 ++ b → t3 ≡ t2 ++ c → t4 ≡ t3 ++ d → t5 ≡ t4 ++ e
    → t5 ≡ t0 ++ (a ++ (b ++ (c ++ (d ++ e))))
five_parts t0 t1 t2 t3 t4 t5 a b c d e first second third fourth fifth =
    two_parts t0 t1 t5 a (b ++ (c ++ (d ++ e))) first (two_parts t1 t2 t5 b (c ++ (d ++ e)) second (three_parts t2 t3 t4 t5 c d e third fourth fifth))
