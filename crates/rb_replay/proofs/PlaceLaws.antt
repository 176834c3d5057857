-- Laws of items that take the place of others.
use Rattle.std.proofs.Common.{◌≡◌, ℕ, ◌+◌, ◌-◌, ◌≤◌, List, ◌++◌, length, take, drop, ap, sym, ◌∙◌, arith, length-append, append_assoc}
use Rattle.std.proofs.lemmas.List.{take-append-drop, take_at, drop_at, drop-drop, take_all, length-take-le}

module _ {T : Type 0} (items fresh now : List T) (from count : ℕ) (few : count ≤ length fresh) (within : from + count ≤ length items) (is : now ≡ take from items ++ (take count fresh ++ drop (from + count) items)) where
  halves : now ≡ (take from items ++ take count fresh) ++ drop (from + count) items
  halves = is ∙ sym (append_assoc (take from items) (take count fresh) (drop (from + count) items))

  long : length (take from items ++ take count fresh) ≡ from + count
  long = omega (arith, length-append (take from items) (take count fresh), length-take-le from items (omega (arith, within)), length-take-le count fresh few)

  front_now : take (from + count) now ≡ take from items ++ take count fresh
  front_now = ap (take (from + count)) halves ∙ take_at (take from items ++ take count fresh) (drop (from + count) items) (from + count) long

  rest_now : drop (from + count) now ≡ drop (from + count) items
  rest_now = ap (drop (from + count)) halves ∙ drop_at (take from items ++ take count fresh) (drop (from + count) items) (from + count) long

  -- fewer items came than go: what is left of those goes
  pub fewer_came : (to : ℕ) (last : List T) → length fresh ≤ count → from + count ≤ to → last ≡ take (from + count) now ++ drop to now → last ≡ take from items ++ (fresh ++ drop to items)
  fewer_came to last all order last_is =
      let r : ℕ = to - (from + count) in
      let on : from + count + r ≡ to = omega (arith, order) in
      let rest : drop to now ≡ drop to items =
      ap (λ (n : ℕ). drop n now) (sym on) ∙ sym (drop-drop r (from + count) now) ∙ ap (drop r) rest_now ∙ drop-drop r (from + count) items ∙ ap (λ (n : ℕ). drop n items) on in
      last_is ∙ ap (λ (l : List T). l ++ drop to now) front_now ∙ ap (λ (l : List T). (take from items ++ l) ++ drop to now) (take_all count fresh all)
      ∙ ap (λ (l : List T). (take from items ++ fresh) ++ l) rest ∙ append_assoc (take from items) fresh (drop to items)

  -- no fewer came: those that are left over are put in
  pub no_fewer_came : (to : ℕ) (left over last : List T) → from + count ≡ to → drop count left ≡ drop count fresh → over ≡ take 0 left ++ drop count left → last ≡ take to now ++ (over ++ drop to now) → last ≡ take from items ++ (fresh ++ drop to items)
  no_fewer_came to left over last end left_is over_is last_is =
      let over_now : over ≡ drop count fresh = over_is ∙ left_is in
      let front : take to now ≡ take from items ++ take count fresh = ap (λ (n : ℕ). take n now) (sym end) ∙ front_now in
      let rest : drop to now ≡ drop to items = ap (λ (n : ℕ). drop n now) (sym end) ∙ rest_now ∙ ap (λ (n : ℕ). drop n items) end in
      last_is ∙ ap (λ (l : List T). l ++ (over ++ drop to now)) front ∙ ap (λ (l : List T). (take from items ++ take count fresh) ++ (l ++ drop to now)) over_now
      ∙ ap (λ (l : List T). (take from items ++ take count fresh) ++ (drop count fresh ++ l)) rest
      ∙ append_assoc (take from items) (take count fresh) (drop count fresh ++ drop to items)
      ∙ ap (λ (l : List T). take from items ++ l) (sym (append_assoc (take count fresh) (drop count fresh) (drop to items)) ∙ ap (λ (l : List T). l ++ drop to items) (take-append-drop count fresh))
