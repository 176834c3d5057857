-- A text that goes out in parts.
use Rattle.std.proofs.Common.{◌≡◌, ℕ, ◌-◌, List, [], ◌++◌, length, take, drop, Option, Result, Ok, Err, refl, ap, sym, subst, ◌∙◌, append_assoc, append-nil, take-append-drop}
use Rattle.std.specs.Prelude.{IsErr}
use Rattle.std.specs.Io.KnownBytes.{Appends}
use Rattle.std.proofs.KnownBytes.{Appends-nil, Appends-trans}
use Rattle.std.proofs.lemmas.List.{take_rest}
use Rattle.rb_script.specs.declared.sink.WriteFault.{WriteFault}
use Rattle.rb_script.specs.Writes.{AppendsFront, Writes}

-- a front of the text went out, and the rest is still to go
pub record Sent (old new : Option (List ℕ)) (text rest : List ℕ) : Type 0 where
  pub front : List ℕ
  pub parts : text ≡ front ++ rest
  pub appended : Appends old new front

-- nothing went out yet
pub sent_none : (old : Option (List ℕ)) (text rest : List ℕ) → text ≡ rest → Sent old old text rest
sent_none old text rest e = record { front = []; parts = e; appended = Appends-nil old }

-- a piece went out
pub sent_piece : {old mid : Option (List ℕ)} {text : List ℕ} (new : Option (List ℕ)) (a rest : List ℕ) → Sent old mid text (a ++ rest) → Appends mid new a → Sent old new text rest
sent_piece {old} {mid} new a rest s h = record {
  front = s.front ++ a;
  parts = s.parts ∙ sym (append_assoc s.front a rest);
  appended = Appends-trans old mid new s.front a s.appended h;
}

-- what is still to go, seen otherwise
pub sent_along : {old new : Option (List ℕ)} {text rest other : List ℕ} → rest ≡ other → Sent old new text rest → Sent old new text other
sent_along {old} {new} {text} e s = subst (λ (l : List ℕ). Sent old new text l) e s

-- a write took n bytes of what was still to go
pub sent_taken : {old mid : Option (List ℕ)} {text rest : List ℕ} (new : Option (List ℕ)) (n : ℕ) → Sent old mid text rest → Appends mid new (take n rest) → Sent old new text (take (length rest - n) (drop n rest))
sent_taken {rest = rest} new n s h = sent_piece new (take n rest) _ (sent_along (sym (ap (λ (l : List ℕ). take n rest ++ l) (take_rest rest n) ∙ take-append-drop n rest)) s) h

-- a beginning of a piece went out
piece_front : {old mid : Option (List ℕ)} {text : List ℕ} (new : Option (List ℕ)) (a rest : List ℕ) → Sent old mid text (a ++ rest) → AppendsFront mid new a → AppendsFront old new text
piece_front {old} {mid} new a rest s f = record {
  front = s.front ++ f.front;
  rest = f.rest ++ rest;
  parts = s.parts ∙ ap (λ (l : List ℕ). s.front ++ (l ++ rest)) f.parts ∙ ap (λ (l : List ℕ). s.front ++ l) (append_assoc f.front f.rest rest) ∙ sym (append_assoc s.front f.front (f.rest ++ rest));
  appended = Appends-trans old mid new s.front f.front s.appended f.appended;
}

-- the write of a piece failed, and so does the whole
pub piece_exit : {X : Type 0} {old mid : Option (List ℕ)} {text : List ℕ} (r : Result X WriteFault) (new : Option (List ℕ)) (a rest : List ℕ) → IsErr r → Sent old mid text (a ++ rest) → AppendsFront mid new a → Writes r old new text
piece_exit (Ok x) new a rest is s f = absurd cc
piece_exit (Err d) new a rest is s f = piece_front new a rest s f

-- the last piece, whatever its write answered
pub piece_last : {X : Type 0} {old mid : Option (List ℕ)} {text : List ℕ} (r : Result X WriteFault) (new : Option (List ℕ)) (a : List ℕ) → Sent old mid text a → Writes r mid new a → Writes r old new text
piece_last {old = old} {mid = mid} (Ok x) new a s h = subst (λ (l : List ℕ). Appends old new l) (sym s.parts) (Appends-trans old mid new s.front a s.appended h)
piece_last {old = old} {mid = mid} {text = text} (Err d) new a s h = piece_front new a [] (subst (λ (l : List ℕ). Sent old mid text l) (sym (append-nil a)) s) h

-- all went out
pub sent_all : {old new : Option (List ℕ)} {text rest : List ℕ} → rest ≡ [] → Sent old new text rest → Appends old new text
sent_all {old} {new} {text} {rest} e s = subst (λ (l : List ℕ). Appends old new l) (sym (s.parts ∙ ap (λ (l : List ℕ). s.front ++ l) e ∙ append-nil s.front)) s.appended

-- ---- texts of two parts

-- the first part failed, and so does the whole
pub first_failed : {X : Type 0} {old : Option (List ℕ)} (r : Result X WriteFault) (new : Option (List ℕ)) (text a b : List ℕ) → text ≡ a ++ b → IsErr r → AppendsFront old new a → Writes r old new text
first_failed {old = old} r new text a b e is f = piece_exit r new a b is (sent_none old text (a ++ b) e) f

-- the first part went out, and so the whole is what became of the second
pub second_written : {X : Type 0} (old mid : Option (List ℕ)) (r : Result X WriteFault) (new : Option (List ℕ)) (text a b : List ℕ) → text ≡ a ++ b → Appends old mid a → Writes r mid new b → Writes r old new text
second_written old mid r new text a b e first w = piece_last r new b (sent_piece mid a b (sent_none old text (a ++ b) e) first) w

-- a piece went out, and then what another write answered
pub and_then : {X : Type 0} (old mid new : Option (List ℕ)) (a rest : List ℕ) (r : Result X WriteFault) → Appends old mid a → Writes r mid new rest → Writes r old new (a ++ rest)
and_then old mid new a rest r h w = second_written old mid r new (a ++ rest) a rest refl h w

-- the write of a piece failed
pub no_more : {X : Type 0} (old new : Option (List ℕ)) (a rest : List ℕ) (r : Result X WriteFault) → IsErr r → AppendsFront old new a → Writes r old new (a ++ rest)
no_more old new a rest r failed h = first_failed r new (a ++ rest) a rest refl failed h

-- the same text, seen otherwise
pub writes_along : {X : Type 0} (r : Result X WriteFault) (old new : Option (List ℕ)) (text other : List ℕ) → text ≡ other → Writes r old new text → Writes r old new other
writes_along r old new text other e w = subst (λ (l : List ℕ). Writes r old new l) e w
