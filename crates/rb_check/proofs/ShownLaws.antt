-- What goes out on a report's streams, one text after another.
use Rattle.std.proofs.Common.{◌≡◌, ◌∙◌, ℕ, suc, ◌+◌, ◌-◌, ◌^◌, Bool, true, false, List, [], ◌∷◌, ◌++◌, length, Option, Some, None, Result, Ok, Err, refl, ap, sym, subst, append_assoc, append-nil, arith}
use Rattle.std.specs.Io.KnownBytes.{Appends, Keeps}
use Rattle.std.specs.Prelude.{◌≢◌, IfErr, IfOk, IsOk, min, not, ◌==◌, is_some}
use Rattle.std.proofs.KnownBytes.{Appends-nil, Appends-trans, Appends-kept}
use Rattle.rb_report.specs.declared.check.failure.Failure.TheVariants.{NotShown}
use Rattle.rb_report.specs.declared.check.outcome.Outcome.TheVariants as outcomes
use Rattle.rb_report.specs.declared.check.totals.Totals.{Totals}
use Rattle.rb_report.specs.Counts.{of_outcome, together}
use Rattle.rb_script.specs.declared.sink.WriteFault.{WriteFault}
use Rattle.rb_script.specs.Writes.{AppendsFront, Writes}
use Rattle.rb_check.specs.declared.format.Format.{Format}
use Rattle.rb_script_report.specs.declared.fault.ShowFault.{ShowFault}
use Rattle.rb_script_report.specs.declared.fault.ShowFault.TheVariants as faults
use Rattle.rb_script_report.specs.Shows.{Shows}
use Rattle.rb_check.specs.declared.report_state.ReportForm.{ReportForm}
use Rattle.rb_check.specs.declared.report_state.ReportState.{ReportState}
use Rattle.rb_check.specs.Shown.{HeldAfter, GoesOut, GoesOutIf, GoesOutInPart, Told, cleared, clearing, closed, in_form, lacking, lacks_memory, own_after}

-- ---- held bytes

same_appended : (a b c : Option (List ℕ)) (t : List ℕ) → Appends a b t → Appends b c [] → Appends a c t
same_appended a b c t h k = subst (λ (l : List ℕ). Appends a c l) (append-nil t) (Appends-trans a b c t [] h k)

front_more : {a b : Option (List ℕ)} {t : List ℕ} (u : List ℕ) → AppendsFront a b t → AppendsFront a b (t ++ u)
front_more u f = record { front = f.front; rest = f.rest ++ u; parts = ap (λ (l : List ℕ). l ++ u) f.parts ∙ append_assoc f.front f.rest u; appended = f.appended }

front_kept : {a b c : Option (List ℕ)} {t : List ℕ} → AppendsFront a b t → Appends b c [] → AppendsFront a c t
front_kept {a} {b} {c} f k = record { front = f.front; rest = f.rest; parts = f.parts; appended = same_appended a b c f.front f.appended k }

front_after : {a b c : Option (List ℕ)} {u : List ℕ} (t : List ℕ) → Appends a b t → AppendsFront b c u → AppendsFront a c (t ++ u)
front_after {a} {b} {c} {u} t h f = record {
  front = t ++ f.front;
  rest = f.rest;
  parts = ap (λ (l : List ℕ). t ++ l) f.parts ∙ sym (append_assoc t f.front f.rest);
  appended = Appends-trans a b c t f.front h f.appended;
}

whole_front : {a b : Option (List ℕ)} {t : List ℕ} → Appends a b t → AppendsFront a b t
whole_front {t = t} h = record { front = t; rest = []; parts = sym (append-nil t); appended = h }

front_flushed : {a b c : Option (List ℕ)} {t : List ℕ} → AppendsFront a b t → Keeps b c → AppendsFront a c t
front_flushed {a} {b} {c} f k = record { front = f.front; rest = f.rest; parts = f.parts; appended = Appends-kept a b c f.front f.appended k }

-- whatever a write answered
pub written_front : {X : Type 0} (r : Result X WriteFault) {a b : Option (List ℕ)} {t : List ℕ} → Writes r a b t → AppendsFront a b t
written_front (Ok x) w = whole_front w
written_front (Err e) w = w

-- and whatever failed as a script was shown
pub showed_front : {X : Type 0} (r : Result X ShowFault) (fault : ShowFault) (a b : Option (List ℕ)) (t : List ℕ) → r ≡ Err fault → Shows r a b t → AppendsFront a b t
showed_front (Ok x) fault a b t e shows = absurd cc
showed_front (Err faults.Writing) fault a b t e shows = shows
showed_front (Err faults.OutOfMemory) fault a b t e same = record { front = []; rest = t; parts = refl; appended = subst (λ (h : Option (List ℕ)). Appends a h []) same (Appends-nil a) }

-- ---- one text after another

held_then : (x y z : Bool) (a b c : Option (List ℕ)) (t u : List ℕ) → HeldAfter x y a b t → HeldAfter y z b c u → HeldAfter x z a c (t ++ u)
held_then false false false a b c t u h k = Appends-trans a b c t u h k
held_then false false true a b c t u h k = front_after t h k
held_then false true true a b c t u h k = front_more u (front_kept h k)
held_then false true false a b c t u h k = absurd k
held_then true false z a b c t u h k = absurd h
held_then true true false a b c t u h k = absurd k
held_then true true true a b c t u h k = same_appended a b c [] h k

own_then : (x y z : Bool) (a b c : Totals) (o p q : Option (List ℕ)) (t u : List ℕ) → HeldAfter x y o p t → HeldAfter y z p q u → b ≡ own_after x y a → c ≡ own_after y z b → c ≡ own_after x z a
own_then false false false a b c o p q t u h k e f = f ∙ e
own_then false false true a b c o p q t u h k e f = f ∙ ap (λ (v : Totals). together v (of_outcome (outcomes.Failed NotShown))) e
own_then false true true a b c o p q t u h k e f = f ∙ e
own_then false true false a b c o p q t u h k e f = absurd k
own_then true false z a b c o p q t u h k e f = absurd h
own_then true true false a b c o p q t u h k e f = absurd k
own_then true true true a b c o p q t u h k e f = f ∙ e

-- the second text, if the output hasn't failed yet
held_same : (x y z : Bool) (a b c : Option (List ℕ)) (t u v : List ℕ) → (x ≡ y → u ≡ v) → HeldAfter x y a b t → HeldAfter y z b c u → HeldAfter y z b c v
held_same false false z a b c t u v same h k = subst (λ (l : List ℕ). HeldAfter false z b c l) (same refl) k
held_same false true true a b c t u v same h k = k
held_same false true false a b c t u v same h k = absurd k
held_same true false z a b c t u v same h k = absurd h
held_same true true z a b c t u v same h k = subst (λ (l : List ℕ). HeldAfter true z b c l) (same refl) k

own_kept : (x y : Bool) (a b : Totals) → x ≡ y → b ≡ own_after x y a → b ≡ a
own_kept false false a b h e = e
own_kept false true a b h e = absurd cc
own_kept true y a b h e = e

module _ {one two three : ReportState} {a b c : Option (List ℕ)} {t : List ℕ} where
  -- what the second text is may depend on the report's own failures
  pub goes_then : (text : ReportForm → Totals → List ℕ) → GoesOut one two a b t → GoesOut two three b c (text two.form two.own) → GoesOut one three a c (t ++ text one.form one.own)
  goes_then text first second = record {
    form = second.form ∙ first.form;
    out = λ memory.
        let two_out = second.out memory in
        let one_out = first.out two_out.memory in
        let same : one.is_closed ≡ two.is_closed → text two.form two.own ≡ text one.form one.own = λ e. ap (λ (f : ReportForm). text f two.own) first.form ∙ ap (text one.form) (own_kept one.is_closed two.is_closed one.own two.own e one_out.own) in
        record {
          memory = one_out.memory;
          held = held_then one.is_closed two.is_closed three.is_closed a b c t (text one.form one.own) one_out.held (held_same one.is_closed two.is_closed three.is_closed a b c t (text two.form two.own) (text one.form one.own) same one_out.held two_out.held);
          own = own_then one.is_closed two.is_closed three.is_closed one.own two.own three.own a b c t (text two.form two.own) one_out.held two_out.held one_out.own two_out.own;
        };
  }

  pub goes_on : (text : ReportForm → List ℕ) → GoesOut one two a b t → GoesOut two three b c (text two.form) → GoesOut one three a c (t ++ text one.form)
  goes_on text first second = goes_then (λ f own. text f) first second

-- ---- nothing

held_none : (x : Bool) (a : Option (List ℕ)) → HeldAfter x x a a []
held_none false a = Appends-nil a
held_none true a = Appends-nil a

own_none : (x : Bool) (own : Totals) → own ≡ own_after x x own
own_none false own = refl
own_none true own = refl

pub goes_nothing : (s : ReportState) (a : Option (List ℕ)) → GoesOut s s a a []
goes_nothing s a = record { form = refl; out = λ memory. record { memory = memory; held = held_none s.is_closed a; own = own_none s.is_closed s.own } }

-- nothing goes out any more
held_closed : (x : Bool) (a : Option (List ℕ)) (t : List ℕ) → x ≡ true → HeldAfter x x a a t
held_closed false a t is = absurd cc
held_closed true a t is = Appends-nil a

pub goes_nowhere : (s : ReportState) (a : Option (List ℕ)) (t : List ℕ) → s.is_closed ≡ true → GoesOut s s a a t
goes_nowhere s a t is = record { form = refl; out = λ memory. record { memory = memory; held = held_closed s.is_closed a t is; own = own_none s.is_closed s.own } }

pub one_lacks : (w : ℕ) → not (min (w + 1) (2 ^ 64 - 1) == 0) ≡ true
one_lacks w = grind arith

none_lacks : (w : ℕ) → not (min (w + 0) (2 ^ 64 - 1) == 0) ≡ false → not (w == 0) ≡ false
none_lacks w none = grind arith

-- memory was refused for it
pub goes_lacking : (s t : ReportState) (a b : Option (List ℕ)) (text : List ℕ) → t ≡ lacking s → GoesOut s t a b text
goes_lacking s t a b text is = record { form = ap (λ (v : ReportState). v.form) is; out = λ memory. let no : true ≡ false = sym (ap lacks_memory is ∙ one_lacks s.own.without_memory) ∙ memory in absurd cc }

-- ---- a text that was put, and handed on

held_open : (x : Bool) (a b : Option (List ℕ)) (t : List ℕ) → x ≡ false → Appends a b t → HeldAfter x x a b t
held_open false a b t is h = h
held_open true a b t is h = absurd cc

pub goes_whole : {s : ReportState} {a c : Option (List ℕ)} {t : List ℕ} (b : Option (List ℕ)) → s.is_closed ≡ false → Appends a b t → Keeps b c → GoesOut s s a c t
goes_whole {s} {a} {c} {t} b not_closed h k = record { form = refl; out = λ memory. record { memory = memory; held = held_open s.is_closed a c t not_closed (Appends-kept a b c t h k); own = own_none s.is_closed s.own } }

held_failed : (x : Bool) {a b : Option (List ℕ)} {t : List ℕ} → x ≡ false → AppendsFront a b t → HeldAfter x true a b t
held_failed false is h = h
held_failed true is h = absurd cc

own_failed : (x : Bool) (own : Totals) → x ≡ false → together own (of_outcome (outcomes.Failed NotShown)) ≡ own_after x true own
own_failed false own is = refl
own_failed true own is = absurd cc

went_failed : {s : ReportState} {a b c : Option (List ℕ)} {t : List ℕ} → s.is_closed ≡ false → AppendsFront a b t → Keeps b c → GoesOut s (closed s) a c t
went_failed {s} not_closed f k = record { form = refl; out = λ memory. record { memory = none_lacks s.own.without_memory memory; held = held_failed s.is_closed not_closed (front_flushed f k); own = own_failed s.is_closed s.own not_closed } }

pub goes_failed : {s u : ReportState} {a b c d : Option (List ℕ)} {t : List ℕ} → s.is_closed ≡ false → AppendsFront a b t → Keeps b c → u ≡ closed s → d ≡ c → GoesOut s u a d t
goes_failed {s} {u} {a} {b} {c} {d} {t} not_closed f k is at =
    subst (λ (v : ReportState). GoesOut s v a d t) (sym is) (subst (λ (e : Option (List ℕ)). GoesOut s (closed s) a e t) (sym at) (went_failed not_closed f k))

-- a beginning of a text was put
pub goes_front : {s : ReportState} {a b : Option (List ℕ)} {t : List ℕ} → s.is_closed ≡ false → AppendsFront a b t → GoesOutInPart s s a b
goes_front {s} {a} {b} not_closed f = record {
  text = f.front;
  out = record { form = refl; out = λ memory. record { memory = memory; held = held_open s.is_closed a b f.front not_closed f.appended; own = own_none s.is_closed s.own } };
}

pub along : {s u : ReportState} {a b : Option (List ℕ)} {t v : List ℕ} → t ≡ v → GoesOut s u a b t → GoesOut s u a b v
along {s} {u} {a} {b} e h = subst (λ (l : List ℕ). GoesOut s u a b l) e h

-- nothing was put
pub goes_kept : (s : ReportState) {a b : Option (List ℕ)} → Keeps a b → GoesOut s s a b []
goes_kept s {a} {b} k = record { form = refl; out = λ memory. record { memory = memory; held = held_kept s.is_closed a b k; own = own_none s.is_closed s.own } }
  where
    held_kept : (x : Bool) (a b : Option (List ℕ)) → Keeps a b → HeldAfter x x a b []
    held_kept false a b k = Appends-kept a a b [] (Appends-nil a) k
    held_kept true a b k = Appends-kept a a b [] (Appends-nil a) k

-- something was put before it, and handed on with it
held_before : (x y : Bool) (a b c : Option (List ℕ)) (t v : List ℕ) → x ≡ false → Appends a b t → HeldAfter x y b c v → HeldAfter x y a c (t ++ v)
held_before false false a b c t v is h k = Appends-trans a b c t v h k
held_before false true a b c t v is h k = front_after t h k
held_before true y a b c t v is h k = absurd cc

pub goes_before : {s u : ReportState} {b c : Option (List ℕ)} {v : List ℕ} (a : Option (List ℕ)) (t : List ℕ) → s.is_closed ≡ false → Appends a b t → GoesOut s u b c v → GoesOut s u a c (t ++ v)
goes_before {s} {u} {b} {c} {v} a t unclosed h out = record {
  form = out.form;
  out = λ memory. let went = out.out memory in record { memory = went.memory; held = held_before s.is_closed u.is_closed a b c t v unclosed h went.held; own = went.own };
}

-- ---- by equations

pub goes_from : {s u n : ReportState} {a b : Option (List ℕ)} {t : List ℕ} → u ≡ s → GoesOut u n a b t → GoesOut s n a b t
goes_from {n = n} {a = a} {b = b} {t = t} e h = subst (λ (v : ReportState). GoesOut v n a b t) e h

not_closed_false : (x : Bool) → not x ≡ false → x ≡ true
not_closed_false false h = absurd cc
not_closed_false true h = refl

not_closed_true : (x : Bool) → not x ≡ true → x ≡ false
not_closed_true false h = refl
not_closed_true true h = absurd cc

-- the output was found closed
pub goes_nowhere_at : (s u : ReportState) (a b : Option (List ℕ)) (t : List ℕ) (found : Bool) → u ≡ s → b ≡ a → found ≡ not s.is_closed → found ≡ false → GoesOut s u a b t
goes_nowhere_at s u a b t found e f is closed_is =
    subst (λ (v : ReportState). GoesOut s v a b t) (sym e) (subst (λ (h : Option (List ℕ)). GoesOut s s a h t) (sym f) (goes_nowhere s a t (not_closed_false s.is_closed (sym is ∙ closed_is))))

-- it was found open, and the text was put and handed on
pub goes_shown : {X : Type 0} (s u n : ReportState) (a b c d : Option (List ℕ)) (t : List ℕ) (r : Result X WriteFault) (found : Bool) → u ≡ s → b ≡ a → found ≡ not s.is_closed → found ≡ true
    → Writes r b c t → ((before : Option (List ℕ)) (text : List ℕ) → u.is_closed ≡ false → Writes r before c text → GoesOut u n before d text) → GoesOut s n a d t
goes_shown s u n a b c d t r found e f is open_is put shows =
    goes_from e (shows a t (ap (λ (v : ReportState). v.is_closed) e ∙ not_closed_true s.is_closed (sym is ∙ open_is)) (subst (λ (h : Option (List ℕ)). Writes r h c t) f put))

-- after how bytes go out has changed
pub goes_heeded : {s u n : ReportState} {a b c : Option (List ℕ)} {t : List ℕ} → u ≡ s → Keeps a b → GoesOut u n b c t → GoesOut s n a c t
goes_heeded {s} {u} {n} {a} {b} {c} {t} e k out = goes_from e (goes_on (λ (f : ReportForm). t) (goes_kept u k) out)

-- ---- where a call may fail

pub part_nothing : (s : ReportState) (a : Option (List ℕ)) → GoesOutInPart s s a a
part_nothing s a = record { text = []; out = goes_nothing s a }

pub part_whole : {s u : ReportState} {a b : Option (List ℕ)} (t : List ℕ) → GoesOut s u a b t → GoesOutInPart s u a b
part_whole t out = record { text = t; out = out }

pub part_then : {one two three : ReportState} {a b c : Option (List ℕ)} {t : List ℕ} → GoesOut one two a b t → GoesOutInPart two three b c → GoesOutInPart one three a c
part_then {t = t} first part = record { text = t ++ part.text; out = goes_on (λ (f : ReportForm). part.text) first part.out }

pub if_along : {X E : Type 0} (r : Result X E) (s u : ReportState) (a b : Option (List ℕ)) (t v : List ℕ) → t ≡ v → GoesOutIf r s u a b t → GoesOutIf r s u a b v
if_along r s u a b t v e h = subst (λ (l : List ℕ). GoesOutIf r s u a b l) e h

pub if_from : {X E : Type 0} (r : Result X E) (s u n : ReportState) (a b : Option (List ℕ)) (t : List ℕ) → u ≡ s → GoesOutIf r u n a b t → GoesOutIf r s n a b t
if_from r s u n a b t e h = subst (λ (v : ReportState). GoesOutIf r v n a b t) e h

-- two texts in a row; writing the second may fail
pub if_ok : {X E : Type 0} {P : Type 0} (r : Result X E) (one two three : ReportState) (a b c : Option (List ℕ)) (t u : List ℕ) → GoesOut one two a b t → GoesOutIf r two three b c u → (GoesOut one three a c (t ++ u) → P) → IfOk r (λ _. P)
if_ok (Ok x) one two three a b c t u first second so = so (goes_on (λ (form : ReportForm). u) first second)
if_ok (Err e) one two three a b c t u first second so = tt

pub if_err : {X E : Type 0} (r : Result X E) (one two three : ReportState) (a b c : Option (List ℕ)) (t u : List ℕ) → GoesOut one two a b t → GoesOutIf r two three b c u → IfErr r (λ _. GoesOutInPart one three a c)
if_err (Ok x) one two three a b c t u first second = tt
if_err (Err e) one two three a b c t u first second = part_then first second

pub ok_so : {X E : Type 0} {P Q : Type 0} (r : Result X E) → (P → Q) → IfOk r (λ _. P) → IfOk r (λ _. Q)
ok_so (Ok x) so p = so p
ok_so (Err e) so p = tt

pub on_err : {X E : Type 0} {P : Type 0} (r : Result X E) → P → IfErr r (λ _. P)
on_err (Ok x) p = tt
on_err (Err e) p = p

pub ok_with : {X E : Type 0} {P Q : X → Type 0} (r : Result X E) → ((x : X) → P x → Q x) → IfOk r P → IfOk r Q
ok_with (Ok x) so p = so x p
ok_with (Err e) so p = tt

pub err_with : {X E : Type 0} {P Q : E → Type 0} (r : Result X E) → ((e : E) → P e → Q e) → IfErr r P → IfErr r Q
err_with (Ok x) so p = tt
err_with (Err e) so p = so e p

pub err_so : {X E : Type 0} {P Q : Type 0} (r : Result X E) → (P → Q) → IfErr r (λ _. P) → IfErr r (λ _. Q)
err_so (Ok x) so p = tt
err_so (Err e) so p = so p

pub if_before : {X E : Type 0} (r : Result X E) (s u : ReportState) (a b c : Option (List ℕ)) (t v : List ℕ) → s.is_closed ≡ false → Appends a b t → GoesOutIf r s u b c v → GoesOutIf r s u a c (t ++ v)
if_before (Ok x) s u a b c t v unclosed h out = goes_before a t unclosed h out
if_before (Err e) s u a b c t v unclosed h part = record { text = t ++ part.text; out = goes_before a t unclosed h part.out }

-- the output was found open, and a script was shown
pub goes_showed : {X Y E : Type 0} (s u n : ReportState) (a b c d : Option (List ℕ)) (t : List ℕ) (r : Result X ShowFault) (done : Result Y E) (found : Bool) → u ≡ s → b ≡ a → found ≡ not s.is_closed → found ≡ true
    → Shows r b c t → ((before : Option (List ℕ)) (text : List ℕ) → u.is_closed ≡ false → Shows r before c text → GoesOutIf done u n before d text) → GoesOutIf done s n a d t
goes_showed s u n a b c d t r done found e f is open_is put shows =
    if_from done s u n a d t e (shows a t (ap (λ (v : ReportState). v.is_closed) e ∙ not_closed_true s.is_closed (sym is ∙ open_is)) (subst (λ (h : Option (List ℕ)). Shows r h c t) f put))

-- a text is put, and then a script is shown
module _ {Y E : Type 0} (s u n : ReportState) (a b c d : Option (List ℕ)) (t v : List ℕ) (done : Result Y E) (found : Bool) where
  pub goes_both : {X : Type 0} (e : Option (List ℕ)) (r : Result X ShowFault) → u ≡ s → b ≡ a → found ≡ not s.is_closed → found ≡ true → Appends b c t → Shows r c d v
      → ((before : Option (List ℕ)) (text : List ℕ) → u.is_closed ≡ false → Shows r before d text → GoesOutIf done u n before e text) → GoesOutIf done s n a e (t ++ v)
  goes_both e r same held is open_is put shown shows =
      let unclosed : u.is_closed ≡ false = ap (λ (x : ReportState). x.is_closed) same ∙ not_closed_true s.is_closed (sym is ∙ open_is) in
      if_from done s u n a e (t ++ v) same (subst (λ (h : Option (List ℕ)). GoesOutIf done u n h e (t ++ v)) held (if_before done u n b c e t v unclosed put (shows c v unclosed shown)))

  -- the text is cut off
  pub goes_cut : {X : Type 0} (r : Result X WriteFault) → u ≡ s → b ≡ a → found ≡ not s.is_closed → found ≡ true → Writes r b c t
      → ((before : Option (List ℕ)) (text : List ℕ) → u.is_closed ≡ false → AppendsFront before c text → GoesOutIf done u n before d text) → GoesOutIf done s n a d (t ++ v)
  goes_cut r same held is open_is put shows =
      let unclosed : u.is_closed ≡ false = ap (λ (x : ReportState). x.is_closed) same ∙ not_closed_true s.is_closed (sym is ∙ open_is) in
      if_from done s u n a d (t ++ v) same (shows a (t ++ v) unclosed (front_more v (written_front r (subst (λ (h : Option (List ℕ)). Writes r h c t) held put))))

-- ---- to people, or to programs

module _ {s u : ReportState} {a b : Option (List ℕ)} {form : Option Format} (people : List ℕ) (programs : Format → List ℕ) where
  pub to_programs : (format : Format) → form ≡ Some format → GoesOut s u a b (programs format) → GoesOut s u a b (in_form form people programs)
  to_programs format e h = subst (λ (f : Option Format). GoesOut s u a b (in_form f people programs)) (sym e) h

  pub to_people : form ≡ None → GoesOut s u a b people → GoesOut s u a b (in_form form people programs)
  to_people e h = subst (λ (f : Option Format). GoesOut s u a b (in_form f people programs)) (sym e) h

pub none_listed : (o : Option Format) (t : List ℕ) → is_some o ≡ true → in_form o t (λ _. []) ≡ []
none_listed None t is = absurd cc
none_listed (Some f) t is = refl

pub all_listed : (o : Option Format) (t : List ℕ) → is_some o ≡ false → in_form o t (λ _. []) ≡ t
all_listed None t is = refl
all_listed (Some f) t is = absurd cc

pub none_there : {X : Type 0} (xs : List X) → (length xs == 0) ≡ true → xs ≡ []
none_there [] is = refl
none_there (x ∷ xs) is = let no : true ≡ false = sym is ∙ never (length xs) in absurd cc
  where
    never : (n : ℕ) → (suc n == 0) ≡ false
    never n = grind arith

pub some_there : {X : Type 0} (xs : List X) → (length xs == 0) ≡ false → xs ≢ []
some_there [] is = absurd cc
some_there (x ∷ xs) is = λ e. absurd cc

-- ---- several texts

-- a front of the texts went out, and the rest is still to go
pub record Gone (old new : ReportState) (before after : Option (List ℕ)) (all rest : List ℕ) : Type 0 where
  pub front : List ℕ
  pub parts : all ≡ front ++ rest
  pub out : GoesOut old new before after front

pub gone_none : (s : ReportState) (a : Option (List ℕ)) (all : List ℕ) → Gone s s a a all all
gone_none s a all = record { front = []; parts = refl; out = goes_nothing s a }

pub gone_more : {one two three : ReportState} {a b c : Option (List ℕ)} {all rest more : List ℕ} (text : ReportForm → List ℕ) → Gone one two a b all rest → rest ≡ text one.form ++ more → GoesOut two three b c (text two.form) → Gone one three a c all more
gone_more {one = one} {more = more} text g e next = record {
  front = g.front ++ text one.form;
  parts = g.parts ∙ ap (λ (l : List ℕ). g.front ++ l) e ∙ sym (append_assoc g.front (text one.form) more);
  out = goes_on text g.out next;
}

pub gone_all : {one two : ReportState} {a b : Option (List ℕ)} {all rest : List ℕ} → rest ≡ [] → Gone one two a b all rest → GoesOut one two a b all
gone_all e g = along (sym (g.parts ∙ ap (λ (l : List ℕ). g.front ++ l) e ∙ append-nil g.front)) g.out

-- ---- the stream of errors

pub written_whole : {X : Type 0} (r : Result X WriteFault) (a b : Option (List ℕ)) (t : List ℕ) → IsOk r → Writes r a b t → Appends a b t
written_whole (Ok x) a b t is w = w
written_whole (Err e) a b t is w = absurd cc

module _ {P Q R : Type 0} (a b c : Option (List ℕ)) where
  -- a text was put, and handed on
  pub told_one : {X Y E : Type 0} (r : Result X WriteFault) (s : Result Y E) (t : List ℕ) → (P → IsOk r × Q) → (Q → IsOk s × R) → Writes r a b t → Keeps b c → Told P R a c t
  told_one r s t all flushed w k = λ p. let x = all p in ((flushed x.1).1, Appends-kept a b c t (written_whole r a b t x.0 w) k)

  pub told_then : (t u : List ℕ) → Told P Q a b t → Told Q R b c u → Told P R a c (t ++ u)
  told_then t u one two = λ p. let x = one p in let y = two x.0 in (y.0, Appends-trans a b c t u x.1 y.1)

pub told_none : {P : Type 0} (a : Option (List ℕ)) → Told P P a a []
told_none a = λ p. (p, Appends-nil a)

pub told_along : {P R : Type 0} {t u : List ℕ} (a c : Option (List ℕ)) → t ≡ u → Told P R a c t → Told P R a c u
told_along {P} {R} a c e h = subst (λ (l : List ℕ). Told P R a c l) e h

-- the progress line is removed, if it is there
pub told_uncleared : {P : Type 0} (a : Option (List ℕ)) (shows : Bool) → shows ≡ false → Told P P a a (cleared shows)
told_uncleared a false is = told_none a
told_uncleared a true is = absurd cc

pub told_cleared : {P R : Type 0} (a c : Option (List ℕ)) (shows : Bool) → shows ≡ true → Told P R a c clearing → Told P R a c (cleared shows)
told_cleared a c false is h = absurd cc
told_cleared a c true is h = h
