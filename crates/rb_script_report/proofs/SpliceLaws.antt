-- A script's bytes with other expectations.
use Rattle.std.proofs.Common.{◌≡◌, ◌∙◌, ℕ, suc, ◌+◌, ◌-◌, ◌<◌, ◌≤◌, Bool, true, false, cond, ◌⊎◌, inl, inr, List, [], ◌∷◌, ◌++◌, length, take, drop, Some, refl, ap, ap₂, sym, subst, arith, append_assoc, append-nil, length-append, length-take-le}
use Rattle.std.specs.Prelude.{slice_get, slice_index}
use Rattle.std.proofs.lemmas.List.{drop_all, drop_at, take-append-drop}
use Rattle.std.proofs.lemmas.Option.{get_or_from_slice_get, slice_get_within}
use Rattle.rb_script.specs.Lines.{Line}
use Rattle.rb_script.specs.Marks.{is_blank, continues, rule}
use Rattle.rb_script.specs.Runs.{head_of}
use Rattle.rb_script.specs.Script.{PlainBlock, PlainScript, text}
use Rattle.rb_script.specs.Reads.{Reads, ReadsPlain, ReadsDouble}
use Rattle.rb_script.specs.HeadLines.{AreHeadLines, IsHeadLine}
use Rattle.rb_script.specs.Valid.{IsScript}
use Rattle.rb_script.proofs.ListLaws.{drop_there}
use Rattle.rb_script.proofs.RunLaws.{head_run}
use Rattle.rb_script.proofs.TextLaws.{text_reads}
use Rattle.rb_replay.specs.Report.{same_lines}
use Rattle.rb_script_report.specs.WholeLines.{after_lines}
use Rattle.rb_script_report.specs.Splices.{IsAbove, IsWritten, lines_above, replaced, lines_below, spliced_from}

-- ---- how many lines a head has

pub head_more : (ls : List Line) (i : ℕ) (line : Line) → slice_get ls i ≡ Some line → (t : Bool) → t ≡ continues line → t ≡ true → length (head_of (drop i ls)) ≡ suc (length (head_of (drop (i + 1) ls)))
unfolding head_of
head_more ls i line got t is holds =
    ap (λ (l : List Line). length (head_of l)) (drop_there ls i line got)
    ∙ ap (λ (u : Bool). length (cond u (line ∷ head_of (drop (i + 1) ls)) (line ∷ []))) (sym is ∙ holds)

pub head_last : (ls : List Line) (i : ℕ) (line : Line) → slice_get ls i ≡ Some line → (t : Bool) → t ≡ continues line → t ≡ false → length (head_of (drop i ls)) ≡ 1
unfolding head_of
head_last ls i line got t is none =
    ap (λ (l : List Line). length (head_of l)) (drop_there ls i line got)
    ∙ ap (λ (u : Bool). length (cond u (line ∷ head_of (drop (i + 1) ls)) (line ∷ []))) (sym is ∙ none)

pub head_none : (ls : List Line) (i : ℕ) → length ls ≤ i → length (head_of (drop i ls)) ≡ 0
unfolding head_of
head_none ls i past = ap (λ (l : List Line). length (head_of l)) (drop_all i ls past)

-- ---- where an expectation is

expected_len : (after expected rest : List Line) → ReadsPlain after expected rest ⊎ ReadsDouble after expected rest → length expected ≤ length after
expected_len after expected rest (inl p) =
    elim p.closed [
      | inl c ↦ omega (arith, ap length c.2, length-append expected (c.0 ∷ rest))
      | inr c ↦ omega (arith, ap length c.0)
    ]
expected_len after expected rest (inr d) = omega (arith, ap length d.parts, length-append expected (rule ∷ rule ∷ d.more))

above_of : (ls : List Line) (before : List PlainBlock) (b : PlainBlock) (n : ℕ) → IsHeadLine 1 ls before b n → IsAbove ls n b
above_of ls before b n h =
    let r = h.block in
    let more = b.input ++ r.separator ∷ r.after in
    let whole : ls ≡ (h.front ++ b.lead) ++ (b.head ++ more) = h.parts ∙ ap (λ (l : List Line). h.front ++ l) r.parts ∙ sym (append_assoc h.front b.lead (b.head ++ more)) in
    let front : length (h.front ++ b.lead) ≡ length h.front + length b.lead = length-append h.front b.lead in
    let at : length (h.front ++ b.lead) ≡ n - 1 = omega (arith, h.number, front) in
    let all : length ls ≡ length (h.front ++ b.lead) + length (b.head ++ more) = ap length whole ∙ length-append (h.front ++ b.lead) (b.head ++ more) in
    let below : length (b.head ++ more) ≡ length b.head + length more = length-append b.head more in
    let input : length more ≡ length b.input + length (r.separator ∷ r.after) = length-append b.input (r.separator ∷ r.after) in
    let expected = expected_len r.after b.expected h.rest r.expected in record {
      some = omega (arith, h.number);
      head_len = ap (λ (l : List Line). length (head_of l)) (ap (λ (l : List Line). drop (n - 1) l) whole ∙ drop_at (h.front ++ b.lead) (b.head ++ more) (n - 1) at)
          ∙ ap length (head_run b.head more r.head.1).0;
      within = omega (arith, h.number, front, all, below, input);
      expected = omega (arith, front, all, below, input, expected);
    }

pub is_above : (ls : List Line) (bs : List PlainBlock) (heads : List ℕ) (k head : ℕ) (b : PlainBlock) → AreHeadLines 1 ls bs heads → slice_get heads k ≡ Some head → slice_get bs k ≡ Some b → IsAbove ls head b
is_above ls bs heads k head b h at got =
    let within : k < length bs = slice_get_within bs k b got in
    let split : bs ≡ take k bs ++ b ∷ drop (k + 1) bs = sym (take-append-drop k bs) ∙ ap (λ (l : List PlainBlock). take k bs ++ l) (drop_there bs k b got) in
    let len : length (take k bs) ≡ k = length-take-le k bs (omega (arith, within)) in
    let line : slice_index heads (length (take k bs)) ≡ head = ap (λ (i : ℕ). slice_index heads i) len ∙ get_or_from_slice_get heads k head 0 at in
    above_of ls (take k bs) b head (subst (λ (n : ℕ). IsHeadLine 1 ls (take k bs) b n) line (h.each (take k bs) (drop (k + 1) bs) b split))

-- ---- one expectation more

abbrev changed_from : ℕ → List ℕ → ℕ → List ℕ → List PlainBlock → List Line → List Line → List (List Line) → List ℕ
changed_from passed bytes above heads bs old new es =
    replaced (above - passed) bytes new
    ++ spliced_from (above + lines_below (above - passed) bytes old) (after_lines (lines_below (above - passed) bytes old) (after_lines (above - passed) bytes)) heads bs es

-- it stays
pub splice_same : (passed : ℕ) (bytes : List ℕ) (head : ℕ) (heads : List ℕ) (b : PlainBlock) (bs : List PlainBlock) (old new : List Line) (es : List (List Line)) → b.expected ≡ old → same_lines old new ≡ true
    → spliced_from passed bytes heads bs es ≡ spliced_from passed bytes (head ∷ heads) (b ∷ bs) (new ∷ es)
unfolding spliced_from
splice_same passed bytes head heads b bs old new es is same =
    sym (ap (λ (t : Bool). cond t (spliced_from passed bytes heads bs es) (changed_from passed bytes (lines_above head b) heads bs b.expected new es)) (ap (λ (e : List Line). same_lines e new) is ∙ same))

splice_other : (passed : ℕ) (bytes : List ℕ) (head : ℕ) (heads : List ℕ) (b : PlainBlock) (bs : List PlainBlock) (new : List Line) (es : List (List Line)) → same_lines b.expected new ≡ false
    → changed_from passed bytes (lines_above head b) heads bs b.expected new es ≡ spliced_from passed bytes (head ∷ heads) (b ∷ bs) (new ∷ es)
unfolding spliced_from
splice_other passed bytes head heads b bs new es other =
    sym (ap (λ (t : Bool). cond t (spliced_from passed bytes heads bs es) (changed_from passed bytes (lines_above head b) heads bs b.expected new es)) other)

-- it changes
pub splice_changed : (made next : List ℕ) (passed then : ℕ) (bytes rest : List ℕ) (above head : ℕ) (heads : List ℕ) (b : PlainBlock) (bs : List PlainBlock) (old new : List Line) (es : List (List Line))
    → b.expected ≡ old → lines_above head b ≡ above → same_lines old new ≡ false → next ≡ made ++ replaced (above - passed) bytes new
    → rest ≡ after_lines (lines_below (above - passed) bytes old) (after_lines (above - passed) bytes) → then ≡ above + lines_below (above - passed) bytes old
    → next ++ spliced_from then rest heads bs es ≡ made ++ spliced_from passed bytes (head ∷ heads) (b ∷ bs) (new ∷ es)
splice_changed made next passed then bytes rest above head heads b bs old new es is lines other made_is rest_is then_is =
    let behind : spliced_from then rest heads bs es ≡ spliced_from (above + lines_below (above - passed) bytes old) (after_lines (lines_below (above - passed) bytes old) (after_lines (above - passed) bytes)) heads bs es
    = ap₂ (λ (k : ℕ) (l : List ℕ). spliced_from k l heads bs es) then_is rest_is in
    let one : changed_from passed bytes above heads bs old new es ≡ changed_from passed bytes (lines_above head b) heads bs b.expected new es
    = ap₂ (λ (k : ℕ) (e : List Line). changed_from passed bytes k heads bs e new es) (sym lines) (sym is) in
    ap₂ (λ (x y : List ℕ). x ++ y) made_is behind
    ∙ append_assoc made (replaced (above - passed) bytes new) _
    ∙ ap (λ (l : List ℕ). made ++ l) (one ∙ splice_other passed bytes head heads b bs new es (ap (λ (e : List Line). same_lines e new) is ∙ other))

-- ---- all

pub splice_there : (passed : ℕ) (bytes heads : List ℕ) (bs : List PlainBlock) (es : List (List Line)) (i head : ℕ) (b : PlainBlock) (e : List Line) → slice_get heads i ≡ Some head → slice_get bs i ≡ Some b → slice_get es i ≡ Some e
    → spliced_from passed bytes (head ∷ drop (i + 1) heads) (b ∷ drop (i + 1) bs) (e ∷ drop (i + 1) es) ≡ spliced_from passed bytes (drop i heads) (drop i bs) (drop i es)
splice_there passed bytes heads bs es i head b e line block expected =
    ap (λ (l : List ℕ). spliced_from passed bytes l (b ∷ drop (i + 1) bs) (e ∷ drop (i + 1) es)) (sym (drop_there heads i head line))
    ∙ ap₂ (λ (x : List PlainBlock) (y : List (List Line)). spliced_from passed bytes (drop i heads) x y) (sym (drop_there bs i b block)) (sym (drop_there es i e expected))

-- there is none left
pub splice_end : (made bytes heads all : List ℕ) (passed : ℕ) (bs : List PlainBlock) (es : List (List Line)) (i : ℕ) → length heads ≤ i → made ++ spliced_from passed bytes (drop i heads) bs es ≡ all → made ++ bytes ≡ all
unfolding spliced_from
splice_end made bytes heads all passed bs es i past so_far =
    sym (ap (λ (l : List ℕ). made ++ spliced_from passed bytes l bs es) (drop_all i heads past)) ∙ so_far

-- ---- the text that is written

-- the one of two texts
pub chosen_is : (own canonical made : List ℕ) (s : PlainScript) (t : Bool) → (t ≡ true → Reads own s) → (Reads own s → t ≡ true) → canonical ≡ text s → IsScript s → made ≡ cond t own canonical → Reads made s × IsWritten own s made
chosen_is own canonical made s true reads holds is valid chosen =
    let own_reads : Reads own s = reads refl in (subst (λ (l : List ℕ). Reads l s) (sym chosen) own_reads, (λ r. chosen, λ none. absurd (none own_reads)))
chosen_is own canonical made s false reads holds is valid chosen = (
  subst (λ (l : List ℕ). Reads l s) (sym (chosen ∙ is)) (text_reads s valid),
  (λ r. let never : false ≡ true = holds r in absurd cc, λ none. chosen ∙ is),
)

pub written_same : (own other made : List ℕ) (s t : PlainScript) → own ≡ other → s ≡ t → IsWritten own s made → IsWritten other t made
written_same own other made s t own_is script_is written =
    subst (λ (x : PlainScript). IsWritten other x made) script_is (subst (λ (l : List ℕ). IsWritten l s made) own_is written)
