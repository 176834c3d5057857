-- The first few of some entries, as a text.
use Rattle.std.proofs.Common.{◌≡◌, ℕ, zero, suc, ◌+◌, ◌-◌, ◌<◌, ◌≤◌, List, [], ◌++◌, length, drop, get_or, codes, refl, ap, sym, ◌∙◌, append_assoc, append-nil, min, inl, inr, arith, length-drop}
use Rattle.std.proofs.lemmas.List.{drop_more, drop_all}
use Rattle.std.proofs.lemmas.Bool.{cases_lt}
use Rattle.rb_raftlog.specs.declared.entry.Entry.{Entry}
use Rattle.rb_texts.specs.Entries.{entry_text}
use Rattle.rb_texts.specs.Reasons.{few_entries_text}

-- the text of what is left has one entry more, and what is left then
few_next : (n k : ℕ) (before : List ℕ) (last : ℕ) (es : List Entry) (d : Entry) → k < n → k < length es
    → few_entries_text (n - k) before last (drop k es) ≡ before ++ entry_text (last - (length es - 1 - k)) (get_or es k d) ++ few_entries_text (n - (k + 1)) (codes ", ") last (drop (k + 1) es)
few_next n k before last es d low within =
    let one : n - k ≡ suc (n - (k + 1)) = omega (arith, low) in
    let size : length (drop (k + 1) es) ≡ length es - 1 - k = length-drop (k + 1) es ∙ omega arith in
    ap (λ (m : ℕ). few_entries_text m before last (drop k es)) one
    ∙ ap (λ (l : List Entry). few_entries_text (suc (n - (k + 1))) before last l) (drop_more es k d within)
    ∙ ap (λ (m : ℕ). before ++ entry_text (last - m) (get_or es k d) ++ few_entries_text (n - (k + 1)) (codes ", ") last (drop (k + 1) es)) size

-- one entry more joins the line: it is x, and has index i
pub few_more : (n k : ℕ) (before : List ℕ) (last : ℕ) (es : List Entry) (x : Entry) (i : ℕ) (line with_before with_entry whole : List ℕ) → k < n → k < length es
    → x ≡ get_or es k x → i ≡ last - (length es - 1 - k)
    → line ++ few_entries_text (n - k) before last (drop k es) ≡ whole → with_before ≡ line ++ before → with_entry ≡ with_before ++ entry_text i x
    → with_entry ++ few_entries_text (n - (k + 1)) (codes ", ") last (drop (k + 1) es) ≡ whole
few_more n k before last es x i line with_before with_entry whole low within is at so_far first second =
    let text = entry_text i x in
    let named : text ≡ entry_text (last - (length es - 1 - k)) (get_or es k x) =
    ap (λ (m : ℕ). entry_text m x) at ∙ ap (λ (e : Entry). entry_text (last - (length es - 1 - k)) e) is in
    let rest = few_entries_text (n - (k + 1)) (codes ", ") last (drop (k + 1) es) in
    let joined : with_entry ≡ line ++ (before ++ text) = second ∙ ap (λ (l : List ℕ). l ++ text) first ∙ append_assoc line before text in
    ap (λ (l : List ℕ). l ++ rest) joined ∙ append_assoc line (before ++ text) rest
    ∙ ap (λ (l : List ℕ). line ++ (before ++ l ++ rest)) named
    ∙ ap (λ (l : List ℕ). line ++ l) (sym (few_next n k before last es x low within)) ∙ so_far

-- no entries have no text
few_none : (n : ℕ) (before : List ℕ) (last : ℕ) → few_entries_text n before last [] ≡ []
few_none zero before last = refl
few_none (suc n) before last = refl

-- nothing is left after as many as are shown, or after all
few_left : (n k : ℕ) (before : List ℕ) (last : ℕ) (es : List Entry) → min (length es) n ≤ k → few_entries_text (n - k) before last (drop k es) ≡ []
few_left n k before last es done =
    elim (cases_lt k n) as (λ _. few_entries_text (n - k) before last (drop k es) ≡ []) [
      | inl low ↦
          ap (λ (l : List Entry). few_entries_text (n - k) before last l) (drop_all k es (omega (arith, low, done)))
          ∙ few_none (n - k) before last
      | inr high ↦ let none : n - k ≡ 0 = omega (arith, high) in ap (λ (m : ℕ). few_entries_text m before last (drop k es)) none
    ]

pub few_done : (n k : ℕ) (before : List ℕ) (last : ℕ) (es : List Entry) (line whole : List ℕ) → min (length es) n ≤ k
    → line ++ few_entries_text (n - k) before last (drop k es) ≡ whole → line ≡ whole
few_done n k before last es line whole done so_far =
    sym (append-nil line) ∙ ap (λ (l : List ℕ). line ++ l) (sym (few_left n k before last es done)) ∙ so_far
