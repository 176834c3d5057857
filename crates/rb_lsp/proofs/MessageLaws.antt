-- Messages at the front of bytes.
use Rattle.std.proofs.Common.{◌≡◌, ℕ, ◌+◌, ◌-◌, ◌<◌, ◌≤◌, List, ◌++◌, Option, Some, None, length, map, take, drop, arith, sym, ap, subst, ◌∙◌, append_assoc, append-nil, []}
use Rattle.std.specs.List.{slice_range}
use Rattle.std.proofs.lemmas.List.{take-append-drop, take-append-le, length-take-le, length-drop, length-append, drop-drop}
use Rattle.std.proofs.Math.Seq.{take-append_seam, drop-append_seam}
use Rattle.httparse.specs.Grammar.{Field, ReadsSection, print_section, HasNoSection}
use Rattle.httparse.specs.Spans.{name_and_value}
use Rattle.httparse.proofs.GrammarLemmas.{section_unique, ReadsSection-append}
use Rattle.rb_lsp.specs.declared.rpc.limits.TheConstants.{MAX_HEAD, MAX_BODY}
use Rattle.rb_lsp.specs.Messages.{IsMessage, HasNoMessage, NeverHasMessage, told_length}
use Rattle.rb_lsp.specs.Heads.{IsHead}

-- no head in as many bytes as a head may have, so never a message
pub long_head : (bytes : List ℕ) → HasNoSection bytes → MAX_HEAD ≤ length bytes → NeverHasMessage bytes
long_head bytes none long more body rest m =
    let head = print_section m.fields m.last in
    let fits : length head ≤ length bytes = omega (arith, m.short) in
    let front : take (length head) bytes ≡ head =
    sym (take-append-le (length head) bytes more fits) ∙ ap (take (length head)) m.section.1 ∙ take-append_seam head (body ++ rest) in
    none m.fields m.last (drop (length head) bytes) (m.section.0, sym (take-append-drop (length head) bytes) ∙ ap (λ (l : List ℕ). l ++ drop (length head) bytes) front)

-- what a message has whose head was read
pub record OfHead (bytes more body rest : List ℕ) (start : ℕ) (told : Option ℕ) : Type 0 where
  pub told_is : told ≡ Some (length body)
  pub short : start ≤ MAX_HEAD
  pub rest_is : drop start bytes ++ more ≡ body ++ rest

pub of_head : (bytes more body rest : List ℕ) (start : ℕ) (told : Option ℕ) → IsHead bytes start told → IsMessage (bytes ++ more) body rest → OfHead bytes more body rest start told
of_head bytes more body rest start told h m =
    let same = section_unique (bytes ++ more) h.fields m.fields h.last m.last (drop start bytes ++ more) (body ++ rest)
    (ReadsSection-append bytes h.fields h.last (drop start bytes) more h.section) m.section in
    let len : length (print_section h.fields h.last) ≡ length (print_section m.fields m.last) = λ i. length (print_section (same.0 i) (same.1 i)) in record {
      told_is = h.told_is ∙ ap (λ (fs : List Field). told_length (map name_and_value fs)) same.0 ∙ m.told;
      short = omega (arith, h.start_is, len, m.short);
      rest_is = same.2;
    }

-- the fields tell no length
pub no_length : (bytes : List ℕ) (start : ℕ) → IsHead bytes start None → NeverHasMessage bytes
no_length bytes start h more body rest m =
    let told = (of_head bytes more body rest start None h m).told_is in
    cc

-- the head or the body is too long
pub too_long : (bytes : List ℕ) (start n : ℕ) → IsHead bytes start (Some n) → (n ≤ MAX_BODY → MAX_HEAD < start) → NeverHasMessage bytes
too_long bytes start n h long more body rest m =
    let o = of_head bytes more body rest start (Some n) h m in
    let same : n ≡ length body = let told = o.told_is in cc in
    absurd (omega (arith, long (omega (arith, m.small)), o.short))

-- the body isn't all there
pub no_body : (bytes : List ℕ) (start n : ℕ) → IsHead bytes start (Some n) → length bytes - start < n → HasNoMessage bytes
no_body bytes start n h few body rest m =
    let o = of_head bytes [] body rest start (Some n) h (subst (λ (l : List ℕ). IsMessage l body rest) (sym (append-nil bytes)) m) in
    let same : n ≡ length body = let told = o.told_is in cc in
    let lens : length bytes - start + 0 ≡ length body + length rest = simp (length-append, length-drop) at (ap length o.rest_is) in
    omega (arith, lens, same, few)

-- a head, and a body behind it
pub a_message : (bytes : List ℕ) (start n : ℕ) → IsHead bytes start (Some n) → start ≤ MAX_HEAD → n ≤ MAX_BODY → n ≤ length bytes - start
    → IsMessage bytes (slice_range bytes start (start + n)) (drop (start + n) bytes)
a_message bytes start n h short small fits =
    let body = slice_range bytes start (start + n) in
    let is_body : body ≡ take n (drop start bytes) = ap (λ (k : ℕ). take k (drop start bytes)) (omega arith) in
    let parts : drop start bytes ≡ body ++ drop (start + n) bytes =
    sym (take-append-drop n (drop start bytes)) ∙ ap (λ (l : List ℕ). l ++ drop n (drop start bytes)) (sym is_body) ∙ ap (λ (l : List ℕ). body ++ l) (drop-drop n start bytes) in
    let len : length body ≡ n = ap length is_body ∙ length-take-le n (drop start bytes) (omega (arith, length-drop start bytes)) in record {
      fields = h.fields;
      last = h.last;
      section = subst (ReadsSection bytes h.fields h.last) parts h.section;
      told = sym h.told_is ∙ ap Some (sym len);
      few = h.few;
      short = omega (arith, h.start_is);
      small = omega (arith, len);
    }

-- what follows a message changes nothing of it
pub longer : (bytes more body rest : List ℕ) → IsMessage bytes body rest → IsMessage (bytes ++ more) body (rest ++ more)
longer bytes more body rest m = record {
  fields = m.fields;
  last = m.last;
  section = subst (ReadsSection (bytes ++ more) m.fields m.last) (append_assoc body rest more) (ReadsSection-append bytes m.fields m.last (body ++ rest) more m.section);
  told = m.told;
  few = m.few;
  short = m.short;
  small = m.small;
}

-- bytes begin with one message at most
pub one_message : (bytes a b x y : List ℕ) → IsMessage bytes a x → IsMessage bytes b y → (a ≡ b) × (x ≡ y)
one_message bytes a b x y m n =
    let same = section_unique bytes m.fields n.fields m.last n.last (a ++ x) (b ++ y) m.section n.section in
    let told : Some (length a) ≡ Some (length b) = sym m.told ∙ ap (λ (fs : List Field). told_length (map name_and_value fs)) same.0 ∙ n.told in
    let lens : length a ≡ length b = cc in (
      sym (take-append_seam a x) ∙ ap (take (length a)) same.2 ∙ ap (λ (k : ℕ). take k (b ++ y)) lens ∙ take-append_seam b y,
      sym (drop-append_seam a x) ∙ ap (drop (length a)) same.2 ∙ ap (λ (k : ℕ). drop k (b ++ y)) lens ∙ drop-append_seam b y,
    )
