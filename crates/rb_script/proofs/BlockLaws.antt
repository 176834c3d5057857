-- One block: what is read is in the relation, and what is in the relation is read.
use Rattle.std.proofs.Common.{◌≡◌, ℕ, ◌+◌, ◌<◌, true, false, cond, not, List, [], ◌∷◌, ◌++◌, length, Some, None, Result, Ok, Err, refl, ap, sym, subst, ◌∙◌, arith, inl, inr}
use Rattle.std.specs.List.{list_all}
use Rattle.std.proofs.lemmas.Bool.{cases_Bool, not-false}
use Rattle.rb_script.specs.declared.fault.ScriptFault.{ScriptFault}
use Rattle.rb_script.specs.declared.fault.ScriptFault.TheVariants as faults
use Rattle.rb_script.specs.Lines.{Line}
use Rattle.rb_script.specs.Marks.{is_lead, is_separator, is_input, continues}
use Rattle.rb_script.specs.Script.{PlainBlock}
use Rattle.rb_script.specs.Joined.{joined}
use Rattle.rb_script.specs.Directive.{PlainArgument}
use Rattle.rb_script.specs.Limits.{are_few}
use Rattle.rb_script.specs.Reads.{begins_lead, IsContinued, IsDirective, ReadsBlock}
use Rattle.rb_script.specs.Results.{◌>>=◌, Fails}
use Rattle.rb_script.specs.Runs.{while_of, after_while, head_of, after_head}
use Rattle.rb_script.specs.Heads.{HeadThere, head_at, few_or}
use Rattle.rb_script.specs.Expectations.{Expectation, expectation_at}
use Rattle.rb_script.specs.Blocks.{closed_or, after_separator, line_number, lead_of, from_head, is_empty, below_head, block_at}
use Rattle.rb_script.proofs.GrammarLaws.{head_sound, head_complete}
use Rattle.rb_script.proofs.ResultLaws.{bind_ok, done, ok_is, fails_through}
use Rattle.rb_script.proofs.RunLaws.{run_parts, run_all, after_first, run_of, after_run, head-append-after, head_continued, head_run}
use Rattle.rb_script.proofs.ExpectationLaws.{Expects, expectation_sound, expectation_complete}

-- ---- directives

-- a head that was taken is there, and its arguments are few enough
pub few_is : (n : ℕ) (there : HeadThere) (x : List ℕ × List PlainArgument) → few_or n there ≡ Ok x → (there ≡ Some x) × (are_few x.1 ≡ true)
few_is n None x e = absurd cc
few_is n (Some y) x e =
    elim (cases_Bool (are_few y.1)) [
      | inl t ↦ let same = ok_is y x (sym (ap (λ b. cond b (done y) (Err (faults.TooManyArguments n))) t) ∙ e) in (ap (λ (p : List ℕ × List PlainArgument). Some p) same, ap (λ (p : List ℕ × List PlainArgument). are_few p.1) (sym same) ∙ t)
      | inr f ↦ let no : Err (faults.TooManyArguments n) ≡ done x = sym (ap (λ b. cond b (done y) (Err (faults.TooManyArguments n))) f) ∙ e in absurd cc
    ]

-- a head that is read is a directive
pub directive_sound : (n : ℕ) (head : List Line) (x : List ℕ × List PlainArgument) → few_or n (head_at (joined head)) ≡ Ok x → IsDirective head
directive_sound n head x e =
    let found = few_is n (head_at (joined head)) x e in
    record { name = x.0; args = x.1; derives = head_sound (joined head) x.0 x.1 found.0; few = found.1 }

-- a directive is read
directive_complete : (n : ℕ) (head : List Line) (d : IsDirective head) → few_or n (head_at (joined head)) ≡ Ok (d.name, d.args)
directive_complete n head d =
    ap (few_or n) (head_complete (joined head) d.name d.args d.derives) ∙ ap (λ b. cond b (done (d.name, d.args)) (Err (faults.TooManyArguments n))) d.few

-- a head begins as the lines do
begins_head : (ls : List Line) → begins_lead (head_of ls) ≡ begins_lead ls
unfolding head_of
begins_head [] = refl
begins_head (line ∷ ls) = elim (continues line) as (λ t. begins_lead (cond t (line ∷ head_of ls) (line ∷ [])) ≡ is_lead line) [ true ↦ refl | false ↦ refl ]

-- a head before a separator asks for no more
continued : (ls a : List Line) (line : Line) (after : List Line) → after_head ls ≡ a ++ line ∷ after → IsContinued (head_of ls)
continued ls [] line after e = head_continued ls line after e
continued ls (first ∷ a) line after e = head_continued ls first (a ++ line ∷ after) e

-- the input and what was found of the expectation
abbrev pub gathered : List Line → List Line × List Line → Result (List Line × List Line × List Line) ScriptFault
gathered input found = Ok (input, found.0, found.1)

-- the block of a lead, a head and what was read below it
abbrev pub completed : List Line → List Line → List Line × List Line × List Line → Result (PlainBlock × List Line) ScriptFault
completed lead head below = Ok (record { lead = lead; head = head; input = below.0; expected = below.1 }, below.2)

-- ---- the steps of reading a block, whose head begins at line n

-- the number of the first of these lines
pub number_is : (n end : ℕ) (ls : List Line) → n + length ls ≡ end → n ≡ line_number end ls
number_is n end ls e = omega arith

-- a head that is no lead line has a line
pub head_some : (ls head : List Line) → head ≡ head_of ls → begins_lead ls ≡ false → 0 < length head
unfolding head_of
head_some [] head run first = absurd cc
head_some (line ∷ ls) head run first =
    rw run (elim (continues line) as (λ t. 0 < length (cond t (line ∷ head_of ls) (line ∷ []))) [ true ↦ omega arith | false ↦ omega arith ])

module _ (end n : ℕ) (lead ls head after : List Line) (at : n ≡ line_number end ls) (run : head ≡ head_of ls) (rest : after ≡ after_head ls) where
  -- the head is read, and then what stands below it
  pub steps : block_at end lead ls ≡ (few_or n (head_at (joined head)) >>= λ _. below_head end n after >>= completed lead head)
  unfolding block_at
  steps =
      let of : ℕ → List Line → List Line → Result (PlainBlock × List Line) ScriptFault =
      λ k hd af. few_or k (head_at (joined hd)) >>= λ _. below_head end k af >>= completed lead hd in
      ap (λ (k : ℕ). of k (head_of ls) (after_head ls)) (sym at) ∙ ap (λ (hd : List Line). of n hd (after_head ls)) (sym run) ∙ ap (λ (af : List Line). of n head af) (sym rest)

  behind : (there : Result (List ℕ × List PlainArgument) ScriptFault) → few_or n (head_at (joined head)) ≡ there → block_at end lead ls ≡ (there >>= λ _. below_head end n after >>= completed lead head)
  behind there e = steps ∙ ap (λ (found : Result (List ℕ × List PlainArgument) ScriptFault). found >>= λ _. below_head end n after >>= completed lead head) e

  -- a head that can't be read is the fault
  pub head_fails : (e : ScriptFault) → Fails e (few_or n (head_at (joined head))) → Fails e (block_at end lead ls)
  head_fails e h = fails_through e (few_or n (head_at (joined head))) (block_at end lead ls) h (λ f. behind (Err e) f)

  module _ (x : List ℕ × List PlainArgument) (found : few_or n (head_at (joined head)) ≡ Ok x) where
    -- what is read below the head makes the block
    pub block_below : (r : Result (List Line × List Line × List Line) ScriptFault) → below_head end n after ≡ r → block_at end lead ls ≡ (r >>= completed lead head)
    block_below r e = behind (Ok x) found ∙ ap (λ (below : Result (List Line × List Line × List Line) ScriptFault). below >>= completed lead head) e

module _ (end n : ℕ) (ls onwards : List Line) (e : onwards ≡ after_while is_input ls) where
  -- no line ---- follows
  pub below_none : onwards ≡ [] → below_head end n ls ≡ Err (faults.NoSeparator n)
  unfolding below_head
  below_none none =
      ap (λ (on : List Line). after_separator (faults.NoSeparator n) on >>= λ after. closed_or (faults.NotClosed (line_number end (after_while is_input ls))) (expectation_at after) >>= gathered (while_of is_input ls)) (sym e ∙ none)

  -- what follows the separator decides
  below_first : (more : List Line) (line : Line) → onwards ≡ line ∷ more → below_head end n ls ≡ (closed_or (faults.NotClosed (line_number end onwards)) (expectation_at more) >>= gathered (while_of is_input ls))
  unfolding below_head
  below_first more line first =
      let of : List Line → List Line → Result (List Line × List Line × List Line) ScriptFault =
      λ on numbered. after_separator (faults.NoSeparator n) on >>= λ after. closed_or (faults.NotClosed (line_number end numbered)) (expectation_at after) >>= gathered (while_of is_input ls) in
      ap (λ (on : List Line). of on (after_while is_input ls)) (sym e ∙ first) ∙ ap (λ (numbered : List Line). of (line ∷ more) numbered) (sym e)

  -- the expectation behind line m is closed, or it isn't
  pub below_closed : (m : ℕ) (more : List Line) (line : Line) (found : Result (List Line × List Line) ScriptFault) → m ≡ line_number end onwards → onwards ≡ line ∷ more
      → closed_or (faults.NotClosed m) (expectation_at more) ≡ found → below_head end n ls ≡ (found >>= gathered (while_of is_input ls))
  below_closed m more line found is first closed =
      below_first more line first
      ∙ ap (λ (r : Result (List Line × List Line) ScriptFault). r >>= gathered (while_of is_input ls)) (ap (λ (k : ℕ). closed_or (faults.NotClosed k) (expectation_at more)) (sym is) ∙ closed)

-- ---- a block that is read is in the relation

-- a separator was there
pub after_is : (fault : ScriptFault) (ls after : List Line) → after_separator fault ls ≡ Ok after → (line : Line) × (ls ≡ line ∷ after)
after_is fault [] after e = absurd cc
after_is fault (line ∷ ls) after e = (line, ap (λ (l : List Line). line ∷ l) (ok_is ls after e))

-- an expectation was closed
closed_is : (fault : ScriptFault) (found : Expectation) (x : List Line × List Line) → closed_or fault found ≡ Ok x → found ≡ Some x
closed_is fault None x e = absurd cc
closed_is fault (Some y) x e = ap (λ (p : List Line × List Line). Some p) (ok_is y x e)

-- what stands below a head: an input, a separator and an expectation
record Below (ls input expected rest : List Line) : Type 0 where
  separator : Line
  after : List Line
  parts : ls ≡ input ++ separator ∷ after
  inputs : list_all is_input input ≡ true
  separates : is_separator separator ≡ true
  expects : Expects after expected rest

below_sound : (end n : ℕ) (ls input expected rest : List Line) → below_head end n ls ≡ Ok (input, expected, rest) → Below ls input expected rest
unfolding below_head
below_sound end n ls input expected rest e =
    let front = while_of is_input ls in
    let onwards = after_while is_input ls in
    let unclosed = faults.NotClosed (line_number end onwards) in
    let s = bind_ok (after_separator (faults.NoSeparator n) onwards) (λ after. closed_or unclosed (expectation_at after) >>= gathered front) (input, expected, rest) e in
    let f = bind_ok (closed_or unclosed (expectation_at s.0)) (gathered front) (input, expected, rest) s.2 in
    let line = after_is (faults.NoSeparator n) onwards s.0 s.1 in
    let found : List Line × List Line × List Line = (front, f.0.0, f.0.1) in
    subst (λ (p : List Line × List Line × List Line). Below ls p.0 p.1 p.2) {x = found} (ok_is found (input, expected, rest) f.2) (record {
      separator = line.0;
      after = s.0;
      parts = sym (run_parts is_input ls) ∙ ap (λ (l : List Line). front ++ l) line.1;
      inputs = run_all is_input ls;
      separates = not-false (is_separator line.0) (after_first is_input ls line.0 s.0 line.1);
      expects = expectation_sound s.0 f.0.0 f.0.1 (closed_is unclosed (expectation_at s.0) f.0 f.1);
    })

-- a block that is read is in the relation
pub block_sound : (end : ℕ) (lead ls rest : List Line) (b : PlainBlock) → block_at end lead ls ≡ Ok (b, rest) → list_all is_lead lead ≡ true → begins_lead ls ≡ false → ReadsBlock (lead ++ ls) b rest
block_sound end lead ls rest b e leads first =
    let n = line_number end ls in
    let head = head_of ls in
    let ahead = after_head ls in
    let h = bind_ok (few_or n (head_at (joined head))) (λ _. below_head end n ahead >>= completed lead head) (b, rest) (sym (steps end n lead ls head ahead refl refl refl) ∙ e) in
    let s = bind_ok (below_head end n ahead) (completed lead head) (b, rest) h.2 in
    let x = below_sound end n ahead s.0.0 s.0.1 s.0.2 s.1 in
    let found : PlainBlock × List Line = (record { lead = lead; head = head; input = s.0.0; expected = s.0.1 }, s.0.2) in
    subst (λ (p : PlainBlock × List Line). ReadsBlock (lead ++ ls) p.0 p.1) {x = found} (ok_is found (b, rest) s.2) (record {
      separator = x.separator;
      after = x.after;
      parts = ap (λ (l : List Line). lead ++ l) (sym (head-append-after ls) ∙ ap (λ (l : List Line). head ++ l) x.parts);
      lead = leads;
      head = (begins_head ls ∙ first, continued ls s.0.0 x.separator x.after x.parts);
      directive = directive_sound n head h.0 h.1;
      input = x.inputs;
      separates = x.separates;
      readable = x.expects.readable;
      expected = x.expects.expected;
    })

-- ---- a block in the relation is read

-- where the head begins
pub record Cut (ls lead from : List Line) : Type 0 where
  pub lead_is : lead_of ls ≡ lead
  pub from_is : from_head ls ≡ from
  pub some : is_empty from ≡ false

-- the lead lines stop at the head
pub cut_lead : (ls lead head more : List Line) → ls ≡ lead ++ (head ++ more) → list_all is_lead lead ≡ true → begins_lead head ≡ false → Cut ls lead (head ++ more)
cut_lead ls lead [] more e leads first = absurd cc
cut_lead ls lead (line ∷ head) more e leads first =
    record { lead_is = ap (while_of is_lead) e ∙ run_of is_lead lead (line ∷ head ++ more) leads first; from_is = ap (after_while is_lead) e ∙ after_run is_lead lead (line ∷ head ++ more) leads first; some = refl }

-- a block in the relation is read
pub block_complete : (end : ℕ) (ls rest : List Line) (b : PlainBlock) → ReadsBlock ls b rest → (is_empty (from_head ls) ≡ false) × (block_at end (lead_of ls) (from_head ls) ≡ Ok (b, rest))
block_complete end ls rest b r =
    let more = b.input ++ r.separator ∷ r.after in
    let c = cut_lead ls b.lead b.head more r.parts r.lead r.head.0 in
    let head = head_run b.head more r.head.1 in
    let n = line_number end (b.head ++ more) in
    let stops = ap not r.separates in
    let input = run_of is_input b.input (r.separator ∷ r.after) r.input stops in
    let onwards = after_run is_input b.input (r.separator ∷ r.after) r.input stops in
    let expected = ap (closed_or (faults.NotClosed (line_number end (r.separator ∷ r.after)))) (expectation_complete r.after b.expected rest r.readable r.expected) in
    let below = below_closed end n more (r.separator ∷ r.after) (sym onwards) _ r.after r.separator (Ok (b.expected, rest)) refl refl expected ∙ ap (λ (i : List Line). Ok (i, b.expected, rest)) input in (
      ap is_empty c.from_is ∙ c.some,
      ap (λ (l : List Line). block_at end l (from_head ls)) c.lead_is ∙ ap (λ (l : List Line). block_at end b.lead l) c.from_is
          ∙ block_below end n b.lead (b.head ++ more) b.head more refl (sym head.0) (sym head.1) (r.directive.name, r.directive.args) (directive_complete n b.head r.directive) (Ok (b.input, b.expected, rest)) below,
    )
