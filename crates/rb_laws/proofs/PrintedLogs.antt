-- What `raft-log` prints of two nodes agrees as far as both have applied
use Rattle.std.proofs.Common.{◌≡◌, ℕ, zero, suc, ◌+◌, ◌-◌, ◌<◌, ◌≤◌, Bool, true, false, nat_le, nat_lt, List, [], ◌∷◌, ◌++◌, append-nil, length, take, Option, Some, None, Result, Ok, refl, sym, ap, subst, ◌∙◌, arith, inl, inr}
use Rattle.std.specs.Prelude.{Contains, slice_get}
use Rattle.std.specs.List.{flat_map}
use Rattle.std.specs.Option.{unwrap_or, option_or}
use Rattle.std.proofs.lemmas.Bool.{cases_Bool, and_from, cond-true, le-leb, ltb-true}
use Rattle.std.proofs.lemmas.List.Elements.{Contains-append_left, Contains-append_right}
use Rattle.std.proofs.lemmas.Option.{none-some, same_Some, slice_get_within}
use Rattle.rb_script.specs.Directive.{PlainDirective}
use Rattle.rb_script.specs.Lines.{Line}
use Rattle.rb_script.specs.Script.{PlainScript}
use Rattle.rb_vocab.specs.declared.directive_error.DirectiveError.{DirectiveError}
use Rattle.rb_vocab.specs.declared.directive_error.DirectiveError.TheVariants as errors
use Rattle.rb_vocab.specs.declared.level.Level.{Level}
use Rattle.rb_vocab.specs.declared.level.Level.TheVariants as levels
use Rattle.rb_vocab.specs.Levels.{rank}
use Rattle.rb_directive.specs.declared.requests.Request.{Request}
use Rattle.rb_directive.specs.declared.requests.Request.TheVariants as requests
use Rattle.rb_directive.specs.declared.build.Asked.{Asked}
use Rattle.rb_directive.specs.Requests.{request}
use Rattle.rb_raftlog.proofs.TermLaws.{entry_past}
use Rattle.rb_raftlog.specs.declared.entry.Entry.{Entry}
use Rattle.rb_raftlog.specs.Log.{entry_at, found}
use Rattle.rb_texts.specs.Entries.{entry_text}
use Rattle.rb_texts.specs.Items.{PlainItem}
use Rattle.rb_texts.specs.Items as items
use Rattle.rb_texts.specs.Texts.{item_text, line_of, unsaved_text}
use Rattle.rb_node.specs.Node.{PlainNode}
use Rattle.rb_machine.specs.Cluster.{Cluster, empty, is_node, node_at}
use Rattle.rb_machine.specs.Entries.{entry_items}
use Rattle.rb_machine.specs.Observations.{items_of}
use Rattle.rb_machine.specs.Outcome.{absent, fault, effect, unless_refused, execution_of, execution, outcome, printed, or_ok, lines_at}
use Rattle.rb_machine.specs.Views.{held_item, log_line, log_items, log_shown_by}
use Rattle.rb_replay.specs.Run.{directives, led, answers, state}
use Rattle.rb_laws.specs.Clusters.{HasSameStarts}
use Rattle.rb_laws.specs.Printing.{PrintsLog}
use Rattle.rb_calls.specs.Sound.{IsSound}
use Rattle.rb_laws.proofs.ClusterHistory.{both_points, cluster_applied_same}
use Rattle.rb_laws.proofs.Links.{entry_there}
use Rattle.rb_calls.proofs.ListLaws.{some_at, in_first, in_rest, first_or_rest}

-- ---- lines of items

level_shows : (level : Level) → (level ≡ levels.None → ⊥) → nat_le (rank level) (rank levels.Fatal) ≡ true
level_shows levels.Debug some = refl
level_shows levels.Info some = refl
level_shows levels.Warn some = refl
level_shows levels.Error some = refl
level_shows levels.Fatal some = refl
level_shows levels.None some = absurd (some refl)

line_in : (level : Level) (list : List PlainItem) (item : PlainItem) (line : Line) → Contains list item → line_of level item ≡ line ∷ [] → Contains (flat_map (line_of level) list) line
line_in level [] item line among is = absurd (let low : among.0 < 0 = among.1 in omega (arith, low))
line_in level (x ∷ xs) item line among is =
    elim (first_or_rest x xs item among) as (λ _. Contains (line_of level x ++ flat_map (line_of level) xs) line) [
      | inl here ↦ Contains-append_left (line_of level x) (flat_map (line_of level) xs) line (subst (λ (ls : List Line). Contains ls line) (sym (ap (line_of level) here ∙ is)) (in_first line []))
      | inr there ↦ Contains-append_right (line_of level x) (flat_map (line_of level) xs) line (line_in level xs item line there is)
    ]

not_just_ok : (level : Level) (ls : List Line) (line : Line) → Contains ls line → Contains (or_ok level ls) line
not_just_ok level [] line among = absurd (let low : among.0 < 0 = among.1 in omega (arith, low))
not_just_ok level (l ∷ ls) line among = among

entry_in : (item : ℕ → Entry → PlainItem) (low k : ℕ) (es : List Entry) (e : Entry) → slice_get es k ≡ Some e → Contains (entry_items item low es) (item (low + k) e)
entry_in item low k [] e at = absurd (none-some e at)
entry_in item low zero (x ∷ es) e at =
    let here : low + zero ≡ low = omega arith in
    subst (λ (y : Entry). Contains (entry_items item low (x ∷ es)) (item (low + zero) y)) (same_Some x e at)
    (subst (λ (i : ℕ). Contains (entry_items item low (x ∷ es)) (item i x)) (sym here) (in_first (item low x) (entry_items item (low + 1) es)))
entry_in item low (suc k) (x ∷ es) e at =
    let next : low + 1 + k ≡ low + suc k = omega arith in
    in_rest (item low x) (entry_items item (low + 1) es) (item (low + suc k) e)
    (subst (λ (i : ℕ). Contains (entry_items item (low + 1) es) (item i e)) next (entry_in item (low + 1) k es e at))

entry_line : (level : Level) (i durable : ℕ) (e : Entry) → i ≤ durable → (level ≡ levels.None → ⊥) → line_of level (held_item durable i e) ≡ entry_text i e ∷ []
unfolding item_text
entry_line level i durable e saved some =
    let unmarked : nat_lt durable i ≡ false = elim (cases_Bool (nat_lt durable i)) as (λ _. nat_lt durable i ≡ false) [ inl over ↦ absurd (let past = ltb-true durable i over in omega (arith, past, saved)) | inr under ↦ under ] in
    cond-true (nat_le (rank level) (rank levels.Fatal)) (item_text (held_item durable i e) ∷ []) [] (level_shows level some)
    ∙ ap (λ (b : Bool). (entry_text i e ++ unsaved_text b) ∷ []) unmarked ∙ ap (λ (text : Line). text ∷ []) (append-nil (entry_text i e))

-- ---- what `raft-log` prints

-- a node's log at an index that it has applied
held_entry : (n : PlainNode) (i : ℕ) → IsSound n → n.log.base < i → i ≤ n.applied → (e : Entry) × (entry_at n.log i ≡ Ok e)
held_entry n i s above low =
    let durable = s.is_durable in
    let within = s.within in
    let k = i - n.log.base - 1 in
    let place : i ≡ n.log.base + 1 + k = omega (arith, above) in
    let x = some_at n.log.entries k (omega (arith, above, low, durable, within)) in
    (x.0, ap (entry_at n.log) place ∙ entry_past n.log k ∙ ap found x.1)

log_has_line : (level : Level) (n : PlainNode) (i : ℕ) (e : Entry) → IsSound n → i ≤ n.applied → entry_at n.log i ≡ Ok e → (level ≡ levels.None → ⊥) → Contains (lines_at level (log_items n ++ [])) (entry_text i e)
unfolding log_items
log_has_line level n i e s low held some =
    let durable = s.is_durable in
    let x = entry_there n.log i e held in
    let item = held_item n.log.durable in
    let base = n.log.base + 1 in
    let among : Contains (entry_items item base n.log.entries) (item i e) = subst (λ (j : ℕ). Contains (entry_items item base n.log.entries) (item j e)) (sym x.1) (entry_in item base x.0 n.log.entries e x.2) in
    let list = items.raft_log (log_line n) ∷ entry_items item base n.log.entries in
    let all : Contains (list ++ []) (item i e) = Contains-append_left list [] (item i e) (in_rest (items.raft_log (log_line n)) (entry_items item base n.log.entries) (item i e) among) in
    not_just_ok level (flat_map (line_of level) (list ++ [])) (entry_text i e) (line_in level (list ++ []) (item i e) (entry_text i e) all (entry_line level i n.log.durable e (omega (arith, low, durable)) some))

present : (nodes : List PlainNode) (id : ℕ) (n : PlainNode) → 0 < id → slice_get nodes (id - 1) ≡ Some n → absent nodes id ≡ None
present nodes id n some at =
    let within = slice_get_within nodes (id - 1) n at in
    let there : is_node nodes id ≡ true = and_from (nat_le 1 id) (nat_le id (length nodes)) (le-leb 1 id (omega (arith, some))) (le-leb id (length nodes) (omega (arith, within, some))) in
    cond-true (is_node nodes id) None (Some (errors.NoSuchNode id)) there

-- the lines of the effect of a request, where it isn't refused
abbrev Prints : Asked → Cluster → Line → Type 0
Prints a c line = Contains (lines_at (unwrap_or a.log_level c.level) (items_of (effect a.request c).observed)) line

unrefused_prints : (o : Option DirectiveError) (a : Asked) (c : Cluster) (line : Line) → o ≡ None → Prints a c line → Contains (printed (unless_refused o a c)).output line
unrefused_prints None a c line is h = h
unrefused_prints (Some e) a c line is h = absurd (none-some e (sym is))

no_fault : (r : Request) (c : Cluster) (id : ℕ) → r ≡ requests.RaftLog id → absent c.nodes id ≡ None → fault r c ≡ None
unfolding fault
no_fault r c id is there = subst (λ (q : Request). fault q c ≡ None) (sym is) (ap (λ (o : Option DirectiveError). option_or o None) there)

effect_prints : (a : Asked) (c : Cluster) (id : ℕ) (n : PlainNode) (line : Line) → a.request ≡ requests.RaftLog id → node_at c id ≡ Some n → Contains (lines_at (unwrap_or a.log_level c.level) (log_items n ++ [])) line → Prints a c line
effect_prints a c id n line is at h =
    let level = unwrap_or a.log_level c.level in
    subst (λ (q : Request). Contains (lines_at level (items_of (effect q c).observed)) line) (sym is)
    (subst (λ (o : Option PlainNode). Contains (lines_at level (items_of (log_shown_by o c).observed)) line) (sym at) h)

outcome_prints : (a : Asked) (c : Cluster) (d : PlainDirective) (line : Line) → request d ≡ Ok a → fault a.request c ≡ None → Prints a c line → Contains (outcome c d).output line
unfolding outcome execution
outcome_prints a c d line asks none h =
    subst (λ (r : Result Asked DirectiveError). Contains (printed (execution_of r c)).output line) (sym asks) (unrefused_prints (fault a.request c) a c line none h)

-- ---- the output at a point

answer_at : (c : Cluster) (ds : List PlainDirective) (p : ℕ) (d : PlainDirective) → slice_get ds p ≡ Some d → slice_get (answers c ds) p ≡ Some (outcome (led c (take p ds)) d).output
answer_at c [] p d at = absurd (none-some d at)
answer_at c (x ∷ ds) zero d at = ap (λ (y : PlainDirective). Some (outcome c y).output) (same_Some x d at)
answer_at c (x ∷ ds) (suc p) d at = answer_at (outcome c x).cluster ds p d at

log_prints : (s : PlainScript) (p i : ℕ) (n : PlainNode) (lines : List Line) (e : Entry) → IsSound n → PrintsLog s p n lines → i ≤ n.applied → entry_at n.log i ≡ Ok e → Contains lines (entry_text i e)
log_prints s p i n lines e sound x low held =
    let c = state s p in
    let a = x.asked in
    let out : (outcome c x.directive).output ≡ lines = same_Some (outcome c x.directive).output lines (sym (answer_at empty (directives s) p x.directive x.at) ∙ x.prints) in
    let none = no_fault a.request c x.id x.is (present c.nodes x.id n x.some x.node) in
    subst (λ (ls : List Line). Contains ls (entry_text i e)) out
    (outcome_prints a c x.directive (entry_text i e) x.asks none (effect_prints a c x.id n (entry_text i e) x.is x.node (log_has_line (unwrap_or a.log_level c.level) n i e sound low held x.shown)))

pub same_lines : (s : PlainScript) (p q i : ℕ) (n m : PlainNode) (first second : List Line) → HasSameStarts s → PrintsLog s p n first → PrintsLog s q m second → i ≤ n.applied → i ≤ m.applied → n.log.base < i → m.log.base < i
    → (e : Entry) × Contains first (entry_text i e) × Contains second (entry_text i e)
same_lines s p q i n m first second h x y low_n low_m above_n above_m =
    let both = both_points s p q (x.id - 1) (y.id - 1) n m h x.node y.node in
    let held = held_entry n i both.sound_earlier above_n low_n in
    let same = cluster_applied_same s p q (x.id - 1) (y.id - 1) i n m h x.node y.node low_n low_m above_n above_m in
    (held.0, log_prints s p i n first held.0 both.sound_earlier x low_n held.1, log_prints s q i m second held.0 both.sound_later y low_m (sym same ∙ held.1))
