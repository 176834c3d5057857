-- What is known where nothing refuses a directive, what an output is like, and what single directives leave as it was.
use Rattle.std.proofs.Common.{◌≡◌, ℕ, ◌+◌, ◌<◌, ◌≤◌, Bool, true, false, List, [], ◌∷◌, ◌++◌, length, Option, Some, None, Ok, Err, refl, ap, sym, ◌∙◌, subst, append-nil, append_assoc, arith}
use Rattle.std.specs.Prelude.{if◌then◌else◌, nat_lt, Result}
use Rattle.std.specs.List.{list_all, flat_map, range_with_len, AllByRecursion}
use Rattle.std.specs.Option.{option_or, unwrap_or}
use Rattle.std.proofs.lemmas.Bool.{and_from}
use Rattle.std.proofs.lemmas.Bool.Decides.{nat_tests}
use Rattle.std.proofs.lemmas.List.Folds.{list_all-append}
use Rattle.rb_script.specs.declared.limits.TheConstants.{MAX_LINE}
use Rattle.rb_script.specs.Lines.{Line}
use Rattle.rb_script.specs.Script.{needs_double}
use Rattle.rb_script.specs.Edits.{is_expectation}
use Rattle.rb_script.specs.Directive.{PlainDirective}
use Rattle.rb_vocab.specs.declared.level.Level.{Level}
use Rattle.rb_vocab.specs.declared.directive_error.DirectiveError.{DirectiveError}
use Rattle.rb_vocab.specs.declared.directive_error.DirectiveError.TheVariants as errors
use Rattle.rb_directive.specs.declared.requests.AddNodes.{AddNodes}
use Rattle.rb_directive.specs.declared.requests.Request.{Request}
use Rattle.rb_directive.specs.declared.requests.Request.TheVariants as requests
use Rattle.rb_directive.specs.declared.build.Asked.{Asked}
use Rattle.rb_directive.specs.declared.limits.TheConstants.{MAX_NODES}
use Rattle.rb_directive.specs.Requests.{request, IsWithin}
use Rattle.rb_raftlog.specs.declared.limits.TheConstants.{MAX_INDEX}
use Rattle.rb_raftlog.specs.declared.snapshot.Snapshot.{Snapshot}
use Rattle.rb_node.specs.declared.options.Options.{Options}
use Rattle.rb_node.specs.Node.{PlainNode}
use Rattle.rb_node.specs.Calls.{node_started}
use Rattle.rb_texts.specs.Items.{PlainItem, nothing_else}
use Rattle.rb_texts.specs.Shapes.{is_solid}
use Rattle.rb_texts.specs.Texts.{line_of}
use Rattle.rb_texts.proofs.ShownLaws.{all_solid}
use Rattle.rb_texts.proofs.PrintedLaws.{printed_expected, printed_plain}
use Rattle.rb_machine.specs.AddNodes.{add_nodes_fault, is_low, start, options, joined, added_each, nodes_added}
use Rattle.rb_machine.specs.Cluster.{Cluster}
use Rattle.rb_machine.specs.Outcome.{missing_node, own_fault, fault, refusal_of, refusal, effect, level_set, refused, unless_refused, execution_of, execution, shown_items, or_ok, lines_at, printed, outcome, is_output}
use Rattle.rb_machine.specs.Views.{log_shown_by, status_shown_by}

-- ---- where nothing refuses it

else_none : (first second : Option DirectiveError) → option_or first second ≡ None → second ≡ None
else_none None second h = h
else_none (Some e) second h = absurd (cc)

pub own_none : (r : Request) (c : Cluster) → fault r c ≡ None → own_fault r c ≡ None
unfolding fault
own_none r c h = else_none (missing_node c.nodes r) _ h

not_too_many : (many low : Bool) → (if many then Some errors.TooManyNodes else (if low then Some errors.IndexTooLow else None)) ≡ None → many ≡ false
not_too_many true low h = absurd (cc)
not_too_many false low h = refl

-- the nodes that are asked for have room
has_room : (asked : AddNodes) (nodes : List PlainNode) → add_nodes_fault asked nodes ≡ None → length nodes + asked.count ≤ MAX_NODES
unfolding add_nodes_fault
has_room asked nodes h =
    let few = not_too_many (nat_lt MAX_NODES (length nodes + asked.count)) (is_low asked.index asked) h in
    grind (arith, nat_tests)

pub room_for : (asked : AddNodes) (c : Cluster) → fault (requests.AddNodes asked) c ≡ None → length c.nodes + asked.count ≤ MAX_NODES
room_for asked c h = has_room asked c.nodes (own_none (requests.AddNodes asked) c h)

-- and their index is one that a log can have
pub index_for : (asked : AddNodes) → IsWithin (requests.AddNodes asked) → unwrap_or asked.index 0 ≤ MAX_INDEX
unfolding IsWithin
index_for asked h = omega (arith, h.index)

-- ---- what is printed

or_ok_is_output : (level : Level) (lines : List Line) → list_all is_solid lines ≡ true → is_output (or_ok level lines) ≡ true
unfolding is_output
or_ok_is_output level [] h = all_solid level nothing_else
or_ok_is_output level (line ∷ lines) h = h

lines_solid : (level : Level) (items : List PlainItem) → list_all is_solid (flat_map (line_of level) items) ≡ true
lines_solid level [] = refl
lines_solid level (i ∷ items) = list_all-append is_solid (line_of level i) (flat_map (line_of level) items)
    ∙ and_from _ _ (all_solid level i) (lines_solid level items)

-- whatever happens, a line or more is printed
pub lines_are_output : (level : Level) (items : List PlainItem) → is_output (lines_at level items) ≡ true
lines_are_output level items = or_ok_is_output level (flat_map (line_of level) items) (lines_solid level items)

-- each directive gives a line or more
pub outcome_is_output : (c : Cluster) (d : PlainDirective) → is_output (outcome c d).output ≡ true
unfolding outcome
outcome_is_output c d = lines_are_output (execution c d).level (shown_items (execution c d))

output_solid : (ls : List Line) → is_output ls ≡ true → list_all is_solid ls ≡ true
unfolding is_output
output_solid [] h = refl
output_solid (line ∷ ls) h = h

-- an output has a line
pub output_some : (ls : List Line) → is_output ls ≡ true → 0 < length ls
unfolding is_output
output_some [] h = absurd (cc)
output_some (line ∷ ls) h = omega arith

-- it stands in the plain form
pub output_plain : (ls : List Line) → is_output ls ≡ true → needs_double ls ≡ false
output_plain ls h = printed_plain ls (output_solid ls h)

-- and can be expected
pub output_expected : (ls : List Line) → is_output ls ≡ true → AllByRecursion (λ line. length line ≤ MAX_LINE) ls → is_expectation ls ≡ true
output_expected ls h short = printed_expected ls (output_solid ls h) short

-- ---- refusals

refused_by : (r : Result Asked DirectiveError) (c : Cluster) (e : DirectiveError) → refusal_of r c ≡ Some e → execution_of r c ≡ refused c e
refused_by (Err f) c e h = ap (refused c) (let same : f ≡ e = cc in same)
refused_by (Ok a) c e h = ap (λ o. unless_refused o a c) h

-- what refuses a directive is all that happens
pub refusal_is_all : (c : Cluster) (d : PlainDirective) (e : DirectiveError) → refusal d c ≡ Some e → outcome c d ≡ printed (refused c e)
unfolding refusal outcome execution
refusal_is_all c d e h = ap printed (refused_by (request d) c e h)

pub reading_refuses : (c : Cluster) (d : PlainDirective) (e : DirectiveError) → request d ≡ Err e → refusal d c ≡ Some e
unfolding refusal
reading_refuses c d e h = ap (λ r. refusal_of r c) h

-- ---- single directives

-- a fact of the cluster that a directive leaves, which holds where it is refused and of its effect
outcome_has : (P : Cluster → Type 0) (c : Cluster) (d : PlainDirective) (a : Asked) → request d ≡ Ok a → P c → P (effect a.request c).cluster → P (outcome c d).cluster
unfolding outcome execution
outcome_has P c d a is stays done_so =
    let by_fault : (e : Option DirectiveError) → P (unless_refused e a c).cluster = λ e. elim e as (λ o. P (unless_refused o a c).cluster) [ Some f ↦ stays | None ↦ done_so ] in
    subst (λ r. P (execution_of r c).cluster) (sym is) (by_fault (fault a.request c))

-- nodes join at the end
joins : (start : Snapshot) (options : Options) (c : Cluster) (ids : List ℕ)
    → (more : List PlainNode) × ((added_each start options c ids).cluster ≡ record c { nodes = c.nodes ++ more })
joins start options c [] = ([], ap (λ (nodes : List PlainNode). record c { nodes = nodes }) (sym (append-nil c.nodes)))
joins start options c (id ∷ ids) =
    let node : PlainNode = (node_started id start options []).node in
    let rest : (more : List PlainNode) × ((added_each start options c (id ∷ ids)).cluster ≡ record c { nodes = (c.nodes ++ node ∷ []) ++ more }) =
    joins start options (joined c node) ids in
    (node ∷ rest.0, rest.1 ∙ ap (λ (nodes : List PlainNode). record c { nodes = nodes }) (append_assoc c.nodes (node ∷ []) rest.0))

pub add_nodes_joins : (c : Cluster) (d : PlainDirective) (a : Asked) (r : AddNodes) → request d ≡ Ok a → a.request ≡ requests.AddNodes r
    → (more : List PlainNode) × ((outcome c d).cluster ≡ record c { nodes = c.nodes ++ more })
unfolding nodes_added
add_nodes_joins c d a r is adds =
    let P : Cluster → Type 0 = λ after. (more : List PlainNode) × (after ≡ record c { nodes = c.nodes ++ more }) in
    outcome_has P c d a is ([], ap (λ (nodes : List PlainNode). record c { nodes = nodes }) (sym (append-nil c.nodes)))
    (subst (λ q. P (effect q c).cluster) (sym adds) (joins (start r) (options r) c (range_with_len (length c.nodes + 1) r.count)))

-- what is printed alone

pub view_keeps : (r : Request) → ((c : Cluster) → (effect r c).cluster ≡ c) → (c : Cluster) (d : PlainDirective) (a : Asked) → request d ≡ Ok a → a.request ≡ r
    → (outcome c d).cluster ≡ c
view_keeps r keeps c d a is shows = outcome_has (λ after. after ≡ c) c d a is refl (ap (λ q. (effect q c).cluster) shows ∙ keeps c)

pub log_keeps : (n : Option PlainNode) (c : Cluster) → (log_shown_by n c).cluster ≡ c
log_keeps None c = refl
log_keeps (Some n) c = refl

pub status_keeps : (n : Option PlainNode) (c : Cluster) → (status_shown_by n c).cluster ≡ c
status_keeps None c = refl
status_keeps (Some n) c = refl

-- the level alone

pub log_level_sets : (c : Cluster) (d : PlainDirective) (a : Asked) (level : Level) → request d ≡ Ok a → a.request ≡ requests.LogLevel level → (outcome c d).cluster ≡ level_set level c
unfolding outcome execution fault
log_level_sets c d a level is sets =
    ap (λ r. (execution_of r c).cluster) is ∙ ap (λ r. (unless_refused (fault r c) (record a { request = r }) c).cluster) sets
