-- Nodes that a script adds are nodes that were silent so far: a fact of nodes, of others that are silent yet, and of messages lasts through a script,
-- if it lasts where the silent ones come to speak
use Rattle.std.proofs.Common.{◌≡◌, ◌⊎◌, ℕ, zero, suc, ◌+◌, ◌≤◌, true, false, List, [], ◌∷◌, ◌++◌, map, take, length, length-append, append_assoc, append-nil, Option, Some, None, Result, Ok, Err, refl, sym, ap, subst, ◌∙◌, arith, inl, inr}
use Rattle.std.specs.Prelude.{All, Contains, slice_get, slice_set}
use Rattle.std.specs.List.{range_with_len}
use Rattle.std.proofs.lemmas.Bool.{false≢true}
use Rattle.std.proofs.lemmas.List.{length-set}
use Rattle.std.proofs.lemmas.List.Elements.{All-contains_itself}
use Rattle.std.proofs.lemmas.Option.{none-some, same_Some}
use Rattle.rb_script.specs.Directive.{PlainDirective}
use Rattle.rb_vocab.specs.declared.directive_error.DirectiveError.{DirectiveError}
use Rattle.rb_directive.specs.declared.requests.AddNodes.{AddNodes}
use Rattle.rb_directive.specs.declared.requests.Request.{Request}
use Rattle.rb_directive.specs.declared.requests.Request.TheVariants as requests
use Rattle.rb_directive.specs.declared.build.Asked.{Asked}
use Rattle.rb_directive.specs.Requests.{request}
use Rattle.rb_raftlog.specs.declared.snapshot.Snapshot.{Snapshot}
use Rattle.rb_message.specs.declared.message.Message.{Message}
use Rattle.rb_node.specs.declared.options.Options.{Options}
use Rattle.rb_node.specs.Node.{PlainNode, started}
use Rattle.rb_node.specs.Calls.{node_started}
use Rattle.rb_node.specs.Restarting.{node_restarted}
use Rattle.rb_machine.specs.AddNodes.{start, options, node_added, added_each, nodes_added}
use Rattle.rb_machine.specs.Cluster.{Cluster, empty}
use Rattle.rb_machine.specs.Outcome.{missing_node, own_fault, fault, effect, unless_refused, execution_of, execution, outcome}
use Rattle.rb_replay.specs.Run.{led}
use Rattle.rb_calls.specs.Calling.{Advance, after}
use Rattle.rb_laws.specs.Clusters.{IsSteadyRequest, IsSteadyBy, AreSteady}
use Rattle.rb_laws.proofs.DirectiveLaws.{Lasts, IsCovered, neither, has_effect}

-- ---- the nodes that directives add

abbrev come_with : Option DirectiveError → Request → Cluster → List PlainNode
come_with None (requests.AddNodes asked) c = map (λ (id : ℕ). started id (start asked) (options asked)) (range_with_len (length c.nodes + 1) asked.count)
come_with o r c = []

abbrev come_by : Result Asked DirectiveError → Cluster → List PlainNode
come_by (Err e) c = []
come_by (Ok a) c = come_with (fault a.request c) a.request c

abbrev pub all_come : Cluster → List PlainDirective → List PlainNode
all_come c [] = []
all_come c (d ∷ ds) = come_by (request d) c ++ all_come (outcome c d).cluster ds

added_nodes : (from : Snapshot) (given : Options) (ids : List ℕ) (x : Cluster) → (added_each from given x ids).cluster.nodes ≡ x.nodes ++ map (λ (id : ℕ). started id from given) ids
added_nodes from given [] x = sym (append-nil x.nodes)
added_nodes from given (id ∷ ids) x =
    added_nodes from given ids (node_added x (node_started id from given [])).cluster ∙ append_assoc x.nodes (started id from given ∷ []) (map (λ (i : ℕ). started i from given) ids)

none_sent : (from : Snapshot) (given : Options) (ids : List ℕ) (x : Cluster) → (added_each from given x ids).cluster.pending ≡ x.pending
none_sent from given [] x = refl
none_sent from given (id ∷ ids) x = none_sent from given ids (node_added x (node_started id from given [])).cluster

-- ---- a fact that lasts where they join

pub record Joins (P : List PlainNode → List PlainNode → List Message → Type 0) : Type 0 where
  pub lasts : (silent : List PlainNode) → Lasts true false (P silent)
  pub joins : (silent news nodes : List PlainNode) (ms : List Message) → P (news ++ silent) nodes ms → P silent (nodes ++ news) ms

module _ {P : List PlainNode → List PlainNode → List Message → Type 0} (w : Joins P) where
  adds : (asked : AddNodes) (c : Cluster) (rest : List PlainNode) → IsCovered (P (come_with None (requests.AddNodes asked) c ++ rest)) c → IsCovered (P rest) (nodes_added asked c).cluster
  unfolding nodes_added
  adds asked c rest h =
      let ids = range_with_len (length c.nodes + 1) asked.count in
      let news = map (λ (id : ℕ). started id (start asked) (options asked)) ids in (
        h.0,
        (
          subst (λ (nodes : List PlainNode). P rest nodes h.0) (sym (added_nodes (start asked) (options asked) ids c)) (w.joins rest news c.nodes h.0 h.1.0),
          subst (λ (pending : List Message). All (Contains h.0) pending) (sym (none_sent (start asked) (options asked) ids c)) h.1.1,
        ),
      )

  by_effect : (starts : Snapshot → Type 0) (r : Request) (c : Cluster) (rest : List PlainNode) → (missing_node c.nodes r ≡ None) × (own_fault r c ≡ None) → IsSteadyRequest starts r → IsCovered (P (come_with None r c ++ rest)) c → IsCovered (P rest) (effect r c).cluster
  by_effect starts (requests.AddNodes asked) c rest may steady h = adds asked c rest h
  by_effect starts (requests.ProposeConfChange asked) c rest may steady h = absurd steady
  by_effect starts (requests.NodeCommand what id) c rest may steady h = has_effect (w.lasts rest) (requests.NodeCommand what id) c h.0 (λ _. tt) (λ no. absurd (false≢true no)) may h.1
  by_effect starts (requests.Propose id payload) c rest may steady h = has_effect (w.lasts rest) (requests.Propose id payload) c h.0 (λ _. tt) (λ no. absurd (false≢true no)) may h.1
  by_effect starts (requests.ProcessReady ids) c rest may steady h = has_effect (w.lasts rest) (requests.ProcessReady ids) c h.0 (λ _. tt) (λ no. absurd (false≢true no)) may h.1
  by_effect starts (requests.DeliverMsgs asked) c rest may steady h = has_effect (w.lasts rest) (requests.DeliverMsgs asked) c h.0 (λ _. tt) (λ no. absurd (false≢true no)) may h.1
  by_effect starts (requests.Stabilize ids rounds) c rest may steady h = has_effect (w.lasts rest) (requests.Stabilize ids rounds) c h.0 (λ _. tt) (λ no. absurd (false≢true no)) may h.1
  by_effect starts (requests.NodeCommandWithArg what id arg) c rest may steady h = has_effect (w.lasts rest) (requests.NodeCommandWithArg what id arg) c h.0 (λ _. tt) (λ no. absurd (false≢true no)) may h.1
  by_effect starts (requests.Restart ids) c rest may steady h = has_effect (w.lasts rest) (requests.Restart ids) c h.0 (λ _. tt) (λ no. absurd (false≢true no)) may h.1
  by_effect starts (requests.LogLevel level) c rest may steady h = has_effect (w.lasts rest) (requests.LogLevel level) c h.0 (λ _. tt) (λ no. absurd (false≢true no)) may h.1
  by_effect starts (requests.RaftLog id) c rest may steady h = has_effect (w.lasts rest) (requests.RaftLog id) c h.0 (λ _. tt) (λ no. absurd (false≢true no)) may h.1
  by_effect starts (requests.Status id) c rest may steady h = has_effect (w.lasts rest) (requests.Status id) c h.0 (λ _. tt) (λ no. absurd (false≢true no)) may h.1
  by_effect starts requests.RaftState c rest may steady h = has_effect (w.lasts rest) requests.RaftState c h.0 (λ _. tt) (λ no. absurd (false≢true no)) may h.1

  by_fault : (starts : Snapshot → Type 0) (o : Option DirectiveError) (a : Asked) (c : Cluster) (rest : List PlainNode) → fault a.request c ≡ o → IsSteadyRequest starts a.request → IsCovered (P (come_with o a.request c ++ rest)) c → IsCovered (P rest) (unless_refused o a c).cluster
  unfolding fault
  by_fault starts (Some e) a c rest is steady h = h
  by_fault starts None a c rest is steady h = by_effect starts a.request c rest (neither (missing_node c.nodes a.request) (own_fault a.request c) is) steady h

  by_request : (starts : Snapshot → Type 0) (r : Result Asked DirectiveError) (c : Cluster) (rest : List PlainNode) → IsSteadyBy starts r → IsCovered (P (come_by r c ++ rest)) c → IsCovered (P rest) (execution_of r c).cluster
  by_request starts (Err e) c rest steady h = h
  by_request starts (Ok a) c rest steady h = by_fault starts (fault a.request c) a c rest refl steady h

  one_joins : (starts : Snapshot → Type 0) (c : Cluster) (d : PlainDirective) (rest : List PlainNode) → IsSteadyBy starts (request d) → IsCovered (P (come_by (request d) c ++ rest)) c → IsCovered (P rest) (outcome c d).cluster
  unfolding outcome execution
  one_joins starts c d rest steady h = by_request starts (request d) c rest steady h

  pub all_join : (starts : Snapshot → Type 0) (c : Cluster) (ds : List PlainDirective) (rest : List PlainNode) → AreSteady starts ds → IsCovered (P (all_come c ds ++ rest)) c → IsCovered (P rest) (led c ds)
  all_join starts c [] rest steady h = h
  all_join starts c (d ∷ ds) rest steady h =
      let one = come_by (request d) c in
      let others = all_come (outcome c d).cluster ds in
      all_join starts (outcome c d).cluster ds rest steady.1
      (one_joins starts c d (others ++ rest) steady.0 (subst (λ (silent : List PlainNode). IsCovered (P silent) c) (append_assoc one others rest) h))

-- ---- how many they are, and how they start

-- as many as there are now, with those that are silent
abbrev Number : ℕ → List PlainNode → List PlainNode → List Message → Type 0
Number n silent nodes ms = length nodes + length silent ≡ n

numbered : (n : ℕ) → Joins (Number n)
numbered n = record {
  lasts = λ silent. record {
    calls = λ nodes ms k call t at brought h. omega (arith, h, length-set nodes k (after call t).node);
    advances = λ nodes ms k t at h. omega (arith, h, length-set nodes k (after Advance t).node);
    shows = λ nodes ms k from to x at h. h;
    joins = λ free. absurd (free refl);
    restarts = λ free nodes ms k t at h. omega (arith, h, length-set nodes k (node_restarted t).node);
  };
  joins = λ silent news nodes ms h. omega (arith, h, length-append news silent, length-append nodes news);
}

one_grows : (starts : Snapshot → Type 0) (c : Cluster) (d : PlainDirective) → IsSteadyBy starts (request d) → length (outcome c d).cluster.nodes ≡ length c.nodes + length (come_by (request d) c)
one_grows starts c d steady =
    let news = come_by (request d) c in
    let n = length c.nodes + length (news ++ []) in
    let all : IsCovered (Number n []) (outcome c d).cluster = one_joins (numbered n) starts c d [] steady (c.pending, (refl, All-contains_itself c.pending)) in
    omega (arith, all.1.0, length-append news [])

pub all_grow : (starts : Snapshot → Type 0) (c : Cluster) (ds : List PlainDirective) → AreSteady starts ds → length (led c ds).nodes ≡ length c.nodes + length (all_come c ds)
all_grow starts c ds steady =
    let news = all_come c ds in
    let n = length c.nodes + length (news ++ []) in
    let all : IsCovered (Number n []) (led c ds) = all_join (numbered n) starts c ds [] steady (c.pending, (refl, All-contains_itself c.pending)) in
    omega (arith, all.1.0, length-append news [])

-- a node starts as is asked for
pub record IsStartOf (starts : Snapshot → Type 0) (id : ℕ) (n : PlainNode) : Type 0 where
  pub from : Snapshot
  pub given : Options
  pub as_asked : starts from
  pub is : n ≡ started id from given

-- the first of these nodes has the id after a number
abbrev pub AreStartsOf : (Snapshot → Type 0) → ℕ → List PlainNode → Type 0
AreStartsOf starts low news = (k : ℕ) (n : PlainNode) → slice_get news k ≡ Some n → IsStartOf starts (low + k + 1) n

none_starts : (starts : Snapshot → Type 0) (low : ℕ) → AreStartsOf starts low []
none_starts starts low k n at = absurd (none-some n at)

get_cases : {X : Type 0} (xs ys : List X) (k : ℕ) (x : X) → slice_get (xs ++ ys) k ≡ Some x → (slice_get xs k ≡ Some x) ⊎ ((j : ℕ) × (k ≡ length xs + j) × (slice_get ys j ≡ Some x))
get_cases [] ys k x at = inr (k, omega arith, at)
get_cases (a ∷ xs) ys zero x at = inl at
get_cases {X} (a ∷ xs) ys (suc k) x at =
    elim (get_cases xs ys k x at) as (λ _. (slice_get (a ∷ xs) (suc k) ≡ Some x) ⊎ ((j : ℕ) × (suc k ≡ length (a ∷ xs) + j) × (slice_get ys j ≡ Some x))) [
      | inl here ↦ inl here
      | inr there ↦ inr (there.0, (let is = there.1 in omega (arith, is)), there.2)
    ]

pub both_start : (starts : Snapshot → Type 0) (low : ℕ) (xs ys : List PlainNode) → AreStartsOf starts low xs → AreStartsOf starts (low + length xs) ys → AreStartsOf starts low (xs ++ ys)
both_start starts low xs ys first second k n at =
    elim (get_cases xs ys k n at) as (λ _. IsStartOf starts (low + k + 1) n) [
      | inl here ↦ first k n here
      | inr there ↦ (let is = there.1 in subst (λ (id : ℕ). IsStartOf starts id n) (omega (arith, is)) (second there.0 n there.2))
    ]

range_starts : (starts : Snapshot → Type 0) (from : Snapshot) (given : Options) (low many : ℕ) → starts from → AreStartsOf starts low (map (λ (id : ℕ). started id from given) (range_with_len (low + 1) many))
range_starts starts from given low zero so k n at = absurd (none-some n at)
range_starts starts from given low (suc many) so zero n at =
    let same : low + 1 ≡ low + zero + 1 = omega arith in
    record { from = from; given = given; as_asked = so; is = sym (same_Some (started (low + 1) from given) n at) ∙ ap (λ (id : ℕ). started id from given) same }
range_starts starts from given low (suc many) so (suc k) n at =
    subst (λ (id : ℕ). IsStartOf starts id n) (omega arith) (range_starts starts from given (low + 1) many so k n at)

come_starts : (starts : Snapshot → Type 0) (o : Option DirectiveError) (r : Request) (c : Cluster) → IsSteadyRequest starts r → AreStartsOf starts (length c.nodes) (come_with o r c)
come_starts starts None (requests.AddNodes asked) c steady = range_starts starts (start asked) (options asked) (length c.nodes) asked.count steady
come_starts starts (Some e) r c steady = none_starts starts (length c.nodes)
come_starts starts None _ c steady = none_starts starts (length c.nodes)

by_starts : (starts : Snapshot → Type 0) (r : Result Asked DirectiveError) (c : Cluster) → IsSteadyBy starts r → AreStartsOf starts (length c.nodes) (come_by r c)
by_starts starts (Err e) c steady = none_starts starts (length c.nodes)
by_starts starts (Ok a) c steady = come_starts starts (fault a.request c) a.request c steady

pub all_start : (starts : Snapshot → Type 0) (c : Cluster) (ds : List PlainDirective) → AreSteady starts ds → AreStartsOf starts (length c.nodes) (all_come c ds)
all_start starts c [] steady = none_starts starts (length c.nodes)
all_start starts c (d ∷ ds) steady =
    let one = come_by (request d) c in
    both_start starts (length c.nodes) one (all_come (outcome c d).cluster ds) (by_starts starts (request d) c steady.0)
    (subst (λ (low : ℕ). AreStartsOf starts low (all_come (outcome c d).cluster ds)) (one_grows starts c d steady.0) (all_start starts (outcome c d).cluster ds steady.1))

-- ---- nodes before those that are silent

pub get_before : {X : Type 0} (xs ys : List X) (k : ℕ) (x : X) → slice_get xs k ≡ Some x → slice_get (xs ++ ys) k ≡ Some x
get_before [] ys k x at = absurd (none-some x at)
get_before (a ∷ xs) ys zero x at = at
get_before (a ∷ xs) ys (suc k) x at = get_before xs ys k x at

pub set_before : {X : Type 0} (xs ys : List X) (k : ℕ) (x y : X) → slice_get xs k ≡ Some x → slice_set (xs ++ ys) k y ≡ slice_set xs k y ++ ys
set_before [] ys k x y at = absurd (none-some x at)
set_before (a ∷ xs) ys zero x y at = refl
set_before {X} (a ∷ xs) ys (suc k) x y at = ap (λ (zs : List X). a ∷ zs) (set_before xs ys k x y at)

-- ---- two points of a script

split_at : (p q : ℕ) (ds : List PlainDirective) → p ≤ q → (rest : List PlainDirective) × (take q ds ≡ take p ds ++ rest)
split_at zero q ds low = (take q ds, refl)
split_at (suc p) zero ds low = absurd (omega (arith, low))
split_at (suc p) (suc q) [] low = ([], refl)
split_at (suc p) (suc q) (d ∷ ds) low = let r = split_at p q ds (omega (arith, low)) in (r.0, ap (λ (xs : List PlainDirective). d ∷ xs) r.1)

led_both : (c : Cluster) (xs ys : List PlainDirective) → led c (xs ++ ys) ≡ led (led c xs) ys
led_both c [] ys = refl
led_both c (d ∷ xs) ys = led_both (outcome c d).cluster xs ys

steady_take : (starts : Snapshot → Type 0) (n : ℕ) (ds : List PlainDirective) → AreSteady starts ds → AreSteady starts (take n ds)
steady_take starts zero ds steady = tt
steady_take starts (suc n) [] steady = tt
steady_take starts (suc n) (d ∷ ds) steady = (steady.0, steady_take starts n ds steady.1)

steady_rest : (starts : Snapshot → Type 0) (xs ys : List PlainDirective) → AreSteady starts (xs ++ ys) → AreSteady starts ys
steady_rest starts [] ys steady = steady
steady_rest starts (d ∷ xs) ys steady = steady_rest starts xs ys steady.1

weaker_request : (one two : Snapshot → Type 0) (r : Request) → ((from : Snapshot) → one from → two from) → IsSteadyRequest one r → IsSteadyRequest two r
weaker_request one two (requests.AddNodes asked) weaker steady = weaker (start asked) steady
weaker_request one two (requests.ProposeConfChange asked) weaker steady = absurd steady
weaker_request one two _ weaker steady = tt

weaker_by : (one two : Snapshot → Type 0) (r : Result Asked DirectiveError) → ((from : Snapshot) → one from → two from) → IsSteadyBy one r → IsSteadyBy two r
weaker_by one two (Err e) weaker steady = tt
weaker_by one two (Ok a) weaker steady = weaker_request one two a.request weaker steady

pub weaker_steady : (one two : Snapshot → Type 0) (ds : List PlainDirective) → ((from : Snapshot) → one from → two from) → AreSteady one ds → AreSteady two ds
weaker_steady one two [] weaker steady = tt
weaker_steady one two (d ∷ ds) weaker steady = (weaker_by one two (request d) weaker steady.0, weaker_steady one two ds weaker steady.1)

-- the directives up to the first point, and those from there to the second
pub record TwoPoints (starts : Snapshot → Type 0) (ds : List PlainDirective) (p q : ℕ) : Type 0 where
  pub earlier : List PlainDirective
  pub later : List PlainDirective
  pub first : led empty (take p ds) ≡ led empty earlier
  pub second : led empty (take q ds) ≡ led (led empty earlier) later
  pub steady : AreSteady starts earlier
  pub steady_still : AreSteady starts later

pub two_points : (starts : Snapshot → Type 0) (ds : List PlainDirective) (p q : ℕ) → p ≤ q → AreSteady starts ds → TwoPoints starts ds p q
two_points starts ds p q low steady =
    let r = split_at p q ds low in
    record {
      earlier = take p ds;
      later = r.0;
      first = refl;
      second = ap (led empty) r.1 ∙ led_both empty (take p ds) r.0;
      steady = steady_take starts p ds steady;
      steady_still = steady_rest starts (take p ds) r.0 (subst (AreSteady starts) r.1 (steady_take starts q ds steady));
    }
