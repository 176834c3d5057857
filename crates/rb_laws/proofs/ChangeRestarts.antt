-- At most one change past the commit of each node, where nodes restart: whoever made links of a term had saved it, so nobody makes others after a restart
use Rattle.std.proofs.Common.{◌≡◌, ◌⊎◌, ℕ, ◌+◌, ◌-◌, ◌<◌, ◌≤◌, List, [], ◌∷◌, Option, Some, None, Ok, min, nat_le, if◌then◌else◌, refl, sym, ap, subst, ◌∙◌, arith, inl, inr}
use Rattle.std.specs.Prelude.{Contains, slice_get, slice_set}
use Rattle.std.proofs.lemmas.Bool.{cases_eq, leb-true, le-leb, cond-true}
use Rattle.std.proofs.lemmas.List.Elements.{All-nil, All-contains}
use Rattle.std.proofs.lemmas.Option.{same_Some}
use Rattle.rb_vocab.specs.declared.conf_state.ConfState.{ConfState}
use Rattle.rb_raftlog.specs.declared.raft_log.CompactFault.{CompactFault}
use Rattle.rb_raftlog.specs.Log.{compact_fault}
use Rattle.rb_raftlog.specs.Log as logs
use Rattle.rb_tracker.proofs.SetLaws.{if_both}
use Rattle.rb_message.specs.Appends.{PlainAppend}
use Rattle.rb_message.specs.declared.kind.MessageKind.TheVariants as kind
use Rattle.rb_message.specs.declared.message.Message.{Message}
use Rattle.rb_message.specs.declared.role.Role.TheVariants as role
use Rattle.rb_node.specs.Node.{PlainNode, NodeStep, node_step, started}
use Rattle.rb_node.specs.Restarting.{restarted}
use Rattle.rb_calls.specs.Calling.{Call, Advance, Compact, after, compacted_unless}
use Rattle.rb_laws.specs.Configurations.{HasOneChangePast, log_of}
use Rattle.rb_calls.specs.Elections.{Elected}
use Rattle.rb_laws.specs.Honesty.{IsGenuineCall}
use Rattle.rb_laws.specs.Network.{Network, Happening, happened_to, IsStarted, IsBegun}
use Rattle.rb_laws.specs.Restarts.{Occurrence, Called, Restarted, restarted_to, occurred, passed, IsElectedWith, AreElectedThrough}
use Rattle.rb_calls.specs.Sound.{IsSound}
use Rattle.rb_calls.proofs.CallLaws.{calls}
use Rattle.rb_laws.proofs.ChangeCounts.{IsPart, compacted_one, empty_one}
use Rattle.rb_laws.proofs.Holding.{follower_stands, follower_leads}
use Rattle.rb_laws.proofs.LinkedLogs.{part_entry, none_linked}
use Rattle.rb_laws.proofs.Links.{Link, Extends, IsLinked, still_linked}
use Rattle.rb_calls.proofs.ListLaws.{each_set, set_here, set_elsewhere}
use Rattle.rb_laws.proofs.OneChange.{Gist, gist, IsPartBy, Fair, NoAppend, IsIn}
use Rattle.rb_laws.proofs.OneChangeHistory.{Sane, SaneSince, happened_sane, begun_sane}
use Rattle.rb_laws.proofs.RestartedLogs.{again_twice, IsRestartable, started_restartable, restarted_started, restarted_restartable, saved_base, again_saved, saved_sound, compacts_to, compacted_sound, by_call, leaves_restartable, saved_restartable}
use Rattle.rb_laws.proofs.SavedLinks.{linked_after}
use Rattle.rb_laws.proofs.SavedStates.{Leaves, call_leaves, same_again, HasSaved, advance_saves}

-- ---- the leaders that have saved their terms

-- who leads in a term, if it has saved it
abbrev saved_leader : Option PlainNode → ℕ → ℕ → ℕ
saved_leader None id term = 0
saved_leader (Some n) id term = if nat_le term n.saved.term then id else 0

abbrev leader_in : (ℕ → ℕ) → List PlainNode → ℕ → ℕ
leader_in leader nodes term = saved_leader (slice_get nodes (leader term - 1)) (leader term) term

record HasSavedTerm (leader : ℕ → ℕ) (nodes : List PlainNode) (term id : ℕ) : Type 0 where
  is : leader term ≡ id
  node : PlainNode
  at : slice_get nodes (id - 1) ≡ Some node
  saved : term ≤ node.saved.term

of_saved : (o : Option PlainNode) (id term i : ℕ) → 0 < i → saved_leader o id term ≡ i → (id ≡ i) × ((n : PlainNode) × (o ≡ Some n) × (term ≤ n.saved.term))
of_saved None id term i some is = absurd (omega (arith, some, is))
of_saved (Some n) id term i some is =
    let P : ℕ → Type 0 = λ x. x ≡ i → (id ≡ i) × ((m : PlainNode) × (Some n ≡ Some m) × (term ≤ m.saved.term)) in
    if_both P (nat_le term n.saved.term) id 0 (λ low same. (same, (n, refl, leb-true term n.saved.term low))) (λ _ none. absurd (omega (arith, some, none))) is

has_saved : (leader : ℕ → ℕ) (nodes : List PlainNode) (term i : ℕ) → 0 < i → leader_in leader nodes term ≡ i → HasSavedTerm leader nodes term i
has_saved leader nodes term i some is =
    let x = of_saved (slice_get nodes (leader term - 1)) (leader term) term i some is in
    record { is = x.0; node = x.1.0; at = ap (λ (j : ℕ). slice_get nodes (j - 1)) (sym x.0) ∙ x.1.1; saved = x.1.2 }

saved_is : (o : Option PlainNode) (n : PlainNode) (id term : ℕ) → o ≡ Some n → term ≤ n.saved.term → saved_leader o id term ≡ id
saved_is o n id term at low = ap (λ (x : Option PlainNode). saved_leader x id term) at ∙ cond-true (nat_le term n.saved.term) id 0 (le-leb term n.saved.term low)

is_leader : (leader : ℕ → ℕ) (nodes : List PlainNode) (term id : ℕ) (n : PlainNode) → leader term ≡ id → slice_get nodes (id - 1) ≡ Some n → term ≤ n.saved.term → leader_in leader nodes term ≡ id
is_leader leader nodes term id n is at low = saved_is (slice_get nodes (leader term - 1)) n (leader term) term (ap (λ (j : ℕ). slice_get nodes (j - 1)) is ∙ at) low ∙ is

-- each leader then is one now
abbrev StillLead : (ℕ → ℕ) → List PlainNode → List PlainNode → Type 0
StillLead leader old new = (term i : ℕ) → 0 < i → leader_in leader old term ≡ i → leader_in leader new term ≡ i

-- a node takes the place of one that had saved no more
still_lead : (leader : ℕ → ℕ) (nodes : List PlainNode) (place : ℕ) (n new : PlainNode) → slice_get nodes place ≡ Some n → n.saved.term ≤ new.saved.term → StillLead leader nodes (slice_set nodes place new)
still_lead leader nodes place n new at up term i some is =
    let x = has_saved leader nodes term i some is in
    let low = x.saved in
    elim (cases_eq (i - 1) place) as (λ _. leader_in leader (slice_set nodes place new) term ≡ i) [
      | inl same ↦
          let it : x.node ≡ n = same_Some x.node n (sym x.at ∙ ap (slice_get nodes) same ∙ at) in
          let term_of = ap (λ (y : PlainNode). y.saved.term) it in
          is_leader leader (slice_set nodes place new) term i new x.is (ap (slice_get (slice_set nodes place new)) same ∙ set_here nodes place n new at) (omega (arith, low, term_of, up))
      | inr other ↦ is_leader leader (slice_set nodes place new) term i x.node x.is (set_elsewhere nodes place (i - 1) new other ∙ x.at) low
    ]

still_in : (p q : ℕ → ℕ) (id : ℕ) (ls : List Link) (g : Gist) → 0 < id → ((l : Link) → Contains ls l → 0 < l.maker) → ((term i : ℕ) → 0 < i → p term ≡ i → q term ≡ i) → IsIn id p ls g → IsIn id q ls g
still_in p q id ls g some makers up h = record {
  itself = h.itself;
  single = h.single;
  made = λ l among. up l.entry.term l.maker (makers l among) (h.made l among);
  logged = h.logged;
  sent = h.sent;
  waiting = h.waiting;
  past = h.past;
  stands = h.stands;
  one = h.one;
  candidate = h.candidate;
  leads = λ is. (let l = h.leads is in record { is = up g.term id some l.is; within = l.within; one = l.one; none = l.none });
}

still_sane : (p q : ℕ → ℕ) (s : Network) → ((term i : ℕ) → 0 < i → p term ≡ i → q term ≡ i) → (sane : Sane p s) → SaneSince q sane.links s
still_sane p q s up sane = record {
  sane = record {
    links = sane.links;
    some = sane.some;
    nodes = λ k n at. (let x = sane.nodes k n at in (x.0, still_in p q (k + 1) sane.links (gist n) (omega arith) sane.some up x.1));
    said = sane.said;
  };
  since = λ l among. among;
}

-- ---- what a node goes back to

-- how many changes it then has past its commit
record Again (y : PlainNode) : Type 0 where
  sound : IsSound y
  one : HasOneChangePast y.log y.commit

unless_compacted : (n : PlainNode) (i : ℕ) → IsSound n → IsRestartable n → Again (restarted n) → (o : Option CompactFault) → compact_fault n.log i (min n.applied n.log.durable) ≡ o
    → IsRestartable (compacted_unless o n i) × Again (restarted (compacted_unless o n i))
unless_compacted n i s r b (Some fault) is = (r, b)
unless_compacted n i s r b None is =
    let c = compacts_to n i is s r in
    let v = logs.restarted n.log n.start in
    let index = c.index in
    let past = c.low in
    let low : v.base < i = omega (arith, index, past) in
    (c.restartable, subst Again (sym c.again) (record { sound = compacted_sound n i s b.sound c; one = compacted_one v i (Ok c.term) n.saved.commit low b.one }))

calls_back : (c : Call) (t : NodeStep) → IsSound t.node → IsRestartable t.node → HasOneChangePast t.node.log t.node.commit → Again (restarted t.node) → IsRestartable (after c t).node × Again (restarted (after c t).node)
calls_back c t s r now b =
    let n = t.node in
    by_call (λ (d : Call). IsRestartable (after d t).node × Again (restarted (after d t).node))
    (λ d leaves.
    (let h : Leaves n (after d t).node = call_leaves d t leaves s in
    (leaves_restartable n (after d t).node h r, subst Again (sym (same_again h)) b)))
    (let at = saved_base n r in
    let x : HasSaved n (after Advance t).node = advance_saves t s in
    (saved_restartable n (after Advance t).node at x, subst Again (sym (x.again ∙ again_saved n at)) (record { sound = saved_sound n s at; one = now })))
    (λ i. unless_compacted n i s r b (compact_fault n.log i (min n.applied n.log.durable)) refl)
    c

unless_saved : (o : Option CompactFault) (n : PlainNode) (i : ℕ) → (compacted_unless o n i).saved.term ≡ n.saved.term
unless_saved (Some fault) n i = refl
unless_saved None n i = refl

-- a call takes back no saved term
saved_rises : (c : Call) (t : NodeStep) → IsSound t.node → t.node.saved.term ≤ t.node.term → t.node.saved.term ≤ (after c t).node.saved.term
saved_rises c t s low =
    let n = t.node in
    by_call (λ (d : Call). n.saved.term ≤ (after d t).node.saved.term)
    (λ d leaves. let same = ap (λ (x : PlainNode). x.saved.term) (same_again (call_leaves d t leaves s)) in omega (arith, same))
    (let same = ap (λ (x : PlainNode). x.saved.term) (advance_saves t s).again in omega (arith, same, low))
    (λ i. let same = unless_saved (compact_fault n.log i (min n.applied n.log.durable)) n i in omega (arith, same))
    c

saved_low : (c : Call) (t : NodeStep) → IsSound t.node → t.node.saved.term ≤ t.node.term → (after c t).node.saved.term ≤ (after c t).node.term
saved_low c t s low =
    let n = t.node in
    by_call (λ (d : Call). (after d t).node.saved.term ≤ (after d t).node.term)
    (λ d leaves. let same = ap (λ (x : PlainNode). x.saved.term) (same_again (call_leaves d t leaves s)) in let up = ((calls d t).goes s).term in omega (arith, same, low, up))
    (let same = ap (λ (x : PlainNode). x.saved.term) (advance_saves t s).again in let up = ((calls Advance t).goes s).term in omega (arith, same, up))
    (λ i.
    let same = unless_saved (compact_fault n.log i (min n.applied n.log.durable)) n i in
    let up = ((calls (Compact i) t).goes s).term in
    omega (arith, same, low, up))
    c

-- ---- a network

record Back (links : List Link) (n : PlainNode) : Type 0 where
  restartable : IsRestartable n
  again : Again (restarted n)
  linked : IsLinked links (restarted n).log
  low : n.saved.term ≤ n.term

still_back : (old new : List Link) (n : PlainNode) → Extends old new → Back old n → Back new n
still_back old new n more b = record { restartable = b.restartable; again = b.again; linked = still_linked old new (restarted n).log more b.linked; low = b.low }

record AllBack (leader : ℕ → ℕ) (s : Network) : Type 0 where
  sane : Sane (leader_in leader s.nodes) s
  back : (k : ℕ) (n : PlainNode) → slice_get s.nodes k ≡ Some n → Back sane.links n

happens : (leader : ℕ → ℕ) (s : Network) (h : Happening) (o : Option PlainNode) → slice_get s.nodes h.place ≡ o → IsElectedWith leader o h → IsGenuineCall s h.call → AllBack leader s → AllBack leader (happened_to o s h)
happens leader s h None at led genuine a = a
happens leader s h (Some n) at led genuine a =
    let t : NodeStep = node_step n h.told in
    let new : PlainNode = (after h.call t).node in
    let nodes = slice_set s.nodes h.place new in
    let p = leader_in leader s.nodes in
    let q = leader_in leader nodes in
    let b = a.back h.place n at in
    let x = a.sane.nodes h.place n at in
    let first : SaneSince q a.sane.links s = still_sane p q s (still_lead leader s.nodes h.place n new at (saved_rises h.call t x.0 b.low)) a.sane in
    let own_id = x.1.itself in
    let here : n.id - 1 ≡ h.place = omega (arith, own_id) in
    let elects : (term : ℕ) → Elected h.call t term → q term ≡ n.id = λ term elected.
    (let e = led term elected in is_leader leader nodes term n.id new e.0 (ap (slice_get nodes) here ∙ set_here s.nodes h.place n new at) e.1) in
    let next : SaneSince q first.sane.links (happened_to (Some n) s h) = happened_sane q s h (Some n) at elects genuine first.sane in
    let more : Extends a.sane.links next.sane.links = λ l among. next.since l (first.since l among) in
    let done = calls_back h.call t x.0 b.restartable x.1.one b.again in
    record {
      sane = next.sane;
      back = each_set (λ (k : ℕ) (y : PlainNode). Back next.sane.links y) s.nodes h.place n new at
          (record {
            restartable = done.0;
            again = done.1;
            linked = linked_after a.sane.links next.sane.links h.call t more x.0 b.restartable x.1.logged b.linked;
            low = saved_low h.call t x.0 b.low;
          })
          (λ j y _ there. still_back a.sane.links next.sane.links y more (a.back j y there));
    }

restarts : (leader : ℕ → ℕ) (s : Network) (place : ℕ) (o : Option PlainNode) → slice_get s.nodes place ≡ o → AllBack leader s → AllBack leader (restarted_to o s place)
restarts leader s place None at a = a
restarts leader s place (Some n) at a =
    let y = restarted n in
    let nodes = slice_set s.nodes place y in
    let p = leader_in leader s.nodes in
    let q = leader_in leader nodes in
    let b = a.back place n at in
    let first : SaneSince q a.sane.links s = still_sane p q s (still_lead leader s.nodes place n y at (omega arith)) a.sane in
    let f = first.sane in
    let old = (f.nodes place n at).1 in
    let linked : IsLinked f.links y.log = still_linked a.sane.links f.links y.log first.since b.linked in
    let past : (l : Link) → Contains f.links l → l.maker ≡ place + 1 → l.entry.term ≤ n.saved.term = λ l among own.
    (let x = has_saved leader nodes l.entry.term (place + 1) (omega arith) (old.made l among ∙ own) in
    let here : place + 1 - 1 ≡ place = omega arith in
    let it : x.node ≡ y = same_Some x.node y (sym x.at ∙ ap (slice_get nodes) here ∙ set_here s.nodes place n y at) in
    let same = ap (λ (z : PlainNode). z.saved.term) it in
    let low = x.saved in
    omega (arith, low, same)) in
    let now : IsIn (place + 1) q f.links (gist y) = record {
      itself = old.itself;
      single = old.single;
      made = old.made;
      logged = linked;
      sent = All-nil (Fair f.links);
      waiting = All-nil NoAppend;
      past = past;
      stands = λ no. absurd (follower_stands no);
      one = b.again.one;
      candidate = λ no. absurd (follower_stands no);
      leads = λ no. absurd (follower_leads no);
    } in
    record {
      sane = record {
        links = f.links;
        some = f.some;
        nodes = each_set (λ (k : ℕ) (z : PlainNode). IsSound z × IsIn (k + 1) q f.links (gist z)) s.nodes place n y at (b.again.sound, now) (λ j z _ there. f.nodes j z there);
        said = f.said;
      };
      back = each_set (λ (k : ℕ) (z : PlainNode). Back f.links z) s.nodes place n y at
          (record {
            restartable = restarted_restartable n b.again.sound;
            again = subst Again (sym (again_twice n)) b.again;
            linked = subst (λ (z : PlainNode). IsLinked f.links z.log) (sym (again_twice n)) linked;
            low = omega arith;
          })
          (λ j z _ there. still_back a.sane.links f.links z first.since (a.back j z there));
    }

passes : (leader : ℕ → ℕ) (os : List Occurrence) (s : Network) → AreElectedThrough leader os s → AllBack leader s → AllBack leader (passed os s)
passes leader [] s led a = a
passes leader (Called h ∷ os) s led a = passes leader os (occurred s (Called h)) led.1 (happens leader s h (slice_get s.nodes h.place) refl led.0.0 led.0.1 a)
passes leader (Restarted place ∷ os) s led a = passes leader os (occurred s (Restarted place)) led.1 (restarts leader s place (slice_get s.nodes place) refl a)

begins : (leader : ℕ → ℕ) (members : ConfState) (s : Network) → IsBegun members s → AllBack leader s
begins leader members s begun =
    let all = begun_sane (leader_in leader s.nodes) members s begun in
    record {
      sane = all;
      back = λ k n at.
          (let is : IsStarted members (k + 1) n = begun.started k n at in
          let first : PlainNode = started (k + 1) is.start is.options in
          let same : restarted n ≡ first = ap restarted is.is ∙ restarted_started (k + 1) is.start is.options in
          record {
            restartable = subst IsRestartable (sym is.is) (started_restartable (k + 1) is.start is.options);
            again = subst Again (sym same) (record {
              sound = record { past_base = omega arith; is_durable = omega arith; within = omega arith; is_committed = omega arith; is_held = omega arith };
              one = empty_one first.log is.start.index refl;
            });
            linked = subst (λ (y : PlainNode). IsLinked all.links y.log) (sym same) (none_linked all.links first.log refl);
            low = subst (λ (y : PlainNode). y.saved.term ≤ y.term) (sym is.is) (omega arith);
          });
    }

-- ---- the laws

module _ (leader : ℕ → ℕ) (members : ConfState) (s : Network) (os : List Occurrence) (begun : IsBegun members s) (led : AreElectedThrough leader os s) where
  all_sane : Sane (leader_in leader (passed os s).nodes) (passed os s)
  all_sane = (passes leader os s led (begins leader members s begun)).sane

pub one_past_commit : (leader : ℕ → ℕ) (members : ConfState) (s : Network) (os : List Occurrence) (k : ℕ) (n : PlainNode) → IsBegun members s → AreElectedThrough leader os s → slice_get (passed os s).nodes k ≡ Some n → HasOneChangePast n.log n.commit
one_past_commit leader members s os k n begun led at = ((all_sane leader members s os begun led).nodes k n at).1.one

pub one_past_applied : (leader : ℕ → ℕ) (members : ConfState) (s : Network) (os : List Occurrence) (k : ℕ) (n : PlainNode) → IsBegun members s → AreElectedThrough leader os s → slice_get (passed os s).nodes k ≡ Some n
    → (n.role ≡ role.Candidate) ⊎ (n.role ≡ role.Leader) → HasOneChangePast n.log n.applied
one_past_applied leader members s os k n begun led at decides =
    let h = ((all_sane leader members s os begun led).nodes k n at).1 in
    elim decides as (λ _. HasOneChangePast n.log n.applied) [ inl stands ↦ h.candidate stands | inr leads ↦ (h.leads leads).one ]

pub one_on_the_way : (leader : ℕ → ℕ) (members : ConfState) (s : Network) (os : List Occurrence) (m : Message) (append : PlainAppend) → IsBegun members s → AreElectedThrough leader os s → Contains (passed os s).said m → m.kind ≡ kind.Append append
    → HasOneChangePast (log_of append) append.commit
one_on_the_way leader members s os m append begun led said is =
    let all = all_sane leader members s os begun led in
    let part : IsPart all.links append = subst (IsPartBy all.links) is (All-contains (Fair all.links) (passed os s).said m all.said said) in
    λ i j e f past over at there changes too.
    part.one i j e f past over (part_entry part.log append.prev append.prev_term i append.entries e part.entries at) (part_entry part.log append.prev append.prev_term j append.entries f part.entries there) changes too
