-- What holds of a network through all that happens in it, and that two leaders of one term are one node
use Rattle.std.proofs.Common.{◌≡◌, ◌⊎◌, ℕ, ◌+◌, ◌<◌, ◌≤◌, true, List, [], ◌∷◌, ◌++◌, Option, Some, None, refl, sym, ap, subst, ◌∙◌, arith, inl, inr}
use Rattle.std.specs.Prelude.{All, Contains, slice_get, slice_set}
use Rattle.std.proofs.lemmas.Bool.{cases_eq}
use Rattle.std.proofs.lemmas.List.Elements.{All-nil, All-weaker, All-append, All-contains, Contains-append_left, Contains-append_right, Contains-append_cases}
use Rattle.std.proofs.lemmas.Option.{same_Some}
use Rattle.rb_message.specs.declared.event.Event.{Event}
use Rattle.rb_message.specs.declared.kind.MessageKind.{MessageKind}
use Rattle.rb_message.specs.declared.kind.MessageKind.TheVariants as kind
use Rattle.rb_message.specs.declared.message.Message.{Message}
use Rattle.rb_message.specs.declared.role.Role.TheVariants as role
use Rattle.rb_raftlog.specs.Log.{last}
use Rattle.rb_node.specs.Node.{PlainNode, NodeStep, node_step}
use Rattle.rb_calls.specs.Calling.{Call, Step, Propose, Advance, after}
use Rattle.rb_calls.specs.Sound.{IsSound}
use Rattle.rb_calls.specs.Words.{IsYes, IsPromised, HasPromises}
use Rattle.rb_calls.proofs.CallLaws.{calls}
use Rattle.rb_laws.proofs.PromiseLaws.{Kept, NoYes, run_promises}
use Rattle.rb_laws.specs.Honesty.{Keeps, IsHonestCall, AreHonest, IsNoAppend, IsGenuineCall, AreGenuine}
use Rattle.rb_laws.specs.Network.{Network, Happening, put_out, happened_to, happened, run}
use Rattle.rb_laws.proofs.Links.{Link, Extends, still_linked}
use Rattle.rb_calls.proofs.ListLaws.{set_here, set_elsewhere, each_set}
use Rattle.rb_laws.proofs.Holding.{Setting, World, IsElected, AreOnce, IsOwn, IsChainBy, IsChain, IsIn, Holds, essence, world_of, IsSaid, still_elected, still_holds, still_in}
use Rattle.rb_laws.proofs.Electing.{one_elected}
use Rattle.rb_laws.proofs.Making.{still_chains}
use Rattle.rb_laws.proofs.CallHolds.{IsSafe, said_gives, called_holds}

-- ---- what holds

pub record IsGood (g : Setting) (said : List Message) (links : List Link) (place : ℕ) (n : PlainNode) : Type 0 where
  pub sound : IsSound n
  pub promises : HasPromises n
  pub holds : Holds (world_of g said links place) n
  pub linked : g.strict ≡ true → IsIn g said (place + 1) links (essence n)

-- who gave a vote keeps it
pub record IsGiven (nodes : List PlainNode) (m : Message) : Type 0 where
  pub place : ℕ
  pub node : PlainNode
  pub stands : slice_get nodes place ≡ Some node
  pub by : m.from ≡ place + 1
  pub promised : IsPromised node m.term m.to

pub record IsSane (g : Setting) (s : Network) : Type 0 where
  pub links : List Link
  pub good : (k : ℕ) (n : PlainNode) → slice_get s.nodes k ≡ Some n → IsGood g s.said links k n
  pub fine : All (Keeps g.config) s.said
  pub chains : g.strict ≡ true → All (IsChain links) s.said
  pub given : (m : Message) → Contains s.said m → IsYes m → IsGiven s.nodes m
  pub once : AreOnce s.said

-- ---- a node is called

-- the votes that a call puts out waited in the node
out_waits : (c : Call) (n : PlainNode) (m : Message) → HasPromises n → Contains (put_out c n) m → IsYes m → Contains n.waiting m
out_waits Advance n m h out gives =
    elim (Contains-append_cases n.sent n.waiting m out) as (λ _. Contains n.waiting m) [
      | inl sent ↦ absurd (All-contains NoYes n.sent m h.none_sent sent gives)
      | inr waits ↦ waits
    ]
out_waits _ n m h out gives = absurd (let low : out.0 < 0 = out.1 in omega arith)

out_fine : {w : World} (c : Call) (n : PlainNode) → Holds w n → All (Keeps w.setting.config) (put_out c n)
out_fine {w} Advance n h =
    All-append (Keeps w.setting.config) n.sent n.waiting h.sent (All-weaker (IsOwn w) (Keeps w.setting.config) (λ m own. own.1) n.waiting h.waiting)
out_fine {w} _ n h = All-nil (Keeps w.setting.config)

no_append : (ls : List Link) (k : MessageKind) → IsNoAppend k → IsChainBy ls k
no_append ls (kind.Append append) none = absurd none
no_append ls _ none = tt

-- an honest call brings what a node needs to stay sane
pub safe_call : (g : Setting) (s : Network) (place : ℕ) (c : Call) (n : PlainNode) (sane : IsSane g s) → IsGood g s.said sane.links place n → IsHonestCall g.config s (place + 1) c → (g.strict ≡ true → IsGenuineCall s c) → IsSafe (world_of g (s.said ++ put_out c n) sane.links place) c n
safe_call g s place (Step m) n sane good honest genuine =
    let w = world_of g (s.said ++ []) sane.links place in
    let chain : g.strict ≡ true → IsChainBy sane.links m.kind = λ strict.
    (elim (genuine strict) as (λ _. IsChainBy sane.links m.kind) [
      | inl said ↦ All-contains (IsChain sane.links) s.said m (sane.chains strict) said
      | inr none ↦ no_append sane.links m.kind none
    ]) in
    elim honest as (λ _. IsSafe w (Step m) n) [
      | inl said ↦ (
        (All-contains (Keeps g.config) s.said m sane.fine said.0, chain),
        said_gives w m (Contains-append_left s.said [] m said.0) said.1,
      )
      | inr foreign ↦ ((foreign.1, chain), λ yes. absurd (foreign.0 yes))
    ]
safe_call g s place (Propose body) n sane good honest genuine = honest
safe_call g s place Advance n sane good honest genuine = λ m waits. (
  Contains-append_right s.said (n.sent ++ n.waiting) m (Contains-append_right n.sent n.waiting m waits),
  λ strict. All-contains (IsChain sane.links) n.waiting m (good.linked strict).waiting waits,
)
safe_call g s place _ n sane good honest genuine = tt

out_chains : (g : Setting) (said : List Message) (links : List Link) (id : ℕ) (c : Call) (n : PlainNode) → IsIn g said id links (essence n) → All (IsChain links) (put_out c n)
out_chains g said links id Advance n h = All-append (IsChain links) n.sent n.waiting h.sent h.waiting
out_chains g said links id _ n h = All-nil (IsChain links)

-- ---- after the call

-- the links then, and the node
record CallEnds (g : Setting) (said : List Message) (links : List Link) (place : ℕ) (n : PlainNode) : Type 0 where
  now : List Link
  since : Extends links now
  own : (l : Link) → Contains now l → Contains links l ⊎ (l.maker ≡ place + 1)
  good : IsGood g said now place n

call_ends : (g : Setting) (said : List Message) (links : List Link) (place : ℕ) (c : Call) (told : List Event) (n : PlainNode) → AreOnce (said ++ put_out c n) → IsGood g said links place n → IsSafe (world_of g (said ++ put_out c n) links place) c n → CallEnds g (said ++ put_out c n) links place (after c (node_step n told)).node
call_ends g said links place c told n once good safe =
    let t : NodeStep = node_step n told in
    let out = put_out c n in
    let w : World = world_of g (said ++ out) links place in
    let more : IsSaid said (said ++ out) = λ m among. Contains-append_left said out m among in
    let start : Holds w n = still_holds g said (said ++ out) links links place n more (λ strict. still_in g said (said ++ out) (place + 1) links (essence n) more once (good.linked strict)) good.holds in
    let h : Holds w (after c t).node = called_holds {w = w} c t safe good.sound start in
    record {
      now = h.linking.links;
      since = h.linking.since;
      own = h.linking.own;
      good = record {
        sound = ((calls c t).goes good.sound).ordered;
        promises = (run_promises (c ∷ []) t).keeps good.sound good.promises;
        holds = still_holds g (said ++ out) (said ++ out) links h.linking.links place (after c t).node (λ m among. among) h.linking.holds h;
        linked = h.linking.holds;
      };
    }

-- links that another node makes change nothing for a node's own
others_in : (g : Setting) (said more : List Message) (old new : List Link) (place k : ℕ) (x n : PlainNode) → (k ≡ place → ⊥) → Extends old new → ((l : Link) → Contains new l → Contains old l ⊎ (l.maker ≡ place + 1)) → IsIn g (said ++ more) (place + 1) new (essence x) → (n.role ≡ role.Leader → IsElected g said (k + 1) n.term) → IsIn g said (k + 1) old (essence n) → IsIn g (said ++ more) (k + 1) new (essence n)
others_in g said more old new place k x n other since own its leads c = record {
  once = its.once;
  single = its.single;
  made = its.made;
  logged = still_linked old new n.log since c.logged;
  sent = still_chains old new n.sent since c.sent;
  waiting = still_chains old new n.waiting since c.waiting;
  past = λ l among mine.
      elim (own l among) as (λ _. l.entry.term ≤ n.term) [
        | inl before ↦ c.past l before mine
        | inr theirs ↦ absurd (other (omega (arith, mine, theirs)))
      ];
  stands = λ is l among mine term.
      elim (own l among) as (λ _. ⊥) [
        | inl before ↦ c.stands is l before mine term
        | inr theirs ↦ other (omega (arith, mine, theirs))
      ];
  leads = λ is l among term.
      elim (own l among) as (λ _. l.index ≤ last n.log) [
        | inl before ↦ c.leads is l before term
        | inr theirs ↦
            let made : IsElected g (said ++ more) l.maker n.term = subst (λ (t : ℕ). IsElected g (said ++ more) l.maker t) term (its.made l among) in
            let one : k + 1 ≡ l.maker = one_elected g (said ++ more) (k + 1) l.maker n.term its.once (still_elected g said (said ++ more) (k + 1) n.term (λ m among. Contains-append_left said more m among) (leads is)) made in
            absurd (other (omega (arith, one, theirs)))
      ];
}

still_good : (g : Setting) (said more : List Message) (links : List Link) (place k : ℕ) (x n : PlainNode) → (k ≡ place → ⊥) → (e : CallEnds g (said ++ more) links place x) → IsGood g said links k n → IsGood g (said ++ more) e.now k n
still_good g said more links place k x n other e good =
    let linked : g.strict ≡ true → IsIn g (said ++ more) (k + 1) e.now (essence n) = λ strict.
    others_in g said more links e.now place k x n other e.since e.own (e.good.linked strict) good.holds.leads (good.linked strict) in
    record { sound = good.sound; promises = good.promises; holds = still_holds g said (said ++ more) links e.now k n (λ m among. Contains-append_left said more m among) linked good.holds; linked = linked }

-- the votes that the called node gave, those that it puts out now among them, it had promised
pub pledged : (g : Setting) (s : Network) (place : ℕ) (c : Call) (n : PlainNode) (m : Message) (sane : IsSane g s) → slice_get s.nodes place ≡ Some n → IsGood g s.said sane.links place n → Contains (s.said ++ put_out c n) m → IsYes m → m.from ≡ place + 1 → IsPromised n m.term m.to
pledged g s place c n m sane at good among gives own =
    elim (Contains-append_cases s.said (put_out c n) m among) as (λ _. IsPromised n m.term m.to) [
      | inl before ↦
          let was = sane.given m before gives in
          let same : was.place ≡ place = omega (arith, was.by, own) in
          let it : was.node ≡ n = same_Some was.node n (sym was.stands ∙ ap (slice_get s.nodes) same ∙ at) in
          subst (λ (x : PlainNode). IsPromised x m.term m.to) it was.promised
      | inr now ↦ All-contains (Kept n) n.waiting m good.promises.kept (out_waits c n m good.promises now gives) gives
    ]

pub out_own : (g : Setting) (said : List Message) (links : List Link) (place : ℕ) (c : Call) (n : PlainNode) (m : Message) → IsGood g said links place n → Contains (put_out c n) m → IsYes m → m.from ≡ place + 1
out_own g said links place c n m good out gives =
    let w = world_of g said links place in
    (All-contains (IsOwn w) n.waiting m good.holds.waiting (out_waits c n m good.promises out gives)).0

-- of a node's votes of one term, that which it puts out now is for whom it voted before
once_more : (g : Setting) (s : Network) (place : ℕ) (c : Call) (n : PlainNode) (a b : Message) (sane : IsSane g s) → slice_get s.nodes place ≡ Some n → IsGood g s.said sane.links place n → Contains (s.said ++ put_out c n) a → Contains (put_out c n) b → IsYes a → IsYes b → a.from ≡ b.from → a.term ≡ b.term → b.to ≡ a.to
once_more g s place c n a b sane at good old now first second from term =
    let own : a.from ≡ place + 1 = from ∙ out_own g s.said sane.links place c n b good now second in
    let p : IsPromised n a.term a.to = pledged g s place c n a sane at good old first own in
    All-contains (λ (m : Message). IsYes m → m.term ≡ a.term → m.to ≡ a.to) n.waiting b p.alone (out_waits c n b good.promises now second) second (sym term)

abbrev pub called_network : Network → ℕ → Call → List Event → PlainNode → Network
called_network s place c told n = record { nodes = slice_set s.nodes place (after c (node_step n told)).node; said = s.said ++ put_out c n }

given_here : (s : Network) (place : ℕ) (c : Call) (told : List Event) (n : PlainNode) (m : Message) → slice_get s.nodes place ≡ Some n → IsSound n → IsYes m → m.from ≡ place + 1 → IsPromised n m.term m.to → IsGiven (called_network s place c told n).nodes m
given_here s place c told n m at sound gives own promised =
    let x = (after c (node_step n told)).node in
    record {
      place = place;
      node = x;
      stands = set_here s.nodes place n x at;
      by = own;
      promised = (run_promises (c ∷ []) (node_step n told)).stays m.term m.to sound gives.1 promised;
    }

nodes_after : (g : Setting) (s : Network) (place : ℕ) (c : Call) (told : List Event) (n : PlainNode) (k : ℕ) (x : PlainNode) (sane : IsSane g s) → slice_get s.nodes place ≡ Some n → (e : CallEnds g (s.said ++ put_out c n) sane.links place (after c (node_step n told)).node) → slice_get (called_network s place c told n).nodes k ≡ Some x → IsGood g (s.said ++ put_out c n) e.now k x
nodes_after g s place c told n k x sane at e is =
    let new = (after c (node_step n told)).node in
    each_set (λ (j : ℕ) (y : PlainNode). IsGood g (s.said ++ put_out c n) e.now j y) s.nodes place n new at e.good
    (λ j y other there. still_good g s.said (put_out c n) sane.links place j new y other e (sane.good j y there)) k x is

pub once_after : (g : Setting) (s : Network) (place : ℕ) (c : Call) (n : PlainNode) (a b : Message) → IsSane g s → slice_get s.nodes place ≡ Some n → Contains (s.said ++ put_out c n) a → Contains (s.said ++ put_out c n) b → IsYes a → IsYes b → a.from ≡ b.from → a.term ≡ b.term → a.to ≡ b.to
once_after g s place c n a b sane at one two first second from term =
    let good = sane.good place n at in
    elim (Contains-append_cases s.said (put_out c n) b two) as (λ _. a.to ≡ b.to) [
      | inr now ↦ sym (once_more g s place c n a b sane at good one now first second from term)
      | inl before ↦ elim (Contains-append_cases s.said (put_out c n) a one) as (λ _. a.to ≡ b.to) [
        | inr now ↦ once_more g s place c n b a sane at good two now second first (sym from) (sym term)
        | inl old ↦ sane.once a b old before first second from term
      ]
    ]

given_after : (g : Setting) (s : Network) (place : ℕ) (c : Call) (told : List Event) (n : PlainNode) (m : Message) → IsSane g s → slice_get s.nodes place ≡ Some n → Contains (s.said ++ put_out c n) m → IsYes m → IsGiven (called_network s place c told n).nodes m
given_after g s place c told n m sane at among gives =
    let good = sane.good place n at in
    let here : m.from ≡ place + 1 → IsGiven (called_network s place c told n).nodes m = λ own.
    given_here s place c told n m at good.sound gives own (pledged g s place c n m sane at good among gives own) in
    elim (Contains-append_cases s.said (put_out c n) m among) as (λ _. IsGiven (called_network s place c told n).nodes m) [
      | inl before ↦
          let was = sane.given m before gives in
          elim (cases_eq was.place place) as (λ _. IsGiven (called_network s place c told n).nodes m) [
            | inl same ↦ here (was.by ∙ ap (λ (k : ℕ). k + 1) same)
            | inr other ↦ record {
              place = was.place;
              node = was.node;
              stands = set_elsewhere s.nodes place was.place (after c (node_step n told)).node other ∙ was.stands;
              by = was.by;
              promised = was.promised;
            }
          ]
      | inr now ↦ here (out_own g s.said sane.links place c n m good now gives)
    ]

-- all is well, and no link was lost
pub record Since (g : Setting) (before : List Link) (s : Network) : Type 0 where
  pub sane : IsSane g s
  pub since : Extends before sane.links

pub called_sane : (g : Setting) (s : Network) (place : ℕ) (c : Call) (told : List Event) (n : PlainNode) (sane : IsSane g s) → slice_get s.nodes place ≡ Some n → IsHonestCall g.config s (place + 1) c → (g.strict ≡ true → IsGenuineCall s c) → Since g sane.links (called_network s place c told n)
called_sane g s place c told n sane at honest genuine =
    let good = sane.good place n at in
    let out = put_out c n in
    let once : AreOnce (s.said ++ out) = λ a b one two first second from term. once_after g s place c n a b sane at one two first second from term in
    let e = call_ends g s.said sane.links place c told n once good (safe_call g s place c n sane good honest genuine) in
    record {
      sane = record {
        links = e.now;
        good = λ k x is. nodes_after g s place c told n k x sane at e is;
        fine = All-append (Keeps g.config) s.said out sane.fine (out_fine c n good.holds);
        chains = λ strict.
            All-append (IsChain e.now) s.said out (still_chains sane.links e.now s.said e.since (sane.chains strict))
            (still_chains sane.links e.now out e.since (out_chains g s.said sane.links (place + 1) c n (good.linked strict)));
        given = λ m among gives. given_after g s place c told n m sane at among gives;
        once = once;
      };
      since = e.since;
    }

happened_sane_to : (g : Setting) (s : Network) (h : Happening) (o : Option PlainNode) → slice_get s.nodes h.place ≡ o → (sane : IsSane g s) → IsHonestCall g.config s (h.place + 1) h.call → (g.strict ≡ true → IsGenuineCall s h.call) → Since g sane.links (happened_to o s h)
happened_sane_to g s h None at sane honest genuine = record { sane = sane; since = λ l among. among }
happened_sane_to g s h (Some n) at sane honest genuine = called_sane g s h.place h.call h.told n sane at honest genuine

pub run_since : (g : Setting) (hs : List Happening) (s : Network) (sane : IsSane g s) → AreHonest g.config hs s → (g.strict ≡ true → AreGenuine hs s) → Since g sane.links (run hs s)
run_since g [] s sane honest genuine = record { sane = sane; since = λ l among. among }
run_since g (h ∷ hs) s sane honest genuine =
    let one = happened_sane_to g s h (slice_get s.nodes h.place) refl sane honest.0 (λ strict. (genuine strict).0) in
    let rest = run_since g hs (happened s h) one.sane honest.1 (λ strict. (genuine strict).1) in
    record { sane = rest.sane; since = λ l among. rest.since l (one.since l among) }

pub run_sane : (g : Setting) (hs : List Happening) (s : Network) → IsSane g s → AreHonest g.config hs s → (g.strict ≡ true → AreGenuine hs s) → IsSane g (run hs s)
run_sane g hs s sane honest genuine = (run_since g hs s sane honest genuine).sane

-- ---- what was said stays said

said_to : (s : Network) (h : Happening) (o : Option PlainNode) (m : Message) → Contains s.said m → Contains (happened_to o s h).said m
said_to s h None m said = said
said_to s h (Some n) m said = Contains-append_left s.said (put_out h.call n) m said

pub still_said : (hs : List Happening) (s : Network) (m : Message) → Contains s.said m → Contains (run hs s).said m
still_said [] s m said = said
still_said (h ∷ hs) s m said = still_said hs (happened s h) m (said_to s h (slice_get s.nodes h.place) m said)
