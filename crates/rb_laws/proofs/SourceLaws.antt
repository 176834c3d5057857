-- Where entries come from: each that a node has was proposed, is empty, or leaves a joint configuration
use Rattle.std.proofs.Common.{◌≡◌, ℕ, ◌+◌, ◌-◌, arith, not, List, [], ◌∷◌, Option, Some, None, Result, Ok, Err, refl, sym, subst, inl, inr}
use Rattle.std.specs.Prelude.{All, Contains, slice_get}
use Rattle.std.proofs.lemmas.List.Elements.{All-nil, All-append, All-push, All-take, All-drop, All-contains}
use Rattle.std.proofs.lemmas.Option.{slice_get_within, get_or_from_slice_get}
use Rattle.rb_vocab.specs.declared.conf_state.ConfState.{ConfState}
use Rattle.rb_raftlog.proofs.AppendLaws.{by_append}
use Rattle.rb_raftlog.specs.declared.entry.Body.{Body}
use Rattle.rb_raftlog.specs.declared.entry.Body.TheVariants.{Payload, Change}
use Rattle.rb_raftlog.specs.declared.entry.Entry.{Entry}
use Rattle.rb_raftlog.specs.declared.raft_log.LogFault.{LogFault}
use Rattle.rb_raftlog.specs.declared.snapshot.Snapshot.{Snapshot}
use Rattle.rb_raftlog.specs.Log.{LogValue, term_at, entry_at, compacted, appended}
use Rattle.rb_vocab.specs.declared.change.Transition.TheVariants.{Auto}
use Rattle.rb_tracker.specs.Configs.{members}
use Rattle.rb_message.specs.declared.kind.MessageKind.{MessageKind}
use Rattle.rb_message.specs.declared.kind.MessageKind.TheVariants as kind
use Rattle.rb_message.specs.declared.message.Message.{Message}
use Rattle.rb_node.specs.declared.options.Options.{Options}
use Rattle.rb_node.specs.Node.{PlainNode, NodeStep, node_step, started}
use Rattle.rb_node.specs.Leading.{in_lead}
use Rattle.rb_calls.specs.Calling.{Call, Step, Propose, Transfer, Advance, after}
use Rattle.rb_laws.specs.Network.{Network, Happening, put_out, happened_to, happened, run, IsBegun}
use Rattle.rb_laws.specs.Proposals.{BringsNone, IsSaidCall, AreSaid, HasSource}
use Rattle.rb_calls.specs.Sound.{IsSound}
use Rattle.rb_calls.specs.Words.{SendsBy, AnswersBy}
use Rattle.rb_calls.proofs.CallWays.{ways, called_way, with_members_only}
use Rattle.rb_calls.proofs.Goes.{Ways}
use Rattle.rb_calls.proofs.LeaderLaws.{with_views_only}
use Rattle.rb_laws.proofs.LinkedLogs.{part_all}
use Rattle.rb_laws.proofs.Links.{entry_there}
use Rattle.rb_calls.proofs.ListLaws.{each_set, in_first, in_rest}
use Rattle.rb_calls.proofs.MoveLaws.{call_keeps}
use Rattle.rb_calls.proofs.Moves.{Whole, Allows, TellMove, Idle, Sent, IsNoProposal, StepMove, StepTells, Came, Puts, Passes, Waits, Leads, Appends, Takes, Restores, ChangeMove, Revises, in_config, CallMove, CallChanges, CallSteps, Saves, Compacts, over}

-- ---- nodes whose entries are of a kind

abbrev IsOf : (Body → Type 0) → Entry → Type 0
IsOf P e = P e.body

abbrev SaysBy : (Body → Type 0) → MessageKind → Type 0
SaysBy P (kind.Append append) = All (IsOf P) append.entries
SaysBy P (kind.Proposal body) = P body
SaysBy P _ = Unit {0}

abbrev Says : (Body → Type 0) → Message → Type 0
Says P m = SaysBy P m.kind

record Have (P : Body → Type 0) (es : List Entry) (sending answering : List Message) : Type 0 where
  entries : All (IsOf P) es
  sent : All (Says P) sending
  waiting : All (Says P) answering

abbrev Has : (Body → Type 0) → PlainNode → Type 0
Has P n = Have P n.log.entries n.sent n.waiting

abbrev Hears : (Body → Type 0) → Ways → Type 0
Hears P w = (m : Message) → w.came m → Says P m

-- ---- what is said

sends_of : (P : Body → Type 0) (k : MessageKind) (n : PlainNode) (m : Message) → IsNoProposal k → SendsBy k n m → All (IsOf P) n.log.entries → SaysBy P k
sends_of P (kind.Append append) n m own sent all = part_all (IsOf P) n.log append.prev append.entries sent.3.entries all
sends_of P (kind.Proposal body) n m own sent all = absurd own
sends_of P _ n m own sent all = tt

answers_of : (P : Body → Type 0) (k : MessageKind) (n : PlainNode) (m : Message) → AnswersBy k n m → SaysBy P k
answers_of P (kind.Append append) n m answer = absurd answer
answers_of P (kind.Proposal body) n m answer = absurd answer
answers_of P _ n m answer = tt

none_of : (P : Body → Type 0) (k : MessageKind) → BringsNone k → SaysBy P k
none_of P (kind.Append append) none = absurd none
none_of P (kind.Proposal body) none = absurd none
none_of P _ none = tt

came_of : (P : Body → Type 0) {w : Ways} (k : MessageKind) → Hears P w → Came w k → SaysBy P k
came_of P k hears came = subst (SaysBy P) came.is (hears came.message came.comes)

telling_has : (P : Body → Type 0) {a b : PlainNode} → TellMove a b → IsSound a → Has P a → Has P b
telling_has P (Idle a b e) s h = subst (λ (x : Whole). Have P x.core.log.entries x.words.sent x.words.waiting) (sym e) h
telling_has P (Sent n m own says) s h = record {
  entries = h.entries;
  sent = All-push (Says P) n.sent m h.sent (sends_of P m.kind n m own (says s).1 h.entries);
  waiting = h.waiting;
}
telling_has P _ s h = h

-- ---- logs

appended_of : (P : Body → Type 0) (v : LogValue) (prev term commit : ℕ) (es : List Entry) → All (IsOf P) v.entries → All (IsOf P) es → All (IsOf P) (appended v prev term es commit).entries
appended_of P v prev term commit es old new =
    by_append v prev term commit es (λ (x : LogValue). All (IsOf P) x.entries) old
    (λ c _ _ _. All-append (IsOf P) _ _ (All-take (IsOf P) (c - 1 - v.base) v.entries old) (All-drop (IsOf P) (c - 1 - prev) es new))

compacted_of : (P : Body → Type 0) (v : LogValue) (i : ℕ) (r : Result ℕ LogFault) → All (IsOf P) v.entries → All (IsOf P) (compacted v i r).entries
compacted_of P v i (Ok term) all = All-drop (IsOf P) (i - v.base) v.entries all
compacted_of P v i (Err fault) all = all

-- ---- each move

module _ (P : Body → Type 0) (empty : P (Payload [])) (leaves : P (Change Auto [])) where
  puts_of : {w : Ways} (n : PlainNode) (body : Body) → Hears P w → Puts w n body → P body
  puts_of n body hears puts =
      elim puts as (λ _. P body) [
        | inl none ↦ subst P (sym none) empty
        | inr other ↦ elim other as (λ _. P body) [
          | inl came ↦ came_of P (kind.Proposal body) hears came
          | inr joint ↦ subst P (sym joint.0) leaves
        ]
      ]

  step_has : {w : Ways} → Hears P w → {a b : PlainNode} → StepMove w a b → IsSound a → Has P a → Has P b
  step_has hears (StepTells m) s h = telling_has P m s h
  step_has hears (Passes n m came sent) s h = record { entries = h.entries; sent = All-push (Says P) n.sent m h.sent (came_of P m.kind hears came); waiting = h.waiting }
  step_has hears (Waits n m answer may) s h = record { entries = h.entries; sent = h.sent; waiting = All-push (Says P) n.waiting m h.waiting (answers_of P m.kind n m (answer s).1) }
  step_has hears (Appends n body pending leads puts marks) s h = record {
    entries = All-push (IsOf P) n.log.entries (record { term = n.term; body = body }) h.entries (puts_of n body hears puts);
    sent = h.sent;
    waiting = h.waiting;
  }
  step_has hears (Takes n from append is came) s h = record {
    entries = appended_of P n.log append.prev append.prev_term n.commit append.entries h.entries (came_of P (kind.Append append) hears came.came);
    sent = h.sent;
    waiting = h.waiting;
  }
  step_has hears (Restores n snapshot is past came other) s h = record { entries = All-nil (IsOf P); sent = h.sent; waiting = h.waiting }
  step_has hears (Leads n stands elected won) s h = subst (Has P) (sym (with_views_only (in_lead n) (members n.tracker.config) (not n.options.check_quorum))) h
  step_has hears _ s h = h

  change_has : {a b : PlainNode} → ChangeMove a b → Has P a → Has P b
  change_has (Revises n c leads) h = subst (Has P) (sym (with_members_only (in_config n c))) h
  change_has _ h = h

  call_has : {w : Ways} {sound : Type 0} → Hears P w → {a b : PlainNode} → CallMove sound w a b → IsSound a → Has P a → Has P b
  call_has hears (CallChanges m has) s h = change_has m h
  call_has hears (CallSteps m) s h = step_has hears m s h
  call_has hears (Saves n known) s h = record { entries = h.entries; sent = All-nil (Says P); waiting = All-nil (Says P) }
  call_has hears (Compacts n i is) s h = record { entries = compacted_of P n.log i (term_at n.log i) h.entries; sent = h.sent; waiting = h.waiting }
  call_has hears _ s h = h

  moves_have : {w : Ways} {sound : Type 0} → sound → Hears P w → Allows (CallMove sound w) (λ a b. IsSound a × Has P a → IsSound b × Has P b)
  moves_have known hears = record {
    nothing = λ n p. p;
    chain = λ a b c p q r. q (p r);
    each = λ a b m p. (((call_keeps known m).goes p.0).ordered, call_has hears m p.0 p.1);
  }

  -- ---- each call

  -- what a call brings is of the kind
  Brings : Call → Type 0
  Brings (Step m) = Says P m
  Brings (Propose body) = P body
  Brings _ = Unit {0}

  hears_call : (c : Call) (t : NodeStep) → Brings c → Has P t.node → Hears P (ways c t)
  unfolding Brings
  hears_call (Step m) t brings h x is = subst (Says P) (sym is) brings
  hears_call (Propose body) t brings h x is = subst (Says P) (sym is) brings
  hears_call (Transfer to) t brings h x is = subst (Says P) (sym is) tt
  hears_call Advance t brings h x comes = All-contains (Says P) t.node.waiting x h.waiting comes.0
  hears_call _ t brings h x never = absurd never

  called_has : (c : Call) (t : NodeStep) → Brings c → IsSound t.node × Has P t.node → IsSound (after c t).node × Has P (after c t).node
  called_has c t brings p = over (moves_have p.0 (hears_call c t brings p.1)) (called_way c t (λ o. o)) p

  -- ---- a network

  out_of_call : (c : Call) (n : PlainNode) → Has P n → All (Says P) (put_out c n)
  out_of_call Advance n h = All-append (Says P) n.sent n.waiting h.sent h.waiting
  out_of_call _ n h = All-nil (Says P)

  record AllHave (s : Network) : Type 0 where
    nodes : (k : ℕ) (n : PlainNode) → slice_get s.nodes k ≡ Some n → IsSound n × Has P n
    said : All (Says P) s.said

  happened_has : (s : Network) (h : Happening) (o : Option PlainNode) → slice_get s.nodes h.place ≡ o → Brings h.call → AllHave s → AllHave (happened_to o s h)
  happened_has s h None at brings a = a
  happened_has s h (Some n) at brings a =
      let p = a.nodes h.place n at in
      let new = (after h.call (node_step n h.told)).node in
      record {
        nodes = each_set (λ (k : ℕ) (x : PlainNode). IsSound x × Has P x) s.nodes h.place n new at (called_has h.call (node_step n h.told) brings p) (λ j x _ there. a.nodes j x there);
        said = All-append (Says P) s.said (put_out h.call n) a.said (out_of_call h.call n p.1);
      }

  brings_of : (s : Network) (c : Call) → IsSaidCall s c → ((body : Body) → c ≡ Propose body → P body) → AllHave s → Brings c
  unfolding Brings
  brings_of s (Step m) said proposed a =
      elim said as (λ _. Says P m) [
        | inl among ↦ All-contains (Says P) s.said m a.said among
        | inr none ↦ none_of P m.kind none
      ]
  brings_of s (Propose body) said proposed a = proposed body refl
  brings_of s _ said proposed a = tt

  run_has : (hs : List Happening) (s : Network) → AreSaid hs s → ((h : Happening) (body : Body) → Contains hs h → h.call ≡ Propose body → P body) → AllHave s → AllHave (run hs s)
  run_has [] s said proposed a = a
  run_has (h ∷ hs) s said proposed a =
      run_has hs (happened s h) said.1 (λ x body among is. proposed x body (in_rest h hs x among) is)
      (happened_has s h (slice_get s.nodes h.place) refl (brings_of s h.call said.0 (λ body is. proposed h body (in_first h hs) is) a) a)

  started_has : (id : ℕ) (start : Snapshot) (options : Options) → IsSound (started id start options) × Has P (started id start options)
  started_has id start options = (
    record { past_base = omega arith; is_durable = omega arith; within = omega arith; is_committed = omega arith; is_held = omega arith },
    record { entries = All-nil (IsOf P); sent = All-nil (Says P); waiting = All-nil (Says P) },
  )

  begun_have : (members : ConfState) (s : Network) → IsBegun members s → AllHave s
  begun_have members s begun = record {
    nodes = λ k n at. (let x = begun.started k n at in subst (λ (y : PlainNode). IsSound y × Has P y) (sym x.is) (started_has (k + 1) x.start x.options));
    said = subst (All (Says P)) (sym begun.silent) (All-nil (Says P));
  }

  entry_of : (n : PlainNode) (i : ℕ) (e : Entry) → entry_at n.log i ≡ Ok e → Has P n → P e.body
  entry_of n i e at h =
      let x = entry_there n.log i e at in
      All-contains (IsOf P) n.log.entries e h.entries (x.0, slice_get_within n.log.entries x.0 e x.2, get_or_from_slice_get n.log.entries x.0 e e x.2)

pub entries_have_sources : (members : ConfState) (s : Network) (hs : List Happening) (k i : ℕ) (n : PlainNode) (e : Entry) → IsBegun members s → AreSaid hs s → slice_get (run hs s).nodes k ≡ Some n
    → entry_at n.log i ≡ Ok e → HasSource hs e.body
entries_have_sources members s hs k i n e begun said at held =
    let P : Body → Type 0 = HasSource hs in
    let empty : P (Payload []) = inr (inl refl) in
    let leaves : P (Change Auto []) = inr (inr refl) in
    let proposed : (h : Happening) (body : Body) → Contains hs h → h.call ≡ Propose body → P body = λ h body among is. inl (record { happening = h; among = among; proposes = is }) in
    let all = run_has P empty leaves hs s said proposed (begun_have P empty leaves members s begun) in
    entry_of P empty leaves n i e held (all.nodes k n at).1
