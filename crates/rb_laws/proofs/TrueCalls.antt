-- What is true is honest: what anybody may make up gives no vote and keeps the configuration, and so does a snapshot of the state that a node has
use Rattle.std.proofs.Common.{◌≡◌, ◌⊎◌, ℕ, ◌+◌, Bool, true, List, [], ◌∷◌, sym, subst, inl, inr}
use Rattle.rb_raftlog.specs.declared.entry.Body.{Body}
use Rattle.rb_tracker.specs.Configs.{config_of, state_of}
use Rattle.rb_tracker.specs.declared.config.Config.{Config}
use Rattle.rb_message.specs.declared.kind.MessageKind.{MessageKind}
use Rattle.rb_message.specs.declared.kind.MessageKind.TheVariants as kind
use Rattle.rb_message.specs.declared.message.Message.{Message}
use Rattle.rb_calls.specs.Calling.{Call, Step, Propose}
use Rattle.rb_laws.specs.Honesty.{KeepsBy, IsHonestCall, AreHonest}
use Rattle.rb_laws.specs.Network.{Network, Happening, happened}
use Rattle.rb_laws.specs.Restarts.{Occurrence, Called, Restarted, occurred, IsHonestOccurrence, IsTrueOccurrence, AreHonestThrough, AreTrueThrough}
use Rattle.rb_laws.specs.Safety.{IsHarmless, IsTrueCall, IsStateOf, IsStateCall, AreTrue}
use Rattle.rb_laws.proofs.Holding.{Setting}
use Rattle.rb_laws.proofs.NetworkLaws.{IsSane, run_sane}
use Rattle.rb_laws.proofs.RestartedNodes.{IsSaneWith, occurs_sane}
use Rattle.rb_laws.proofs.TieLaws.{no_vote}

-- gives no vote, and keeps the configuration
abbrev Tame : Config → MessageKind → Type 0
Tame c k = (k ≡ kind.VoteResponse true → ⊥) × KeepsBy c k

answers_same : (a b : Bool) → kind.VoteResponse a ≡ kind.VoteResponse b → a ≡ b
answers_same a b e = cc

asks_no_vote : (body : Body) → kind.Proposal body ≡ kind.VoteResponse true → ⊥
asks_no_vote body e = cc

harmless_tame : (c : Config) (k : MessageKind) → IsHarmless k → Tame c k
harmless_tame c (kind.Append append) h = absurd h
harmless_tame c (kind.Heartbeat commit) h = absurd h
harmless_tame c (kind.Snapshot snapshot) h = absurd h
harmless_tame c (kind.Vote last_term last_index transfer) h = absurd h
harmless_tame c (kind.AppendResponse matched) h = absurd h
harmless_tame c (kind.VoteResponse granted) h = (λ e. h (answers_same granted true e), tt)
harmless_tame c (kind.Proposal body) h = (asks_no_vote body, h)
harmless_tame c _ h = (λ e. cc, tt)

state_tame : (g : Setting) (s : Network) (m : Message) → IsSane g s → IsStateOf s.nodes m → Tame g.config m.kind
state_tame g s m sane is =
    let keeps : config_of (state_of is.node.tracker.config) ≡ g.config =
    subst (λ (c : Config). config_of (state_of c) ≡ g.config) (sym (sane.good is.place is.node is.at).holds.config) g.back in
    subst (Tame g.config) (sym is.is) (no_vote is.node, keeps)

pub honest_call : (g : Setting) (s : Network) (id : ℕ) (call : Call) → IsSane g s → IsTrueCall s.said id call ⊎ IsStateCall s.nodes id call → IsHonestCall g.config s id call
honest_call g s id (Step m) sane is =
    elim is as (λ _. IsHonestCall g.config s id (Step m)) [
      | inl may ↦ elim may as (λ _. IsHonestCall g.config s id (Step m)) [ inl said ↦ inl said | inr harmless ↦ inr (harmless_tame g.config m.kind harmless) ]
      | inr state ↦ inr (state_tame g s m sane state.0)
    ]
honest_call g s id (Propose body) sane is = elim is as (λ _. IsHonestCall g.config s id (Propose body)) [ inl plain ↦ plain | inr none ↦ absurd none ]
honest_call g s id _ sane is = tt

pub all_honest : (g : Setting) (loose : g.strict ≡ true → ⊥) (hs : List Happening) (s : Network) → IsSane g s → AreTrue hs s → AreHonest g.config hs s
all_honest g loose [] s sane true_calls = tt
all_honest g loose (h ∷ hs) s sane true_calls =
    let honest = honest_call g s (h.place + 1) h.call sane true_calls.0 in
    let next : IsSane g (happened s h) = run_sane g (h ∷ []) s sane (honest, tt) (λ strict. absurd (loose strict)) in
    (honest, all_honest g loose hs (happened s h) next true_calls.1)

-- ---- where nodes restart

honest_occurrence : (g : Setting) (s : Network) (o : Occurrence) → IsSaneWith g s → IsTrueOccurrence s o → IsHonestOccurrence g.config s o
honest_occurrence g s (Called h) w is = honest_call g s (h.place + 1) h.call w.sane is
honest_occurrence g s (Restarted place) w is = tt

pub all_honest_through : (g : Setting) (loose : g.strict ≡ true → ⊥) (os : List Occurrence) (s : Network) → IsSaneWith g s → AreTrueThrough os s → AreHonestThrough g.config os s
all_honest_through g loose [] s w true_calls = tt
all_honest_through g loose (o ∷ os) s w true_calls =
    let honest = honest_occurrence g s o w true_calls.0 in
    (honest, all_honest_through g loose os (occurred s o) (occurs_sane g loose s o w honest) true_calls.1)
