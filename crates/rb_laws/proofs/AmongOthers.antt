-- A node is called among others: what holds of it, of them, of what was said and of the history goes on with each of its moves
use Rattle.std.proofs.Common.{[], ◌≡◌, ℕ, ◌+◌, ◌-◌, ◌<◌, ◌≤◌, List, length, Option, Some, Ok, refl, sym, ap, subst, ◌∙◌, arith, inl, inr}
use Rattle.std.specs.Prelude.{All, slice_index_or}
use Rattle.std.specs.List.{slice_get}
use Rattle.std.proofs.lemmas.Bool.{cases_lt}
use Rattle.std.proofs.lemmas.List.Elements.{All-contains, All-contains_itself, Contains-push}
use Rattle.rb_raftlog.specs.declared.entry.Entry.{Entry}
use Rattle.rb_raftlog.specs.Log.{LogValue, last, last_term, term_at, term_of}
use Rattle.rb_raftlog.proofs.TermLaws.{term_base, term_past}
use Rattle.rb_message.specs.Appends.{PlainAppend}
use Rattle.rb_message.specs.declared.kind.MessageKind.{MessageKind}
use Rattle.rb_message.specs.declared.kind.MessageKind.TheVariants as kind
use Rattle.rb_message.specs.declared.message.Message.{Message}
use Rattle.rb_message.specs.declared.role.Role.TheVariants as role
use Rattle.rb_node.specs.Node.{PlainNode}
use Rattle.rb_calls.specs.Sound.{IsSound}
use Rattle.rb_calls.specs.Words.{IsYes}
use Rattle.rb_calls.proofs.Goes.{Ways}
use Rattle.rb_calls.proofs.Moves.{CameNow, MaySay}
use Rattle.rb_calls.proofs.Saying.{Words, words}
use Rattle.rb_laws.specs.Safety.{IsHarmless, IsGenuine}
use Rattle.rb_laws.specs.Votes.{IsCast}
use Rattle.rb_laws.proofs.LinkedLogs.{log_from}
use Rattle.rb_calls.proofs.ListLaws.{some_at}
use Rattle.rb_laws.proofs.Spots.{spot, Descends, line, stop}
use Rattle.rb_laws.proofs.LeaderLogs.{Ack, History, out_of, IsOfTerm}
use Rattle.rb_laws.proofs.KeptEntries.{IsOn}
use Rattle.rb_laws.proofs.Tips.{tip, last_is, tip_rooted, log_descends}
use Rattle.rb_laws.proofs.Histories.{IsMore, with_ack, more_ack}
use Rattle.rb_laws.proofs.NodeKnowledge.{Ground, nobody, all_said, TellsAppend, IsSaidUpTo, TellsBy, TellsTrue, Knows, still_knows, still_all}
use Rattle.rb_laws.proofs.FollowerMoves.{IsWhole, not_past, behind_settled}
use Rattle.rb_laws.proofs.OtherNodes.{AreReached, back_acks, whole_ack, no_news_ack}
use Rattle.rb_laws.proofs.TermMoves.{acks_knows}

-- ---- incoming messages

harmless_tells : (g : Ground) (st : History) (k : MessageKind) (m : Message) → IsHarmless k → TellsBy g st nobody k m
harmless_tells g st (kind.Append append) m none = absurd none
harmless_tells g st (kind.Heartbeat commit) m none = absurd none
harmless_tells g st (kind.Snapshot snapshot) m none = absurd none
harmless_tells g st (kind.Vote last_term last_index transfer) m none = absurd none
harmless_tells g st (kind.VoteResponse granted) m none = λ yes some. absurd (none yes)
harmless_tells g st (kind.AppendResponse matched) m none = absurd none
harmless_tells g st _ m none = tt

pub genuine_tells : (g : Ground) (st : History) (said : List Message) (id : ℕ) (m : Message) → All (TellsTrue g st nobody) said → IsGenuine said id m → TellsTrue g st nobody m
genuine_tells g st said id m told is =
    elim is as (λ _. TellsTrue g st nobody m) [ inl among ↦ All-contains (TellsTrue g st nobody) said m told among.0 | inr none ↦ harmless_tells g st m.kind m none ]

-- ---- what a node may say that it holds

-- an append that the log has to its end
pub held_end : (v : LogValue) (prev term : ℕ) (es : List Entry) → term_at v prev ≡ Ok term → ((k : ℕ) (e : Entry) → slice_get es k ≡ Some e → term_at v (prev + 1 + k) ≡ Ok e.term) → term_at v (prev + length es) ≡ Ok (last_term (log_from prev term es))
held_end v prev term es first held =
    let w = log_from prev term es in
    elim (cases_lt 0 (length es)) as (λ _. term_at v (prev + length es) ≡ Ok (last_term w)) [
      | inr none ↦
          let size : prev + length es ≡ prev = omega (arith, none) in
          let mine : term_at w (last w) ≡ Ok term = ap (term_at w) size ∙ term_base w in
          ap (term_at v) size ∙ first ∙ ap (λ (t : ℕ). Ok t) (sym (last_is w term mine))
      | inl some ↦
          let k : ℕ = length es - 1 in
          let x = some_at es k (omega (arith, some)) in
          let index : prev + 1 + k ≡ prev + length es = omega (arith, some) in
          let mine : term_at w (last w) ≡ Ok x.0.term = ap (term_at w) (sym index) ∙ term_past w k ∙ ap (λ (o : Option Entry). term_of o) x.1 in
          ap (term_at v) (sym index) ∙ held k x.0 x.1 ∙ ap (λ (t : ℕ). Ok t) (sym (last_is w x.0.term mine))
    ]

pub came_append : (g : Ground) (st : History) (said : List Message) (id : ℕ) (v : Ways) (n : PlainNode) (append : PlainAppend) → All (TellsTrue g st nobody) said → ((m : Message) → v.came m → IsGenuine said id m) → CameNow v n (kind.Append append) → TellsAppend g st n.term append
came_append g st said id v n append told hears c =
    let m = c.came.message in
    let true_then : TellsTrue g st nobody m = genuine_tells g st said id m told (hears m c.came.comes) in
    subst (λ (t : ℕ). TellsAppend g st t append) c.of_term (subst (λ (k : MessageKind). TellsBy g st nobody k m) c.came.is true_then)

-- where a node has what it may say that it holds
pub record HasSpot (g : Ground) (st : History) (n : PlainNode) (i : ℕ) : Type 0 where
  pub term : ℕ
  pub has : Descends st.links (tip n.log) (spot i term)
  pub on : IsOn g.root g.start st n.term (spot i term)

pub say_spot : (g : Ground) (said : List Message) (st : History) (id : ℕ) (v : Ways) (n : PlainNode) (i : ℕ) → IsWhole g said st → All (TellsTrue g st nobody) said → ((m : Message) → v.came m → IsGenuine said id m) → IsSound n → Knows g st id n → g.root.index < i → MaySay v n i → HasSpot g st n i
say_spot g said st id v n i w told hears s h past may =
    let tree = w.lawful.history.tree in
    let rooted = tip_rooted g.root st.links n.log h.log.linked h.log.rooted in
    let held = s.is_held in
    elim may as (λ _. HasSpot g st n i) [
      | inl known ↦
          let t = stop g.root st.links i (tip n.log) rooted (omega (arith, past)) (omega (arith, known, held)) in
          let x = spot i t.0 in
          let y = spot n.commit h.log.commit_term in
          let down = line g.root st.links (tip n.log) x y tree t.1 (log_descends st.links n.log n.commit h.log.commit_term h.log.linked h.log.commit_held) known in
          record { term = t.0; has = t.1; on = inr (behind_settled g.root g.start said st n.term y x w.lawful (omega (arith, past)) h.log.commit down) }
      | inr rest ↦ elim rest as (λ _. HasSpot g st n i) [
        | inl own ↦
            let far = own.1 in
            let t = stop g.root st.links i (tip n.log) rooted (omega (arith, past)) (omega (arith, far)) in
            record { term = t.0; has = t.1; on = inl (record { tip = tip n.log; ends = (h.log.leads own.0).ends; descends = t.1 }) }
        | inr a ↦
            let append = a.append in
            let tells = came_append g st said id v n append told hears a.came in
            let end : term_at n.log (append.prev + length append.entries) ≡ Ok (last_term (log_from append.prev append.prev_term append.entries)) =
            held_end n.log append.prev append.prev_term append.entries a.first a.held in
            let here : term_at n.log i ≡ Ok (last_term (log_from append.prev append.prev_term append.entries)) = ap (term_at n.log) a.end ∙ end in
            let x = spot i (last_term (log_from append.prev append.prev_term append.entries)) in
            let own : IsOfTerm st n.term x =
            elim tells.ends as (λ _. IsOfTerm st n.term x) [
              | inl is ↦ subst (λ (j : ℕ). IsOfTerm st n.term (spot j (last_term (log_from append.prev append.prev_term append.entries)))) (sym a.end) is
              | inr none ↦ absurd (not_past g said st n.log append.prev append.prev_term w h.log.linked h.log.rooted none.0 none.1 a.first)
            ] in
            record { term = last_term (log_from append.prev append.prev_term append.entries); has = log_descends st.links n.log i (last_term (log_from append.prev append.prev_term append.entries)) h.log.linked here; on = inl own }
      ]
    ]

-- ---- around a node

-- the votes that a node has to say are its own, of terms that it has reached; none is sent at once
pub record Speaks (id term : ℕ) (ws : Words) : Type 0 where
  pub voted : All (λ (m : Message). IsYes m → (m.from ≡ id) × (m.term ≤ term)) ws.waiting
  pub none : All (λ (m : Message). IsYes m → ⊥) ws.sent

-- the nodes beside one: each other, and each as it has saved itself
pub record Company : Type 1 where
  pub nodes : ℕ → PlainNode → Type 0
  pub saved : ℕ → PlainNode → Type 0

-- what a node has saved it knows by what others may have heard of
pub record KnowsSaved (g : Ground) (st : History) (id : ℕ) (n : PlainNode) : Type 0 where
  pub follows : n.role ≡ role.Follower
  pub none_sent : n.sent ≡ []
  pub none_waiting : n.waiting ≡ []
  pub knows : Knows g (out_of st) id n

-- by as much that others may have heard of
pub saved_still : (g : Ground) (old new : History) (id : ℕ) (n : PlainNode) → out_of new ≡ out_of old → KnowsSaved g old id n → KnowsSaved g new id n
saved_still g old new id n same k = record {
  follows = k.follows;
  none_sent = k.none_sent;
  none_waiting = k.none_waiting;
  knows = subst (λ (out : History). Knows g out id n) (sym same) k.knows;
}

pub record Around (g : Ground) (said : List Message) (id : ℕ) (others : Company) (st : History) (n : PlainNode) : Type 0 where
  pub whole : IsWhole g said st
  pub knows : Knows g st id n
  pub told : All (TellsTrue g st nobody) said
  pub apart : (j : ℕ) (x : PlainNode) → (j ≡ id → ⊥) → others.nodes j x → Knows g st j x × Speaks j x.term (words x)
  pub saved : (j : ℕ) (x : PlainNode) → others.saved j x → KnowsSaved g st j x
  pub speaks : Speaks id n.term (words n)
  pub reached : (term candidate : ℕ) → IsCast said id term candidate → term ≤ n.term

-- the history goes on
pub record Onwards (g : Ground) (said : List Message) (id : ℕ) (others : Company) (st : History) (n : PlainNode) : Type 0 where
  pub history : History
  pub more : IsMore st history
  pub around : Around g said id others history n

pub same_history : (st : History) → IsMore st st
same_history st = record { links = λ l among. among; candidacies = λ e among. among; elections = λ e among. among; acks = λ a among. among; out_candidacies = λ e among. among; out_acks = λ a among. among }

-- by the same history
pub still_around : {g : Ground} {said : List Message} {id : ℕ} {others : Company} (st : History) (a b : PlainNode) → Around g said id others st a → Knows g st id b → Speaks id b.term (words b) → a.term ≤ b.term → Onwards g said id others st b
still_around st a b h knows speaks up = record {
  history = st;
  more = same_history st;
  around = record { whole = h.whole; knows = knows; told = h.told; apart = h.apart; saved = h.saved; speaks = speaks; reached = λ term candidate cast. (let low = h.reached term candidate cast in omega (arith, low, up)) };
}

-- ---- an acknowledgement

no_sent : (a : Ack) (ms : List Message) → All (λ (m : Message). IsYes m → ⊥) ms → All (AreReached a) ms
no_sent a ms none = λ k d low yes _. absurd (none k d low yes)

-- of a node's votes
own_reached : (a : Ack) (id term : ℕ) (ms : List Message) → term ≤ a.term → All (λ (m : Message). IsYes m → (m.from ≡ id) × (m.term ≤ term)) ms → All (AreReached a) ms
own_reached a id term ms up voted = λ k d low yes _. (let v = voted k d low yes in let reached = v.1 in omega (arith, reached, up))

-- and of another's
other_reached : (a : Ack) (id j term : ℕ) (ms : List Message) → a.voter ≡ id → (j ≡ id → ⊥) → All (λ (m : Message). IsYes m → (m.from ≡ j) × (m.term ≤ term)) ms → All (AreReached a) ms
other_reached a id j term ms by other voted = λ k d low yes from. (let v = voted k d low yes in absurd (other (sym v.0 ∙ sym from ∙ by)))

said_reached : (a : Ack) (said : List Message) → ((term candidate : ℕ) → IsCast said a.voter term candidate → term ≤ a.term) → All (AreReached a) said
said_reached a said late = λ k d low yes by.
    (let m = slice_index_or said k d in
    late m.term m.to (record { answer = m; among = All-contains_itself said k d low; gives = yes; by = sym by; of_term = refl; for_it = refl }))

-- the node acknowledges a spot that it has
pub record Acknowledged (g : Ground) (said : List Message) (id : ℕ) (others : Company) (st : History) (n : PlainNode) (i : ℕ) : Type 0 where
  pub goes : Onwards g said id others st n
  pub says : IsSaidUpTo (all_said goes.history) id n.term i

pub acks_around : {g : Ground} {said : List Message} {id : ℕ} {others : Company} (st : History) (n : PlainNode) (i : ℕ) → Around g said id others st n → HasSpot g st n i → Acknowledged g said id others st n i
acks_around {g} {said} {id} {others} st n i h x =
    let a : Ack = record { voter = id; term = n.term; index = i } in
    let new = with_ack st a in
    let more = more_ack st a in
    let on_said = back_acks st a said (said_reached a said h.reached) in
    record {
      goes = record {
        history = new;
        more = more;
        around = record {
          whole = whole_ack g said st a x.term h.whole h.reached x.on;
          knows = acks_knows g st id n a x.term refl refl x.has x.on (no_sent a n.sent h.speaks.none) (own_reached a id n.term n.waiting (omega arith) h.speaks.voted) h.knows;
          told = still_all g st new nobody said more on_said h.told;
          apart = λ j y other is.
              (let p = h.apart j y other is in
              (still_knows g st new j y more (no_news_ack st j id y a other refl (no_sent a y.sent p.1.none) (other_reached a id j y.term y.waiting refl other p.1.voted)) p.0, p.1));
          saved = λ j x is. saved_still g st new j x refl (h.saved j x is);
          speaks = h.speaks;
          reached = h.reached;
        };
      };
      says = record { ack = a; among = Contains-push st.acks a; by = refl; of_term = refl; upto = omega arith };
    }
