-- A leader makes a link: an entry of its term at the end of its log. A new leader finds none of its term
use Rattle.std.proofs.Common.{◌≡◌, ◌⊎◌, ℕ, ◌+◌, ◌≤◌, false, List, [], ◌∷◌, ◌++◌, refl, sym, ap, subst, ◌∙◌, arith, inl, inr}
use Rattle.std.specs.Prelude.{All, Contains}
use Rattle.std.proofs.lemmas.List.Elements.{All-push, All-weaker, Contains-push, Contains-push_cases}
use Rattle.rb_raftlog.specs.Bodies.{is_change}
use Rattle.rb_raftlog.specs.declared.entry.Entry.{Entry}
use Rattle.rb_raftlog.specs.Log.{last, own}
use Rattle.rb_message.specs.declared.kind.MessageKind.{MessageKind}
use Rattle.rb_message.specs.declared.kind.MessageKind.TheVariants as kind
use Rattle.rb_message.specs.declared.message.Message.{Message}
use Rattle.rb_message.specs.declared.role.Role.TheVariants as role
use Rattle.rb_node.specs.Node.{PlainNode}
use Rattle.rb_calls.proofs.Turns.{own_size}
use Rattle.rb_laws.specs.Honesty.{IsPlain}
use Rattle.rb_laws.proofs.Links.{Link, link, Extends, still_linked, held_term, push_extends, push_single}
use Rattle.rb_laws.proofs.LinkedLogs.{log_from, own_linked}
use Rattle.rb_laws.proofs.Holding.{Setting, World, IsElected, IsElect, Essence, essence, IsChainBy, IsChain, IsIn, Linking, Holds, IsNew, leader_stands}
use Rattle.rb_laws.proofs.Electing.{one_elected}

-- ---- more links

still_chain_by : (old new : List Link) (k : MessageKind) → Extends old new → IsChainBy old k → IsChainBy new k
still_chain_by old new (kind.Append append) more chain = still_linked old new (log_from append.prev append.prev_term append.entries) more chain
still_chain_by old new _ more chain = tt

pub still_chains : (old new : List Link) (ms : List Message) → Extends old new → All (IsChain old) ms → All (IsChain new) ms
still_chains old new ms more chains = All-weaker (IsChain old) (IsChain new) (λ m chain. still_chain_by old new m.kind more chain) ms chains

-- ---- an entry of one's own

abbrev owned : PlainNode → Entry → PlainNode
owned n e = record n { log = own n.log e }

own_in : (g : Setting) (said : List Message) (id : ℕ) (ls : List Link) (n : PlainNode) (e : Entry) (before : ℕ) → Contains (ls ++ link (last n.log + 1) e before id ∷ []) (link (last n.log + 1) e before id) → e.term ≡ n.term → n.role ≡ role.Leader → IsElected g said id n.term → before ≡ (held_term n.log (last n.log) (omega arith) (omega arith)).0 → IsIn g said id ls (essence n) → IsIn g said id (ls ++ link (last n.log + 1) e before id ∷ []) (essence (owned n e))
own_in g said id ls n e before there same leads elected is c =
    let l = link (last n.log + 1) e before id in
    let new = ls ++ l ∷ [] in
    let more = push_extends ls l in
    let held = held_term n.log (last n.log) (omega arith) (omega arith) in
    let size = own_size n.log e in
    record {
      once = c.once;
      single = push_single ls l (λ m among index term. (let low = c.leads leads m among (term ∙ same) in omega (arith, low, index))) c.single;
      made = λ m among.
          elim (Contains-push_cases ls l m among) as (λ _. IsElected g said m.maker m.entry.term) [
            | inl old ↦ c.made m old
            | inr now ↦ subst (λ (z : Link). IsElected g said z.maker z.entry.term) now (subst (λ (t : ℕ). IsElected g said id t) (sym same) elected)
          ];
      logged = own_linked new n.log e held.0 (still_linked ls new n.log more c.logged) held.1 (id, subst (λ (b : ℕ). Contains new (link (last n.log + 1) e b id)) is there);
      sent = still_chains ls new n.sent more c.sent;
      waiting = still_chains ls new n.waiting more c.waiting;
      past = λ m among own.
          elim (Contains-push_cases ls l m among) as (λ _. m.entry.term ≤ n.term) [
            | inl old ↦ c.past m old own
            | inr now ↦ (let term = ap (λ (z : Link). z.entry.term) now in omega (arith, term, same))
          ];
      stands = λ no. absurd (leader_stands (sym leads ∙ no));
      leads = λ _ m among term.
          elim (Contains-push_cases ls l m among) as (λ _. m.index ≤ last (own n.log e)) [
            | inl old ↦ (let low = c.leads leads m old term in omega (arith, low, size))
            | inr now ↦ (let index = ap (λ (z : Link). z.index) now in omega (arith, index, size))
          ];
    }

own_linking : {w : World} (n : PlainNode) (e : Entry) → e.term ≡ n.term → n.role ≡ role.Leader → IsElect w n.term → Linking w (essence n) → Linking w (essence (owned n e))
own_linking {w} n e same leads elected h =
    let before : ℕ = (held_term n.log (last n.log) (omega arith) (omega arith)).0 in
    let l = link (last n.log + 1) e before w.id in
    record {
      links = h.links ++ l ∷ [];
      since = λ m among. push_extends h.links l m (h.since m among);
      own = λ m among.
          elim (Contains-push_cases h.links l m among) as (λ _. Contains w.links m ⊎ (m.maker ≡ w.id)) [
            | inl old ↦ h.own m old
            | inr now ↦ inr (sym (ap (λ (z : Link). z.maker) now))
          ];
      holds = λ strict. own_in w.setting w.said w.id h.links n e before (Contains-push h.links l) same leads elected refl (h.holds strict);
    }

pub own_entry_holds : {w : World} (n : PlainNode) (e : Entry) → e.term ≡ n.term → is_change e.body ≡ false → n.role ≡ role.Leader → Holds w n → Holds w (owned n e)
own_entry_holds n e same plain leads h = record {
  itself = h.itself;
  config = h.config;
  log = All-push IsPlain n.log.entries e h.log plain;
  sent = h.sent;
  waiting = h.waiting;
  stands = h.stands;
  leads = h.leads;
  linking = own_linking n e same leads (h.leads leads) h.linking;
}

-- ---- the lead

-- a candidate that is elected leads anew: who made a link of its term would be another that was elected in it
pub elected_new : {w : World} (e : Essence) → e.role ≡ role.Candidate → IsElect w e.term → IsNew w e e.term
elected_new {w} e stands elected = record {
  elected = elected;
  none_yet = λ ls c l among term.
      c.stands stands l among
      (one_elected w.setting w.said l.maker w.id e.term c.once (subst (λ (t : ℕ). IsElected w.setting w.said l.maker t) term (c.made l among)) elected) term;
}
