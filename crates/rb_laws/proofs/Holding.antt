-- What holds of each node of a network whose configuration stays: all that it says and holds keeps the configuration, and who stands or
-- leads has its votes from those who cast them
use Rattle.std.proofs.Common.{◌≡◌, ◌⊎◌, ℕ, ◌+◌, ◌<◌, ◌≤◌, Bool, true, List, [], ◌∷◌, ◌++◌, refl, sym, subst, ◌∙◌, arith, inl, inr}
use Rattle.std.specs.Prelude.{All, Contains}
use Rattle.std.proofs.lemmas.List.Elements.{All-push}
use Rattle.rb_raftlog.specs.Log.{LogValue, last}
use Rattle.rb_tracker.specs.Configs.{config_of, state_of, is_voter}
use Rattle.rb_tracker.specs.Sets.{has}
use Rattle.rb_tracker.specs.declared.config.Config.{Config}
use Rattle.rb_tracker.specs.declared.votes.Votes.{Votes}
use Rattle.rb_message.specs.declared.kind.MessageKind.{MessageKind}
use Rattle.rb_message.specs.declared.kind.MessageKind.TheVariants as kind
use Rattle.rb_message.specs.declared.message.Message.{Message}
use Rattle.rb_message.specs.declared.role.Role.{Role}
use Rattle.rb_message.specs.declared.role.Role.TheVariants as role
use Rattle.rb_node.specs.Node.{PlainNode}
use Rattle.rb_calls.specs.Words.{IsYes}
use Rattle.rb_calls.proofs.Saying.{with_sent, with_waiting}
use Rattle.rb_laws.specs.Honesty.{IsPlain, KeepsBy, Keeps}
use Rattle.rb_laws.specs.Votes.{IsCast, IsChosen}
use Rattle.rb_laws.proofs.Links.{Link, IsLinked, AreSingle, Extends}
use Rattle.rb_laws.proofs.LinkedLogs.{log_from}

-- ---- votes

-- What is the same for all nodes: a configuration that isn't joint, and that a snapshot brings back. Where it is strict, nobody makes up
-- appends.
pub record Setting : Type 0 where
  pub config : Config
  pub single : config.outgoing ≡ []
  pub back : config_of (state_of config) ≡ config
  pub strict : Bool

-- and for one of them, before it is called: what was said, and the links that were made
pub record World : Type 0 where
  pub id : ℕ
  pub some : 0 < id
  pub said : List Message
  pub setting : Setting
  pub links : List Link

-- the votes that a candidate has counted are cast for it
pub record Stands (w : World) (term : ℕ) (votes : Votes) : Type 0 where
  pub may : is_voter w.setting.config w.id ≡ true
  pub counted : (v : ℕ) → has votes.granted v ≡ true → IsCast w.said v term w.id

-- a leader is a voter, and chosen
pub record IsElected (g : Setting) (said : List Message) (id term : ℕ) : Type 0 where
  pub may : is_voter g.config id ≡ true
  pub by : IsChosen g.config said id term

abbrev pub IsElect : World → ℕ → Type 0
IsElect w term = IsElected w.setting w.said w.id term

-- of the votes that were said, those of one node and one term are for one candidate
abbrev pub AreOnce : List Message → Type 0
AreOnce said =
    (a b : Message) → Contains said a → Contains said b → IsYes a → IsYes b → a.from ≡ b.from → a.term ≡ b.term → a.to ≡ b.to

-- ---- a node

-- what this is about
pub record Essence : Type 0 where
  pub id : ℕ
  pub term : ℕ
  pub role : Role
  pub votes : Votes
  pub config : Config
  pub log : LogValue
  pub sent : List Message
  pub waiting : List Message

abbrev pub essence : PlainNode → Essence
essence n = record { id = n.id; term = n.term; role = n.role; votes = n.votes; config = n.tracker.config; log = n.log; sent = n.sent; waiting = n.waiting }

-- an answer of the node itself
abbrev pub IsOwn : World → Message → Type 0
IsOwn w m = (m.from ≡ w.id) × Keeps w.setting.config m

-- ---- its links

-- what an append has stands as the links have it
abbrev pub IsChainBy : List Link → MessageKind → Type 0
IsChainBy ls (kind.Append append) = IsLinked ls (log_from append.prev append.prev_term append.entries)
IsChainBy ls _ = Unit {0}

abbrev pub IsChain : List Link → Message → Type 0
IsChain ls m = IsChainBy ls m.kind

-- A link was made by a leader of its term, and a leader has made those of its term up to its last entry. A candidate has made none.
pub record IsIn (g : Setting) (said : List Message) (id : ℕ) (ls : List Link) (e : Essence) : Type 0 where
  pub once : AreOnce said
  pub single : AreSingle ls
  pub made : (l : Link) → Contains ls l → IsElected g said l.maker l.entry.term
  pub logged : IsLinked ls e.log
  pub sent : All (IsChain ls) e.sent
  pub waiting : All (IsChain ls) e.waiting
  pub past : (l : Link) → Contains ls l → l.maker ≡ id → l.entry.term ≤ e.term
  pub stands : e.role ≡ role.Candidate → (l : Link) → Contains ls l → l.maker ≡ id → l.entry.term ≡ e.term → ⊥
  pub leads : e.role ≡ role.Leader → (l : Link) → Contains ls l → l.entry.term ≡ e.term → l.index ≤ last e.log

-- the links now: those before the call, and those that the node has made in it
pub record Linking (w : World) (e : Essence) : Type 0 where
  pub links : List Link
  pub since : Extends w.links links
  pub own : (l : Link) → Contains links l → Contains w.links l ⊎ (l.maker ≡ w.id)
  pub holds : w.setting.strict ≡ true → IsIn w.setting w.said w.id links e

pub record Fits (w : World) (e : Essence) : Type 0 where
  pub itself : e.id ≡ w.id
  pub config : e.config ≡ w.setting.config
  pub log : All IsPlain e.log.entries
  pub sent : All (Keeps w.setting.config) e.sent
  pub waiting : All (IsOwn w) e.waiting
  pub stands : e.role ≡ role.Candidate → Stands w e.term e.votes
  pub leads : e.role ≡ role.Leader → IsElect w e.term
  pub linking : Linking w e

abbrev pub Holds : World → PlainNode → Type 0
Holds w n = Fits w (essence n)

-- a message that comes keeps the configuration, and an append stands as the links have it
abbrev pub IsFine : World → MessageKind → Type 0
IsFine w k = KeepsBy w.setting.config k × (w.setting.strict ≡ true → IsChainBy w.links k)

-- ---- another role

pub follower_stands : role.Follower ≡ role.Candidate → ⊥
follower_stands never = cc

pub follower_leads : role.Follower ≡ role.Leader → ⊥
follower_leads never = cc

pub precandidate_stands : role.Precandidate ≡ role.Candidate → ⊥
precandidate_stands never = cc

pub precandidate_leads : role.Precandidate ≡ role.Leader → ⊥
precandidate_leads never = cc

pub candidate_leads : role.Candidate ≡ role.Leader → ⊥
candidate_leads never = cc

pub leader_stands : role.Leader ≡ role.Candidate → ⊥
leader_stands never = cc

-- ---- another log, and another message

-- what of a node stands as the links have it
pub record AreChained (ls : List Link) (log : LogValue) (out answers : List Message) : Type 0 where
  pub logged : IsLinked ls log
  pub sent : All (IsChain ls) out
  pub waiting : All (IsChain ls) answers

-- by the same links, as long as the log does not get shorter while the node leads
pub still_fits : {w : World} (e : Essence) (log : LogValue) (sent waiting : List Message) → All IsPlain log.entries → All (Keeps w.setting.config) sent → All (IsOwn w) waiting → (w.setting.strict ≡ true → (ls : List Link) → Extends w.links ls → AreChained ls e.log e.sent e.waiting → AreChained ls log sent waiting) → (e.role ≡ role.Leader → last e.log ≤ last log) → Fits w e → Fits w (record e { log = log; sent = sent; waiting = waiting })
still_fits e log sent waiting plain says own chained longer h =
    let l = h.linking in
    record {
      itself = h.itself;
      config = h.config;
      log = plain;
      sent = says;
      waiting = own;
      stands = h.stands;
      leads = h.leads;
      linking = record {
        links = l.links;
        since = l.since;
        own = l.own;
        holds = λ strict.
            (let c = l.holds strict in
            let now : AreChained l.links log sent waiting = chained strict l.links l.since (record { logged = c.logged; sent = c.sent; waiting = c.waiting }) in record {
              once = c.once;
              single = c.single;
              made = c.made;
              logged = now.logged;
              sent = now.sent;
              waiting = now.waiting;
              past = c.past;
              stands = c.stands;
              leads = λ is l among term. (let low = c.leads is l among term in let high = longer is in omega (arith, low, high));
            });
      };
    }

pub with_log : {w : World} (n : PlainNode) (v : LogValue) → All IsPlain v.entries → (w.setting.strict ≡ true → (ls : List Link) → Extends w.links ls → IsLinked ls n.log → IsLinked ls v) → (n.role ≡ role.Leader → last n.log ≤ last v) → Holds w n → Holds w (record n { log = v })
with_log n v plain linked longer h =
    still_fits (essence n) v n.sent n.waiting plain h.sent h.waiting (λ strict ls since c. record { logged = linked strict ls since c.logged; sent = c.sent; waiting = c.waiting }) longer h

pub says : {w : World} (n : PlainNode) (m : Message) → Keeps w.setting.config m → ((ls : List Link) → IsLinked ls n.log → IsChain ls m) → Holds w n → Holds w (with_sent n m)
says {w} n m fine chain h =
    still_fits (essence n) n.log (n.sent ++ m ∷ []) n.waiting h.log (All-push (Keeps w.setting.config) n.sent m h.sent fine) h.waiting
    (λ _ ls _ c. record { logged = c.logged; sent = All-push (IsChain ls) n.sent m c.sent (chain ls c.logged); waiting = c.waiting }) (λ _. omega arith) h

pub waits : {w : World} (n : PlainNode) (m : Message) → m.from ≡ n.id → Keeps w.setting.config m → ((ls : List Link) → IsChain ls m) → Holds w n → Holds w (with_waiting n m)
waits {w} n m own fine chain h =
    still_fits (essence n) n.log n.sent (n.waiting ++ m ∷ []) h.log h.sent (All-push (IsOwn w) n.waiting m h.waiting (own ∙ h.itself, fine))
    (λ _ ls _ c. record { logged = c.logged; sent = c.sent; waiting = All-push (IsChain ls) n.waiting m c.waiting (chain ls) }) (λ _. omega arith) h

-- ---- another term or role, of the same log and messages

-- who leads anew is elected, and no link is of its term yet
pub record IsNew (w : World) (e : Essence) (term : ℕ) : Type 0 where
  pub elected : IsElect w term
  pub none_yet : (ls : List Link) → IsIn w.setting w.said w.id ls e → (l : Link) → Contains ls l → l.entry.term ≡ term → ⊥

pub becomes : {w : World} (a b : Essence) → b.log ≡ a.log → b.sent ≡ a.sent → b.waiting ≡ a.waiting → a.term ≤ b.term → (b.role ≡ role.Candidate → (a.term < b.term) ⊎ ((a.role ≡ role.Candidate) × (b.term ≡ a.term))) → (b.role ≡ role.Leader → ((a.role ≡ role.Leader) × (b.term ≡ a.term)) ⊎ IsNew w a b.term) → Linking w a → Linking w b
becomes {w} a b log sent waiting later stands leads h = record {
  links = h.links;
  since = h.since;
  own = h.own;
  holds = λ strict. (let c = h.holds strict in record {
    once = c.once;
    single = c.single;
    made = c.made;
    logged = subst (IsLinked h.links) (sym log) c.logged;
    sent = subst (All (IsChain h.links)) (sym sent) c.sent;
    waiting = subst (All (IsChain h.links)) (sym waiting) c.waiting;
    past = λ l among own. (let low = c.past l among own in omega (arith, low, later));
    stands = λ is l among own term.
        elim (stands is) as (λ _. ⊥) [
          | inl new ↦ (let low = c.past l among own in omega (arith, low, new, term))
          | inr old ↦ c.stands old.0 l among own (term ∙ old.1)
        ];
    leads = λ is l among term.
        elim (leads is) as (λ _. l.index ≤ last b.log) [
          | inl old ↦ (let low = c.leads old.0 l among (term ∙ old.1) in subst (λ (v : LogValue). l.index ≤ last v) (sym log) low)
          | inr new ↦ absurd (new.none_yet h.links c l among term)
        ];
  });
}

-- with other votes: a candidate's are cast, and who leads led before or is elected
pub turned : {w : World} (e : Essence) (term : ℕ) (r : Role) (votes : Votes) → e.term ≤ term → (r ≡ role.Candidate → ((e.term < term) ⊎ ((e.role ≡ role.Candidate) × (term ≡ e.term))) × Stands w term votes) → (r ≡ role.Leader → ((e.role ≡ role.Leader) × (term ≡ e.term)) ⊎ IsNew w e term) → Fits w e → Fits w (record e { term = term; role = r; votes = votes })
turned {w} e term r votes later stands leads h = record {
  itself = h.itself;
  config = h.config;
  log = h.log;
  sent = h.sent;
  waiting = h.waiting;
  stands = λ is. (stands is).1;
  leads = λ is. elim (leads is) as (λ _. IsElect w term) [ inl old ↦ subst (IsElect w) (sym old.1) (h.leads old.0) | inr new ↦ new.elected ];
  linking = becomes e (record e { term = term; role = r; votes = votes }) refl refl refl later (λ is. (stands is).0) leads h.linking;
}

-- ---- more that was said

-- all that was said before
abbrev pub IsSaid : List Message → List Message → Type 0
IsSaid said now = (m : Message) → Contains said m → Contains now m

pub still_cast : (said now : List Message) (voter term candidate : ℕ) → IsSaid said now → IsCast said voter term candidate → IsCast now voter term candidate
still_cast said now voter term candidate more c = record {
  answer = c.answer;
  among = more c.answer c.among;
  gives = c.gives;
  by = c.by;
  of_term = c.of_term;
  for_it = c.for_it;
}

-- who was elected before is still so, by the same votes
pub still_elected : (g : Setting) (said now : List Message) (id term : ℕ) → IsSaid said now → IsElected g said id term → IsElected g now id term
still_elected g said now id term more e = record {
  may = e.may;
  by = record { votes = e.by.votes; won = e.by.won; cast = λ v granted. still_cast said now v term id more (e.by.cast v granted) };
}

-- the node at a place, before it is called
abbrev pub world_of : Setting → List Message → List Link → ℕ → World
world_of g said links place = record { id = place + 1; some = omega arith; said = said; setting = g; links = links }

-- where more was said and more links were made, of which the node's are in order
pub still_holds : (g : Setting) (said now : List Message) (old new : List Link) (place : ℕ) (n : PlainNode) → IsSaid said now → (g.strict ≡ true → IsIn g now (place + 1) new (essence n)) → Holds (world_of g said old place) n → Holds (world_of g now new place) n
still_holds g said now old new place n more linking h = record {
  itself = h.itself;
  config = h.config;
  log = h.log;
  sent = h.sent;
  waiting = h.waiting;
  stands = λ is. (let s = h.stands is in record { may = s.may; counted = λ v granted. still_cast said now v n.term (place + 1) more (s.counted v granted) });
  leads = λ is. still_elected g said now (place + 1) n.term more (h.leads is);
  linking = record { links = new; since = λ l among. among; own = λ l among. inl among; holds = linking };
}

pub still_in : (g : Setting) (said now : List Message) (id : ℕ) (ls : List Link) (e : Essence) → IsSaid said now → AreOnce now → IsIn g said id ls e → IsIn g now id ls e
still_in g said now id ls e more once c = record {
  once = once;
  single = c.single;
  made = λ l among. still_elected g said now l.maker l.entry.term more (c.made l among);
  logged = c.logged;
  sent = c.sent;
  waiting = c.waiting;
  past = c.past;
  stands = c.stands;
  leads = c.leads;
}
