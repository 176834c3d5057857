-- What each call keeps of a node, as one relation between the node before it and after it
use Rattle.std.proofs.Common.{◌≡◌, ℕ, ◌<◌, ◌≤◌, ◌⊎◌, true, refl, sym, subst, ◌∙◌, ap, arith, inl, inr, Result, List}
use Rattle.rb_raftlog.specs.declared.raft_log.LogFault.{LogFault}
use Rattle.rb_raftlog.specs.Log.{LogValue, last, entry_at, term_at, is_term}
use Rattle.rb_message.specs.declared.message.Message.{Message}
use Rattle.rb_message.specs.declared.role.Role.{Role}
use Rattle.rb_message.specs.declared.role.Role.TheVariants as role
use Rattle.rb_node.specs.Node.{PlainNode}
use Rattle.rb_calls.specs.Sound.{IsOrdered, IsGrown}

-- what the relation is about
pub record Core : Type 0 where
  pub id : ℕ
  pub term : ℕ
  pub vote : ℕ
  pub role : Role
  pub log : LogValue
  pub commit : ℕ
  pub applied : ℕ
  pub content : List ℕ

abbrev pub core : PlainNode → Core
core n = record { id = n.id; term = n.term; vote = n.vote; role = n.role; log = n.log; commit = n.commit; applied = n.applied; content = n.content }

-- to whom a vote may be given in which term, in which term an election may be won, in which term who may say that it holds what, and which
-- messages may come
pub record Ways : Type 1 where
  pub given : ℕ → ℕ → Type 0
  pub elected : ℕ → Type 0
  pub matched : ℕ → ℕ → ℕ → Type 0
  pub came : Message → Type 0

abbrev pub Voted : Ways → Core → Core → Type 0
Voted w old new =
    (new.vote ≡ 0) ⊎ (((new.term ≡ old.term) × (new.vote ≡ old.vote)) ⊎ ((new.vote ≡ new.id) ⊎ w.given new.vote new.term))

abbrev pub Led : Ways → Core → Core → Type 0
Led w old new = new.role ≡ role.Leader → ((old.role ≡ role.Leader) × (new.term ≡ old.term)) ⊎ w.elected new.term

pub record Goes (w : Ways) (old new : Core) : Type 0 where
  pub id : new.id ≡ old.id
  pub term : old.term ≤ new.term
  pub vote : new.term ≡ old.term → 0 < old.vote → new.vote ≡ old.vote
  pub commit : old.commit ≤ new.commit
  pub applied : old.applied ≤ new.applied
  pub base : old.log.base ≤ new.log.base
  pub durable : (i : ℕ) → i ≤ old.commit → i ≤ old.log.durable → i ≤ new.log.durable
  pub kept : (i : ℕ) → i ≤ old.commit → new.log.base < i → entry_at new.log i ≡ entry_at old.log i
  pub candidate : new.role ≡ role.Candidate → new.term ≡ old.term → old.role ≡ role.Candidate
  pub leader : new.role ≡ role.Leader → new.term ≡ old.term → (old.role ≡ role.Leader) ⊎ (old.role ≡ role.Candidate)
  pub own : old.role ≡ role.Leader → new.role ≡ role.Leader → new.term ≡ old.term → IsGrown old.log new.log
  pub commits : old.role ≡ role.Leader → new.role ≡ role.Leader → new.term ≡ old.term → (new.commit ≡ old.commit) ⊎ (is_term (term_at new.log new.commit) new.term ≡ true)
  pub voted : Voted w old new
  pub led : Led w old new
  pub ordered : IsOrdered new.log new.commit new.applied

-- from a sound node
pub record Keeps (w : Ways) (old new : Core) : Type 0 where
  pub goes : IsOrdered old.log old.commit old.applied → Goes w old new

-- ---- nothing, and one after another

pub grown_self : (v : LogValue) → IsGrown v v
grown_self v = record { longer = omega arith; written = omega arith; entries = λ i _ _. refl; terms = λ i _ _. refl }

grown_then : (a b c : LogValue) → b.base ≤ c.base → IsGrown a b → IsGrown b c → IsGrown a c
grown_then a b c up p q = record {
  longer = omega (arith, p.longer, q.longer);
  written = omega (arith, p.written, q.written);
  entries = λ i held above. q.entries i (omega (arith, held, p.longer)) above ∙ p.entries i held (omega (arith, above, up));
  terms = λ i held above. q.terms i (omega (arith, held, p.longer)) above ∙ p.terms i held (omega (arith, above, up));
}

pub self : {w : Ways} (c : Core) → Keeps w c c
self c = record {
  goes = λ o. record {
    id = refl;
    term = omega arith;
    vote = λ _ _. refl;
    commit = omega arith;
    applied = omega arith;
    base = omega arith;
    durable = λ i _ d. d;
    kept = λ i _ _. refl;
    candidate = λ r _. r;
    leader = λ r _. inl r;
    own = λ _ _ _. grown_self c.log;
    commits = λ _ _ _. inl refl;
    voted = inr (inl (refl, refl));
    led = λ r. inl (r, refl);
    ordered = o;
  };
}

pub same : {w : Ways} {a b : Core} → b ≡ a → Keeps w a b
same {w} {a} {b} e = subst (Keeps w a) (sym e) (self a)

pub middle_term : {w : Ways} (a b c : Core) → Goes w a b → Goes w b c → c.term ≡ a.term → b.term ≡ a.term
middle_term a b c p q e = omega (arith, p.term, q.term, e)

-- who leads before and after in one term led between
pub middle_leads : {w : Ways} (a b c : Core) → Goes w a b → Goes w b c → a.role ≡ role.Leader → c.role ≡ role.Leader → c.term ≡ a.term → b.role ≡ role.Leader
middle_leads a b c p q first end e =
    let m = middle_term a b c p q e in
    elim (q.leader end (e ∙ sym m)) as (λ _. b.role ≡ role.Leader) [
      | inl leads ↦ leads
      | inr stands ↦ let was = p.candidate stands m in let no : role.Leader ≡ role.Candidate = sym first ∙ was in cc
    ]

own_commit : (t u : Result ℕ LogFault) (x y : ℕ) → u ≡ t → y ≡ x → is_term t x ≡ true → is_term u y ≡ true
own_commit t u x y e f h = rw (e, f) h

voted_then : {w : Ways} (a b c : Core) → Goes w a b → Goes w b c → Voted w a c
voted_then {w} a b c p q =
    elim q.voted as (λ _. Voted w a c) [
      | inl none ↦ inl none
      | inr some ↦ elim some as (λ _. Voted w a c) [
        | inr other ↦ inr (inr other)
        | inl stays ↦ elim p.voted as (λ _. Voted w a c) [
          | inl none ↦ inl (stays.1 ∙ none)
          | inr rest ↦ elim rest as (λ _. Voted w a c) [
            | inl before ↦ inr (inl (stays.0 ∙ before.0, stays.1 ∙ before.1))
            | inr new ↦ elim new as (λ _. Voted w a c) [
              | inl itself ↦ inr (inr (inl (stays.1 ∙ itself ∙ sym q.id)))
              | inr given ↦ inr (inr (inr (subst (λ (v : ℕ). w.given v c.term) (sym stays.1) (subst (λ (n : ℕ). w.given b.vote n) (sym stays.0) given))))
            ]
          ]
        ]
      ]
    ]

led_then : {w : Ways} (a b c : Core) → Goes w a b → Goes w b c → Led w a c
led_then {w} a b c p q end =
    elim (q.led end) as (λ _. ((a.role ≡ role.Leader) × (c.term ≡ a.term)) ⊎ w.elected c.term) [
      | inr elected ↦ inr elected
      | inl stays ↦ elim (p.led stays.0) as (λ _. ((a.role ≡ role.Leader) × (c.term ≡ a.term)) ⊎ w.elected c.term) [
        | inl before ↦ inl (before.0, stays.1 ∙ before.1)
        | inr elected ↦ inr (subst w.elected (sym stays.1) elected)
      ]
    ]

pub goes_then : {w : Ways} (a b c : Core) → Goes w a b → Goes w b c → Goes w a c
goes_then a b c p q = record {
  id = q.id ∙ p.id;
  term = omega (arith, p.term, q.term);
  vote = λ e some. (let m = middle_term a b c p q e in let v = p.vote m some in q.vote (e ∙ sym m) (rw v some) ∙ v);
  commit = omega (arith, p.commit, q.commit);
  applied = omega (arith, p.applied, q.applied);
  base = omega (arith, p.base, q.base);
  durable = λ i at d. q.durable i (omega (arith, at, p.commit)) (p.durable i at d);
  kept = λ i at above. q.kept i (omega (arith, at, p.commit)) above ∙ p.kept i at (omega (arith, above, q.base));
  candidate = λ r e. (let m = middle_term a b c p q e in p.candidate (q.candidate r (e ∙ sym m)) m);
  leader = λ r e. (let m = middle_term a b c p q e in
      elim (q.leader r (e ∙ sym m)) as (λ _. (a.role ≡ role.Leader) ⊎ (a.role ≡ role.Candidate)) [
        | inl leads ↦ p.leader leads m
        | inr stands ↦ inr (p.candidate stands m)
      ]);
  own = λ first end e. (let m = middle_term a b c p q e in let leads = middle_leads a b c p q first end e in
      grown_then a.log b.log c.log q.base (p.own first leads m) (q.own leads end (e ∙ sym m)));
  commits = λ first end e. (let m = middle_term a b c p q e in let leads = middle_leads a b c p q first end e in
      let grown = q.own leads end (e ∙ sym m) in
      elim (q.commits leads end (e ∙ sym m)) as (λ _. (c.commit ≡ a.commit) ⊎ (is_term (term_at c.log c.commit) c.term ≡ true)) [
        | inr rises ↦ inr rises
        | inl stays ↦ elim (p.commits first leads m) as (λ _. (c.commit ≡ a.commit) ⊎ (is_term (term_at c.log c.commit) c.term ≡ true)) [
          | inl before ↦ inl (stays ∙ before)
          | inr rose ↦
              let held : b.commit ≤ last b.log = p.ordered.is_held in
              let above : c.log.base ≤ b.commit = omega (arith, q.ordered.past_base, q.ordered.is_committed, stays) in
              let terms : term_at c.log c.commit ≡ term_at b.log b.commit = ap (term_at c.log) stays ∙ grown.terms b.commit held above in
              inr (own_commit (term_at b.log b.commit) (term_at c.log c.commit) b.term c.term terms (e ∙ sym m) rose)
        ]
      ]);
  voted = voted_then a b c p q;
  led = led_then a b c p q;
  ordered = q.ordered;
}

pub and_then : {w : Ways} {a b c : Core} → Keeps w a b → Keeps w b c → Keeps w a c
and_then {w} {a} {b} {c} p q = record { goes = λ o. (let first = p.goes o in goes_then a b c first (q.goes first.ordered)) }

-- whoever may be given a vote or win, and whatever may come
abbrev pub anyone : Ways
anyone = record { given = λ _ _. Unit {0}; elected = λ _. Unit {0}; matched = λ _ _ _. Unit {0}; came = λ _. Unit {0} }

pub anyhow : {w : Ways} {a b : Core} → Keeps w a b → Keeps anyone a b
anyhow {w} {a} {b} p = record {
  goes = λ o. (let g = p.goes o in record {
    id = g.id;
    term = g.term;
    vote = g.vote;
    commit = g.commit;
    applied = g.applied;
    base = g.base;
    durable = g.durable;
    kept = g.kept;
    candidate = g.candidate;
    leader = g.leader;
    own = g.own;
    commits = g.commits;
    voted = inr (inr (inr tt));
    led = λ _. inr tt;
    ordered = g.ordered;
  });
}
