-- What one node adds to a history changes nothing that the others know, and leaves the history whole
use Rattle.std.proofs.Common.{◌≡◌, ◌⊎◌, ℕ, ◌<◌, ◌≤◌, false, List, sym, ap, subst, ◌∙◌, arith, inl, inr}
use Rattle.std.specs.Prelude.{All, Contains, slice_index_or}
use Rattle.std.proofs.lemmas.Bool.{false≢true}
use Rattle.std.proofs.lemmas.List.Elements.{Contains-push_cases}
use Rattle.rb_raftlog.specs.Bodies.{is_change}
use Rattle.rb_message.specs.declared.message.Message.{Message}
use Rattle.rb_message.specs.declared.role.Role.TheVariants as role
use Rattle.rb_node.specs.Node.{PlainNode}
use Rattle.rb_calls.specs.Words.{IsYes}
use Rattle.rb_laws.proofs.Links.{Link}
use Rattle.rb_laws.proofs.Holding.{IsElected}
use Rattle.rb_laws.proofs.Spots.{spot, still_descends}
use Rattle.rb_laws.proofs.LeaderLogs.{Election, Ack, History}
use Rattle.rb_laws.proofs.Completeness.{IsVoted}
use Rattle.rb_laws.proofs.KeptEntries.{IsOn}
use Rattle.rb_laws.proofs.Histories.{with_link, with_ack, with_candidacy, with_election, more_link, more_election, IsTop, none_acked, held_before, lawful_link, held_link, IsLate, lawful_ack, held_ack, lawful_election, still_is_on}
use Rattle.rb_laws.proofs.NodeKnowledge.{Ground, IsBack, AreBack, IsNoNews, Knows}
use Rattle.rb_laws.proofs.FollowerMoves.{IsWhole}
use Rattle.rb_laws.proofs.OwnEntries.{back_all}

-- ---- a link

pub whole_link : (g : Ground) (said : List Message) (st : History) (l : Link) → IsWhole g said st → IsTop g.root st l → is_change l.entry.body ≡ false → IsWhole g said (with_link st l)
whole_link g said st l w top plain = record {
  lawful = lawful_link g.root g.start said st l w.lawful w.held top (λ changes. absurd (false≢true (sym plain ∙ changes)));
  plain = λ m among.
      elim (Contains-push_cases st.links l m among) as (λ _. is_change m.entry.body ≡ false) [
        | inl before ↦ w.plain m before
        | inr now ↦ ap (λ (z : Link). is_change z.entry.body) (sym now) ∙ plain
      ];
  held = held_link g.root g.start st l w.held;
  low = w.low;
  elected = w.elected;
  some = w.some;
  late = w.late;
  stood_rooted = λ e among. still_descends st.links (with_link st l).links e.tip g.root (more_link st l).links (w.stood_rooted e among);
  stood_late = w.stood_late;
  stood_within = w.stood_within;
  stood_once = w.stood_once;
}

pub no_news_link : (g : Ground) (said : List Message) (st : History) (id maker : ℕ) (n : PlainNode) (l : Link) → (n.role ≡ role.Leader → id ≡ maker → ⊥) → IsWhole g said st → (top : IsTop g.root st l) → top.ends.election.id ≡ maker → Knows g st id n → IsNoNews st (with_link st l) id n
no_news_link g said st id maker n l other w top made h =
    let s = w.lawful.history in
    record {
      links = λ leads x among term.
          elim (Contains-push_cases st.links l x among) as (λ _. Contains st.links x) [
            | inl before ↦ before
            | inr now ↦
                let k = h.log.leads leads in
                let same = s.once k.ends.election top.ends.election k.ends.among top.ends.among (k.ends.of_term ∙ sym term ∙ sym (ap (λ (z : Link). z.entry.term) now) ∙ sym top.ends.of_term) in
                absurd (other leads (sym k.own ∙ ap (λ (e : Election). e.id) same ∙ made))
          ];
      elections = λ e among _. inl among;
      candidacies = λ e among _. among;
      acks = λ a among _. among;
      held = λ a x among there term low.
          elim (Contains-push_cases st.links l x there) as (λ _. Contains st.links x) [
            | inl before ↦ before
            | inr now ↦
                let t = ap (λ (z : Link). z.entry.term) now in
                let index = ap (λ (z : Link). z.index) now in
                let below = none_acked g.root g.start said st l w.lawful w.held top a among (sym term ∙ sym t) in
                absurd (omega (arith, below, index, low))
          ];
      pledged = λ x among _ acked. held_before g.root g.start said st l x id w.lawful w.held top among acked;
      sent = back_all g said st l n.sent w top;
      waiting = back_all g said st l n.waiting w top;
    }

-- ---- an acknowledgement

pub whole_ack : (g : Ground) (said : List Message) (st : History) (a : Ack) (t : ℕ) → IsWhole g said st → IsLate said a → IsOn g.root g.start st a.term (spot a.index t) → IsWhole g said (with_ack st a)
whole_ack g said st a t w late on = record {
  lawful = lawful_ack g.root g.start said st a w.lawful late;
  plain = w.plain;
  held = held_ack g.root g.start st a t w.held on;
  low = w.low;
  elected = w.elected;
  some = w.some;
  late = w.late;
  stood_rooted = w.stood_rooted;
  stood_late = w.stood_late;
  stood_within = w.stood_within;
  stood_once = w.stood_once;
}

-- a pledge of a term that its voter has reached is about what was said before
pub back_ack : (st : History) (a : Ack) (voter term : ℕ) → (a.voter ≡ voter → term ≤ a.term) → IsBack st (with_ack st a) voter term
back_ack st a voter term late l among earlier acked =
    let was : Contains st.acks acked.ack =
    elim (Contains-push_cases st.acks a acked.ack acked.among) as (λ _. Contains st.acks acked.ack) [
      | inl before ↦ before
      | inr now ↦
          let up = late (ap (λ (x : Ack). x.voter) now ∙ acked.by) in
          let same : a.term ≡ l.entry.term = ap (λ (x : Ack). x.term) now ∙ acked.of_term in
          absurd (omega (arith, up, same, earlier))
    ] in
    (among, record { ack = acked.ack; among = was; by = acked.by; of_term = acked.of_term; upto = acked.upto })

-- the votes among messages are of no later term
abbrev pub AreReached : Ack → Message → Type 0
AreReached a m = IsYes m → a.voter ≡ m.from → m.term ≤ a.term

pub back_acks : (st : History) (a : Ack) (ms : List Message) → All (AreReached a) ms → All (AreBack st (with_ack st a)) ms
back_acks st a ms late = λ k d low yes some. back_ack st a (slice_index_or ms k d).from (slice_index_or ms k d).term (λ by. late k d low (yes, some) by)

pub no_news_ack : (st : History) (id maker : ℕ) (n : PlainNode) (a : Ack) → (id ≡ maker → ⊥) → a.voter ≡ maker → All (AreReached a) n.sent → All (AreReached a) n.waiting → IsNoNews st (with_ack st a) id n
no_news_ack st id maker n a other by sent waiting = record {
  links = λ _ x among _. among;
  elections = λ e among _. inl among;
  candidacies = λ e among _. among;
  acks = λ b among own.
      elim (Contains-push_cases st.acks a b among) as (λ _. Contains st.acks b) [
        | inl before ↦ before
        | inr now ↦ absurd (other (sym own ∙ sym (ap (λ (x : Ack). x.voter) now) ∙ by))
      ];
  held = λ b x among there _ _. there;
  pledged = back_ack st a id n.term (λ own. absurd (other (sym own ∙ by)));
  sent = back_acks st a n.sent sent;
  waiting = back_acks st a n.waiting waiting;
}

-- ---- a candidacy, and an election

pub same_back : (old new : History) (ms : List Message) → ((x : Link) → Contains new.links x → Contains old.links x) → ((a : Ack) → Contains new.acks a → Contains old.acks a) → All (AreBack old new) ms
same_back old new ms links acks = λ k d low _ _ x among _ acked. (links x among, record { ack = acked.ack; among = acks acked.ack acked.among; by = acked.by; of_term = acked.of_term; upto = acked.upto })

pub no_news_candidacy : (st : History) (id : ℕ) (n : PlainNode) (e : Election) → (id ≡ e.id → ⊥) → IsNoNews st (with_candidacy st e) id n
no_news_candidacy st id n e other = record {
  links = λ _ x among _. among;
  elections = λ x among _. inl among;
  candidacies = λ x among own.
      elim (Contains-push_cases st.candidacies e x among) as (λ _. Contains st.candidacies x) [
        | inl before ↦ before
        | inr now ↦ absurd (other (sym own ∙ sym (ap (λ (y : Election). y.id) now)))
      ];
  acks = λ a among _. among;
  held = λ a x among there _ _. there;
  pledged = λ x among _ acked. (among, record { ack = acked.ack; among = acked.among; by = acked.by; of_term = acked.of_term; upto = acked.upto });
  sent = same_back st (with_candidacy st e) n.sent (λ x among. among) (λ a among. among);
  waiting = same_back st (with_candidacy st e) n.waiting (λ x among. among) (λ a among. among);
}

-- of an election of its own a node may know that it has reached its term
pub no_news_election : (st : History) (id : ℕ) (n : PlainNode) (e : Election) → (e.id ≡ id → (e.term ≤ n.term) × (n.role ≡ role.Candidate → ⊥)) → IsNoNews st (with_election st e) id n
no_news_election st id n e late = record {
  links = λ _ x among _. among;
  elections = λ x among own.
      elim (Contains-push_cases st.elections e x among) as (λ _. Contains st.elections x ⊎ ((x.term ≤ n.term) × (n.role ≡ role.Candidate → ⊥))) [
        | inl before ↦ inl before
        | inr now ↦ inr (subst (λ (y : Election). (y.term ≤ n.term) × (n.role ≡ role.Candidate → ⊥)) now (late (ap (λ (y : Election). y.id) now ∙ own)))
      ];
  candidacies = λ x among _. among;
  acks = λ a among _. among;
  held = λ a x among there _ _. there;
  pledged = λ x among _ acked. (among, record { ack = acked.ack; among = acked.among; by = acked.by; of_term = acked.of_term; upto = acked.upto });
  sent = same_back st (with_election st e) n.sent (λ x among. among) (λ a among. among);
  waiting = same_back st (with_election st e) n.waiting (λ x among. among) (λ a among. among);
}

pub whole_election : (g : Ground) (said : List Message) (st : History) (e : Election) → IsWhole g said st → 0 < e.term → ((x : Election) → Contains st.elections x → x.term ≡ e.term → ⊥) → Contains st.candidacies e → IsVoted g.root g.start said st e → IsElected g.setting said e.id e.term → IsWhole g said (with_election st e)
whole_election g said st e w some none stood voted elected =
    let more = more_election st e in
    record {
      lawful = lawful_election g.root g.start said st e w.lawful none (w.stood_rooted e stood) voted;
      plain = w.plain;
      held = λ a among. (let h = w.held a among in (h.0, still_is_on g.root g.start st (with_election st e) a.term (spot a.index h.0) more h.1));
      low = w.low;
      elected = λ x among.
          elim (Contains-push_cases st.elections e x among) as (λ _. IsElected g.setting said x.id x.term) [
            | inl before ↦ w.elected x before
            | inr now ↦ subst (λ (y : Election). IsElected g.setting said y.id y.term) now elected
          ];
      some = λ x among.
          elim (Contains-push_cases st.elections e x among) as (λ _. 0 < x.term) [
            | inl before ↦ w.some x before
            | inr now ↦ subst (λ (y : Election). 0 < y.term) now some
          ];
      late = λ x among.
          elim (Contains-push_cases st.elections e x among) as (λ _. x.tip.term ≤ x.term) [
            | inl before ↦ w.late x before
            | inr now ↦ subst (λ (y : Election). y.tip.term ≤ y.term) now (w.stood_late e stood)
          ];
      stood_rooted = w.stood_rooted;
      stood_late = w.stood_late;
      stood_within = w.stood_within;
      stood_once = w.stood_once;
    }
