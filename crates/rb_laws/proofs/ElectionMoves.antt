-- What a node knows by a history where it is elected, and where it counts a member's answer
use Rattle.std.proofs.Common.{◌≡◌, ◌⊎◌, ℕ, ◌≤◌, not, List, Some, refl, sym, ap, subst, ◌∙◌, arith, inl, inr}
use Rattle.std.specs.Prelude.{Contains}
use Rattle.std.proofs.lemmas.List.Elements.{Contains-push, Contains-push_cases}
use Rattle.rb_raftlog.specs.Log.{last}
use Rattle.rb_tracker.specs.Commits.{match_of}
use Rattle.rb_tracker.specs.Configs.{members}
use Rattle.rb_tracker.specs.Progresses.{PlainProgress, acked}
use Rattle.rb_tracker.specs.Trackers.{place}
use Rattle.rb_message.specs.declared.role.Role.TheVariants as role
use Rattle.rb_message.specs.declared.message.Message.{Message}
use Rattle.rb_node.specs.Leading.{in_lead, leading, with_views}
use Rattle.rb_node.specs.Node.{PlainNode}
use Rattle.rb_node.specs.Sends.{with_view_at}
use Rattle.rb_calls.specs.Sound.{IsSound}
use Rattle.rb_calls.proofs.LeaderLaws.{with_views_only}
use Rattle.rb_calls.proofs.MatchViewLaws.{of, with_views_at_most, place_set}
use Rattle.rb_calls.proofs.ProgressLaws.{acked_matched}
use Rattle.rb_laws.proofs.Holding.{leader_stands}
use Rattle.rb_laws.proofs.Spots.{spot}
use Rattle.rb_laws.proofs.LeaderLogs.{Election, History}
use Rattle.rb_laws.proofs.Tips.{tip}
use Rattle.rb_laws.proofs.Histories.{with_election, more_election, still_settled}
use Rattle.rb_laws.proofs.NodeKnowledge.{Ground, election, mine, IsCounted, IsSaidUpTo, Knows, still_all, still_has_acked, still_pledged}
use Rattle.rb_laws.proofs.FollowerMoves.{IsWhole}
use Rattle.rb_laws.proofs.OtherNodes.{same_back}
use Rattle.rb_laws.proofs.TermMoves.{vote_stays}

abbrev pub seeing : PlainNode → List (ℕ × PlainProgress) → ℕ → PlainNode
seeing n views pending = record n { tracker = record n.tracker { views = views }; pending_change = pending }

-- who is elected has no link of its term yet, and counts nothing but what it led with
leads_seeing : (g : Ground) (said : List Message) (st : History) (id : ℕ) (n : PlainNode) (views : List (ℕ × PlainProgress)) (pending : ℕ) → IsWhole g said st → n.role ≡ role.Candidate
    → ((e : Election) → Contains st.elections e → e.term ≡ n.term → ⊥) → ((v : ℕ) → (match_of views v ≤ 0) ⊎ ((v ≡ n.id) × (match_of views v ≤ last n.log))) → Knows g st id n → Knows g (with_election st (election n.term id (tip n.log))) id (seeing (in_lead n) views pending)
leads_seeing g said st id n views pending w stands none counts h =
    let e = election n.term id (tip n.log) in
    let new = with_election st e in
    let more = more_election st e in
    let there : Contains new.elections e = Contains-push st.elections e in
    record {
      log = record {
        itself = h.log.itself;
        linked = h.log.linked;
        rooted = h.log.rooted;
        old = h.log.old;
        leads = λ _. record {
          ends = record { election = e; among = there; of_term = refl; is = inl refl };
          own = refl;
          highest = λ l among term. (let b = w.lawful.history.made l among in absurd (none b.election b.among (b.of_term ∙ term)));
        };
        stands = λ is. absurd (leader_stands is);
        stood = h.log.stood;
        led = λ x among own.
            elim (Contains-push_cases st.elections e x among) as (λ _. x.term ≤ n.term) [
              | inl before ↦ h.log.led x before own
              | inr now ↦ (let t = ap (λ (y : Election). y.term) now in omega (arith, t))
            ];
        acked = λ a among by. still_has_acked g st new n.term (tip n.log) a more (λ l has _ _. has) (h.log.acked a among by);
        pledged = vote_stays new (mine id) id n.term n.term n.vote
            (λ some. still_pledged st new (mine id) id n.term n.vote more (λ l among _ acked. (among, record { ack = acked.ack; among = acked.among; by = acked.by; of_term = acked.of_term; upto = acked.upto })) (h.log.pledged some));
        commit_term = h.log.commit_term;
        commit_held = h.log.commit_held;
        commit = still_settled g.root g.start st new n.term (spot n.commit h.log.commit_term) more h.log.commit;
        filled = h.log.filled;
      };
      words = record {
        counts = λ _ v.
            elim (counts v) as (λ _. IsCounted g new id n.term v (match_of views v)) [
              | inl nothing ↦ inl (omega (arith, nothing))
              | inr own ↦ inr (inl (own.0 ∙ h.log.itself, (e, there, refl, own.1)))
            ];
        sent = still_all g st new (mine id) n.sent more (same_back st new n.sent (λ l among. among) (λ a among. among)) h.words.sent;
        waiting = still_all g st new (mine id) n.waiting more (same_back st new n.waiting (λ l among. among) (λ a among. among)) h.words.waiting;
      };
    }

pub leading_is : (n : PlainNode) → leading n ≡ seeing (in_lead n) (with_views (in_lead n) (members n.tracker.config) (not n.options.check_quorum)).tracker.views (last n.log)
leading_is n = ap (λ (y : PlainNode). record y { pending_change = last n.log }) (with_views_only (in_lead n) (members n.tracker.config) (not n.options.check_quorum))

pub leads_knows : (g : Ground) (said : List Message) (st : History) (id : ℕ) (n : PlainNode) → IsWhole g said st → IsSound n → n.role ≡ role.Candidate
    → ((e : Election) → Contains st.elections e → e.term ≡ n.term → ⊥) → Knows g st id n → Knows g (with_election st (election n.term id (tip n.log))) id (leading n)
leads_knows g said st id n w s stands none h =
    let new = with_election st (election n.term id (tip n.log)) in
    let x : PlainNode = in_lead n in
    let ids = members n.tracker.config in
    let active = not n.options.check_quorum in
    let views = (with_views x ids active).tracker.views in
    let is : leading n ≡ seeing x views (last n.log) = leading_is n in
    let within = s.within in
    subst (Knows g new id) (sym is)
    (leads_seeing g said st id n views (last n.log) w stands none
    (λ v. elim (with_views_at_most x ids active v) as (λ _. (match_of views v ≤ 0) ⊎ ((v ≡ n.id) × (match_of views v ≤ last n.log))) [
      | inl less ↦ inl (omega (arith, less))
      | inr own ↦ (let far = own.1 in inr (own.0, omega (arith, far, within)))
    ]) h)

-- a member's answer
pub counts_knows : (g : Ground) (st : History) (id : ℕ) (n : PlainNode) (at from i : ℕ) (view : PlainProgress) → n.role ≡ role.Leader → place n.tracker.views from ≡ Some at → (i ≤ g.root.index) ⊎ IsSaidUpTo st from n.term i → Knows g st id n → Knows g st id (with_view_at n at (acked view i))
counts_knows g st id n at from i view leads here said h = record {
  log = h.log;
  words = record {
    counts = λ is v.
        elim (place_set n.tracker.views at from v (acked view i) here) as (λ _. IsCounted g st id n.term v (of (with_view_at n at (acked view i)) v)) [
          | inl same ↦ subst (IsCounted g st id n.term v) (sym same) (h.words.counts is v)
          | inr new ↦
              let now : of (with_view_at n at (acked view i)) v ≡ i = new.1 ∙ acked_matched view.state view i in
              subst (IsCounted g st id n.term v) (sym now)
              (elim said as (λ _. IsCounted g st id n.term v i) [
                | inl first ↦ inl first
                | inr told ↦ inr (inr (subst (λ (x : ℕ). IsSaidUpTo st x n.term i) (sym new.0) told))
              ])
        ];
    sent = h.words.sent;
    waiting = h.words.waiting;
  };
}
