-- What each node has saved is known by what others may have heard of, whatever one node adds to the history
use Rattle.std.proofs.Common.{◌≡◌, ℕ, ◌≤◌, Bool, true, List, refl, sym, ◌∙◌, arith, inl, inr}
use Rattle.std.specs.Prelude.{Contains}
use Rattle.rb_tracker.specs.Quorum.{IsQuorum, ShareVoter}
use Rattle.rb_tracker.proofs.QuorumLaws.{quorums_meet}
use Rattle.rb_message.specs.declared.message.Message.{Message}
use Rattle.rb_message.specs.declared.role.Role.TheVariants as role
use Rattle.rb_node.specs.Node.{PlainNode}
use Rattle.rb_laws.proofs.Links.{Link}
use Rattle.rb_laws.proofs.Holding.{follower_leads, follower_stands}
use Rattle.rb_laws.proofs.LeaderLogs.{History, out_of}
use Rattle.rb_laws.proofs.Tips.{tip}
use Rattle.rb_laws.proofs.Histories.{IsSince, with_link, with_election, more_link, more_election, IsTop, IsPledged}
use Rattle.rb_laws.proofs.NodeKnowledge.{Ground, election, nobody, still_knows}
use Rattle.rb_laws.proofs.FollowerMoves.{IsWhole}
use Rattle.rb_laws.proofs.OtherNodes.{no_news_link, no_news_election}
use Rattle.rb_laws.proofs.AmongOthers.{KnowsSaved}
use Rattle.rb_laws.proofs.Forgetting.{since_tip, whole_out}

pub saved_link : (g : Ground) (said : List Message) (st : History) (l : Link) → IsWhole g said st → IsTop g.root st l → (j : ℕ) (y : PlainNode) → KnowsSaved g st j y → KnowsSaved g (with_link st l) j y
saved_link g said st l w top j y k =
    let out = out_of st in
    let since : IsSince st out = record { links = λ x among. among; elections = λ e among. among; out_acks = λ a among. among } in
    let top_out : IsTop g.root out l = record {
      top = top.top;
      ends = since_tip st out l.entry.term top.top since top.ends;
      behind = top.behind;
      next = top.next;
      rooted = top.rooted;
      rising = top.rising;
      highest = top.highest;
    } in
    record {
      follows = k.follows;
      none_sent = k.none_sent;
      none_waiting = k.none_waiting;
      knows = still_knows g out (with_link out l) j y (more_link out l)
          (no_news_link g said out j top_out.ends.election.id y l (λ leads _. follower_leads (sym k.follows ∙ leads)) (whole_out g said st w) top_out refl k.knows) k.knows;
    }

-- who is elected had said in its term that it stands, and so had saved that term
pub saved_election : (g : Ground) (st : History) (id : ℕ) (n : PlainNode) (voters : ℕ → Bool) → IsQuorum g.setting.config voters → ((x : ℕ) → voters x ≡ true → IsPledged st nobody x n.term id) → (j : ℕ) (y : PlainNode) → KnowsSaved g st j y → KnowsSaved g (with_election st (election n.term id (tip n.log))) j y
saved_election g st id n voters quorum pledged j y k =
    let out = out_of st in
    let e = election n.term id (tip n.log) in
    let one : ShareVoter g.setting.config voters voters = quorums_meet g.setting.config voters voters quorum quorum in
    let p = pledged one.id one.first in
    let stood : Contains st.out_candidacies p.stood = elim p.among as (λ _. Contains st.out_candidacies p.stood) [ inl there ↦ there | inr none ↦ absurd none.0 ] in
    let late : e.id ≡ j → (e.term ≤ y.term) × (y.role ≡ role.Candidate → ⊥) = λ same.
    (let low = k.knows.log.stood p.stood stood (p.of_id ∙ same) in
    let term = p.of_term in
    (omega (arith, low, term), λ stands. follower_stands (sym k.follows ∙ stands))) in
    record {
      follows = k.follows;
      none_sent = k.none_sent;
      none_waiting = k.none_waiting;
      knows = still_knows g out (with_election out e) j y (more_election out e) (no_news_election out j y e late) k.knows;
    }
