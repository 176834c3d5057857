-- What a node knows by a history that it adds to: a leader makes a link, a candidate is elected, and an answer says what is held
use Rattle.std.proofs.Common.{◌≡◌, ◌⊎◌, ℕ, ◌+◌, ◌<◌, ◌≤◌, true, List, length, refl, sym, ap, subst, ◌∙◌, arith, inl, inr}
use Rattle.std.specs.Prelude.{All, Contains, slice_index_or}
use Rattle.std.proofs.lemmas.List.Elements.{Contains-push, Contains-push_cases}
use Rattle.rb_raftlog.specs.declared.entry.Entry.{Entry}
use Rattle.rb_raftlog.specs.Log.{last, last_term, own}
use Rattle.rb_raftlog.proofs.PlaceLaws.{own-term_held}
use Rattle.rb_raftlog.proofs.TermLaws.{held_in}
use Rattle.rb_calls.proofs.Turns.{own_size}
use Rattle.rb_tracker.specs.Ballots.{vote_result}
use Rattle.rb_tracker.specs.Commits.{match_of}
use Rattle.rb_tracker.specs.Sets.{has}
use Rattle.rb_tracker.specs.declared.votes.VoteResult.TheVariants as vote
use Rattle.rb_tracker.proofs.VoteLaws.{won_decides}
use Rattle.rb_message.specs.declared.message.Message.{Message}
use Rattle.rb_message.specs.declared.role.Role.TheVariants as role
use Rattle.rb_node.specs.Node.{PlainNode}
use Rattle.rb_laws.specs.Votes.{IsCast}
use Rattle.rb_laws.proofs.Holding.{leader_stands}
use Rattle.rb_laws.proofs.Links.{Link, link, still_linked}
use Rattle.rb_laws.proofs.LinkedLogs.{own_linked}
use Rattle.rb_laws.proofs.Spots.{Spot, spot, same_spot, site, under, Descends, here, one_down, through, still_descends}
use Rattle.rb_laws.proofs.Contents.{filled_of, still_filled}
use Rattle.rb_laws.proofs.LeaderLogs.{Election, History, IsAcked, HasStill}
use Rattle.rb_laws.proofs.Completeness.{IsKnownBefore, IsVoted}
use Rattle.rb_laws.proofs.Histories.{with_link, more_link, still_has, still_settled, still_is_on, IsTop, held_before, IsPledged, pledge_before}
use Rattle.rb_laws.proofs.Tips.{tip, base_spot, last_held, tip_rooted, own_tip}
use Rattle.rb_laws.proofs.NodeKnowledge.{Ground, election, mine, nobody, AreBack, Knows, TellsTrue, still_tells, still_pledged, still_counted}
use Rattle.rb_laws.proofs.FollowerMoves.{IsWhole, decides_fixed}

-- ---- a leader's entry

abbrev pub next_link : PlainNode → Entry → ℕ → Link
next_link n e id = link (last n.log + 1) e (last_term n.log) id

-- the new link is above all others of its term
abbrev pub next_top : (g : Ground) (said : List Message) (st : History) (id : ℕ) (n : PlainNode) (e : Entry) → IsWhole g said st → n.role ≡ role.Leader → e.term ≡ n.term → Knows g st id n → IsTop g.root st (next_link n e id)
next_top g said st id n e w leads term h =
    let k = h.log.leads leads in
    let some = w.some k.ends.election k.ends.among in
    let of_term = k.ends.of_term in
    let low = w.low in
    let old = h.log.old in
    record {
      top = tip n.log;
      ends = record {
        election = k.ends.election;
        among = k.ends.among;
        of_term = k.ends.of_term ∙ sym term;
        is = elim k.ends.is as (λ _. (tip n.log ≡ k.ends.election.tip) ⊎ ((l : Link) × Contains st.links l × (l.entry.term ≡ e.term) × (site l ≡ tip n.log))) [
          | inl first ↦ inl first
          | inr l ↦ inr (l.0, l.1, l.2 ∙ sym term, l.3)
        ];
      };
      behind = same_spot (under (next_link n e id)) (tip n.log) (omega arith) refl;
      next = refl;
      rooted = tip_rooted g.root st.links n.log h.log.linked h.log.rooted;
      rising = omega (arith, some, of_term, low, old, term);
      highest = λ m among same. k.highest m among (same ∙ term);
    }

pub back_all : (g : Ground) (said : List Message) (st : History) (l : Link) (ms : List Message) → IsWhole g said st → IsTop g.root st l → All (AreBack st (with_link st l)) ms
back_all g said st l ms w top = λ k d low _ _ m there _ acked. held_before g.root g.start said st l m (slice_index_or ms k d).from w.lawful w.held top there acked

pub tells_link : (g : Ground) (said : List Message) (st : History) (l : Link) (own : ℕ → Type 0) (ms : List Message) → IsWhole g said st → IsTop g.root st l → All (TellsTrue g st own) ms → All (TellsTrue g (with_link st l) own) ms
tells_link g said st l own ms w top h = λ k d low. still_tells g st (with_link st l) own (slice_index_or ms k d) (more_link st l) (back_all g said st l ms w top k d low) (h k d low)

-- what the leader knows once it has made the link
pub own_knows : (g : Ground) (said : List Message) (st : History) (id : ℕ) (n : PlainNode) (e : Entry) → IsWhole g said st → n.role ≡ role.Leader → e.term ≡ n.term → Knows g st id n → Knows g (with_link st (next_link n e id)) id (record n { log = own n.log e })
own_knows g said st id n e w leads term h =
    let l = next_link n e id in
    let new = with_link st l in
    let more = more_link st l in
    let m : PlainNode = record n { log = own n.log e } in
    let top = next_top g said st id n e w leads term h in
    let k = h.log.leads leads in
    let size = own_size n.log e in
    let there : Contains new.links l = Contains-push st.links l in
    let ends : site l ≡ tip m.log = sym (own_tip n.log e) in
    let up : Descends new.links (tip m.log) (tip n.log) =
    subst (λ (x : Spot). Descends new.links x (tip n.log)) ends
    (one_down new.links l (tip n.log) there (subst (λ (x : Spot). Descends new.links x (tip n.log)) (sym top.behind) (here new.links (tip n.log)))) in
    let last_is : last_term m.log ≡ n.term = ap (λ (x : Spot). x.term) (own_tip n.log e) ∙ term in
    let back : (v t : ℕ) (x : Link) → Contains new.links x → x.entry.term < t → IsAcked new v x → Contains st.links x × IsAcked st v x = λ v t x among earlier acked.
    held_before g.root g.start said st l x v w.lawful w.held top among acked in
    let within = (held_in n.log n.commit h.log.commit_term h.log.commit_held).1 in
    record {
      log = record {
        itself = h.log.itself;
        linked = own_linked new.links n.log e (last_term n.log) (still_linked st.links new.links n.log more.links h.log.linked) (last_held n.log) (id, there);
        rooted = still_descends st.links new.links (base_spot n.log) g.root more.links h.log.rooted;
        old = omega (arith, last_is);
        leads = λ _. record {
          ends = record {
            election = k.ends.election;
            among = k.ends.among;
            of_term = k.ends.of_term;
            is = inr (l, there, term, ends);
          };
          own = k.own;
          highest = λ x among same.
              elim (Contains-push_cases st.links l x among) as (λ _. x.index ≤ last m.log) [
                | inl before ↦ (let low = k.highest x before same in omega (arith, low, size))
                | inr now ↦ (let index = ap (λ (z : Link). z.index) now in omega (arith, index, size))
              ];
        };
        stands = λ is. absurd (leader_stands (sym leads ∙ is));
        stood = h.log.stood;
        led = h.log.led;
        acked = λ a among by.
            (let was = h.log.acked a among by in record {
              reached = was.reached;
              now = λ same.
                  (let x = was.now same in
                  (x.0, through new.links (spot a.index x.0) (tip n.log) (tip m.log) up (still_descends st.links new.links (tip n.log) (spot a.index x.0) more.links x.1), still_is_on g.root g.start st new a.term (spot a.index x.0) more x.2));
              past = λ later x there_x same low.
                  elim (Contains-push_cases st.links l x there_x) as (λ _. HasStill new (tip m.log) (n.term + 1) x) [
                    | inr now ↦ (let t = ap (λ (z : Link). z.entry.term) now in absurd (omega (arith, t, term, same, later)))
                    | inl before ↦ elim (still_has st new (tip n.log) (n.term + 1) x more (was.past later x before same low)) as (λ _. HasStill new (tip m.log) (n.term + 1) x) [
                      | inl has ↦ inl (through new.links (site x) (tip n.log) (tip m.log) up has)
                      | inr lacks ↦ inr lacks
                    ]
                  ];
            });
        pledged = λ some. still_pledged st new (mine id) id n.term n.vote more (λ x among earlier acked. back id n.term x among earlier acked) (h.log.pledged some);
        commit_term = h.log.commit_term;
        commit_held = own-term_held n.log e n.commit within ∙ h.log.commit_held;
        commit = still_settled g.root g.start st new n.term (spot n.commit h.log.commit_term) more h.log.commit;
        filled = filled_of new.links g.root g.start n.log m.log n.applied n.content (own-term_held n.log e n.applied (held_in n.log n.applied h.log.filled.term h.log.filled.held).1) (still_filled st.links new.links g.root g.start n.log n.applied n.content more.links h.log.filled);
      };
      words = record {
        counts = λ is v. still_counted g st new id n.term v (match_of n.tracker.views v) more (h.words.counts is v);
        sent = tells_link g said st l (mine id) n.sent w top h.words.sent;
        waiting = tells_link g said st l (mine id) n.waiting w top h.words.waiting;
      };
    }

-- ---- an election

-- Who is elected by votes that were pledged to it has what its voters have said to hold.
pub elected_voted : (g : Ground) (said : List Message) (st : History) (id : ℕ) (n : PlainNode) → IsWhole g said st → 0 < length g.setting.config.incoming → n.role ≡ role.Candidate → vote_result g.setting.config n.votes ≡ vote.Won → ((v : ℕ) → has n.votes.granted v ≡ true → IsCast said v n.term id × IsPledged st nobody v n.term id)
    → ((e : Election) → Contains st.elections e → e.term ≡ n.term → ⊥) → Knows g st id n → IsVoted g.root g.start said st (election n.term id (tip n.log))
elected_voted g said st id n w some stands won votes none h =
    let stands_there = (h.log.stands stands).stood in
    let decides = won_decides g.setting.config n.votes some won in
    record {
      voters = λ v. has n.votes.granted v;
      decides = decides_fixed g said st (IsKnownBefore g.root g.start st n.term) (tip n.log) (λ v. has n.votes.granted v) w
          (record { bound = 0; earlier = (h.log.stands stands).some; settled = inl refl }) (tip_rooted g.root st.links n.log h.log.linked h.log.rooted) decides;
      cast = λ v yes. (votes v yes).0;
      each = λ v yes l among earlier acked.
          (let p = (votes v yes).1 in
          let same : p.stood ≡ election n.term id (tip n.log) = w.stood_once p.stood (election n.term id (tip n.log)) (elim p.among as (λ _. Contains st.candidacies p.stood) [ inl out ↦ w.stood_within p.stood out | inr its ↦ its.1 ]) stands_there p.of_term p.of_id in
          pledge_before st (tip n.log) n.term l none
          (subst (λ (e : Election). HasStill st e.tip (n.term + 1) l) same (p.each l among earlier acked)));
    }
