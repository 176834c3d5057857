-- Each move of a node keeps what holds of it, of the other nodes and of all messages, and the history goes on
use Rattle.std.proofs.Common.{◌≡◌, ◌⊎◌, ℕ, ◌+◌, ◌<◌, ◌≤◌, Bool, true, false, List, [], ◌∷◌, length, Some, Ok, refl, sym, ap, subst, ◌∙◌, arith, inl, inr, nat_lt}
use Rattle.std.specs.Prelude.{All, Contains}
use Rattle.std.proofs.lemmas.Bool.{cases_lt, and_parts, ltb-true, leb-true}
use Rattle.std.proofs.lemmas.List.Elements.{All-push, All-contains}
use Rattle.rb_raftlog.specs.Bodies.{is_change}
use Rattle.rb_raftlog.specs.declared.entry.Body.{Body}
use Rattle.rb_raftlog.specs.declared.entry.Entry.{Entry}
use Rattle.rb_raftlog.specs.declared.snapshot.Snapshot.{Snapshot}
use Rattle.rb_raftlog.specs.Log.{term_at, is_term, own}
use Rattle.rb_raftlog.proofs.TermLaws.{is_term_is}
use Rattle.rb_tracker.specs.Commits.{match_of, holds, commit_of}
use Rattle.rb_tracker.specs.Progresses.{PlainProgress, acked}
use Rattle.rb_tracker.specs.Ballots.{vote_result}
use Rattle.rb_tracker.specs.Configs.{is_voter}
use Rattle.rb_tracker.specs.Quorum.{IsQuorum, ShareVoter}
use Rattle.rb_tracker.specs.Trackers.{place}
use Rattle.rb_tracker.specs.declared.votes.VoteResult.TheVariants as vote
use Rattle.rb_tracker.specs.Sets.{has}
use Rattle.rb_tracker.specs.declared.config.Config.{Config}
use Rattle.rb_tracker.proofs.CommitLaws.{commit_is_held, commit_of_nobody}
use Rattle.rb_tracker.proofs.QuorumLaws.{quorums_meet}
use Rattle.rb_tracker.proofs.VoteLaws.{won_decides}
use Rattle.rb_message.specs.Appends.{PlainAppend}
use Rattle.rb_message.specs.declared.kind.MessageKind.{MessageKind}
use Rattle.rb_message.specs.declared.kind.MessageKind.TheVariants as kind
use Rattle.rb_message.specs.declared.message.Message.{Message}
use Rattle.rb_message.specs.declared.role.Role.TheVariants as role
use Rattle.rb_node.specs.Campaigns.{precandidate, candidate}
use Rattle.rb_node.specs.Following.{with_appended, restored_to}
use Rattle.rb_node.specs.Leading.{can_commit, leading}
use Rattle.rb_node.specs.Node.{PlainNode}
use Rattle.rb_node.specs.Sends.{with_view_at}
use Rattle.rb_node.specs.Votes.{voted_for, grants}
use Rattle.rb_calls.specs.Sound.{IsSound, HasSoundViews}
use Rattle.rb_calls.specs.Words.{IsYes, SendsBy, Sends, Answers, AnswersBy}
use Rattle.rb_laws.proofs.ChoiceLaws.{may_campaign}
use Rattle.rb_calls.proofs.Goes.{Ways, core}
use Rattle.rb_calls.proofs.Moves.{Whole, following, TellMove, Idle, Sent, Viewed, Commits, CameNow, MaySay, Learned, Known, By_append, By_beat, By_snapshot, StepMove, StepTells, Passes, Waits, Follows, Asks, Stands as Campaigns, Leads, Votes_for, Counts, Appends, Takes, Learns, Restores, Acks}
use Rattle.rb_calls.proofs.ProgressLaws.{same_match}
use Rattle.rb_calls.proofs.Saying.{Words, words, with_sent, with_waiting}
use Rattle.rb_laws.specs.Safety.{IsHarmless, IsGenuine}
use Rattle.rb_laws.specs.Votes.{IsCast}
use Rattle.rb_laws.proofs.Electing.{some_voters, one_elected}
use Rattle.rb_laws.proofs.Holding.{Setting, World, AreOnce, IsElected, Holds, IsSaid, still_cast}
use Rattle.rb_laws.proofs.Spots.{spot, lower}
use Rattle.rb_laws.proofs.Contents.{IsContentAt}
use Rattle.rb_laws.proofs.LeaderLogs.{Election, History}
use Rattle.rb_laws.proofs.Completeness.{IsSettled}
use Rattle.rb_laws.proofs.Tips.{tip, base_spot}
use Rattle.rb_laws.proofs.Histories.{IsMore, with_link, with_candidacy, with_election, more_link, more_candidacy, more_election, IsPledged}
use Rattle.rb_laws.proofs.NodeKnowledge.{Ground, election, mine, nobody, all_said, IsCounted, TellsCommit, IsSaidUpTo, TellsBy, TellsTrue, still_knows, still_all, KnowsLog, KnowsWords, WordPart, word_part, words_of_whole}
use Rattle.rb_laws.proofs.FollowerMoves.{not_past, takes_knows, restores_knows, votes_knows, knows_commit, beat_settled, append_settled, commits_settled}
use Rattle.rb_laws.proofs.OwnEntries.{next_link, next_top, tells_link, own_knows, elected_voted}
use Rattle.rb_laws.proofs.OtherNodes.{whole_link, no_news_link, same_back, no_news_candidacy, no_news_election, whole_election}
use Rattle.rb_laws.proofs.TermMoves.{follows_knows, whole_candidacy, stands_knows, sent_knows, waiting_knows}
use Rattle.rb_laws.proofs.ElectionMoves.{leading_is, leads_knows, counts_knows}
use Rattle.rb_laws.proofs.MoveHolds.{Hears, puts_plain}
use Rattle.rb_laws.proofs.MessageTruth.{leads_or_not, tells_sent}
use Rattle.rb_laws.proofs.SavedNodes.{saved_link, saved_election}
use Rattle.rb_laws.proofs.AmongOthers.{genuine_tells, came_append, held_end, say_spot, Speaks, Company, saved_still, Around, Onwards, still_around, acks_around}

-- the messages that come in a call are genuine, and a leader counts only answers among them
pub record Brings (said : List Message) (id : ℕ) (v : Ways) : Type 0 where
  pub genuine : (m : Message) → v.came m → IsGenuine said id m
  pub matched : (term from i : ℕ) → v.matched term from i → (m : Message) × v.came m × (m.from ≡ from) × (m.term ≡ term) × (j : ℕ) × (m.kind ≡ kind.AppendResponse j) × (i ≤ j)

pub onward_more : (a b c : History) → IsMore a b → IsMore b c → IsMore a c
onward_more a b c p q = record {
  links = λ l among. q.links l (p.links l among);
  candidacies = λ e among. q.candidacies e (p.candidacies e among);
  elections = λ e among. q.elections e (p.elections e among);
  acks = λ x among. q.acks x (p.acks x among);
  out_candidacies = λ e among. q.out_candidacies e (p.out_candidacies e among);
  out_acks = λ x among. q.out_acks x (p.out_acks x among);
}

-- ---- what it says

no_vote_sent : (n : PlainNode) (m : Message) → Sends n m → IsYes m → ⊥
no_vote_sent n m sent gives = subst (λ (k : MessageKind). SendsBy k n m) gives.0 sent.1

speaks_sent : (id : ℕ) (n : PlainNode) (m : Message) → Sends n m → Speaks id n.term (words n) → Speaks id n.term (words (with_sent n m))
speaks_sent id n m sent h = record { voted = h.voted; none = All-push (λ (x : Message). IsYes x → ⊥) n.sent m h.none (no_vote_sent n m sent) }

own_vote : (n : PlainNode) (m : Message) → Answers n m → IsYes m → m.term ≡ n.term
own_vote n m answer gives = (subst (λ (k : MessageKind). AnswersBy k n m) gives.0 answer.1).0

speaks_waiting : (id : ℕ) (n : PlainNode) (m : Message) → n.id ≡ id → Answers n m → Speaks id n.term (words n) → Speaks id n.term (words (with_waiting n m))
speaks_waiting id n m itself answer h = record {
  voted = All-push (λ (x : Message). IsYes x → (x.from ≡ id) × (x.term ≤ n.term)) n.waiting m h.voted (λ yes. (answer.0 ∙ itself, let same = own_vote n m answer yes in omega (arith, same)));
  none = h.none;
}

speaks_later : (id term later : ℕ) (ws : Words) → term ≤ later → Speaks id term ws → Speaks id later ws
speaks_later id term later ws up h = record { voted = λ k d low yes. (let v = h.voted k d low yes in let reached = v.1 in (v.0, omega (arith, reached, up))); none = h.none }

no_length : (xs : List ℕ) → length xs ≤ 0 → xs ≡ []
no_length [] none = refl
no_length (x ∷ xs) none = absurd (omega (arith, none))

-- a vote that was cast was pledged
cast_pledged : (g : Ground) (said : List Message) (st : History) (voter term id : ℕ) → All (TellsTrue g st nobody) said → IsCast said voter term id → IsPledged st nobody voter term id
cast_pledged g said st voter term id told c =
    let m = c.answer in
    let tells : TellsTrue g st nobody m = All-contains (TellsTrue g st nobody) said m told c.among in
    let p : IsPledged st nobody m.from m.term m.to = subst (λ (k : MessageKind). TellsBy g st nobody k m) c.gives.0 tells refl c.gives.1 in
    subst (λ (v : ℕ). IsPledged st nobody v term id) c.by (subst (λ (t : ℕ). IsPledged st nobody m.from t id) c.of_term (subst (λ (x : ℕ). IsPledged st nobody m.from m.term x) c.for_it p))

module _ {g : Ground} {said : List Message} {id : ℕ} {others : Company} where
  says_around : (st : History) (n : PlainNode) (m : Message) → IsSound n → HasSoundViews n → Sends n m → Around g said id others st n → Onwards g said id others st (with_sent n m)
  says_around st n m s views sent h =
      still_around st n (with_sent n m) h (sent_knows g st id n m (tells_sent g said st id n m h.whole s views sent h.knows) h.knows) (speaks_sent id n m sent h.speaks) (omega arith)

  -- ---- a commit

  commits_around : (st : History) (n : PlainNode) → HasSoundViews n → n.tracker.config ≡ g.setting.config → can_commit n (commit_of n.tracker) ≡ true → Around g said id others st n → Onwards g said id others st (record n { commit = commit_of n.tracker })
  commits_around st n views config can h =
      let i = commit_of n.tracker in
      let c = n.tracker.config in
      let parts = and_parts (nat_lt n.commit i) (is_term (term_at n.log i) n.term) can in
      let past : n.commit < i = ltb-true n.commit i parts.0 in
      let held = commit_is_held n.tracker in
      let term = is_term_is (term_at n.log i) n.term parts.1 in
      elim (cases_lt 0 (length c.incoming)) as (λ _. Onwards g said id others st (record n { commit = commit_of n.tracker })) [
        | inr none ↦
            let nobody = commit_of_nobody n.tracker (no_length c.incoming none) (ap (λ (x : Config). x.outgoing) config ∙ g.setting.single) in
            absurd (omega (arith, nobody, past))
        | inl some ↦
            let holders : ℕ → Bool = λ v. holds n.tracker.views i v in
            let quorum : IsQuorum c holders = record { some = some; decides = held } in
            let both : ShareVoter c holders holders = quorums_meet c holders holders quorum quorum in
            let matched : i ≤ match_of n.tracker.views both.id = leb-true i (match_of n.tracker.views both.id) both.first in
            elim (leads_or_not n.role) as (λ _. Onwards g said id others st (record n { commit = commit_of n.tracker })) [
              | inr never ↦
                  let nothing : match_of n.tracker.views both.id ≡ 0 = ap (λ (vs : List (ℕ × PlainProgress)). match_of vs both.id) (views.only_leading never) in
                  absurd (omega (arith, matched, nothing, past))
              | inl leads ↦
                  let settled = commits_settled g said st id n i h.whole leads config (subst (λ (x : Config). 0 < length x.incoming) config some) held past term h.knows in
                  still_around st n (record n { commit = commit_of n.tracker }) h (knows_commit g st id n i n.term term settled h.knows) h.speaks (omega arith)
            ]
      ]

  -- ---- what a leader tells

  tells_around : (st : History) {a b : PlainNode} → TellMove a b → IsSound a → HasSoundViews a → a.tracker.config ≡ g.setting.config → Around g said id others st a → Onwards g said id others st b
  tells_around st (Idle a b e) s views config h =
      let is : core b ≡ core a = ap (λ (x : Whole). x.core) e in
      let says : word_part b ≡ word_part a = ap words_of_whole e in
      let log : KnowsLog g st id (core b) = subst (KnowsLog g st id) (sym is) h.knows.log in
      let words : KnowsWords g st id (word_part b) = subst (KnowsWords g st id) (sym says) h.knows.words in
      still_around st a b h (record { log = log; words = words })
      (subst (λ (x : WordPart). Speaks id x.term (record { sent = x.sent; waiting = x.waiting })) (sym says) h.speaks) (let t = ap (λ (x : WordPart). x.term) says in omega (arith, t))
  tells_around st (Sent n m plain sent) s views config h = says_around st n m s views (sent s) h
  tells_around st (Viewed n at view new is same sound) s views config h =
      let m = with_view_at n at new in
      let k = h.knows in
      still_around st n m h
      (record {
        log = k.log;
        words = record {
          counts = λ leads v. subst (λ (j : ℕ). IsCounted g st id n.term v j) (sym (same_match n.tracker.views at view new v is same)) (k.words.counts leads v);
          sent = k.words.sent;
          waiting = k.words.waiting;
        };
      }) h.speaks (omega arith)
  tells_around st (Commits n can) s views config h = commits_around st n views config can h

  -- ---- what waits

  waits_around : (st : History) (n : PlainNode) (m : Message) → Answers n m → TellsTrue g st (mine id) m → Around g said id others st n → Onwards g said id others st (with_waiting n m)
  waits_around st n m answer tells h =
      still_around st n (with_waiting n m) h (waiting_knows g st id n m tells h.knows) (speaks_waiting id n m h.knows.log.itself answer h.speaks) (omega arith)

  -- an acknowledgement goes into the history before it waits
  acks_by : (st : History) (v : Ways) (n : PlainNode) (m : Message) (i : ℕ) → m.kind ≡ kind.AppendResponse i → IsSound n → Brings said id v → Answers n m → MaySay v n i → Around g said id others st n → Onwards g said id others st (with_waiting n m)
  acks_by st v n m i is s brings answer may h =
      let of_term : m.term ≡ n.term = (subst (λ (k : MessageKind). AnswersBy k n m) is answer.1).0 in
      elim (cases_lt g.root.index i) as (λ _. Onwards g said id others st (with_waiting n m)) [
        | inr low ↦ waits_around st n m answer (subst (λ (k : MessageKind). TellsBy g st (mine id) k m) (sym is) (inl low)) h
        | inl past ↦
            let a = acks_around st n i h (say_spot g said st id v n i h.whole h.told brings.genuine s h.knows past may) in
            let x = a.says in
            let own : m.from ≡ id = answer.0 ∙ h.knows.log.itself in
            let tells : IsSaidUpTo (all_said a.goes.history) m.from m.term i = record { ack = x.ack; among = x.among; by = x.by ∙ sym (answer.0 ∙ h.knows.log.itself); of_term = x.of_term ∙ sym of_term; upto = x.upto } in
            let b = waits_around a.goes.history n m answer (subst (λ (k : MessageKind). TellsBy g a.goes.history (mine id) k m) (sym is) (inr (inr (own, tells)))) a.goes.around in
            record { history = b.history; more = onward_more st a.goes.history b.history a.goes.more b.more; around = b.around }
      ]

  answers_around : (st : History) (v : Ways) (k : MessageKind) (n : PlainNode) (m : Message) → m.kind ≡ k → IsSound n → Brings said id v → Answers n m → ((i : ℕ) → m.kind ≡ kind.AppendResponse i → MaySay v n i) → Around g said id others st n → Onwards g said id others st (with_waiting n m)
  answers_around st v (kind.AppendResponse i) n m is s brings answer may h = acks_by st v n m i is s brings answer (may i is) h
  answers_around st v (kind.VoteResponse granted) n m is s brings answer may h =
      let said_it = subst (λ (k : MessageKind). AnswersBy k n m) is answer.1 in
      let tells : granted ≡ true → 0 < m.to → IsPledged st (mine id) m.from m.term m.to = λ yes some.
      (let to : n.vote ≡ m.to = said_it.1 yes in
      subst (λ (i : ℕ). IsPledged st (mine id) i m.term m.to) (sym (answer.0 ∙ h.knows.log.itself))
      (subst (λ (t : ℕ). IsPledged st (mine id) id t m.to) (sym said_it.0) (subst (λ (c : ℕ). IsPledged st (mine id) id n.term c) to (h.knows.log.pledged (omega (arith, to, some)))))) in
      waits_around st n m answer (subst (λ (k : MessageKind). TellsBy g st (mine id) k m) (sym is) tells) h
  answers_around st v (kind.Append append) n m is s brings answer may h = absurd (subst (λ (k : MessageKind). AnswersBy k n m) is answer.1)
  answers_around st v (kind.Heartbeat commit) n m is s brings answer may h = absurd (subst (λ (k : MessageKind). AnswersBy k n m) is answer.1)
  answers_around st v (kind.Snapshot snapshot) n m is s brings answer may h = absurd (subst (λ (k : MessageKind). AnswersBy k n m) is answer.1)
  answers_around st v (kind.Vote last_t last_i transfer) n m is s brings answer may h = absurd (subst (λ (k : MessageKind). AnswersBy k n m) is answer.1)
  answers_around st v _ n m is s brings answer may h = waits_around st n m answer (subst (λ (x : MessageKind). TellsBy g st (mine id) x m) (sym is) tt) h

  -- ---- terms, campaigns and votes

  pub follows_around : (st : History) (n : PlainNode) (term lead : ℕ) → n.term ≤ term → Around g said id others st n → Onwards g said id others st (following n term lead)
  follows_around st n term lead up h =
      still_around st n (following n term lead) h (follows_knows g said st id n term lead h.whole up h.knows) (speaks_later id n.term term (words n) up h.speaks) up

  asks_around : (st : History) (n : PlainNode) → (n.role ≡ role.Leader → ⊥) → Around g said id others st n → Onwards g said id others st (precandidate n)
  asks_around st n never h =
      let k = h.knows in
      still_around st n (precandidate n) h
      (record {
        log = record {
          itself = k.log.itself;
          linked = k.log.linked;
          rooted = k.log.rooted;
          old = k.log.old;
          leads = λ no. cc;
          stands = λ no. cc;
          stood = k.log.stood;
          led = k.log.led;
          acked = k.log.acked;
          pledged = k.log.pledged;
          commit_term = k.log.commit_term;
          commit_held = k.log.commit_held;
          commit = k.log.commit;
          filled = k.log.filled;
        };
        words = record {
          counts = λ no. cc;
          sent = k.words.sent;
          waiting = k.words.waiting;
        };
      }) h.speaks (omega arith)

  stands_around : (st : History) (n : PlainNode) → Around g said id others st n → Onwards g said id others st (candidate n)
  stands_around st n h =
      let e = election (n.term + 1) id (tip n.log) in
      let new = with_candidacy st e in
      let more = more_candidacy st e in
      record {
        history = new;
        more = more;
        around = record {
          whole = whole_candidacy g said st id n h.whole h.knows;
          knows = stands_knows g said st id n h.whole h.knows;
          told = still_all g st new nobody said more (same_back st new said (λ l among. among) (λ a among. among)) h.told;
          apart = λ j y other is. (let p = h.apart j y other is in (still_knows g st new j y more (no_news_candidacy st j y e other) p.0, p.1));
          saved = λ j x is. saved_still g st new j x refl (h.saved j x is);
          speaks = speaks_later id n.term (n.term + 1) (words n) (omega arith) h.speaks;
          reached = λ term c cast. (let low = h.reached term c cast in omega (arith, low));
        };
      }

  -- who is elected was elected by votes that were pledged to it, and nobody was elected in its term before
  leads_around : (st : History) (n : PlainNode) → AreOnce said → IsSound n → n.role ≡ role.Candidate → vote_result g.setting.config n.votes ≡ vote.Won → is_voter g.setting.config id ≡ true → ((x : ℕ) → has n.votes.granted x ≡ true → IsCast said x n.term id) → Around g said id others st n
      → Onwards g said id others st (leading n)
  leads_around st n once s stands won may cast h =
      let k = h.knows in
      let e = election n.term id (tip n.log) in
      let new = with_election st e in
      let more = more_election st e in
      let elected : IsElected g.setting said id n.term = record { may = may; by = record { votes = n.votes; won = won; cast = cast } } in
      let mine = k.log.stands stands in
      let none : (x : Election) → Contains st.elections x → x.term ≡ n.term → ⊥ = λ x among term.
      (let before = subst (λ (t : ℕ). IsElected g.setting said x.id t) term (h.whole.elected x among) in
      mine.never_led x among term (one_elected g.setting said x.id id n.term once before elected)) in
      let some : 0 < length g.setting.config.incoming = some_voters g.setting.config.incoming g.setting.config.outgoing id g.setting.single may in
      let voted = elected_voted g said st id n h.whole some stands won (λ x yes. (cast x yes, cast_pledged g said st x n.term id h.told (cast x yes))) none k in
      let is = leading_is n in
      record {
        history = new;
        more = more;
        around = record {
          whole = whole_election g said st e h.whole mine.some none mine.stood voted elected;
          knows = leads_knows g said st id n h.whole s stands none k;
          told = still_all g st new nobody said more (same_back st new said (λ l among. among) (λ a among. among)) h.told;
          apart = λ j y other there. (let p = h.apart j y other there in (still_knows g st new j y more (no_news_election st j y e (λ own. absurd (other (sym own)))) p.0, p.1));
          saved = λ j y is. saved_election g st id n (λ x. has n.votes.granted x) (won_decides g.setting.config n.votes some won) (λ x yes. cast_pledged g said st x n.term id h.told (cast x yes)) j y (h.saved j y is);
          speaks = subst (λ (x : PlainNode). Speaks id x.term (words x)) (sym is) h.speaks;
          reached = λ term c given. (let low = h.reached term c given in let t = ap (λ (x : PlainNode). x.term) is in omega (arith, low, t));
        };
      }

  votes_around : (st : History) (v : Ways) (n : PlainNode) (m : Message) (last_t last_i : ℕ) (transfer : Bool) → Brings said id v → grants n m last_t last_i false ≡ true → v.came m → m.kind ≡ kind.Vote last_t last_i transfer → m.term ≡ n.term → Around g said id others st n → Onwards g said id others st (voted_for n m.from)
  votes_around st v n m last_t last_i transfer brings gives came is of_term h =
      let tells : TellsTrue g st nobody m = genuine_tells g st said id m h.told (brings.genuine m came) in
      let e = election m.term m.from (spot last_i last_t) in
      let stood : Contains st.out_candidacies e = elim (subst (λ (k : MessageKind). TellsBy g st nobody k m) is tells) as (λ _. Contains st.out_candidacies e) [ inl out ↦ out | inr none ↦ absurd none.0 ] in
      still_around st n (voted_for n m.from) h (votes_knows g said st id n m last_t last_i h.whole of_term stood gives h.knows) h.speaks (omega arith)

  -- ---- logs

  appends_around : (st : History) (n : PlainNode) (body : Body) (pending : ℕ) → n.role ≡ role.Leader → is_change body ≡ false → Around g said id others st n
      → Onwards g said id others st (record n { log = own n.log (record { term = n.term; body = body }); pending_change = pending })
  appends_around st n body pending leads plain h =
      let e : Entry = record { term = n.term; body = body } in
      let k = h.knows in
      let l = next_link n e id in
      let new = with_link st l in
      let more = more_link st l in
      let top = next_top g said st id n e h.whole leads refl k in
      record {
        history = new;
        more = more;
        around = record {
          whole = whole_link g said st l h.whole top plain;
          knows = own_knows g said st id n e h.whole leads refl k;
          told = tells_link g said st l nobody said h.whole top h.told;
          apart = λ j y other is. (let p = h.apart j y other is in (still_knows g st new j y more (no_news_link g said st j id y l (λ _. other) h.whole top (k.log.leads leads).own p.0) p.0, p.1));
          saved = λ j y is. saved_link g said st l h.whole top j y (h.saved j y is);
          speaks = h.speaks;
          reached = h.reached;
        };
      }

  takes_around : (st : History) (v : Ways) (n : PlainNode) (from : ℕ) (append : PlainAppend) → Brings said id v → n.role ≡ role.Follower → n.applied ≤ n.commit → CameNow v n (kind.Append append) → Around g said id others st n → Onwards g said id others st (with_appended n from append)
  takes_around st v n from append brings follows known came h =
      let tells = came_append g st said id v n append h.told brings.genuine came in
      still_around st n (with_appended n from append) h (takes_knows g said st id n from append h.whole follows known tells h.knows) h.speaks (omega arith)

  came_settled : (st : History) (v : Ways) (n : PlainNode) (s : Snapshot) → Brings said id v → CameNow v n (kind.Snapshot s) → Around g said id others st n → IsSettled g.root g.start st n.term (spot s.index s.term) × IsContentAt st.links g.root g.start (spot s.index s.term) s.content
  came_settled st v n s brings c h =
      let m = c.came.message in
      let tells : TellsTrue g st nobody m = genuine_tells g st said id m h.told (brings.genuine m c.came.comes) in
      let both = subst (λ (k : MessageKind). TellsBy g st nobody k m) c.came.is tells in
      (subst (λ (t : ℕ). IsSettled g.root g.start st t (spot s.index s.term)) c.of_term both.0, both.1)

  restores_around : (st : History) (v : Ways) (n : PlainNode) (s : Snapshot) → Brings said id v → IsSound n → n.role ≡ role.Follower → n.commit < s.index → CameNow v n (kind.Snapshot s) → (term_at n.log s.index ≡ Ok s.term → ⊥) → Around g said id others st n → Onwards g said id others st (restored_to n s)
  restores_around st v n s brings o follows past came other h =
      let settled = came_settled st v n s brings came h in
      let base = o.past_base in
      let known = o.is_committed in
      still_around st n (restored_to n s) h (restores_knows g said st id n s h.whole follows settled.0 settled.1 (omega (arith, base, known, past)) other h.knows) h.speaks (omega arith)

  -- ---- what a follower learns

  commit_around : (st : History) (n : PlainNode) (i : ℕ) → Around g said id others st n → (t : ℕ) × (term_at n.log i ≡ Ok t) × IsSettled g.root g.start st n.term (spot i t) → Onwards g said id others st (record n { commit = i })
  commit_around st n i h x = still_around st n (record n { commit = i }) h (knows_commit g st id n i x.0 x.1 x.2 h.knows) h.speaks (omega arith)

  known_around : (st : History) (n : PlainNode) (i : ℕ) → i ≡ n.commit → Around g said id others st n → Onwards g said id others st (record n { commit = i })
  known_around st n i same h =
      let k = h.knows in
      commit_around st n i h
      (k.log.commit_term, ap (term_at n.log) same ∙ k.log.commit_held, subst (λ (j : ℕ). IsSettled g.root g.start st n.term (spot j k.log.commit_term)) (sym same) k.log.commit)

  learns_around : (st : History) (v : Ways) (n : PlainNode) (i : ℕ) → Brings said id v → IsSound n → n.commit ≤ i → Learned v n i → Around g said id others st n → Onwards g said id others st (record n { commit = i })
  learns_around st v n i brings s up (Known same) h = known_around st n i same h
  learns_around st v n i brings s up (By_append j a low within) h =
      let append = a.append in
      let base = s.past_base in
      let known = s.is_committed in
      let tells = came_append g st said id v n append h.told brings.genuine a.came in
      let end = held_end n.log append.prev append.prev_term append.entries a.first a.held in
      let same = a.end in
      commit_around st n i h
      (append_settled g said st id n append i h.whole tells end (omega (arith, base, known, up)) within (omega (arith, low, same))
      (λ none past. not_past g said st n.log append.prev append.prev_term h.whole h.knows.log.linked h.knows.log.rooted none past a.first) h.knows)
  learns_around st v n i brings s up (By_beat commit c low within) h =
      let m = c.came.message in
      let base = s.past_base in
      let known = s.is_committed in
      let start = lower st.links (base_spot n.log) g.root h.knows.log.rooted in
      let genuine = brings.genuine m c.came.comes in
      let tells : TellsTrue g st nobody m = genuine_tells g st said id m h.told genuine in
      let beat = subst (λ (k : MessageKind). TellsBy g st nobody k m) c.came.is tells in
      elim genuine as (λ _. Onwards g said id others st (record n { commit = i })) [
        | inr none ↦ absurd (subst IsHarmless c.came.is none)
        | inl said_to ↦ elim beat as (λ _. Onwards g said id others st (record n { commit = i })) [
          | inl first ↦ known_around st n i (omega (arith, first, low, start, base, known, up)) h
          | inr told ↦
              let mine : TellsCommit g st n.term id commit = subst (λ (t : ℕ). TellsCommit g st t id commit) c.of_term (subst (λ (x : ℕ). TellsCommit g st m.term x commit) said_to.1 told) in
              commit_around st n i h (beat_settled g said st id n commit i h.whole mine (omega (arith, base, known, up)) low within h.knows)
        ]
      ]
  learns_around st v n i brings s up (By_snapshot x came same held) h =
      let settled = came_settled st v n x brings came h in
      commit_around st n i h (x.term, held, subst (λ (j : ℕ). IsSettled g.root g.start st n.term (spot j x.term)) (sym same) settled.0)

  -- ---- what a leader counts

  counts_around : (st : History) (v : Ways) (n : PlainNode) (at from i : ℕ) (view : PlainProgress) → Brings said id v → n.role ≡ role.Leader → place n.tracker.views from ≡ Some at → v.matched n.term from i → Around g said id others st n → Onwards g said id others st (with_view_at n at (acked view i))
  counts_around st v n at from i view brings leads here matched h =
      let x = brings.matched n.term from i matched in
      let m = x.0 in
      let tells : TellsTrue g st nobody m = genuine_tells g st said id m h.told (brings.genuine m x.1) in
      let far = x.6 in
      let counted : (i ≤ g.root.index) ⊎ IsSaidUpTo st from n.term i =
      elim (subst (λ (k : MessageKind). TellsBy g st nobody k m) x.5 tells) as (λ _. (i ≤ g.root.index) ⊎ IsSaidUpTo st from n.term i) [
        | inl low ↦ inl (omega (arith, low, far))
        | inr told ↦ elim told as (λ _. (i ≤ g.root.index) ⊎ IsSaidUpTo st from n.term i) [ inr none ↦ absurd none.0 | inl told ↦ (let upto = told.upto in inr (record { ack = told.ack; among = told.among; by = told.by ∙ x.2; of_term = told.of_term ∙ x.3; upto = omega (arith, upto, far) })) ]
      ] in
      still_around st n (with_view_at n at (acked view i)) h (counts_knows g st id n at from i view leads here counted h.knows) h.speaks (omega arith)

  -- ---- each move of a step

  pub step_around : (st : History) (w : World) {v : Ways} {a b : PlainNode} → w.id ≡ id → IsSaid w.said said → w.setting ≡ g.setting → AreOnce said → Brings said id v → Hears w v → StepMove v a b → IsSound a → HasSoundViews a → Holds w a → Around g said id others st a → Onwards g said id others st b
  step_around st w own same set once brings hears (StepTells m) s views hold h = tells_around st m s views (hold.config ∙ ap (λ (x : Setting). x.config) set) h
  step_around st w own same set once brings hears (Passes n m came sent) s views hold h = says_around st n m s views (sent s) h
  step_around st w {v} own same set once brings hears (Waits n m answer may) s views hold h = answers_around st v m.kind n m refl s brings (answer s) may h
  step_around st w own same set once brings hears (Follows n term lead up past) s views hold h = follows_around st n term lead up h
  step_around st w own same set once brings hears (Asks n may) s views hold h = asks_around st n (may_campaign n may).follows h
  step_around st w own same set once brings hears (Campaigns n may) s views hold h = stands_around st n h
  step_around st w own same set once brings hears (Leads n stands elected won) s views hold h =
      let x = hold.stands stands in
      let config = hold.config ∙ ap (λ (y : Setting). y.config) set in
      leads_around st n once s stands (subst (λ (c : Config). vote_result c n.votes ≡ vote.Won) config won)
      (subst (λ (y : Setting). is_voter y.config id ≡ true) set (subst (λ (i : ℕ). is_voter w.setting.config i ≡ true) own x.may))
      (λ voter yes. still_cast w.said said voter n.term id same (subst (λ (i : ℕ). IsCast w.said voter n.term i) own (x.counted voter yes))) h
  step_around st w {v} own same set once brings hears (Votes_for n m last_t last_i transfer gives given came is of_term) s views hold h = votes_around st v n m last_t last_i transfer brings gives came is of_term h
  step_around st w own same set once brings hears (Counts n m granted came answers) s views hold h = still_around st n _ h h.knows h.speaks (omega arith)
  step_around st w own same set once brings hears (Appends n body pending leads puts marks) s views hold h = appends_around st n body pending leads (puts_plain n body hears puts hold) h
  step_around st w {v} own same set once brings hears (Takes n from append follows came) s views hold h = takes_around st v n from append brings follows s.is_committed came h
  step_around st w {v} own same set once brings hears (Learns n i follows up held why) s views hold h = learns_around st v n i brings s up why h
  step_around st w {v} own same set once brings hears (Restores n x follows past came other) s views hold h = restores_around st v n x brings s follows past came other h
  step_around st w {v} own same set once brings hears (Acks n at from i view leads here is up said_it) s views hold h = counts_around st v n at from i view brings leads here said_it h
