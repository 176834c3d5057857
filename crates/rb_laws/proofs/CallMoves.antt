-- Each call of a node keeps what holds of it, of the other nodes and of all messages, and the history goes on
use Rattle.std.proofs.Common.{◌≡◌, ℕ, ◌-◌, ◌<◌, ◌≤◌, List, [], ◌++◌, length, drop, append-nil, length-drop, min, Result, Ok, Err, refl, sym, ap, subst, ◌∙◌, arith}
use Rattle.std.proofs.lemmas.List.Elements.{All-nil}
use Rattle.rb_raftlog.specs.declared.entry.Entry.{Entry}
use Rattle.rb_raftlog.specs.declared.raft_log.LogFault.{LogFault}
use Rattle.rb_raftlog.specs.declared.snapshot.Snapshot.{Snapshot}
use Rattle.rb_raftlog.specs.Log.{LogValue, last, last_term, term_at, compacted, made_durable}
use Rattle.rb_raftlog.proofs.TermLaws.{held_in}
use Rattle.rb_raftlog.proofs.VoteLaws.{compacted-term}
use Rattle.rb_tracker.specs.Active.{others_marked_inactive}
use Rattle.rb_message.specs.declared.message.Message.{Message}
use Rattle.rb_node.specs.Compacting.{start_at}
use Rattle.rb_node.specs.Node.{PlainNode, NodeStep}
use Rattle.rb_node.specs.Readying.{saved}
use Rattle.rb_laws.specs.Choices.{bytes_of}
use Rattle.rb_calls.specs.Calling.{Call, after}
use Rattle.rb_calls.specs.Sound.{IsSound, HasSoundViews}
use Rattle.rb_calls.specs.Words.{IsYes}
use Rattle.rb_calls.proofs.CallWays.{ways, called_way}
use Rattle.rb_calls.proofs.Goes.{Ways}
use Rattle.rb_calls.proofs.MatchViewLaws.{unmarked_match}
use Rattle.rb_calls.proofs.MoveLaws.{call_keeps, compact_within}
use Rattle.rb_calls.proofs.Moves.{IsNext, Allows, over, CallMove, CallChanges, CallSteps, Applies, Fills, Unmarks, Gives_up, Saves, Compacts}
use Rattle.rb_calls.proofs.Saying.{words}
use Rattle.rb_laws.proofs.ViewLaws.{call_views}
use Rattle.rb_laws.proofs.Holding.{World, AreOnce, Holds, IsSaid}
use Rattle.rb_laws.proofs.LinkedLogs.{entry_term, compacted_linked}
use Rattle.rb_laws.proofs.MoveHolds.{Hears, call_holds}
use Rattle.rb_laws.proofs.Spots.{Spot, spot, same_spot, line, lower}
use Rattle.rb_laws.proofs.Contents.{IsFilled, filled_of, next_filled}
use Rattle.rb_laws.proofs.LeaderLogs.{History}
use Rattle.rb_laws.proofs.Tips.{tip, base_spot, last_is, last_held, tip_rooted, log_descends}
use Rattle.rb_laws.proofs.NodeKnowledge.{Ground, mine, IsCounted, IsLeading, IsStanding, TellsTrue, Knows}
use Rattle.rb_laws.proofs.FollowerMoves.{acked_same}
use Rattle.rb_laws.proofs.AmongOthers.{Company, Around, Onwards, same_history, still_around}
use Rattle.rb_laws.proofs.StepMoves.{Brings, onward_more, follows_around, step_around}

-- ---- compacting

compacted_last : (v : LogValue) (i term : ℕ) → v.base < i → i ≤ last v → last (compacted v i (Ok term)) ≡ last v
compacted_last v i term low within = let size : length (drop (i - v.base) v.entries) ≡ length v.entries - (i - v.base) = length-drop (i - v.base) v.entries in omega (arith, low, within, size)

pub compacted_tip : (v : LogValue) (i term : ℕ) → v.base < i → term_at v i ≡ Ok term → tip (compacted v i (Ok term)) ≡ tip v
compacted_tip v i term low at =
    let w = compacted v i (Ok term) in
    let within = (held_in v i term at).1 in
    let size : last w ≡ last v = compacted_last v i term low within in
    same_spot (tip w) (tip v) size (last_is w (last_term v) (ap (term_at w) size ∙ compacted-term v i term (last v) low at within ∙ last_held v))

pub saves_knows : (g : Ground) (st : History) (id : ℕ) (n : PlainNode) → Knows g st id n → Knows g st id (saved n)
saves_knows g st id n k = record {
  log = record {
    itself = k.log.itself;
    linked = k.log.linked;
    rooted = k.log.rooted;
    old = k.log.old;
    leads = k.log.leads;
    stands = k.log.stands;
    stood = k.log.stood;
    led = k.log.led;
    acked = k.log.acked;
    pledged = k.log.pledged;
    commit_term = k.log.commit_term;
    commit_held = k.log.commit_held;
    commit = k.log.commit;
    filled = filled_of st.links g.root g.start n.log (made_durable n.log) n.applied n.content refl k.log.filled;
  };
  words = record {
    counts = k.words.counts;
    sent = All-nil (TellsTrue g st (mine id));
    waiting = All-nil (TellsTrue g st (mine id));
  };
}

-- ---- the moves of a call

module _ {g : Ground} {said : List Message} {id : ℕ} {others : Company} where
  saves_around : (st : History) (n : PlainNode) → Around g said id others st n → Onwards g said id others st (saved n)
  saves_around st n h =
      still_around st n (saved n) h (saves_knows g st id n h.knows)
      (record { voted = All-nil (λ (m : Message). IsYes m → (m.from ≡ id) × (m.term ≤ n.term)); none = All-nil (λ (m : Message). IsYes m → ⊥) }) (omega arith)

  compacts_by : (st : History) (n : PlainNode) (i : ℕ) (from : Snapshot) (r : Result ℕ LogFault) → term_at n.log i ≡ r → n.log.base < i → i ≤ n.applied → n.applied ≤ n.commit → Around g said id others st n → Onwards g said id others st (record n { log = compacted n.log i r; start = from })
  compacts_by st n i from (Err fault) at low upto known h = still_around st n (record n { log = compacted n.log i (Err fault); start = from }) h h.knows h.speaks (omega arith)
  compacts_by st n i from (Ok term) at low upto known h =
      let k = h.knows in
      let v = compacted n.log i (Ok term) in
      let m : PlainNode = record n { log = v; start = from } in
      let ends : tip v ≡ tip n.log = compacted_tip n.log i term low at in
      let last_same = ap (λ (x : Spot). x.index) ends in
      let terms = ap (λ (x : Spot). x.term) ends in
      let tree = h.whole.lawful.history.tree in
      let start = lower st.links (base_spot n.log) g.root k.log.rooted in
      let old = k.log.old in
      still_around st n m h
      (record {
        log = record {
          itself = k.log.itself;
          linked = compacted_linked st.links n.log i (Ok term) low at k.log.linked;
          rooted = line g.root st.links (tip n.log) g.root (spot i term) tree (tip_rooted g.root st.links n.log k.log.linked k.log.rooted) (log_descends st.links n.log i term k.log.linked at) (omega (arith, start, low));
          old = omega (arith, old, terms);
          leads = λ is. subst (IsLeading st id n.term) (sym ends) (k.log.leads is);
          stands = λ is. subst (IsStanding st id n.term) (sym ends) (k.log.stands is);
          stood = k.log.stood;
          led = k.log.led;
          acked = λ a among by. acked_same g st n m a refl ends (k.log.acked a among by);
          pledged = k.log.pledged;
          commit_term = k.log.commit_term;
          commit_held = compacted-term n.log i term n.commit low at (omega (arith, upto, known)) ∙ k.log.commit_held;
          commit = k.log.commit;
          filled = filled_of st.links g.root g.start n.log v n.applied n.content (compacted-term n.log i term n.applied low at upto) k.log.filled;
        };
        words = k.words;
      }) h.speaks (omega arith)

  unmarks_around : (st : History) (n : PlainNode) → Around g said id others st n → Onwards g said id others st (record n { tracker = others_marked_inactive n.tracker n.id })
  unfolding others_marked_inactive
  unmarks_around st n h =
      let k = h.knows in
      let m : PlainNode = record n { tracker = others_marked_inactive n.tracker n.id } in
      still_around st n m h
      (record {
        log = k.log;
        words = record {
          counts = λ is v. subst (λ (j : ℕ). IsCounted g st id n.term v j) (sym (unmarked_match n.id n.tracker.views v)) (k.words.counts is v);
          sent = k.words.sent;
          waiting = k.words.waiting;
        };
      }) h.speaks (omega arith)

  -- an entry takes effect
  applies_around : (st : History) (n : PlainNode) (i : ℕ) (e : Entry) (bytes : List ℕ) → bytes_of e.body ≡ bytes → IsNext n i e → Around g said id others st n → Onwards g said id others st (record n { applied = i; content = n.content ++ bytes })
  applies_around st n i e bytes brings x h =
      let k = h.knows in
      let m : PlainNode = record n { applied = i; content = n.content ++ bytes } in
      still_around st n m h
      (record {
        log = record {
          itself = k.log.itself;
          linked = k.log.linked;
          rooted = k.log.rooted;
          old = k.log.old;
          leads = k.log.leads;
          stands = k.log.stands;
          stood = k.log.stood;
          led = k.log.led;
          acked = k.log.acked;
          pledged = k.log.pledged;
          commit_term = k.log.commit_term;
          commit_held = k.log.commit_held;
          commit = k.log.commit;
          filled = subst (λ (b : List ℕ). IsFilled st.links g.root g.start n.log i (n.content ++ b)) brings
              (next_filled st.links g.root g.start n.log n.applied i n.content e x.next k.log.linked x.held (entry_term n.log i e x.held) k.log.filled);
        };
        words = k.words;
      }) h.speaks (omega arith)

  call_around : (st : History) (w : World) {v : Ways} {sound : Type 0} {a b : PlainNode} → sound → w.id ≡ id → IsSaid w.said said → w.setting ≡ g.setting → AreOnce said → Brings said id v → Hears w v → CallMove sound v a b → IsSound a → HasSoundViews a → Holds w a → Around g said id others st a
      → Onwards g said id others st b
  call_around st w sure own same set once brings hears (CallChanges m has) s views hold h = absurd (has hold.log)
  call_around st w sure own same set once brings hears (CallSteps m) s views hold h = step_around st w own same set once brings hears m s views hold h
  call_around st w sure own same set once brings hears (Applies n i e transition words is next) s views hold h =
      subst (λ (b : List ℕ). Onwards g said id others st (record n { applied = i; content = b })) (append-nil n.content) (applies_around st n i e [] (ap bytes_of is) (next sure) h)
  call_around st w sure own same set once brings hears (Fills n i e bytes is next) s views hold h = applies_around st n i e bytes (ap bytes_of is) (next sure) h
  call_around st w sure own same set once brings hears (Unmarks n) s views hold h = unmarks_around st n h
  call_around st w sure own same set once brings hears (Gives_up n) s views hold h = follows_around st n n.term 0 (omega arith) h
  call_around st w sure own same set once brings hears (Saves n known) s views hold h = saves_around st n h
  call_around st w sure own same set once brings hears (Compacts n i is) s views hold h =
      let within = compact_within n.log i (min n.applied n.log.durable) is in
      let upto = within.1 in
      let known = s.is_committed in
      compacts_by st n i (start_at n i) (term_at n.log i) refl within.0 (omega (arith, upto)) known h

-- what holds of a node through a call
record Through (g : Ground) (said : List Message) (id : ℕ) (others : Company) (st : History) (w : World) (n : PlainNode) : Type 0 where
  sound : IsSound n
  views : HasSoundViews n
  holds : Holds w n
  around : Onwards g said id others st n

moves_around : {g : Ground} {said : List Message} {id : ℕ} {others : Company} (st : History) {w : World} {v : Ways} {sound : Type 0} → sound → w.id ≡ id → IsSaid w.said said → w.setting ≡ g.setting → AreOnce said → Brings said id v → Hears w v
    → Allows (CallMove sound v) (λ a b. Through g said id others st w a → Through g said id others st w b)
moves_around {g} {said} {id} {others} st {w} known own same set once brings hears = record {
  nothing = λ n p. p;
  chain = λ a b c p q r. q (p r);
  each = λ a b m p.
      (let o = p.around in
      let next = call_around o.history w known own same set once brings hears m p.sound p.views p.holds o.around in
      record {
        sound = ((call_keeps known m).goes p.sound).ordered;
        views = call_views m p.sound p.views;
        holds = call_holds hears m p.sound p.holds;
        around = record { history = next.history; more = onward_more st o.history next.history o.more next.more; around = next.around };
      });
}

pub called_around : {g : Ground} {said : List Message} {id : ℕ} {others : Company} (st : History) (w : World) (c : Call) (t : NodeStep) → w.id ≡ id → IsSaid w.said said → w.setting ≡ g.setting → AreOnce said → Brings said id (ways c t) → Hears w (ways c t)
    → IsSound t.node → HasSoundViews t.node → Holds w t.node → Around g said id others st t.node → Onwards g said id others st (after c t).node
called_around {g} {said} {id} {others} st w c t own same set once brings hears s views hold h =
    let start : Through g said id others st w t.node = record { sound = s; views = views; holds = hold; around = record { history = st; more = same_history st; around = h } } in
    (over (moves_around st s own same set once brings hears) (called_way c t (λ o. o)) start).around
