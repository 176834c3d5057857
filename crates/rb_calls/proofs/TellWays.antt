-- What a leader tells, and its commit, as ways of moves
use Rattle.std.proofs.Common.{[], ℕ, List, ◌≡◌, ap, refl, ◌∙◌, Result, Ok, Err, ◌≤◌, ◌+◌, ◌-◌, arith, sym, Option, Some, subst, Bool, true, false, nat_lt, ◌&&◌, None, ◌==◌, ◌∷◌}
use Rattle.std.proofs.lemmas.Bool.{ltb-true, ltb-false}
use Rattle.std.specs.Result.{result_unwrap_or}
use Rattle.rb_raftlog.proofs.TermLaws.{entry_past, slice_get_drop}
use Rattle.rb_raftlog.specs.Laws.{AreOfLog}
use Rattle.rb_raftlog.specs.Log.{LogValue, entries_after, entry_at, found, term_at, last}
use Rattle.rb_raftlog.specs.declared.entry.Entry.{Entry}
use Rattle.rb_raftlog.specs.declared.raft_log.LogFault.{LogFault}
use Rattle.rb_tracker.proofs.SetLaws.{if_both}
use Rattle.rb_tracker.specs.Commits.{match_of, commit_of}
use Rattle.rb_tracker.specs.Progresses.{PlainProgress, snapshotting, sent}
use Rattle.rb_tracker.specs.Trackers.{view_at, place, ids_of}
use Rattle.rb_message.specs.declared.kind.MessageKind.TheVariants as kind
use Rattle.rb_message.specs.declared.role.Role.{Role}
use Rattle.rb_message.specs.declared.role.Role.TheVariants as role
use Rattle.rb_node.specs.Acknowledging.{commit_or_sent}
use Rattle.rb_node.specs.Leading.{can_commit, checked_commit}
use Rattle.rb_node.specs.Node.{PlainNode, posted, message}
use Rattle.rb_node.specs.Sends.{append_of, snapshot_of, sending_of, takes_nothing, is_window_full, is_ping, is_news as tells_news, sends_by, snapshot_to, empty_to, entries_to, sends_with, sends_at, sends, sent_to_each, append_broadcast}
use Rattle.rb_node.specs.declared.sends.SendReason.{SendReason}
use Rattle.rb_node.specs.declared.sends.SendReason.TheVariants as mode
use Rattle.rb_node.specs.declared.sends.Sending.{Sending}
use Rattle.rb_node.specs.declared.sends.Sending.TheVariants as sending
use Rattle.rb_calls.specs.Sound.{AreViewsOf}
use Rattle.rb_calls.proofs.Goes.{Core, core}
use Rattle.rb_calls.proofs.MatchViewLaws.{of}
use Rattle.rb_calls.proofs.Moves.{TellMove, Idle, Whole, Allows, Viewed, Way, One, Sent, Then, Commits}
use Rattle.rb_calls.proofs.ProgressLaws.{same_match, sound_snapshotting, sent_match, sound_sent}
use Rattle.rb_calls.proofs.Saying.{different}

-- ---- what such moves leave as it is

pub record Rest : Type 0 where
  pub id : ℕ
  pub term : ℕ
  pub vote : ℕ
  pub role : Role
  pub log : LogValue
  pub applied : ℕ
  pub content : List ℕ

-- a node but its commit
abbrev pub rest : Core → Rest
rest c = record { id = c.id; term = c.term; vote = c.vote; role = c.role; log = c.log; applied = c.applied; content = c.content }

pub tells_rest : {a b : PlainNode} → TellMove a b → rest (core b) ≡ rest (core a)
tells_rest (Idle a b e) = ap (λ (w : Whole). rest w.core) e
tells_rest _ = refl

pub keeps_rest : Allows TellMove (λ a b. rest (core b) ≡ rest (core a))
keeps_rest = record { nothing = λ n. refl; chain = λ a b c p q. q ∙ p; each = λ a b m. tells_rest m }

pub tells_match : (id : ℕ) {a b : PlainNode} → TellMove a b → of b id ≡ of a id
tells_match id (Idle a b e) = ap (λ (w : Whole). match_of w.tracker.views id) e
tells_match id (Viewed n at view new is same sound) = same_match n.tracker.views at view new id is same
tells_match id _ = refl

pub keeps_match : (id : ℕ) → Allows TellMove (λ a b. of b id ≡ of a id)
keeps_match id = record { nothing = λ n. refl; chain = λ a b c p q. q ∙ p; each = λ a b m. tells_match id m }

-- ---- what is sent is true

-- the term that is named is the log's
unnamed_term : (r : Result ℕ LogFault) (fault : LogFault) → r ≡ Err fault → result_unwrap_or r 0 ≡ 0
unnamed_term r fault e = ap (λ (x : Result ℕ LogFault). result_unwrap_or x 0) e

named_term : (r : Result ℕ LogFault) (term : ℕ) → r ≡ Ok term → result_unwrap_or r 0 ≡ term
named_term r term e = ap (λ (x : Result ℕ LogFault). result_unwrap_or x 0) e

none_of_log : (v : LogValue) (prev : ℕ) → AreOfLog v prev []
none_of_log v prev k e is = cc

rest_of_log : (v : LogValue) (prev : ℕ) → v.base ≤ prev → AreOfLog v prev (entries_after v prev)
rest_of_log v prev past k e is =
    let at : v.base + 1 + (prev - v.base + k) ≡ prev + 1 + k = omega (arith, past) in
    ap (entry_at v) (sym at) ∙ entry_past v (prev - v.base + k)
    ∙ ap (λ (o : Option Entry). found o) (sym (slice_get_drop v.entries (prev - v.base) k) ∙ is)

nobody : (at : ℕ) (view : PlainProgress) → view_at [] at ≡ Some view → ⊥
nobody at view is = cc

no_view : {r : Role} (views : List (ℕ × PlainProgress)) (at : ℕ) (view : PlainProgress) → view_at views at ≡ Some view → views ≡ [] → r ≡ role.Leader
no_view views at view is none = absurd (nobody at view (subst (λ (l : List (ℕ × PlainProgress)). view_at l at ≡ Some view) none is))

-- who has a view leads
leads_by : (r : Role) (views : List (ℕ × PlainProgress)) (at : ℕ) (view : PlainProgress) → view_at views at ≡ Some view → AreViewsOf r views → r ≡ role.Leader
leads_by role.Leader views at view is of_role = refl
leads_by role.Follower views at view is of_role = no_view views at view is (of_role.only_leading (λ e. cc))
leads_by role.Precandidate views at view is of_role = no_view views at view is (of_role.only_leading (λ e. cc))
leads_by role.Candidate views at view is of_role = no_view views at view is (of_role.only_leading (λ e. cc))

append_sent : (n : PlainNode) (at to : ℕ) (view : PlainProgress) (es : List Entry) → view_at n.tracker.views at ≡ Some view → n.log.base ≤ view.next - 1
    → AreOfLog n.log (view.next - 1) es
    → (to ≡ n.id → ⊥) → Way TellMove n (posted n to (append_of n view.next es))
append_sent n at to view es is past among other =
    One (Sent n (message n.id to n.term (append_of n view.next es)) tt (λ _. (
      refl,
      (
        refl,
        other,
        (λ v. leads_by n.role n.tracker.views at view is v),
        record {
          past_base = past;
          prev_term = λ term e. named_term (term_at n.log (view.next - 1)) term e;
          no_term = λ fault e. unnamed_term (term_at n.log (view.next - 1)) fault e;
          entries = among;
          commit = refl;
        },
      ),
    )))

snapshot_sent : (n : PlainNode) (at to : ℕ) (view : PlainProgress) → view_at n.tracker.views at ≡ Some view → (to ≡ n.id → ⊥)
    → Way TellMove n (posted n to (kind.Snapshot (snapshot_of n)))
snapshot_sent n at to view is other =
    One (Sent n (message n.id to n.term (kind.Snapshot (snapshot_of n))) tt (λ _. (
      refl,
      (
        refl,
        other,
        (λ v. leads_by n.role n.tracker.views at view is v),
        record {
          index = refl;
          term = λ term e. named_term (term_at n.log n.applied) term e;
          content = refl;
          config = refl;
        },
      ),
    )))

-- ---- sending, by the view

-- a snapshot goes where the log begins past what is next, an append goes elsewhere
abbrev Fits : Sending → Bool → Type 0
Fits sending.Nothing low = Unit {0}
Fits sending.Snapshot low = low ≡ true
Fits sending.Empty low = low ≡ false
Fits sending.Entries low = low ≡ false

sending_fits : (log : LogValue) (view : PlainProgress) (how : SendReason) → Fits (sending_of log view how) (nat_lt (view.next - 1) log.base)
sending_fits log view how =
    let P : Sending → Type 0 = λ s. Fits s (nat_lt (view.next - 1) log.base) in
    if_both P (takes_nothing view) _ _ (λ _. tt)
    (λ _. if_both P (nat_lt (view.next - 1) log.base) _ _ (λ low. low)
    (λ high. if_both P (is_window_full view) _ _
    (λ _. if_both P (is_ping how) _ _ (λ _. high) (λ _. tt))
    (λ _. if_both P (nat_lt (last log) view.next && tells_news how) _ _ (λ _. tt) (λ _. high))))

by_sending : (s : Sending) (n : PlainNode) (at to : ℕ) (view : PlainProgress) → view_at n.tracker.views at ≡ Some view → Fits s (nat_lt (view.next - 1) n.log.base)
    → (to ≡ n.id → ⊥) → Way TellMove n (sends_by s n at to)
by_sending sending.Nothing n at to view is fits other = One (Idle n n refl)
by_sending sending.Snapshot n at to view is fits other =
    let under = ltb-true (view.next - 1) n.log.base fits in
    let x : PlainNode = posted n to (kind.Snapshot (snapshot_of n)) in
    subst (λ (o : Option PlainProgress). Way TellMove n (snapshot_to o n at to)) (sym is)
    (Then (snapshot_sent n at to view is other) (One (Viewed x at view (snapshotting view n.applied) is refl
    (λ s g. (let base = s.past_base in let ahead = g.ahead in sound_snapshotting view n.applied (omega (arith, base, ahead, under)))))))
by_sending sending.Empty n at to view is fits other =
    subst (λ (o : Option PlainProgress). Way TellMove n (empty_to o n to)) (sym is)
    (append_sent n at to view [] is (ltb-false (view.next - 1) n.log.base fits) (none_of_log n.log (view.next - 1)) other)
by_sending sending.Entries n at to view is fits other =
    let past = ltb-false (view.next - 1) n.log.base fits in
    let es = entries_after n.log (view.next - 1) in
    let x : PlainNode = posted n to (append_of n view.next es) in
    subst (λ (o : Option PlainProgress). Way TellMove n (entries_to o n at to)) (sym is)
    (Then (append_sent n at to view es is past (rest_of_log n.log (view.next - 1) past) other)
    (One (Viewed x at view (sent view (last n.log)) is (sent_match view.state view (last n.log)) (λ _ g. sound_sent view (last n.log) g))))

by_view : (o : Option PlainProgress) (n : PlainNode) (at to : ℕ) (how : SendReason) → view_at n.tracker.views at ≡ o → (to ≡ n.id → ⊥)
    → Way TellMove n (sends_with o n at to how)
by_view None n at to how is other = One (Idle n n refl)
by_view (Some view) n at to how is other = by_sending (sending_of n.log view how) n at to view is (sending_fits n.log view how) other

by_place : (o : Option ℕ) (n : PlainNode) (to : ℕ) (how : SendReason) → (to ≡ n.id → ⊥) → Way TellMove n (sends_at o n to how)
by_place None n to how other = One (Idle n n refl)
by_place (Some at) n to how other = by_view (view_at n.tracker.views at) n at to how refl other

pub sends_way : (n : PlainNode) (to : ℕ) (how : SendReason) → Way TellMove n (sends n to how)
unfolding sends
sends_way n to how =
    if_both (Way TellMove n) (to == n.id) _ _ (λ _. One (Idle n n refl)) (λ no. by_place (place n.tracker.views to) n to how (different to n.id no))

pub tells_way : (n : PlainNode) (ids : List ℕ) → Way TellMove n (sent_to_each n ids)
tells_way n [] = One (Idle n n refl)
tells_way n (id ∷ ids) = Then (sends_way n id mode.Tell) (tells_way (sends n id mode.Tell) ids)

pub append_broadcast_way : (n : PlainNode) → Way TellMove n (append_broadcast n)
unfolding append_broadcast
append_broadcast_way n = tells_way n (ids_of n.tracker.views)

-- ---- its commit

commit_way : (n : PlainNode) → can_commit n (commit_of n.tracker) ≡ true → Way TellMove n (append_broadcast (record n { commit = commit_of n.tracker }))
commit_way n can = Then (One (Commits n can)) (append_broadcast_way (record n { commit = commit_of n.tracker }))

pub checked_way : (n : PlainNode) (ids : List ℕ) → Way TellMove n (checked_commit n ids)
unfolding checked_commit
checked_way n ids = if_both (Way TellMove n) (can_commit n (commit_of n.tracker)) _ _ (λ can. commit_way n can) (λ _. tells_way n ids)

pub commit_or_sent_way : (n : PlainNode) (to : ℕ) (how : SendReason) → Way TellMove n (commit_or_sent n to how)
unfolding commit_or_sent
commit_or_sent_way n to how = if_both (Way TellMove n) (can_commit n (commit_of n.tracker)) _ _ (λ can. commit_way n can) (λ _. sends_way n to how)
