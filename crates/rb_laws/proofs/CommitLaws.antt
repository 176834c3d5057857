-- A leader's commit: where it moves, a quorum holds what it moves to
use Rattle.std.proofs.Common.{ℕ, ◌≡◌, ◌⊎◌, true, inl, inr, ◌∙◌, subst, sym, ◌≤◌, nat_le, arith, Some, refl, ap, List}
use Rattle.std.proofs.lemmas.Bool.{leb-true, le-leb}
use Rattle.indexmap.specs.Layout.{set_value_at}
use Rattle.rb_vocab.specs.declared.change.Transition.{Transition}
use Rattle.rb_vocab.specs.declared.change.Word.{Word}
use Rattle.rb_tracker.proofs.CommitLaws.{commit_is_held}
use Rattle.rb_tracker.proofs.VoteLaws.{both_more}
use Rattle.rb_tracker.specs.Commits.{is_held, match_of, holds}
use Rattle.rb_tracker.specs.Progresses.{PlainProgress, acked}
use Rattle.rb_tracker.specs.Trackers.{PlainTracker, with_view, place, view_at}
use Rattle.rb_message.specs.declared.message.Message.{Message}
use Rattle.rb_message.specs.declared.role.Role.{Role}
use Rattle.rb_message.specs.declared.role.Role.TheVariants as role
use Rattle.rb_node.specs.Changing.{change_applied}
use Rattle.rb_node.specs.Node.{PlainNode, NodeStep}
use Rattle.rb_node.specs.Sends.{with_view_at}
use Rattle.rb_node.specs.Step.{stepped}
use Rattle.rb_calls.specs.Calling.{Call, run}
use Rattle.rb_calls.specs.Matches.{IsHeldBetween}
use Rattle.rb_calls.specs.Sound.{IsSound}
use Rattle.rb_calls.specs.Words.{IsLater}
use Rattle.rb_calls.proofs.CallLaws.{Carried, over_calls}
use Rattle.rb_calls.proofs.CallWays.{with_members_only, change_way}
use Rattle.rb_laws.proofs.ChoiceLaws.{may_campaign}
use Rattle.rb_calls.proofs.Goes.{Keeps, anyone, core, self, and_then, middle_term, Ways, Goes, middle_leads, goes_then, anyhow}
use Rattle.rb_calls.proofs.MatchViewLaws.{of, place_set, place_here}
use Rattle.rb_calls.proofs.MoveLaws.{no_leader, step_keeps, call_keeps}
use Rattle.rb_calls.proofs.Moves.{TellMove, Idle, Whole, Viewed, Commits, Sent, Allows, StepMove, StepTells, Follows, Asks, Stands, Leads, Takes, Learns, Restores, Acks, over, ChangeMove, Revises, in_config, CallMove, CallChanges, CallSteps}
use Rattle.rb_calls.proofs.ProgressLaws.{acked_matched, same_match}
use Rattle.rb_calls.proofs.Saying.{with_sent}
use Rattle.rb_calls.proofs.StepWays.{stepped_way}
use Rattle.rb_calls.proofs.TellWays.{Rest, tells_rest}

-- the commit stays, or a quorum holds it by the views after
abbrev pub CommitHolds : ℕ → PlainNode → Type 0
CommitHolds old x = (x.commit ≡ old) ⊎ (is_held x.tracker x.commit ≡ true)

-- and what a quorum holds it goes on to hold
record Lasts (a b : PlainNode) : Type 0 where
  moves : CommitHolds a.commit b
  holds_on : (i : ℕ) → is_held a.tracker i ≡ true → is_held b.tracker i ≡ true

lasts_still : (a b : PlainNode) → b.commit ≡ a.commit → ((i : ℕ) → is_held a.tracker i ≡ true → is_held b.tracker i ≡ true) → Lasts a b
lasts_still a b e on = record { moves = inl e; holds_on = on }

lasts_then : (a b c : PlainNode) → Lasts a b → Lasts b c → Lasts a c
lasts_then a b c p q = record {
  moves = elim q.moves as (λ _. CommitHolds a.commit c) [
    | inr held ↦ inr held
    | inl stays ↦ elim p.moves as (λ _. CommitHolds a.commit c) [
      | inl before ↦ inl (stays ∙ before)
      | inr held ↦ inr (subst (λ (i : ℕ). is_held c.tracker i ≡ true) (sym stays) (q.holds_on b.commit held))
    ]
  ];
  holds_on = λ i held. q.holds_on i (p.holds_on i held);
}

-- ---- a view that is written with no lesser match

holds_still : (n a b : ℕ) → a ≤ b → nat_le n a ≡ true → nat_le n b ≡ true
holds_still n a b up h = (let low = leb-true n a h in le-leb n b (omega (arith, low, up)))

view_holds : (t : PlainTracker) (at : ℕ) (new : PlainProgress) → ((id : ℕ) → match_of t.views id ≤ match_of (set_value_at t.views at new) id) → (i : ℕ)
    → is_held t i ≡ true → is_held (with_view t at new) i ≡ true
view_holds t at new up i held =
    both_more t.config (λ id. holds t.views i id) (λ id. holds (set_value_at t.views at new) i id)
    (λ id has. holds_still i (match_of t.views id) (match_of (set_value_at t.views at new) id) (up id) has) held

pub acked_more : (n : PlainNode) (at from i : ℕ) (view : PlainProgress) → place n.tracker.views from ≡ Some at → view_at n.tracker.views at ≡ Some view → view.matched ≤ i
    → (id : ℕ) → of n id ≤ match_of (set_value_at n.tracker.views at (acked view i)) id
acked_more n at from i view here is up id =
    elim (place_set n.tracker.views at from id (acked view i) here) as (λ _. of n id ≤ match_of (set_value_at n.tracker.views at (acked view i)) id) [
      | inl same ↦ omega (arith, same)
      | inr new ↦
          let now = new.1 ∙ acked_matched view.state view i in
          let was : of n from ≡ view.matched = sym (same_match n.tracker.views at view view from is refl) ∙ place_here n.tracker.views at from view here in
          let it : of n id ≡ view.matched = ap (of n) new.0 ∙ was in
          omega (arith, now, it, up)
    ]

-- ---- what a leader tells

telling_lasts : {a b : PlainNode} → TellMove a b → Lasts a b
telling_lasts (Idle a b e) = lasts_still a b (ap (λ (x : Whole). x.core.commit) e) (λ i held. subst (λ (x : Whole). is_held x.tracker i ≡ true) (sym e) held)
telling_lasts (Viewed n at view new is same sound) =
    lasts_still n (with_view_at n at new) refl
    (view_holds n.tracker at new (λ id. (let e = same_match n.tracker.views at view new id is same in omega (arith, e))))
telling_lasts (Commits n can) = record { moves = inr (commit_is_held n.tracker); holds_on = λ i held. held }
telling_lasts (Sent n m own says) = lasts_still n (with_sent n m) refl (λ i held. held)

lasting : Allows TellMove Lasts
lasting = record { nothing = λ n. lasts_still n n refl (λ i held. held); chain = lasts_then; each = λ a b m. telling_lasts m }

-- ---- a message to a leader, in its term

record Leading (a b : PlainNode) : Type 0 where
  keeps : Keeps anyone (core a) (core b)
  holds : IsSound a → a.role ≡ role.Leader → b.term ≡ a.term → (b.role ≡ role.Leader) × Lasts a b

no_leader_stands : (r : Role) → r ≡ role.Candidate → r ≡ role.Leader → ⊥
no_leader_stands r e f = let no : role.Candidate ≡ role.Leader = sym e ∙ f in cc

step_leads : {a b : PlainNode} → StepMove anyone a b → a.role ≡ role.Leader → b.term ≡ a.term → (b.role ≡ role.Leader) × Lasts a b
step_leads (StepTells m) leads same = (ap (λ (r : Rest). r.role) (tells_rest m) ∙ leads, telling_lasts m)
step_leads (Follows n term lead up past) leads same = (let later = past leads in absurd (omega (arith, later, same)))
step_leads (Asks n may) leads same = absurd ((may_campaign n may).follows leads)
step_leads (Stands n may) leads same = absurd ((may_campaign n may).follows leads)
step_leads (Leads n stands elected won) leads same = absurd (no_leader_stands n.role stands leads)
step_leads (Takes n from append is came) leads same = absurd (no_leader n.role is leads)
step_leads (Learns n i is up held why) leads same = absurd (no_leader n.role is leads)
step_leads (Restores n s is past came other) leads same = absurd (no_leader n.role is leads)
step_leads (Acks n at from i view role_is here is up said) leads same =
    (leads, lasts_still n (with_view_at n at (acked view i)) refl (view_holds n.tracker at (acked view i) (acked_more n at from i view here is up)))
step_leads _ leads same = (leads, record { moves = inl refl; holds_on = λ i held. held })

leading_on : Allows (StepMove anyone) Leading
leading_on = record {
  nothing = λ n. record { keeps = self (core n); holds = λ s leads same. (leads, lasts_still n n refl (λ i held. held)) };
  chain = λ a b c p q. record {
    keeps = and_then p.keeps q.keeps;
    holds = λ s leads same. (let g = p.keeps.goes s in
        let at : b.term ≡ a.term = middle_term (core a) (core b) (core c) g (q.keeps.goes g.ordered) same in
        let first = p.holds s leads at in
        let second = q.holds g.ordered first.0 (same ∙ sym at) in
        (second.0, lasts_then a b c first.1 second.1));
  };
  each = λ a b m. record { keeps = step_keeps m; holds = λ s leads same. step_leads m leads same };
}

pub stepped_commits : (t : NodeStep) (m : Message) → IsSound t.node → t.node.role ≡ role.Leader → (stepped t m).node.term ≡ t.node.term
    → CommitHolds t.node.commit (stepped t m).node
stepped_commits t m sound leads same = ((over leading_on (stepped_way t m tt (λ _. tt) (λ _. tt) (λ _ _. tt))).holds sound leads same).1.moves

-- ---- a change that takes effect

change_commit : {a b : PlainNode} → ChangeMove a b → b.commit ≡ a.commit
change_commit (Revises n c leads) = ap (λ (x : PlainNode). x.commit) (with_members_only (in_config n c))
change_commit _ = refl

pub change_commits : (t : NodeStep) (transition : Transition) (words : List Word) → CommitHolds t.node.commit (change_applied t transition words).node
change_commits t transition words =
    let c = change_way t transition words in
    subst (λ (i : ℕ). CommitHolds i (change_applied t transition words).node) (change_commit c.first) (over lasting c.next).moves

-- ---- every call, at some moment

step_commit : {w : Ways} {a b : PlainNode} → StepMove w a b → a.role ≡ role.Leader → CommitHolds a.commit b
step_commit (StepTells m) leads = (telling_lasts m).moves
step_commit (Leads n stands elected won) leads = absurd (no_leader_stands n.role stands leads)
step_commit (Learns n i is up held why) leads = absurd (no_leader n.role is leads)
step_commit (Restores n s is past came other) leads = absurd (no_leader n.role is leads)
step_commit _ leads = inl refl

call_commit : {sound : Type 0} {w : Ways} {a b : PlainNode} → CallMove sound w a b → a.role ≡ role.Leader → CommitHolds a.commit b
call_commit (CallChanges m has) leads = inl (change_commit m)
call_commit (CallSteps m) leads = step_commit m leads
call_commit _ leads = inl refl

record Between (a b : PlainNode) : Type 0 where
  moment : PlainNode
  since : Goes anyone (core a) (core moment)
  until : Goes anyone (core moment) (core b)
  reached : moment.commit ≡ b.commit
  held : is_held moment.tracker moment.commit ≡ true

-- a node that goes on; and where it leads on, its commit is held where it moves
record Moved (a b : PlainNode) : Type 0 where
  keeps : Keeps anyone (core a) (core b)
  held : IsSound a → a.role ≡ role.Leader → b.role ≡ role.Leader → b.term ≡ a.term → (b.commit ≡ a.commit) ⊎ Between a b

moved_then : (a b c : PlainNode) → Moved a b → Moved b c → Moved a c
moved_then a b c p q = record {
  keeps = and_then p.keeps q.keeps;
  held = λ s first end e. (let g = p.keeps.goes s in
      let h = q.keeps.goes g.ordered in
      let leads = middle_leads (core a) (core b) (core c) g h first end e in
      let at : b.term ≡ a.term = middle_term (core a) (core b) (core c) g h e in
      elim (q.held g.ordered leads end (e ∙ sym at)) as (λ _. (c.commit ≡ a.commit) ⊎ Between a c) [
        | inr later ↦ inr (record {
          moment = later.moment;
          since = goes_then (core a) (core b) (core later.moment) g later.since;
          until = later.until;
          reached = later.reached;
          held = later.held;
        })
        | inl stays ↦ elim (p.held s first leads at) as (λ _. (c.commit ≡ a.commit) ⊎ Between a c) [
          | inl before ↦ inl (stays ∙ before)
          | inr earlier ↦ inr (record {
            moment = earlier.moment;
            since = earlier.since;
            until = goes_then (core earlier.moment) (core b) (core c) earlier.until h;
            reached = earlier.reached ∙ sym stays;
            held = earlier.held;
          })
        ]
      ]);
}

moves_on : {sound : Type 0} {w : Ways} → sound → {a b : PlainNode} → CallMove sound w a b → Moved a b
moves_on s {a} {b} m = record {
  keeps = anyhow (call_keeps s m);
  held = λ o first end e. elim (call_commit m first) as (λ _. (b.commit ≡ a.commit) ⊎ Between a b) [
    | inl stays ↦ inl stays
    | inr held ↦ (let g = (anyhow (call_keeps s m)).goes o in inr (record { moment = b; since = g; until = (self (core b)).goes g.ordered; reached = refl; held = held }))
  ];
}

moving : Carried Moved
moving = record {
  under = λ a b f. record { keeps = record { goes = λ s. (f s).keeps.goes s }; held = λ s. (f s).held s };
  moves = λ s. record { nothing = λ n. record { keeps = self (core n); held = λ _ _ _ _. inl refl }; chain = moved_then; each = λ a b m. moves_on s m };
}

later : (a b : PlainNode) → Goes anyone (core a) (core b) → IsLater a b
later a b g = record { id = g.id; term = g.term; commit = g.commit; leads_on = g.own }

pub run_commits : (cs : List Call) (t : NodeStep) → IsSound t.node → t.node.role ≡ role.Leader → (run cs t).node.role ≡ role.Leader → (run cs t).node.term ≡ t.node.term → ((run cs t).node.commit ≡ t.node.commit) ⊎ IsHeldBetween t.node (run cs t).node
run_commits cs t s first end e =
    let b = (run cs t).node in
    elim ((over_calls moving cs t).held s first end e) as (λ _. (b.commit ≡ t.node.commit) ⊎ IsHeldBetween t.node b) [
      | inl stays ↦ inl stays
      | inr is ↦ inr (record {
        moment = is.moment;
        since = later t.node is.moment is.since;
        until = later is.moment b is.until;
        leads = middle_leads (core t.node) (core is.moment) (core b) is.since is.until first end e;
        reached = is.reached;
        held = is.held;
      })
    ]
