-- At most one change past the commit of each node of a network, if a term has one leader: an append that comes, each call, and all that happens
use Rattle.std.proofs.Common.{◌≡◌, ◌⊎◌, ℕ, ◌+◌, ◌<◌, ◌≤◌, max, min, List, [], ◌∷◌, ◌++◌, length, Option, Some, None, Ok, refl, sym, ap, subst, ◌∙◌, arith, inl, inr}
use Rattle.std.specs.Prelude.{All, Contains, slice_get}
use Rattle.std.proofs.lemmas.Bool.{cases_lt, cases_Bool}
use Rattle.std.proofs.lemmas.List.Elements.{All-nil, All-push, All-weaker, All-append, All-contains}
use Rattle.rb_vocab.specs.declared.conf_state.ConfState.{ConfState}
use Rattle.rb_raftlog.proofs.AppendLaws.{put, appended_below, appended_refused, appended_new, none-new, in_place, by_option}
use Rattle.rb_raftlog.proofs.TermLaws.{is_term_is}
use Rattle.rb_raftlog.specs.declared.raft_log.Appended.{Appended}
use Rattle.rb_raftlog.specs.declared.raft_log.Appended.TheVariants.{Matched, Refused, BelowCommit}
use Rattle.rb_raftlog.specs.Log.{LogValue, last, term_at, is_term, first_new, appended, answer}
use Rattle.rb_tracker.proofs.SetLaws.{if_both}
use Rattle.rb_message.specs.Appends.{PlainAppend}
use Rattle.rb_message.specs.declared.kind.MessageKind.{MessageKind}
use Rattle.rb_message.specs.declared.kind.MessageKind.TheVariants as kind
use Rattle.rb_message.specs.declared.message.Message.{Message}
use Rattle.rb_message.specs.declared.role.Role.{Role}
use Rattle.rb_message.specs.declared.role.Role.TheVariants as role
use Rattle.rb_node.specs.Following.{after_log, with_appended, removal_reported, append_entries_handled}
use Rattle.rb_node.specs.Node.{PlainNode, NodeStep, node_step, started, with_node, message}
use Rattle.rb_node.specs.Step.{as_follower, as_precandidate, as_candidate, as_leader, by_role_of, at_term_by, stepped}
use Rattle.rb_node.specs.Terms.{became_follower, stepped_later_by, stepped_earlier_by, answers_earlier}
use Rattle.rb_calls.specs.Calling.{Call, Step, Campaign, Propose, Transfer, Tick, Advance, ForgetLeader, ReportUnreachable, SetTimeout, Compact, after}
use Rattle.rb_laws.specs.Configurations.{HasOneChangePast, log_of, IsElectedAs, AreElectedAs}
use Rattle.rb_calls.specs.Elections.{Elected}
use Rattle.rb_laws.specs.Honesty.{IsNoAppend, IsGenuineCall, AreGenuine}
use Rattle.rb_laws.specs.Network.{Network, Happening, put_out, happened_to, happened, run, IsBegun}
use Rattle.rb_calls.specs.Sound.{IsSound}
use Rattle.rb_calls.proofs.CallLaws.{calls}
use Rattle.rb_calls.proofs.CallWays.{ways, called_way}
use Rattle.rb_laws.proofs.ChangeCounts.{IsPart, put_one, empty_one}
use Rattle.rb_laws.proofs.Holding.{follower_stands, follower_leads}
use Rattle.rb_laws.proofs.Links.{Link, Extends, still_linked}
use Rattle.rb_laws.proofs.LinkedLogs.{log_from, none_linked, part_entry, Puts, put_linked}
use Rattle.rb_calls.proofs.ListLaws.{each_set, in_nothing}
use Rattle.rb_calls.proofs.Moves.{over}
use Rattle.rb_laws.proofs.OneChange.{Gist, gist, IsPartBy, Fair, NoAppend, IsIn, World, Holds, by, still, follows_in, still_fair, none_fair, waits, Hears, moves_hold}
use Rattle.rb_laws.proofs.StepCases.{by_term}
use Rattle.rb_laws.proofs.TakingLaws.{matches}

-- ---- a follower takes an append

-- the log as it was: the commit may rise, and an answer waits
after_any : {id : ℕ} {leader : ℕ → ℕ} {ls : List Link} (x : Appended) (t : NodeStep) (from : ℕ) (append : PlainAppend) → t.node.role ≡ role.Follower → IsIn id leader ls (gist t.node) → IsIn id leader ls (gist (after_log x t from append).node)
after_any (Matched i) t from append follows h =
    let n = t.node in
    still (gist n) n.log (max n.commit (min append.commit i)) n.applied n.sent (n.waiting ++ message n.id from n.term (kind.AppendResponse i) ∷ [])
    h.logged h.sent (All-push NoAppend n.waiting _ h.waiting tt) (λ j k e f past over. h.one j k e f (omega (arith, past)) (omega (arith, over)))
    (λ stands. absurd (follower_stands (sym follows ∙ stands))) (λ leads. absurd (follower_leads (sym follows ∙ leads))) h
after_any (Refused hint) t from append follows h =
    let n = t.node in
    still (gist n) n.log n.commit n.applied n.sent (n.waiting ++ message n.id from n.term (kind.AppendRefusal append.prev hint) ∷ [])
    h.logged h.sent (All-push NoAppend n.waiting _ h.waiting tt) h.one
    (λ stands. absurd (follower_stands (sym follows ∙ stands))) (λ leads. absurd (follower_leads (sym follows ∙ leads))) h
after_any (BelowCommit i) t from append follows h = h

-- entries are put in place
after_put : {id : ℕ} {leader : ℕ → ℕ} {ls : List Link} (n : PlainNode) (from : ℕ) (append : PlainAppend) (c : ℕ) → n.role ≡ role.Follower → IsPart ls append → Puts n.log append.prev append.prev_term append.entries c → IsIn id leader ls (gist n)
    → IsIn id leader ls (record (gist n) {
      log = put n.log append.prev append.entries c;
      commit = max n.commit (min append.commit (append.prev + length append.entries));
      waiting = n.waiting ++ message n.id from n.term (kind.AppendResponse (append.prev + length append.entries)) ∷ [];
    })
after_put {ls = ls} n from append c follows part p h =
    let upto = append.prev + length append.entries in
    still (gist n) (put n.log append.prev append.entries c) (max n.commit (min append.commit upto)) n.applied n.sent (n.waiting ++ message n.id from n.term (kind.AppendResponse upto) ∷ [])
    (put_linked ls n.log append.prev append.prev_term c append.entries p h.logged part.chain) h.sent (All-push NoAppend n.waiting _ h.waiting tt)
    (put_one ls n.log append c n.commit h.single h.logged part p)
    (λ stands. absurd (follower_stands (sym follows ∙ stands))) (λ leads. absurd (follower_leads (sym follows ∙ leads))) h

takes_in : {id : ℕ} {leader : ℕ → ℕ} {ls : List Link} (t : NodeStep) (from : ℕ) (append : PlainAppend) → t.node.role ≡ role.Follower → IsPart ls append → IsIn id leader ls (gist t.node) → IsIn id leader ls (gist (append_entries_handled t from append).node)
unfolding append_entries_handled
takes_in {id} {leader} {ls} t from append follows part h =
    let n = t.node in
    let prev = append.prev in
    let term = append.prev_term in
    let es = append.entries in
    let u : NodeStep = with_node (removal_reported t append) (with_appended n from append) in
    let G : LogValue → Gist = λ v. record (gist n) { log = v } in
    let stays : appended n.log prev term es n.commit ≡ n.log → IsIn id leader ls (gist (after_log (answer n.log prev term es n.commit) u from append).node) = λ same.
    after_any (answer n.log prev term es n.commit) u from append follows (subst (λ (v : LogValue). IsIn id leader ls (G v)) (sym same) h) in
    elim (cases_lt prev n.commit) as (λ _. IsIn id leader ls (gist (after_log (answer n.log prev term es n.commit) u from append).node)) [
      | inl under ↦ stays (appended_below n.log prev term n.commit es under)
      | inr over ↦ elim (cases_Bool (is_term (term_at n.log prev) term)) as (λ _. IsIn id leader ls (gist (after_log (answer n.log prev term es n.commit) u from append).node)) [
        | inr fails ↦ stays (appended_refused n.log prev term n.commit es fails)
        | inl holds ↦
            let held : term_at n.log prev ≡ Ok term = is_term_is (term_at n.log prev) term holds in
            by_option (first_new n.log (prev + 1) es) (λ _. IsIn id leader ls (gist (after_log (answer n.log prev term es n.commit) u from append).node))
            (λ none. stays (none-new n.log prev term n.commit es none))
            (λ c new.
            (let there = in_place n.log prev term c es holds new in
            let p : Puts n.log prev term es c = record { held = held; new = new; above = there.0; from = there.1; high = there.2; within = there.3 } in
            subst (λ (x : Appended). IsIn id leader ls (gist (after_log x u from append).node)) (sym (matches n.log append n.commit over held))
            (subst (λ (v : LogValue). IsIn id leader ls (record (G v) {
              commit = max n.commit (min append.commit (prev + length es));
              waiting = n.waiting ++ message n.id from n.term (kind.AppendResponse (prev + length es)) ∷ [];
            })) (sym (appended_new n.log prev term n.commit c es over held new)) (after_put n from append c follows part p h))))
      ]
    ]

part_since : (old new : List Link) (append : PlainAppend) → Extends old new → IsPart old append → IsPart new append
part_since old new append more p = record {
  log = p.log;
  low = p.low;
  linked = still_linked old new p.log more p.linked;
  chain = still_linked old new (log_from append.prev append.prev_term append.entries) more p.chain;
  entries = p.entries;
  one = p.one;
}

takes : {w : World} (t : NodeStep) (from : ℕ) (append : PlainAppend) → t.node.role ≡ role.Follower → IsPart w.links append → Holds w t.node → Holds w (append_entries_handled t from append).node
takes {w} t from append follows part h = by h (λ ls since i. takes_in t from append follows (part_since w.links ls append since part) i)

-- after it follows the sender, in a term
follows_takes : {w : World} (t : NodeStep) (m : Message) (term : ℕ) (append : PlainAppend) → t.node.term ≤ term → IsPart w.links append → Holds w t.node → Holds w (as_follower (kind.Append append) (became_follower t term m.from) m).node
follows_takes t m term append up part h = takes (became_follower t term m.from) m.from append refl part (by h (λ _ _ i. follows_in t.node term m.from up i))

role_takes : {w : World} (r : Role) (t : NodeStep) (m : Message) (append : PlainAppend) → t.node.role ≡ r → m.kind ≡ kind.Append append → IsPart w.links append → Holds w t.node → Holds w (by_role_of r t m).node
role_takes {w} role.Follower t m append of is part h = subst (λ (k : MessageKind). Holds w (as_follower k t m).node) (sym is) (takes t m.from append of part h)
role_takes {w} role.Precandidate t m append of is part h =
    subst (λ (k : MessageKind). Holds w (as_precandidate k t m).node) (sym is)
    (subst (λ (k : MessageKind). Holds w (as_follower k (became_follower t t.node.term m.from) m).node) (sym is) (follows_takes t m t.node.term append (omega arith) part h))
role_takes {w} role.Candidate t m append of is part h =
    subst (λ (k : MessageKind). Holds w (as_candidate k t m).node) (sym is)
    (subst (λ (k : MessageKind). Holds w (as_follower k (became_follower t t.node.term m.from) m).node) (sym is) (follows_takes t m t.node.term append (omega arith) part h))
role_takes {w} role.Leader t m append of is part h = subst (λ (k : MessageKind). Holds w (as_leader k t m).node) (sym is) h

append_holds : {w : World} (t : NodeStep) (m : Message) (append : PlainAppend) → m.kind ≡ kind.Append append → IsPart w.links append → Holds w t.node → Holds w (stepped t m).node
append_holds {w} t m append is part h =
    let P : NodeStep → Type 0 = λ u. Holds w u.node in
    by_term P t m
    (λ _. subst (λ (k : MessageKind). P (at_term_by k t m)) (sym is) (role_takes t.node.role t m append refl is part h))
    (λ _. subst (λ (k : MessageKind). P (stepped_earlier_by k t m)) (sym is) (if_both P (answers_earlier t.node) _ _ (λ _. waits t.node _ tt h) (λ _. h)))
    (λ _ _. h)
    (λ past _. subst (λ (k : MessageKind). P (at_term_by k (stepped_later_by k t m) m)) (sym is)
    (subst (λ (k : MessageKind). P (as_follower k (became_follower t m.term m.from) m)) (sym is) (follows_takes t m m.term append (omega (arith, past)) part h)))

-- ---- each call

-- what comes is fair, and whoever is elected is the leader of the term
abbrev Brings : World → Call → Type 0
Brings w (Step m) = Fair w.links m
Brings w _ = Unit {0}

hears : {w : World} (c : Call) (t : NodeStep) → ((m : Message) → c ≡ Step m → IsNoAppend m.kind) → All NoAppend t.node.waiting → ((term : ℕ) → Elected c t term → w.leader term ≡ w.id) → Hears w (ways c t)
hears (Step m) t none waiting led = record { none = λ x is. subst NoAppend (sym is) (none m refl); elects = led }
hears (Propose body) t none waiting led = record { none = λ x is. subst NoAppend (sym is) tt; elects = led }
hears (Transfer to) t none waiting led = record { none = λ x is. subst NoAppend (sym is) tt; elects = led }
hears Advance t none waiting led = record { none = λ x comes. All-contains NoAppend t.node.waiting x waiting comes.0; elects = led }
hears _ t none waiting led = record { none = λ x never. absurd never; elects = led }

other_holds : {w : World} (c : Call) (t : NodeStep) → ((m : Message) → c ≡ Step m → IsNoAppend m.kind) → ((term : ℕ) → Elected c t term → w.leader term ≡ w.id) → IsSound t.node → Holds w t.node → Holds w (after c t).node
other_holds c t none led s h = (over (moves_hold s (hears c t none h.holds.waiting led)) (called_way c t (λ o. o)) (s, h)).1

same_step : (m x : Message) → Step m ≡ Step x → m ≡ x
same_step m x e = cc

step_holds : {w : World} (k : MessageKind) (t : NodeStep) (m : Message) → m.kind ≡ k → IsPartBy w.links k → ((term : ℕ) → Elected (Step m) t term → w.leader term ≡ w.id) → IsSound t.node → Holds w t.node → Holds w (after (Step m) t).node
step_holds (kind.Append append) t m is part led s h = append_holds t m append is part h
step_holds _ t m is part led s h = other_holds (Step m) t (λ x e. subst NoAppend (same_step m x e) (subst IsNoAppend (sym is) tt)) led s h

called_holds : {w : World} (c : Call) (t : NodeStep) → Brings w c → ((term : ℕ) → Elected c t term → w.leader term ≡ w.id) → IsSound t.node → Holds w t.node → Holds w (after c t).node
called_holds (Step m) t brings led s h = step_holds m.kind t m refl brings led s h
called_holds Campaign t brings led s h = other_holds Campaign t (λ m e. cc) led s h
called_holds (Propose body) t brings led s h = other_holds (Propose body) t (λ m e. cc) led s h
called_holds (Transfer to) t brings led s h = other_holds (Transfer to) t (λ m e. cc) led s h
called_holds Tick t brings led s h = other_holds Tick t (λ m e. cc) led s h
called_holds Advance t brings led s h = other_holds Advance t (λ m e. cc) led s h
called_holds ForgetLeader t brings led s h = other_holds ForgetLeader t (λ m e. cc) led s h
called_holds (ReportUnreachable id) t brings led s h = other_holds (ReportUnreachable id) t (λ m e. cc) led s h
called_holds (SetTimeout ticks) t brings led s h = other_holds (SetTimeout ticks) t (λ m e. cc) led s h
called_holds (Compact index) t brings led s h = other_holds (Compact index) t (λ m e. cc) led s h

-- ---- a network

pub record Sane (leader : ℕ → ℕ) (s : Network) : Type 0 where
  pub links : List Link
  pub some : (l : Link) → Contains links l → 0 < l.maker
  pub nodes : (k : ℕ) (n : PlainNode) → slice_get s.nodes k ≡ Some n → IsSound n × IsIn (k + 1) leader links (gist n)
  pub said : All (Fair links) s.said

-- and no link was lost
pub record SaneSince (leader : ℕ → ℕ) (before : List Link) (s : Network) : Type 0 where
  pub sane : Sane leader s
  pub since : Extends before sane.links

brings_of : (leader : ℕ → ℕ) (s : Network) (id : ℕ) (c : Call) → (sane : Sane leader s) → IsGenuineCall s c → Brings (record { id = id; leader = leader; links = sane.links }) c
brings_of leader s id (Step m) sane genuine =
    elim genuine as (λ _. Fair sane.links m) [
      | inl said ↦ All-contains (Fair sane.links) s.said m sane.said said
      | inr none ↦ none_fair sane.links m.kind none
    ]
brings_of leader s id _ sane genuine = tt

out_fair : {id : ℕ} {leader : ℕ → ℕ} (ls : List Link) (c : Call) (n : PlainNode) → IsIn id leader ls (gist n) → All (Fair ls) (put_out c n)
out_fair ls Advance n h = All-append (Fair ls) n.sent n.waiting h.sent (All-weaker NoAppend (Fair ls) (λ m none. none_fair ls m.kind none) n.waiting h.waiting)
out_fair ls _ n h = All-nil (Fair ls)

-- links that another node makes change nothing for a node
others_in : {leader : ℕ → ℕ} (old new : List Link) (place k : ℕ) (x n : PlainNode) → (k ≡ place → ⊥) → Extends old new → ((l : Link) → Contains new l → Contains old l ⊎ (l.maker ≡ place + 1)) → IsIn (place + 1) leader new (gist x) → IsIn (k + 1) leader old (gist n) → IsIn (k + 1) leader new (gist n)
others_in {leader} old new place k x n other since own its h = record {
  itself = h.itself;
  single = its.single;
  made = its.made;
  logged = still_linked old new n.log since h.logged;
  sent = still_fair old new n.sent since h.sent;
  waiting = h.waiting;
  past = λ l among mine.
      elim (own l among) as (λ _. l.entry.term ≤ n.term) [
        | inl before ↦ h.past l before mine
        | inr theirs ↦ absurd (other (omega (arith, mine, theirs)))
      ];
  stands = λ is l among mine term.
      elim (own l among) as (λ _. ⊥) [
        | inl before ↦ h.stands is l before mine term
        | inr theirs ↦ other (omega (arith, mine, theirs))
      ];
  one = h.one;
  candidate = h.candidate;
  leads = λ is.
      (let lead = h.leads is in
      record {
        is = lead.is;
        within = λ l among term.
            elim (own l among) as (λ _. l.index ≤ last n.log) [
              | inl before ↦ lead.within l before term
              | inr theirs ↦ (let mine : l.maker ≡ k + 1 = sym (its.made l among) ∙ ap leader term ∙ lead.is in absurd (other (omega (arith, mine, theirs))))
            ];
        one = lead.one;
        none = lead.none;
      });
}

pub happened_sane : (leader : ℕ → ℕ) (s : Network) (h : Happening) (o : Option PlainNode) → slice_get s.nodes h.place ≡ o → IsElectedAs leader o h → IsGenuineCall s h.call → (sane : Sane leader s) → SaneSince leader sane.links (happened_to o s h)
happened_sane leader s h None at led genuine sane = record { sane = sane; since = λ l among. among }
happened_sane leader s h (Some n) at led genuine sane =
    let p = sane.nodes h.place n at in
    let t : NodeStep = node_step n h.told in
    let x : PlainNode = (after h.call t).node in
    let w : World = record { id = h.place + 1; leader = leader; links = sane.links } in
    let start : Holds w n = record { links = sane.links; since = λ l among. among; own = λ l among. inl among; holds = p.1 } in
    let e : Holds w x = called_holds {w = w} h.call t (brings_of leader s (h.place + 1) h.call sane genuine) (λ term elected. led term elected ∙ p.1.itself) p.0 start in
    record {
      sane = record {
        links = e.links;
        some = λ l among. elim (e.own l among) as (λ _. 0 < l.maker) [ inl before ↦ sane.some l before | inr own ↦ omega (arith, own) ];
        nodes = each_set (λ (k : ℕ) (y : PlainNode). IsSound y × IsIn (k + 1) leader e.links (gist y)) s.nodes h.place n x at (((calls h.call t).goes p.0).ordered, e.holds)
            (λ j y other there. (let q = sane.nodes j y there in (q.0, others_in sane.links e.links h.place j x y other e.since e.own e.holds q.1)));
        said = All-append (Fair e.links) s.said (put_out h.call n) (still_fair sane.links e.links s.said e.since sane.said) (still_fair sane.links e.links (put_out h.call n) e.since (out_fair sane.links h.call n p.1));
      };
      since = e.since;
    }

run_sane : (leader : ℕ → ℕ) (hs : List Happening) (s : Network) → AreElectedAs leader hs s → AreGenuine hs s → Sane leader s → Sane leader (run hs s)
run_sane leader [] s led genuine sane = sane
run_sane leader (h ∷ hs) s led genuine sane = run_sane leader hs (happened s h) led.1 genuine.1 (happened_sane leader s h (slice_get s.nodes h.place) refl led.0 genuine.0 sane).sane

pub begun_sane : (leader : ℕ → ℕ) (members : ConfState) (s : Network) → IsBegun members s → Sane leader s
begun_sane leader members s begun = record {
  links = [];
  some = λ l among. absurd (in_nothing [] l refl among);
  nodes = λ k n at.
      (let x = begun.started k n at in
      subst (λ (y : PlainNode). IsSound y × IsIn (k + 1) leader [] (gist y)) (sym x.is) (
        record { past_base = omega arith; is_durable = omega arith; within = omega arith; is_committed = omega arith; is_held = omega arith },
        record {
          itself = refl;
          single = λ a b among. absurd (in_nothing [] a refl among);
          made = λ l among. absurd (in_nothing [] l refl among);
          logged = none_linked [] (started (k + 1) x.start x.options).log refl;
          sent = All-nil (Fair []);
          waiting = All-nil NoAppend;
          past = λ l among. absurd (in_nothing [] l refl among);
          stands = λ no. absurd (follower_stands no);
          one = empty_one (started (k + 1) x.start x.options).log x.start.index refl;
          candidate = λ no. absurd (follower_stands no);
          leads = λ no. absurd (follower_leads no);
        },
      ));
  said = subst (All (Fair [])) (sym begun.silent) (All-nil (Fair []));
}

-- ---- the laws

module _ (leader : ℕ → ℕ) (members : ConfState) (s : Network) (hs : List Happening) (begun : IsBegun members s) (led : AreElectedAs leader hs s) (genuine : AreGenuine hs s) where
  sane : Sane leader (run hs s)
  sane = run_sane leader hs s led genuine (begun_sane leader members s begun)

pub one_past_commit : (leader : ℕ → ℕ) (members : ConfState) (s : Network) (hs : List Happening) (k : ℕ) (n : PlainNode) → IsBegun members s → AreElectedAs leader hs s → AreGenuine hs s → slice_get (run hs s).nodes k ≡ Some n → HasOneChangePast n.log n.commit
one_past_commit leader members s hs k n begun led genuine at = ((sane leader members s hs begun led genuine).nodes k n at).1.one

pub one_past_applied : (leader : ℕ → ℕ) (members : ConfState) (s : Network) (hs : List Happening) (k : ℕ) (n : PlainNode) → IsBegun members s → AreElectedAs leader hs s → AreGenuine hs s → slice_get (run hs s).nodes k ≡ Some n
    → (n.role ≡ role.Candidate) ⊎ (n.role ≡ role.Leader) → HasOneChangePast n.log n.applied
one_past_applied leader members s hs k n begun led genuine at decides =
    let h = ((sane leader members s hs begun led genuine).nodes k n at).1 in
    elim decides as (λ _. HasOneChangePast n.log n.applied) [ inl stands ↦ h.candidate stands | inr leads ↦ (h.leads leads).one ]

pub one_on_the_way : (leader : ℕ → ℕ) (members : ConfState) (s : Network) (hs : List Happening) (m : Message) (append : PlainAppend) → IsBegun members s → AreElectedAs leader hs s → AreGenuine hs s → Contains (run hs s).said m → m.kind ≡ kind.Append append
    → HasOneChangePast (log_of append) append.commit
one_on_the_way leader members s hs m append begun led genuine said is =
    let all = sane leader members s hs begun led genuine in
    let part : IsPart all.links append = subst (IsPartBy all.links) is (All-contains (Fair all.links) (run hs s).said m all.said said) in
    λ i j e f past over at there changes too.
    part.one i j e f past over (part_entry part.log append.prev append.prev_term i append.entries e part.entries at) (part_entry part.log append.prev append.prev_term j append.entries f part.entries there) changes too
