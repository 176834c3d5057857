-- Election safety, and where a network begins
use Rattle.std.proofs.Common.{◌≡◌, ℕ, ◌+◌, Bool, false, List, [], refl, sym, ap, subst, ◌∙◌, arith, inl}
use Rattle.std.proofs.lemmas.Bool.{false≢true}
use Rattle.std.proofs.lemmas.List.Elements.{All-nil, All-same}
use Rattle.rb_vocab.specs.declared.conf_state.ConfState.{ConfState}
use Rattle.rb_raftlog.specs.declared.snapshot.Snapshot.{Snapshot}
use Rattle.rb_tracker.proofs.SetLaws.{set_of_ascending, ascending_set_of}
use Rattle.rb_tracker.specs.Configs.{config_of, state_of}
use Rattle.rb_tracker.specs.Sets.{set_of}
use Rattle.rb_message.specs.declared.message.Message.{Message}
use Rattle.rb_node.specs.declared.options.Options.{Options}
use Rattle.rb_node.specs.Node.{PlainNode, started}
use Rattle.rb_laws.proofs.PromiseLaws.{Kept, NoYes}
use Rattle.rb_laws.specs.Honesty.{IsPlain, Keeps, AreHonest}
use Rattle.rb_laws.specs.Network.{Network, Happening, run, IsStarted, IsBegun, Leads}
use Rattle.rb_laws.specs.Votes.{IsCast, IsChosen}
use Rattle.rb_laws.proofs.LinkedLogs.{none_linked}
use Rattle.rb_calls.proofs.ListLaws.{in_nothing}
use Rattle.rb_laws.proofs.Holding.{Setting, World, IsElected, IsOwn, IsChain, IsIn, essence, world_of, still_elected, follower_stands, follower_leads}
use Rattle.rb_laws.proofs.Electing.{one_elected}
use Rattle.rb_laws.proofs.NetworkLaws.{IsGood, IsSane, run_sane, still_said}

-- ---- the beginning

pub back : (s : ConfState) → config_of (state_of (config_of s)) ≡ config_of s
back s =
    let twice : (ids : List ℕ) → set_of (set_of ids) ≡ set_of ids = λ ids. set_of_ascending (set_of ids) (ascending_set_of ids) in
    rw (twice s.incoming, twice s.outgoing, twice s.learners, twice s.next) refl

unfoldable pub setting_of : Bool → (members : ConfState) → members.outgoing ≡ [] → Setting
setting_of strict members single = record { config = config_of members; single = ap set_of single; back = back members; strict = strict }

pub setting_config : (strict : Bool) (members : ConfState) (single : members.outgoing ≡ []) → config_of members ≡ (setting_of strict members single).config
unfolding setting_of
setting_config strict members single = refl

-- who starts has said nothing, and nobody has made a link
begun_in : (g : Setting) (id : ℕ) (start : Snapshot) (options : Options) → IsIn g [] id [] (essence (started id start options))
begun_in g id start options = record {
  once = λ a b one two first second from term. absurd (in_nothing [] a refl one);
  single = λ a b one two index term. absurd (in_nothing [] a refl one);
  made = λ l among. absurd (in_nothing [] l refl among);
  logged = none_linked [] (started id start options).log refl;
  sent = All-nil (IsChain []);
  waiting = All-nil (IsChain []);
  past = λ l among own. absurd (in_nothing [] l refl among);
  stands = λ no. absurd (follower_stands no);
  leads = λ no. absurd (follower_leads no);
}

begun_good : (strict : Bool) (members : ConfState) (single : members.outgoing ≡ []) (k : ℕ) (start : Snapshot) (options : Options) → start.config ≡ members → IsGood (setting_of strict members single) [] [] k (started (k + 1) start options)
unfolding setting_of
begun_good strict members single k start options same =
    let n : PlainNode = started (k + 1) start options in
    let g = setting_of strict members single in
    let w : World = world_of g [] [] k in
    record {
      sound = record { past_base = omega arith; is_durable = omega arith; within = omega arith; is_committed = omega arith; is_held = omega arith };
      promises = record { kept = All-nil (Kept n); none_sent = All-nil NoYes };
      holds = record {
        itself = refl;
        config = ap config_of same;
        log = All-nil IsPlain;
        sent = All-nil (Keeps (config_of members));
        waiting = All-nil (IsOwn w);
        stands = λ no. absurd (follower_stands no);
        leads = λ no. absurd (follower_leads no);
        linking = record { links = []; since = λ l among. among; own = λ l among. inl among; holds = λ _. begun_in g (k + 1) start options };
      };
      linked = λ _. begun_in g (k + 1) start options;
    }

pub begun_sane : (strict : Bool) (members : ConfState) (single : members.outgoing ≡ []) (s : Network) → IsBegun members s → IsSane (setting_of strict members single) s
begun_sane strict members single s b =
    let g = setting_of strict members single in
    record {
      links = [];
      good = λ k n at. (let is : IsStarted members (k + 1) n = b.started k n at in
          subst (λ (said : List Message). IsGood g said [] k n) (sym b.silent)
          (subst (λ (x : PlainNode). IsGood g [] [] k x) (sym is.is) (begun_good strict members single k is.start is.options is.config)));
      fine = All-same (Keeps g.config) s.said [] b.silent (All-nil (Keeps g.config));
      chains = λ _. All-same (IsChain []) s.said [] b.silent (All-nil (IsChain []));
      given = λ m among gives. absurd (in_nothing s.said m b.silent among);
      once = λ x y one two first second from term. absurd (in_nothing s.said x b.silent one);
    }

-- ---- two leaders

-- a leader was chosen, and has the id of its place
pub was_elect : (g : Setting) (s : Network) (id term : ℕ) → IsSane g s → (l : Leads s.nodes id term) → IsElected g s.said (l.place + 1) term
was_elect g s id term sane l = subst (λ (n : ℕ). IsElected g s.said (l.place + 1) n) l.of_term ((sane.good l.place l.node l.stands).holds.leads l.leads)

pub its_id : (g : Setting) (s : Network) (id term : ℕ) → IsSane g s → (l : Leads s.nodes id term) → l.place + 1 ≡ id
its_id g s id term sane l = sym (sane.good l.place l.node l.stands).holds.itself ∙ l.of_id

pub one_leader : (members : ConfState) (s : Network) (earlier later : List Happening) (first second term : ℕ) → members.outgoing ≡ [] → IsBegun members s → AreHonest (config_of members) earlier s → AreHonest (config_of members) later (run earlier s) → Leads (run earlier s).nodes first term → Leads (run later (run earlier s)).nodes second term → second ≡ first
unfolding setting_of
one_leader members s earlier later first second term single begun honest honest_still a b =
    let g = setting_of false members single in
    let t = run earlier s in
    let u = run later t in
    let sane_then : IsSane g t = run_sane g earlier s (begun_sane false members single s begun) honest (λ no. absurd (false≢true no)) in
    let sane_now : IsSane g u = run_sane g later t sane_then honest_still (λ no. absurd (false≢true no)) in
    let was : IsElected g u.said (a.place + 1) term = still_elected g t.said u.said (a.place + 1) term (λ m said. still_said later t m said) (was_elect g t first term sane_then a) in
    sym (its_id g u second term sane_now b)
    ∙ one_elected g u.said (b.place + 1) (a.place + 1) term sane_now.once (was_elect g u second term sane_now b) was
    ∙ its_id g t first term sane_then a

-- ---- whom a quorum chose, and who gave whom a vote

pub chosen : (members : ConfState) (s : Network) (hs : List Happening) (id term : ℕ) → members.outgoing ≡ [] → IsBegun members s → AreHonest (config_of members) hs s → Leads (run hs s).nodes id term → IsChosen (config_of members) (run hs s).said id term
unfolding setting_of
chosen members s hs id term single begun honest l =
    let g = setting_of false members single in
    let t = run hs s in
    let sane : IsSane g t = run_sane g hs s (begun_sane false members single s begun) honest (λ no. absurd (false≢true no)) in
    subst (λ (i : ℕ). IsChosen g.config t.said i term) (its_id g t id term sane l) (was_elect g t id term sane l).by

pub cast_once : (members : ConfState) (s : Network) (hs : List Happening) (voter term first second : ℕ) → members.outgoing ≡ [] → IsBegun members s → AreHonest (config_of members) hs s → IsCast (run hs s).said voter term first → IsCast (run hs s).said voter term second → second ≡ first
unfolding setting_of
cast_once members s hs voter term first second single begun honest a b =
    let g = setting_of false members single in
    let sane : IsSane g (run hs s) = run_sane g hs s (begun_sane false members single s begun) honest (λ no. absurd (false≢true no)) in
    sym b.for_it ∙ sane.once b.answer a.answer b.among a.among b.gives a.gives (b.by ∙ sym a.by) (b.of_term ∙ sym a.of_term) ∙ a.for_it
