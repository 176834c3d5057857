-- A network whose nodes begin at one spot, and in which each message that comes was said or is harmless: leader completeness and state
-- machine safety (Ongaro's thesis, section 3.6.3)
use Rattle.std.proofs.Common.{◌⊎◌, ◌≡◌, ℕ, ◌+◌, ◌≤◌, true, List, [], ◌∷◌, ◌++◌, Option, Some, None, refl, sym, ap, subst, ◌∙◌, arith, inl, inr, if◌then◌else◌, ◌==◌, Result}
use Rattle.std.specs.Prelude.{All, Contains, slice_get}
use Rattle.std.proofs.lemmas.List.Elements.{All-nil, All-same, All-head, All-tail, All-append, All-contains_itself, Contains-append_left, Contains-append_right, Contains-append_cases, Contains-push, Contains-push_cases, All-push}
use Rattle.rb_vocab.specs.declared.conf_state.ConfState.{ConfState}
use Rattle.std.specs.Result.{result_unwrap_or}
use Rattle.rb_message.specs.declared.kind.MessageKind.{MessageKind}
use Rattle.rb_node.specs.Sends.{snapshot_of}
use Rattle.rb_raftlog.specs.declared.raft_log.LogFault.{LogFault}
use Rattle.rb_raftlog.specs.declared.snapshot.Snapshot.{Snapshot}
use Rattle.rb_raftlog.specs.Log.{last, last_term, term_at}
use Rattle.rb_raftlog.proofs.TermLaws.{term_base}
use Rattle.rb_message.specs.declared.event.Event.{Event}
use Rattle.rb_message.specs.declared.kind.MessageKind.TheVariants as kind
use Rattle.rb_message.specs.declared.message.Message.{Message}
use Rattle.rb_message.specs.declared.role.Role.TheVariants as role
use Rattle.rb_node.specs.declared.options.Options.{Options}
use Rattle.rb_node.specs.Node.{PlainNode, NodeStep, node_step, started}
use Rattle.rb_node.specs.Step.{stepped}
use Rattle.rb_calls.specs.Calling.{Call, Step, Propose, Transfer, Advance, after}
use Rattle.rb_calls.specs.Elections.{own_turn}
use Rattle.rb_calls.specs.Sound.{HasSoundViews}
use Rattle.rb_calls.specs.Words.{IsYes, IsOfState}
use Rattle.rb_calls.proofs.CallWays.{OwnTells, ways}
use Rattle.rb_calls.proofs.Saying.{words}
use Rattle.rb_laws.proofs.ViewLaws.{no_views, called_views}
use Rattle.rb_laws.specs.Honesty.{IsHonestCall, AreHonest, IsGenuineCall, AreGenuine}
use Rattle.rb_laws.specs.Network.{Network, Happening, put_out, happened_to, happened, run, IsStarted, IsBegun}
use Rattle.rb_laws.specs.Safety.{IsGenuine, IsTrueCall, AreTrue, IsStateOf, IsStateCall}
use Rattle.rb_laws.proofs.TieLaws.{no_vote}
use Rattle.rb_laws.proofs.MessageTruth.{tells_snapshot}
use Rattle.rb_laws.proofs.Holding.{Setting, World, AreOnce, Holds, IsSaid, essence, world_of, still_cast, still_elected, still_holds, still_in, follower_leads, follower_stands}
use Rattle.rb_laws.proofs.CallHolds.{safe_hears}
use Rattle.rb_laws.proofs.LinkedLogs.{none_linked}
use Rattle.rb_calls.proofs.ListLaws.{each_set, in_nothing}
use Rattle.rb_laws.proofs.NetworkLaws.{IsSane, called_network, run_sane, safe_call, once_after, pledged}
use Rattle.rb_laws.proofs.Spots.{Spot, spot, Descends, here}
use Rattle.rb_laws.proofs.Applied.{IsMade, root_made}
use Rattle.rb_laws.proofs.LeaderLogs.{History}
use Rattle.rb_laws.proofs.Tips.{base_spot, last_is}
use Rattle.rb_laws.proofs.Histories.{IsMore}
use Rattle.rb_laws.proofs.NodeKnowledge.{Ground, mine as is_mine, nobody, TellsTrue, Knows, TellsBy}
use Rattle.rb_laws.proofs.FollowerMoves.{IsWhole}
use Rattle.rb_laws.proofs.AmongOthers.{Speaks, Company, KnowsSaved, Around, same_history}
use Rattle.rb_laws.proofs.StepMoves.{Brings, onward_more}
use Rattle.rb_laws.proofs.CallMoves.{called_around}
use Rattle.rb_laws.proofs.PutOut.{put_by, more_put, whole_put, put_tells, put_all, put_knows}

-- ---- what holds

-- Of the messages that may come, some were said; of the others none gives a vote.
pub record IsKnown (g : Ground) (s : Network) (heard : List Message) (st : History) : Type 0 where
  pub said : IsSaid s.said heard
  pub votes : (m : Message) → Contains heard m → IsYes m → Contains s.said m
  pub whole : IsWhole g heard st
  pub knows : (k : ℕ) (n : PlainNode) → slice_get s.nodes k ≡ Some n → Knows g st (k + 1) n
  pub views : (k : ℕ) (n : PlainNode) → slice_get s.nodes k ≡ Some n → HasSoundViews n
  pub told : All (TellsTrue g st nobody) heard

pub whole_said : (g : Ground) (said now : List Message) (st : History) → IsSaid said now → IsWhole g said st → IsWhole g now st
whole_said g said now st more w = record {
  lawful = record {
    history = w.lawful.history;
    first = w.lawful.first;
    proper = w.lawful.proper;
    voted = λ e among. (let v = w.lawful.voted e among in record {
      voters = v.voters;
      decides = v.decides;
      cast = λ x yes. still_cast said now x e.term e.id more (v.cast x yes);
      each = v.each;
    });
    within = w.lawful.within;
  };
  plain = w.plain;
  held = w.held;
  low = w.low;
  elected = λ e among. still_elected g.setting said now e.id e.term more (w.elected e among);
  some = w.some;
  late = w.late;
  stood_rooted = w.stood_rooted;
  stood_late = w.stood_late;
  stood_within = w.stood_within;
  stood_once = w.stood_once;
}

-- what a node says of votes is its own
speaks_of : (g : Setting) (s : Network) (k : ℕ) (n : PlainNode) (sane : IsSane g s) → slice_get s.nodes k ≡ Some n → Speaks (k + 1) n.term (words n)
speaks_of g s k n sane at =
    let good = sane.good k n at in
    record {
      voted = λ j d low yes. ((good.holds.waiting j d low).0, (good.promises.kept j d low yes).reached);
      none = good.promises.none_sent;
    }

-- ---- a call

-- what a call puts out goes into the history first
record PutsOut (g : Ground) (s : Network) (heard : List Message) (st : History) (c : Call) (n : PlainNode) : Type 0 where
  history : History
  more : IsMore st history
  known : IsKnown g s heard history
  told : All (TellsTrue g history nobody) (put_out c n)

no_words : (g : Ground) (s : Network) (heard : List Message) (st : History) → IsKnown g s heard st → IsMore st st × IsKnown g s heard st × All (TellsTrue g st nobody) []
no_words g s heard st h = (same_history st, h, All-nil (TellsTrue g st nobody))

pub known_put : (g : Ground) (s : Network) (heard : List Message) (st : History) (id : ℕ) → IsKnown g s heard st → IsKnown g s heard (put_by st id)
known_put g s heard st id h = record {
  said = h.said;
  votes = h.votes;
  whole = whole_put g heard st id h.whole;
  knows = λ k n at. put_knows g st id (k + 1) n (h.knows k n at);
  views = h.views;
  told = put_all g st id heard h.told;
}

puts_out : (g : Ground) (s : Network) (heard : List Message) (st : History) (id : ℕ) (c : Call) (n : PlainNode) → Knows g st id n → IsKnown g s heard st → PutsOut g s heard st c n
puts_out g s heard st id Advance n mine h = record {
  history = put_by st id;
  more = more_put st id;
  known = known_put g s heard st id h;
  told = put_tells g st id (n.sent ++ n.waiting) (All-append (TellsTrue g st (is_mine id)) n.sent n.waiting mine.words.sent mine.words.waiting);
}
puts_out g s heard st id _ n mine h = (let x = no_words g s heard st h in record { history = st; more = x.0; known = x.1; told = x.2 })

genuine_after : (said out : List Message) (id : ℕ) (m : Message) → IsGenuine said id m → IsGenuine (said ++ out) id m
genuine_after said out id m is = elim is as (λ _. IsGenuine (said ++ out) id m) [ inl among ↦ inl (Contains-append_left said out m among.0, among.1) | inr none ↦ inr none ]

genuine_by : (heard : List Message) (id : ℕ) (c : Call) (t : NodeStep) → t.node.id ≡ id → IsTrueCall heard id c → (m : Message) → (ways c t).came m → IsGenuine (heard ++ put_out c t.node) id m
genuine_by heard id (Step m) t itself true_call x is = subst (IsGenuine (heard ++ []) id) (sym is) (genuine_after heard [] id m true_call)
genuine_by heard id (Propose body) t itself true_call x is = subst (IsGenuine (heard ++ []) id) (sym is) (inr true_call)
genuine_by heard id (Transfer to) t itself true_call x is = subst (IsGenuine (heard ++ []) id) (sym is) (inr tt)
genuine_by heard id Advance t itself true_call x comes =
    inl (Contains-append_right heard (t.node.sent ++ t.node.waiting) x (Contains-append_right t.node.sent t.node.waiting x comes.0), comes.1 ∙ itself)
genuine_by heard id _ t itself true_call x never = absurd never

-- an answer among a node's own
abbrev Says : List Message → ℕ → ℕ → ℕ → ℕ → Type 0
Says ms id term from i = (m : Message) × (Contains ms m × (m.to ≡ id)) × (m.from ≡ from) × (m.term ≡ term) × (j : ℕ) × (m.kind ≡ kind.AppendResponse j) × (i ≤ j)

own_says : (id : ℕ) (t : NodeStep) (ms all : List Message) (term from i : ℕ) → All (Contains all) ms → OwnTells id t ms term from i → Says all id term from i
own_says id t [] all term from i among none = absurd none
own_says id t (m ∷ ms) all term from i among told =
    elim told as (λ _. Says all id term from i) [
      | inl here_it ↦ (let a = here_it.3 in (m, (All-head (Contains all) m ms among, here_it.0), sym here_it.2, a.of_term ∙ sym here_it.1, a.index, a.says, a.at_most))
      | inr later ↦ own_says id (if m.to == id then stepped t m else t) ms all term from i (All-tail (Contains all) m ms among) later
    ]

matched_by : (c : Call) (t : NodeStep) (term from i : ℕ) → (ways c t).matched term from i → (m : Message) × (ways c t).came m × (m.from ≡ from) × (m.term ≡ term) × (j : ℕ) × (m.kind ≡ kind.AppendResponse j) × (i ≤ j)
matched_by (Step m) t term from i x = (let a = x.2 in (m, refl, sym x.1, a.of_term ∙ sym x.0, a.index, a.says, a.at_most))
matched_by Advance t term from i x = own_says t.node.id (own_turn t) t.node.waiting t.node.waiting term from i (All-contains_itself t.node.waiting) x
matched_by _ t term from i x = absurd x

brings_by : (heard : List Message) (id : ℕ) (c : Call) (t : NodeStep) → t.node.id ≡ id → IsTrueCall heard id c → Brings (heard ++ put_out c t.node) id (ways c t)
brings_by heard id c t itself true_call = record { genuine = λ m came. genuine_by heard id c t itself true_call m came; matched = λ term from i said_it. matched_by c t term from i said_it }

-- more that may come, of which some is said
more_said : (said heard out : List Message) → IsSaid said heard → IsSaid (said ++ out) (heard ++ out)
more_said said heard out more m among =
    elim (Contains-append_cases said out m among) as (λ _. Contains (heard ++ out) m) [
      | inl before ↦ Contains-append_left heard out m (more m before)
      | inr now ↦ Contains-append_right heard out m now
    ]

votes_said : (said heard out : List Message) → ((m : Message) → Contains heard m → IsYes m → Contains said m) → (m : Message) → Contains (heard ++ out) m → IsYes m → Contains (said ++ out) m
votes_said said heard out votes m among gives =
    elim (Contains-append_cases heard out m among) as (λ _. Contains (said ++ out) m) [
      | inl before ↦ Contains-append_left said out m (votes m before gives)
      | inr now ↦ Contains-append_right said out m now
    ]

-- after a call, by a history that has what it puts out: what nodes have saved among it
pub record KnownThen (g : Ground) (s : Network) (heard : List Message) (saved : ℕ → PlainNode → Type 0) (st : History) : Type 0 where
  pub history : History
  pub more : IsMore st history
  pub known : IsKnown g s heard history
  pub keeps : (j : ℕ) (y : PlainNode) → saved j y → KnowsSaved g history j y

pub called_then : (g : Ground) (s : Network) (heard : List Message) (place : ℕ) (c : Call) (told : List Event) (n : PlainNode) (saved : ℕ → PlainNode → Type 0) (st : History) (sane : IsSane g.setting s) → slice_get s.nodes place ≡ Some n → IsHonestCall g.setting.config s (place + 1) c → (g.setting.strict ≡ true → IsGenuineCall s c) → IsTrueCall heard (place + 1) c → IsKnown g s heard st
    → All (TellsTrue g st nobody) (put_out c n) → ((j : ℕ) (y : PlainNode) → saved j y → KnowsSaved g st j y) → KnownThen g (called_network s place c told n) (heard ++ put_out c n) saved st
called_then g s heard place c told n saved st sane at honest genuine true_call h out_told keeps =
    let id = place + 1 in
    let out = put_out c n in
    let said = s.said ++ out in
    let now = heard ++ out in
    let t : NodeStep = node_step n told in
    let good = sane.good place n at in
    let more : IsSaid s.said said = λ m among. Contains-append_left s.said out m among in
    let within : IsSaid said now = more_said s.said heard out h.said in
    let votes : (m : Message) → Contains now m → IsYes m → Contains said m = votes_said s.said heard out h.votes in
    let once : AreOnce said = λ a b one two first second from term. once_after g.setting s place c n a b sane at one two first second from term in
    let once_now : AreOnce now = λ a b one two first second from term. once a b (votes a one first) (votes b two second) first second from term in
    let w : World = world_of g.setting said sane.links place in
    let hold : Holds w n = still_holds g.setting s.said said sane.links sane.links place n more (λ strict. still_in g.setting s.said said id sane.links (essence n) more once (good.linked strict)) good.holds in
    let mine = h.knows place n at in
    let others : Company = record { nodes = λ j x. (k : ℕ) × (j ≡ k + 1) × (slice_get s.nodes k ≡ Some x); saved = saved } in
    let around : Around g now id others st n = record {
      whole = whole_said g heard now st (λ m among. Contains-append_left heard out m among) h.whole;
      knows = mine;
      told = All-append (TellsTrue g st nobody) heard out h.told out_told;
      saved = keeps;
      apart = λ j x other is. (
        subst (λ (i : ℕ). Knows g st i x) (sym is.1) (h.knows is.0 x is.2),
        subst (λ (i : ℕ). Speaks i x.term (words x)) (sym is.1) (speaks_of g.setting s is.0 x sane is.2),
      );
      speaks = speaks_of g.setting s place n sane at;
      reached = λ term candidate cast.
          (let p = pledged g.setting s place c n cast.answer sane at good (votes cast.answer cast.among cast.gives) cast.gives cast.by in
          let low = p.reached in
          let same = cast.of_term in
          omega (arith, low, same));
    } in
    let hears = safe_hears c t (safe_call g.setting s place c n sane good honest genuine) hold in
    let o = called_around st w c t refl within refl once_now (brings_by heard id c t mine.log.itself true_call) hears good.sound (h.views place n at) hold around in
    let next = (after c t).node in
    record {
      history = o.history;
      more = o.more;
      known = record {
        said = within;
        votes = votes;
        whole = o.around.whole;
        knows = λ k x is.
            each_set (λ (j : ℕ) (y : PlainNode). Knows g o.history (j + 1) y) s.nodes place n next at o.around.knows
            (λ j y other there. (o.around.apart (j + 1) y (λ same. other (omega (arith, same))) (j, refl, there)).0) k x is;
        views = λ k x is.
            each_set (λ (j : ℕ) (y : PlainNode). HasSoundViews y) s.nodes place n next at ((called_views c t).views good.sound (h.views place n at))
            (λ j y other there. h.views j y there) k x is;
        told = o.around.told;
      };
      keeps = o.around.saved;
    }

pub called_known : (g : Ground) (s : Network) (heard : List Message) (place : ℕ) (c : Call) (told : List Event) (n : PlainNode) (st : History) (sane : IsSane g.setting s) → slice_get s.nodes place ≡ Some n → IsHonestCall g.setting.config s (place + 1) c → (g.setting.strict ≡ true → IsGenuineCall s c) → IsTrueCall heard (place + 1) c → IsKnown g s heard st
    → (now : History) × IsMore st now × IsKnown g (called_network s place c told n) (heard ++ put_out c n) now
called_known g s heard place c told n st sane at honest genuine true_call h =
    let p = puts_out g s heard st (place + 1) c n (h.knows place n at) h in
    let o = called_then g s heard place c told n (λ _ _. ⊥) p.history sane at honest genuine true_call p.known p.told (λ j y none. absurd none) in
    (o.history, onward_more st p.history o.history p.more o.more, o.known)

-- ---- a snapshot of a node's state

of_state : (n : PlainNode) → IsOfState n (snapshot_of n)
of_state n = record { index = refl; term = λ term e. ap (λ (r : Result ℕ LogFault). result_unwrap_or r 0) e; content = refl; config = refl }

-- it may come too
pub state_known : (g : Ground) (s : Network) (heard : List Message) (st : History) (m : Message) → IsSane g.setting s → IsStateOf s.nodes m → IsKnown g s heard st → IsKnown g s (heard ++ m ∷ []) st
state_known g s heard st m sane x k =
    let n = x.node in
    let both = tells_snapshot g heard st (x.place + 1) n m.term (snapshot_of n) k.whole (sane.good x.place n x.at).sound x.term (of_state n) (k.knows x.place n x.at) in
    let tells : TellsTrue g st nobody m = subst (λ (y : MessageKind). TellsBy g st nobody y m) (sym x.is) both in
    record {
      said = λ y among. Contains-append_left heard (m ∷ []) y (k.said y among);
      votes = λ y among gives.
          elim (Contains-push_cases heard m y among) as (λ _. Contains s.said y) [
            | inl before ↦ k.votes y before gives
            | inr now ↦ absurd (no_vote n (sym x.is ∙ ap (λ (z : Message). z.kind) now ∙ gives.0))
          ];
      whole = whole_said g heard (heard ++ m ∷ []) st (λ y among. Contains-append_left heard (m ∷ []) y among) k.whole;
      knows = k.knows;
      views = k.views;
      told = All-push (TellsTrue g st nobody) heard m k.told tells;
    }

-- ---- all that happens

pub true_more : (said heard : List Message) (id : ℕ) (c : Call) → IsSaid said heard → IsTrueCall said id c → IsTrueCall heard id c
true_more said heard id (Step m) more is = elim is as (λ _. IsGenuine heard id m) [ inl among ↦ inl (more m among.0, among.1) | inr none ↦ inr none ]
true_more said heard id (Propose body) more is = is
true_more said heard id _ more is = tt

-- what is known after it, by a history that goes on
abbrev pub Onward : Ground → History → Network → Type 0
Onward g st s = (heard : List Message) × (now : History) × IsMore st now × IsKnown g s heard now

state_comes : (g : Ground) (s : Network) (heard : List Message) (place : ℕ) (c : Call) (told : List Event) (n : PlainNode) (st : History) → IsSane g.setting s → slice_get s.nodes place ≡ Some n → IsHonestCall g.setting.config s (place + 1) c → (g.setting.strict ≡ true → IsGenuineCall s c) → IsStateCall s.nodes (place + 1) c → IsKnown g s heard st
    → Onward g st (called_network s place c told n)
state_comes g s heard place (Step m) told n st sane at honest genuine shown k =
    let now = heard ++ m ∷ [] in
    let r = called_known g s now place (Step m) told n st sane at honest genuine (inl (Contains-push heard m, shown.1)) (state_known g s heard st m sane shown.0 k) in
    (now ++ put_out (Step m) n, r.0, r.1, r.2)
state_comes g s heard place _ told n st sane at honest genuine shown k = absurd shown

happened_known : (g : Ground) (s : Network) (heard : List Message) (h : Happening) (o : Option PlainNode) (st : History) → slice_get s.nodes h.place ≡ o → IsSane g.setting s → IsHonestCall g.setting.config s (h.place + 1) h.call → (g.setting.strict ≡ true → IsGenuineCall s h.call)
    → IsTrueCall s.said (h.place + 1) h.call ⊎ IsStateCall s.nodes (h.place + 1) h.call → IsKnown g s heard st → Onward g st (happened_to o s h)
happened_known g s heard h None st at sane honest genuine true_call k = (heard, st, same_history st, k)
happened_known g s heard h (Some n) st at sane honest genuine true_call k =
    elim true_call as (λ _. Onward g st (happened_to (Some n) s h)) [
      | inl said ↦
          let r = called_known g s heard h.place h.call h.told n st sane at honest genuine (true_more s.said heard (h.place + 1) h.call k.said said) k in
          (heard ++ put_out h.call n, r.0, r.1, r.2)
      | inr shown ↦ state_comes g s heard h.place h.call h.told n st sane at honest genuine shown k
    ]

pub run_known : (g : Ground) (hs : List Happening) (s : Network) (heard : List Message) (st : History) → IsSane g.setting s → AreHonest g.setting.config hs s → (g.setting.strict ≡ true → AreGenuine hs s) → AreTrue hs s → IsKnown g s heard st → Onward g st (run hs s)
run_known g [] s heard st sane honest genuine true_calls k = (heard, st, same_history st, k)
run_known g (h ∷ hs) s heard st sane honest genuine true_calls k =
    let first = happened_known g s heard h (slice_get s.nodes h.place) st refl sane honest.0 (λ strict. (genuine strict).0) true_calls.0 k in
    let next = run_sane g.setting (h ∷ []) s sane (honest.0, tt) (λ strict. ((genuine strict).0, tt)) in
    let rest = run_known g hs (happened s h) first.0 first.1 next honest.1 (λ strict. (genuine strict).1) true_calls.1 first.3 in
    (rest.0, rest.1, onward_more st first.1 rest.1 first.2 rest.2, rest.3)

-- ---- the beginning

-- each node begins at one spot, with one content
abbrev pub AreAlike : Spot → List ℕ → List PlainNode → Type 0
AreAlike root start nodes = (k : ℕ) (n : PlainNode) → slice_get nodes k ≡ Some n → (base_spot n.log ≡ root) × (n.content ≡ start)

abbrev pub no_history : History
no_history = record { links = []; candidacies = []; elections = []; acks = []; out_candidacies = []; out_acks = [] }

nothing : {X : Type 0} → (x : X) → Contains [] x → ⊥
nothing x among = in_nothing [] x refl among

begun_whole : (g : Ground) → g.root.term ≤ 1 → IsWhole g [] no_history
begun_whole g low = record {
  lawful = record {
    history = record {
      tree = record {
        single = λ a b one two index term. absurd (nothing a one);
        above = λ l among. absurd (nothing l among);
        rising = λ l among. absurd (nothing l among);
        rooted = λ l among. absurd (nothing l among);
      };
      once = λ a b one two term. absurd (nothing a one);
      rooted = λ e among. absurd (nothing e among);
      made = λ l among. absurd (nothing l among);
    };
    first = g.first;
    proper = λ l among. absurd (nothing l among);
    voted = λ e among. absurd (nothing e among);
    within = λ a among. among;
  };
  plain = λ l among. absurd (nothing l among);
  held = λ a among. absurd (nothing a among);
  low = low;
  elected = λ e among. absurd (nothing e among);
  some = λ e among. absurd (nothing e among);
  late = λ e among. absurd (nothing e among);
  stood_rooted = λ e among. absurd (nothing e among);
  stood_late = λ e among. absurd (nothing e among);
  stood_within = λ e among. among;
  stood_once = λ a b one two term who. absurd (nothing a one);
}

begun_knows : (g : Ground) (id : ℕ) (start : Snapshot) (options : Options) → spot start.index start.term ≡ g.root → start.content ≡ g.start.content → Knows g no_history id (started id start options)
begun_knows g id start options same content =
    let n : PlainNode = started id start options in
    let term = ap (λ (x : Spot). x.term) same in
    let held = term_base n.log in
    let size : last n.log ≡ start.index = omega arith in
    let old : last_term n.log ≡ start.term = last_is n.log start.term (ap (term_at n.log) size ∙ held) in
    record {
      log = record {
        itself = refl;
        linked = none_linked [] n.log refl;
        rooted = subst (λ (x : Spot). Descends [] x g.root) (sym same) (here [] g.root);
        old = omega (arith, term, old);
        leads = λ is. absurd (follower_leads is);
        stands = λ is. absurd (follower_stands is);
        stood = λ e among own. absurd (nothing e among);
        led = λ e among own. absurd (nothing e among);
        acked = λ a among by. absurd (nothing a among);
        pledged = λ none. absurd (omega (arith, none));
        commit_term = start.term;
        commit_held = held;
        commit = inl same;
        filled = record {
          term = start.term;
          held = held;
          is = record { made = g.start; is = subst (λ (x : Spot). IsMade [] g.root g.start x g.start) (sym same) (root_made [] g.root g.start); content_is = sym content };
        };
      };
      words = record {
        counts = λ is. absurd (follower_leads is);
        sent = All-nil (TellsTrue g no_history (is_mine id));
        waiting = All-nil (TellsTrue g no_history (is_mine id));
      };
    }

pub begun_known : (g : Ground) (members : ConfState) (s : Network) → g.root.term ≤ 1 → IsBegun members s → AreAlike g.root g.start.content s.nodes → IsKnown g s s.said no_history
begun_known g members s low b alike = record {
  said = λ m among. among;
  votes = λ m among _. among;
  whole = subst (λ (said : List Message). IsWhole g said no_history) (sym b.silent) (begun_whole g low);
  knows = λ k n at.
      (let is : IsStarted members (k + 1) n = b.started k n at in
      let same : spot is.start.index is.start.term ≡ g.root = ap (λ (x : PlainNode). base_spot x.log) (sym is.is) ∙ (alike k n at).0 in
      let content : is.start.content ≡ g.start.content = ap (λ (x : PlainNode). x.content) (sym is.is) ∙ (alike k n at).1 in
      subst (Knows g no_history (k + 1)) (sym is.is) (begun_knows g (k + 1) is.start is.options same content));
  views = λ k n at. (let is : IsStarted members (k + 1) n = b.started k n at in subst HasSoundViews (sym is.is) (no_views role.Follower));
  told = All-same (TellsTrue g no_history nobody) s.said [] b.silent (All-nil (TellsTrue g no_history nobody));
}
