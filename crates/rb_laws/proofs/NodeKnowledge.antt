-- What holds of each node by a history: where its log stands, what it has said to hold and to whom it gave its vote, what it knows to be
-- committed and what it counts of others; and that each message tells what the history has. Definitions alone, and that they last as the
-- history goes on.
use Rattle.std.proofs.Common.{◌≡◌, ◌⊎◌, ℕ, ◌+◌, ◌<◌, ◌≤◌, Bool, true, max, List, Ok, refl, ap, ◌∙◌, inl, inr}
use Rattle.std.specs.Prelude.{All, Contains, slice_index_or}
use Rattle.rb_raftlog.specs.Log.{last_term, term_at}
use Rattle.rb_tracker.specs.Commits.{match_of}
use Rattle.rb_tracker.specs.Progresses.{PlainProgress}
use Rattle.rb_message.specs.Appends.{PlainAppend}
use Rattle.rb_message.specs.declared.kind.MessageKind.{MessageKind}
use Rattle.rb_message.specs.declared.kind.MessageKind.TheVariants as kind
use Rattle.rb_message.specs.declared.message.Message.{Message}
use Rattle.rb_message.specs.declared.role.Role.{Role}
use Rattle.rb_message.specs.declared.role.Role.TheVariants as role
use Rattle.rb_node.specs.Node.{PlainNode}
use Rattle.rb_calls.proofs.Goes.{Core, core}
use Rattle.rb_calls.proofs.Moves.{Whole}
use Rattle.rb_laws.proofs.Links.{Link, IsLinked, still_linked}
use Rattle.rb_laws.proofs.LinkedLogs.{log_from}
use Rattle.rb_laws.proofs.Holding.{Setting}
use Rattle.rb_laws.proofs.Spots.{Spot, spot, Descends, still_descends}
use Rattle.rb_laws.proofs.Tips.{tip, base_spot}
use Rattle.rb_laws.proofs.Applied.{Applied}
use Rattle.rb_laws.proofs.Contents.{IsContentAt, IsFilled, still_content, still_filled}
use Rattle.rb_laws.proofs.LeaderLogs.{Election, Ack, History, IsTip, IsOfTerm, IsAcked, HasStill}
use Rattle.rb_laws.proofs.Completeness.{IsSettled}
use Rattle.rb_laws.proofs.KeptEntries.{IsOn}
use Rattle.rb_laws.proofs.Histories.{IsMore, still_tip, still_of_term, still_has, still_settled, still_is_on, HasStood, still_stood, IsPledged}

abbrev pub election : ℕ → ℕ → Spot → Election
election term id x = record { term = term; id = id; tip = x }

-- where all logs begin, what is applied there, and who decides
pub record Ground : Type 0 where
  pub root : Spot
  pub start : Applied
  pub first : start.changes ≡ 0
  pub setting : Setting
  pub same : start.config ≡ setting.config

-- ---- when a message is true

-- an append is of the log of its term's leader, and its commit is settled; one past the end of that log names no term
pub record TellsAppend (g : Ground) (st : History) (term : ℕ) (append : PlainAppend) : Type 0 where
  pub ends : IsOfTerm st term (tip (log_from append.prev append.prev_term append.entries)) ⊎ ((append.prev_term ≡ 0) × (g.root.index < append.prev))
  pub linked : IsLinked st.links (log_from append.prev append.prev_term append.entries)
  pub commit_term : ℕ
  pub commit : IsSettled g.root g.start st term (spot append.commit commit_term)

-- an acknowledgement of a node, in a term, of an index or further, that others may have heard of
pub record IsSaidUpTo (st : History) (voter term index : ℕ) : Type 0 where
  pub ack : Ack
  pub among : Contains st.out_acks ack
  pub by : ack.voter ≡ voter
  pub of_term : ack.term ≡ term
  pub upto : index ≤ ack.index

-- as if others may have heard of each
abbrev pub all_said : History → History
all_said st = record st { out_acks = st.acks }

-- whose unsaved candidacies and acknowledgements a fact may rest on: one node's, or nobody's
abbrev pub mine : ℕ → ℕ → Type 0
mine id i = i ≡ id

abbrev pub nobody : ℕ → Type 0
nobody i = ⊥

abbrev pub HasSaidUpTo : History → (ℕ → Type 0) → ℕ → ℕ → ℕ → Type 0
HasSaidUpTo st own voter term index = IsSaidUpTo st voter term index ⊎ (own voter × IsSaidUpTo (all_said st) voter term index)

-- a heartbeat's commit was said to be held by whom it is for, and is settled
pub record TellsCommit (g : Ground) (st : History) (term to commit : ℕ) : Type 0 where
  pub held : IsSaidUpTo st to term commit
  pub index : ℕ
  pub high : commit ≤ index
  pub index_term : ℕ
  pub settled : IsSettled g.root g.start st term (spot index index_term)

abbrev pub TellsBy : Ground → History → (ℕ → Type 0) → MessageKind → Message → Type 0
TellsBy g st own (kind.Append append) m = TellsAppend g st m.term append
TellsBy g st own (kind.Heartbeat commit) m = (commit ≤ g.root.index) ⊎ TellsCommit g st m.term m.to commit
TellsBy g st own (kind.Snapshot snapshot) m =
    IsSettled g.root g.start st m.term (spot snapshot.index snapshot.term)
    × IsContentAt st.links g.root g.start (spot snapshot.index snapshot.term) snapshot.content
TellsBy g st own (kind.Vote last_term last_index transfer) m = HasStood st own (election m.term m.from (spot last_index last_term))
TellsBy g st own (kind.VoteResponse granted) m = granted ≡ true → 0 < m.to → IsPledged st own m.from m.term m.to
TellsBy g st own (kind.AppendResponse matched) m = (matched ≤ g.root.index) ⊎ HasSaidUpTo st own m.from m.term matched
TellsBy g st own _ m = Unit {0}

abbrev pub TellsTrue : Ground → History → (ℕ → Type 0) → Message → Type 0
TellsTrue g st own m = TellsBy g st own m.kind m

-- ---- a node

-- What a node has said to hold: in its term it has that still; of an earlier one it has each entry of that term still, unless a leader since
-- lacks it.
pub record HasAcked (g : Ground) (st : History) (term : ℕ) (x : Spot) (a : Ack) : Type 0 where
  pub reached : a.term ≤ term
  pub now : a.term ≡ term → (t : ℕ) × Descends st.links x (spot a.index t) × IsOn g.root g.start st a.term (spot a.index t)
  pub past : a.term < term → (l : Link) → Contains st.links l → l.entry.term ≡ a.term → l.index ≤ a.index → HasStill st x (term + 1) l

-- what a leader counts of a member: what was committed at first; of itself what it led with; and what was said to it
abbrev pub IsCounted : Ground → History → ℕ → ℕ → ℕ → ℕ → Type 0
IsCounted g st id term v matched =
    (matched ≤ g.root.index) ⊎ (((v ≡ id) × ((e : Election) × Contains st.elections e × (e.term ≡ term) × (matched ≤ e.tip.index))) ⊎ IsSaidUpTo st v term matched)

-- where it leads: its log ends with the last link of its term
pub record IsLeading (st : History) (id term : ℕ) (x : Spot) : Type 0 where
  pub ends : IsTip st term x
  pub own : ends.election.id ≡ id
  pub highest : (l : Link) → Contains st.links l → l.entry.term ≡ term → l.index ≤ x.index

-- where it stands: its log ends as it did when it stood first, and it hasn't led in its term
pub record IsStanding (st : History) (id term : ℕ) (x : Spot) : Type 0 where
  pub some : 0 < term
  pub stood : Contains st.candidacies (election term id x)
  pub never_led : (e : Election) → Contains st.elections e → e.term ≡ term → e.id ≡ id → ⊥

-- what a node counts and says; the other part of it is rb_laws' core
pub record WordPart : Type 0 where
  pub term : ℕ
  pub role : Role
  pub views : List (ℕ × PlainProgress)
  pub sent : List Message
  pub waiting : List Message

abbrev pub word_part : PlainNode → WordPart
word_part n = record { term = n.term; role = n.role; views = n.tracker.views; sent = n.sent; waiting = n.waiting }

abbrev pub words_of_whole : Whole → WordPart
words_of_whole x = record { term = x.core.term; role = x.core.role; views = x.tracker.views; sent = x.words.sent; waiting = x.words.waiting }

pub record KnowsLog (g : Ground) (st : History) (id : ℕ) (x : Core) : Type 0 where
  pub itself : x.id ≡ id
  pub linked : IsLinked st.links x.log
  pub rooted : Descends st.links (base_spot x.log) g.root
  pub old : last_term x.log ≤ max x.term g.root.term
  pub leads : x.role ≡ role.Leader → IsLeading st id x.term (tip x.log)
  pub stands : x.role ≡ role.Candidate → IsStanding st id x.term (tip x.log)
  pub stood : (e : Election) → Contains st.candidacies e → e.id ≡ id → e.term ≤ x.term
  pub led : (e : Election) → Contains st.elections e → e.id ≡ id → e.term ≤ x.term
  pub acked : (a : Ack) → Contains st.acks a → a.voter ≡ id → HasAcked g st x.term (tip x.log) a
  pub pledged : 0 < x.vote → IsPledged st (mine id) id x.term x.vote
  pub commit_term : ℕ
  pub commit_held : term_at x.log x.commit ≡ Ok commit_term
  pub commit : IsSettled g.root g.start st x.term (spot x.commit commit_term)
  pub filled : IsFilled st.links g.root g.start x.log x.applied x.content

pub record KnowsWords (g : Ground) (st : History) (id : ℕ) (x : WordPart) : Type 0 where
  pub counts : x.role ≡ role.Leader → (v : ℕ) → IsCounted g st id x.term v (match_of x.views v)
  pub sent : All (TellsTrue g st (mine id)) x.sent
  pub waiting : All (TellsTrue g st (mine id)) x.waiting

pub record KnowsParts (g : Ground) (st : History) (id : ℕ) (of : Core) (says : WordPart) : Type 0 where
  pub log : KnowsLog g st id of
  pub words : KnowsWords g st id says

abbrev pub Knows : Ground → History → ℕ → PlainNode → Type 0
Knows g st id n = KnowsParts g st id (core n) (word_part n)

-- ---- when the history goes on, messages stay true

still_said : (old new : History) (voter term index : ℕ) → IsMore old new → IsSaidUpTo old voter term index → IsSaidUpTo new voter term index
still_said old new voter term index more h = record { ack = h.ack; among = more.out_acks h.ack h.among; by = h.by; of_term = h.of_term; upto = h.upto }

more_said : (old new : History) → IsMore old new → IsMore (all_said old) (all_said new)
more_said old new more = record {
  links = more.links;
  candidacies = more.candidacies;
  elections = more.elections;
  acks = more.acks;
  out_candidacies = more.out_candidacies;
  out_acks = more.acks;
}

still_has_said : (old new : History) (own : ℕ → Type 0) (voter term index : ℕ) → IsMore old new → HasSaidUpTo old own voter term index → HasSaidUpTo new own voter term index
still_has_said old new own voter term index more h =
    elim h as (λ _. HasSaidUpTo new own voter term index) [
      | inl out ↦ inl (still_said old new voter term index more out)
      | inr its ↦ inr (its.0, still_said (all_said old) (all_said new) voter term index (more_said old new more) its.1)
    ]

pub still_counted : (g : Ground) (old new : History) (id term v matched : ℕ) → IsMore old new → IsCounted g old id term v matched → IsCounted g new id term v matched
still_counted g old new id term v matched more h =
    elim h as (λ _. IsCounted g new id term v matched) [
      | inl first ↦ inl first
      | inr rest ↦ elim rest as (λ _. IsCounted g new id term v matched) [
        | inl own ↦ (let e = own.1 in inr (inl (own.0, (e.0, more.elections e.0 e.1, e.2, e.3))))
        | inr said ↦ inr (inr (still_said old new v term matched more said))
      ]
    ]

-- what a pledge is about was there when it was made
abbrev pub IsBack : History → History → ℕ → ℕ → Type 0
IsBack old new voter term = (l : Link) → Contains new.links l → l.entry.term < term → IsAcked new voter l → Contains old.links l × IsAcked old voter l

pub still_pledged : (old new : History) (own : ℕ → Type 0) (voter term candidate : ℕ) → IsMore old new → IsBack old new voter term → IsPledged old own voter term candidate → IsPledged new own voter term candidate
still_pledged old new own voter term candidate more back h = record {
  stood = h.stood;
  among = still_stood old new own h.stood more h.among;
  of_term = h.of_term;
  of_id = h.of_id;
  each = λ l among earlier acked. (let was = back l among earlier acked in still_has old new h.stood.tip (term + 1) l more (h.each l was.0 earlier was.1));
}

-- the votes among messages
abbrev pub AreBack : History → History → Message → Type 0
AreBack old new m = m.kind ≡ kind.VoteResponse true → 0 < m.to → IsBack old new m.from m.term

still_append : (g : Ground) (old new : History) (term : ℕ) (append : PlainAppend) → IsMore old new → TellsAppend g old term append → TellsAppend g new term append
still_append g old new term append more h =
    let w = log_from append.prev append.prev_term append.entries in
    record {
      ends = elim h.ends as (λ _. IsOfTerm new term (tip w) ⊎ ((append.prev_term ≡ 0) × (g.root.index < append.prev))) [
        | inl own ↦ inl (still_of_term old new term (tip w) more own)
        | inr past ↦ inr past
      ];
      linked = still_linked old.links new.links w more.links h.linked;
      commit_term = h.commit_term;
      commit = still_settled g.root g.start old new term (spot append.commit h.commit_term) more h.commit;
    }

still_beat : (g : Ground) (old new : History) (term to commit : ℕ) → IsMore old new → TellsCommit g old term to commit → TellsCommit g new term to commit
still_beat g old new term to commit more h = record {
  held = still_said old new to term commit more h.held;
  index = h.index;
  high = h.high;
  index_term = h.index_term;
  settled = still_settled g.root g.start old new term (spot h.index h.index_term) more h.settled;
}

still_tells_by : (g : Ground) (old new : History) (own : ℕ → Type 0) (k : MessageKind) (m : Message) → m.kind ≡ k → IsMore old new → AreBack old new m → TellsBy g old own k m → TellsBy g new own k m
still_tells_by g old new own (kind.Append append) m is more back h = still_append g old new m.term append more h
still_tells_by g old new own (kind.Heartbeat commit) m is more back h =
    elim h as (λ _. (commit ≤ g.root.index) ⊎ TellsCommit g new m.term m.to commit) [ inl low ↦ inl low | inr beat ↦ inr (still_beat g old new m.term m.to commit more beat) ]
still_tells_by g old new own (kind.Snapshot snapshot) m is more back h = (
  still_settled g.root g.start old new m.term (spot snapshot.index snapshot.term) more h.0,
  still_content old.links new.links g.root g.start (spot snapshot.index snapshot.term) snapshot.content more.links h.1,
)
still_tells_by g old new own (kind.Vote last_term last_index transfer) m is more back h = still_stood old new own (election m.term m.from (spot last_index last_term)) more h
still_tells_by g old new own (kind.VoteResponse granted) m is more back h = λ yes some.
    still_pledged old new own m.from m.term m.to more (back (is ∙ ap (λ (b : Bool). kind.VoteResponse b) yes) some) (h yes some)
still_tells_by g old new own (kind.AppendResponse matched) m is more back h =
    elim h as (λ _. (matched ≤ g.root.index) ⊎ HasSaidUpTo new own m.from m.term matched) [ inl low ↦ inl low | inr said ↦ inr (still_has_said old new own m.from m.term matched more said) ]
still_tells_by g old new own _ m is more back h = tt

pub still_tells : (g : Ground) (old new : History) (own : ℕ → Type 0) (m : Message) → IsMore old new → AreBack old new m → TellsTrue g old own m → TellsTrue g new own m
still_tells g old new own m more back h = still_tells_by g old new own m.kind m refl more back h

-- ---- and what a node knows

-- what must not come new to a node: a link of the term that it leads in, an election or a candidacy of its own, an acknowledgement of its own,
-- and an entry that it has said to hold
pub record IsNoNews (old new : History) (id : ℕ) (n : PlainNode) : Type 0 where
  pub links : n.role ≡ role.Leader → (l : Link) → Contains new.links l → l.entry.term ≡ n.term → Contains old.links l
  pub elections : (e : Election) → Contains new.elections e → e.id ≡ id → Contains old.elections e ⊎ ((e.term ≤ n.term) × (n.role ≡ role.Candidate → ⊥))
  pub candidacies : (e : Election) → Contains new.candidacies e → e.id ≡ id → Contains old.candidacies e
  pub acks : (a : Ack) → Contains new.acks a → a.voter ≡ id → Contains old.acks a
  pub held : (a : Ack) (l : Link) → Contains old.acks a → Contains new.links l → l.entry.term ≡ a.term → l.index ≤ a.index → Contains old.links l
  pub pledged : IsBack old new id n.term
  pub sent : All (AreBack old new) n.sent
  pub waiting : All (AreBack old new) n.waiting

-- what it has said to hold it still has, as long as none of these entries comes new
pub still_has_acked : (g : Ground) (old new : History) (term : ℕ) (x : Spot) (a : Ack) → IsMore old new → ((l : Link) → Contains new.links l → l.entry.term ≡ a.term → l.index ≤ a.index → Contains old.links l) → HasAcked g old term x a → HasAcked g new term x a
still_has_acked g old new term x a more none h = record {
  reached = h.reached;
  now = λ same. (let k = h.now same in (k.0, still_descends old.links new.links x (spot a.index k.0) more.links k.1, still_is_on g.root g.start old new a.term (spot a.index k.0) more k.2));
  past = λ later l there of_term low. still_has old new x (term + 1) l more (h.past later l (none l there of_term low) of_term low);
}

pub still_all : (g : Ground) (old new : History) (own : ℕ → Type 0) (ms : List Message) → IsMore old new → All (AreBack old new) ms → All (TellsTrue g old own) ms → All (TellsTrue g new own) ms
still_all g old new own ms more back h = λ k d low. still_tells g old new own (slice_index_or ms k d) more (back k d low) (h k d low)

pub still_knows : (g : Ground) (old new : History) (id : ℕ) (n : PlainNode) → IsMore old new → IsNoNews old new id n → Knows g old id n → Knows g new id n
still_knows g old new id n more none h = record {
  log = record {
    itself = h.log.itself;
    linked = still_linked old.links new.links n.log more.links h.log.linked;
    rooted = still_descends old.links new.links (base_spot n.log) g.root more.links h.log.rooted;
    old = h.log.old;
    leads = λ is. (let k = h.log.leads is in record {
      ends = still_tip old new n.term (tip n.log) more k.ends;
      own = k.own;
      highest = λ l among term. k.highest l (none.links is l among term) term;
    });
    stands = λ is. (let k = h.log.stands is in record {
      some = k.some;
      stood = more.candidacies (election n.term id (tip n.log)) k.stood;
      never_led = λ e among term own. elim (none.elections e among own) as (λ _. ⊥) [ inl before ↦ k.never_led e before term own | inr past ↦ past.1 is ];
    });
    stood = λ e among own. h.log.stood e (none.candidacies e among own) own;
    led = λ e among own. elim (none.elections e among own) as (λ _. e.term ≤ n.term) [ inl before ↦ h.log.led e before own | inr past ↦ past.0 ];
    acked = λ a among by. (let was = none.acks a among by in still_has_acked g old new n.term (tip n.log) a more (λ l there term low. none.held a l was there term low) (h.log.acked a was by));
    pledged = λ some. still_pledged old new (mine id) id n.term n.vote more none.pledged (h.log.pledged some);
    commit_term = h.log.commit_term;
    commit_held = h.log.commit_held;
    commit = still_settled g.root g.start old new n.term (spot n.commit h.log.commit_term) more h.log.commit;
    filled = still_filled old.links new.links g.root g.start n.log n.applied n.content more.links h.log.filled;
  };
  words = record {
    counts = λ is v. still_counted g old new id n.term v (match_of n.tracker.views v) more (h.words.counts is v);
    sent = still_all g old new (mine id) n.sent more none.sent h.words.sent;
    waiting = still_all g old new (mine id) n.waiting more none.waiting h.words.waiting;
  };
}
