-- What a node knows by what others may have heard of, once it restarts: as much as it knew when it saved, and its content from the saved snapshot on
use Rattle.std.proofs.Common.{◌≡◌, ℕ, suc, ◌+◌, ◌<◌, List, [], ◌∷◌, ◌++◌, length, append-nil, Ok, Some, refl, sym, ap, subst, ◌∙◌, arith}
use Rattle.std.specs.Prelude.{slice_get}
use Rattle.rb_raftlog.specs.declared.entry.Body.{Body}
use Rattle.rb_raftlog.specs.declared.entry.Body.TheVariants.{Payload, Change}
use Rattle.rb_raftlog.specs.declared.entry.Entry.{Entry}
use Rattle.rb_raftlog.specs.declared.snapshot.Snapshot.{Snapshot}
use Rattle.rb_raftlog.specs.Log.{LogValue, term_at, entry_at, made_durable, compacted}
use Rattle.rb_raftlog.specs.Log as logs
use Rattle.rb_raftlog.proofs.PlaceLaws.{between-entries}
use Rattle.rb_raftlog.proofs.TermLaws.{term_base, same_term, same_entry}
use Rattle.rb_raftlog.proofs.VoteLaws.{compacted-term}
use Rattle.rb_tracker.proofs.SetLaws.{if_both}
use Rattle.rb_message.specs.declared.message.Message.{Message}
use Rattle.rb_node.proofs.Between.{between_sizes}
use Rattle.rb_node.specs.Compacting.{content_with, content_after, entries_to, start_at}
use Rattle.rb_node.specs.Node.{PlainNode}
use Rattle.rb_node.specs.Readying.{saved, saved_start}
use Rattle.rb_node.specs.Restarting.{restarted}
use Rattle.rb_node.specs.Sends.{snapshot_of}
use Rattle.rb_laws.specs.Choices.{bytes_of}
use Rattle.rb_calls.specs.Sound.{IsSound}
use Rattle.rb_laws.proofs.CallMoves.{saves_knows, compacted_tip}
use Rattle.rb_laws.proofs.LeaderLogs.{History}
use Rattle.rb_laws.proofs.Applied.{Applied}
use Rattle.rb_laws.proofs.Contents.{IsFilled, filled_of, next_filled}
use Rattle.rb_laws.proofs.FollowerMoves.{IsWhole, acked_same}
use Rattle.rb_laws.proofs.Holding.{follower_leads, follower_stands}
use Rattle.rb_laws.proofs.LinkedLogs.{entry_term, compacted_linked}
use Rattle.rb_laws.proofs.Links.{Link, IsLinked}
use Rattle.rb_calls.proofs.MoveLaws.{reset_vote}
use Rattle.rb_calls.proofs.Moves.{following}
use Rattle.rb_laws.proofs.NodeKnowledge.{Ground, Knows}
use Rattle.rb_laws.proofs.RestartedLogs.{same_durable, again_with, saved_again, IsRestartable, CompactsTo}
use Rattle.rb_laws.proofs.Spots.{Spot, spot, line, lower}
use Rattle.rb_laws.proofs.TermMoves.{follows_knows}
use Rattle.rb_laws.proofs.Tips.{tip, base_spot, tip_rooted, log_descends}

-- ---- an advance

-- the content of the snapshot that it saves is that of the log
pub start_filled : (g : Ground) (st : History) (id : ℕ) (n : PlainNode) → IsRestartable n → IsFilled st.links g.root g.start (logs.restarted n.log n.start) n.start.index n.start.content → Knows g st id n
    → IsFilled st.links g.root g.start n.log (saved_start n).index (saved_start n).content
start_filled g st id n r before h =
    if_both (λ (s : Snapshot). IsFilled st.links g.root g.start n.log s.index s.content) n.restored (snapshot_of n) n.start (λ _. h.log.filled)
    (λ is. let at = r.saved is in
    let w = logs.restarted n.log n.start in
    let same : term_at n.log n.start.index ≡ term_at w n.start.index = ap (term_at n.log) at.0 ∙ term_base n.log ∙ ap (λ (t : ℕ). Ok t) (sym at.1) ∙ sym (term_base w) in
    filled_of st.links g.root g.start w n.log n.start.index n.start.content same before)

pub saved_knows : (g : Ground) (said : List Message) (st : History) (id : ℕ) (n : PlainNode) → IsWhole g said st → IsFilled st.links g.root g.start n.log (saved_start n).index (saved_start n).content → Knows g st id n → Knows g st id (saved_again n)
saved_knows g said st id n w filled h =
    let f : PlainNode = following (saved n) n.term 0 in
    let k : Knows g st id (record f { vote = n.vote }) =
    subst (λ (vote : ℕ). Knows g st id (record f { vote = vote })) (reset_vote n.term n.term n.vote refl)
    (follows_knows g said st id (saved n) n.term 0 w (omega arith) (saves_knows g st id n h)) in
    record {
      log = record {
        itself = k.log.itself;
        linked = k.log.linked;
        rooted = k.log.rooted;
        old = k.log.old;
        leads = k.log.leads;
        stands = k.log.stands;
        stood = k.log.stood;
        led = k.log.led;
        acked = k.log.acked;
        pledged = k.log.pledged;
        commit_term = k.log.commit_term;
        commit_held = k.log.commit_held;
        commit = k.log.commit;
        filled = filled_of st.links g.root g.start n.log (made_durable n.log) (saved_start n).index (saved_start n).content refl filled;
      };
      words = k.words;
    }

-- ---- compacting

with_bytes : (content : List ℕ) (body : Body) → content ++ bytes_of body ≡ content_with content body
with_bytes content (Payload bytes) = refl
with_bytes content (Change transition words) = append-nil content

fills_all : (ls : List Link) (root : Spot) (start : Applied) (v : LogValue) (i : ℕ) (content : List ℕ) (es : List Entry) → IsLinked ls v → ((k : ℕ) (e : Entry) → slice_get es k ≡ Some e → entry_at v (i + 1 + k) ≡ Ok e) → IsFilled ls root start v i content
    → IsFilled ls root start v (i + length es) (content_after content es)
fills_all ls root start v i content [] linked held f = (let none : i ≡ i + 0 = omega arith in subst (λ (j : ℕ). IsFilled ls root start v j content) none f)
fills_all ls root start v i content (e ∷ es) linked held f =
    let here : i + 1 ≡ i + 1 + 0 = omega arith in
    let at : entry_at v (i + 1) ≡ Ok e = ap (entry_at v) here ∙ held 0 e refl in
    let next = next_filled ls root start v i (i + 1) content e refl linked at (entry_term v (i + 1) e at) f in
    let one = subst (λ (bytes : List ℕ). IsFilled ls root start v (i + 1) bytes) (with_bytes content e.body) next in
    let far : i + 1 + length es ≡ i + length (e ∷ es) = omega arith in
    subst (λ (j : ℕ). IsFilled ls root start v j (content_after content (e ∷ es))) far
    (fills_all ls root start v (i + 1) (content_with content e.body) es linked
    (λ k x is. (let place : i + 1 + 1 + k ≡ i + 1 + suc k = omega arith in ap (entry_at v) place ∙ held (suc k) x is)) one)

-- what the content comes to up to the new base
start_fills : (ls : List Link) (root : Spot) (start : Applied) (n : PlainNode) (i : ℕ) → IsSound n → CompactsTo n i → IsLinked ls (logs.restarted n.log n.start) → IsFilled ls root start (logs.restarted n.log n.start) n.start.index n.start.content
    → IsFilled ls root start (logs.restarted n.log n.start) i (start_at n i).content
start_fills ls root start n i s c linked before =
    let v = logs.restarted n.log n.start in
    let same = same_durable n.log n.start c.index c.base_term s.within in
    let index = c.index in
    let low = c.low in
    let durable = c.durable in
    let within = s.within in
    let sizes = between_sizes n.log n.start.index i in
    let far : n.start.index + length (entries_to n i) ≡ i = omega (arith, sizes, index, low, durable, within) in
    subst (λ (j : ℕ). IsFilled ls root start v j (start_at n i).content) far
    (fills_all ls root start v n.start.index n.start.content (entries_to n i) linked
    (λ k e is. (let x = between-entries n.log n.start.index i k e (omega (arith, index)) is in let upto = x.1 in
    same_entry n.log v n.log.durable (n.start.index + 1 + k) same (omega (arith, upto, durable)) ∙ x.0)) before)

pub compacted_knows : (g : Ground) (said : List Message) (st : History) (id : ℕ) (n : PlainNode) (i : ℕ) → IsWhole g said st → IsSound n → (c : CompactsTo n i) → Knows g st id (restarted n)
    → Knows g st id (again_with n (start_at n i) (compacted (logs.restarted n.log n.start) i (Ok c.term)))
compacted_knows g said st id n i w s c k =
    let x = restarted n in
    let v = x.log in
    let new = compacted v i (Ok c.term) in
    let y : PlainNode = again_with n (start_at n i) new in
    let same = same_durable n.log n.start c.index c.base_term s.within in
    let index = c.index in
    let past = c.low in
    let low : v.base < i = omega (arith, index, past) in
    let at : term_at v i ≡ Ok c.term = same_term n.log v n.log.durable i same c.durable ∙ c.held in
    let ends : tip new ≡ tip v = compacted_tip v i c.term low at in
    let terms = ap (λ (z : Spot). z.term) ends in
    let old = k.log.old in
    let tree = w.lawful.history.tree in
    let start = lower st.links (base_spot v) g.root k.log.rooted in
    record {
      log = record {
        itself = k.log.itself;
        linked = compacted_linked st.links v i (Ok c.term) low at k.log.linked;
        rooted = line g.root st.links (tip v) g.root (spot i c.term) tree (tip_rooted g.root st.links v k.log.linked k.log.rooted) (log_descends st.links v i c.term k.log.linked at) (omega (arith, start, low));
        old = omega (arith, old, terms);
        leads = λ no. absurd (follower_leads no);
        stands = λ no. absurd (follower_stands no);
        stood = k.log.stood;
        led = k.log.led;
        acked = λ a among by. acked_same g st x y a refl ends (k.log.acked a among by);
        pledged = k.log.pledged;
        commit_term = k.log.commit_term;
        commit_held = compacted-term v i c.term n.saved.commit low at c.committed ∙ k.log.commit_held;
        commit = k.log.commit;
        filled = filled_of st.links g.root g.start v new i (start_at n i).content (compacted-term v i c.term i low at (omega arith))
            (start_fills st.links g.root g.start n i s c k.log.linked k.log.filled);
      };
      words = k.words;
    }
