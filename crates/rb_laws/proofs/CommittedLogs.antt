-- Leader completeness and state machine safety of nodes, at whatever moments, by one history (Ongaro's thesis, section 3.6.3)
use Rattle.std.proofs.Common.{◌≡◌, ℕ, ◌<◌, ◌≤◌, List, Ok, refl, sym, subst, ◌∙◌, arith, inl, inr}
use Rattle.std.proofs.lemmas.Bool.{cases_lt}
use Rattle.rb_raftlog.specs.Log.{LogValue, term_at, entry_at}
use Rattle.rb_raftlog.proofs.TermLaws.{held_in}
use Rattle.rb_message.specs.declared.message.Message.{Message}
use Rattle.rb_message.specs.declared.role.Role.TheVariants as role
use Rattle.rb_node.specs.Node.{PlainNode}
use Rattle.rb_laws.specs.Safety.{HasSameUpTo, HasCommitted}
use Rattle.rb_laws.proofs.Links.{IsLinked, still_linked, linked_match}
use Rattle.rb_laws.proofs.Spots.{Spot, spot, site, Descends, still_descends, through, lower, line, flat}
use Rattle.rb_laws.proofs.Contents.{IsFilled, still_filled, one_content, IsContentAt}
use Rattle.rb_laws.proofs.LeaderLogs.{History, IsTip, from_tip}
use Rattle.rb_laws.proofs.Completeness.{IsSettled, complete, safe_meet}
use Rattle.rb_laws.proofs.Tips.{tip, base_spot, tip_rooted, log_descends, log_holds}
use Rattle.rb_laws.proofs.Histories.{IsMore, still_tip, still_settled}
use Rattle.rb_laws.proofs.NodeKnowledge.{Ground, Knows}
use Rattle.rb_laws.proofs.FollowerMoves.{IsWhole, behind_settled}

-- what a node had at some moment, as the history tells it from then on
pub record Had (g : Ground) (st : History) (n : PlainNode) : Type 0 where
  pub linked : IsLinked st.links n.log
  pub rooted : Descends st.links (base_spot n.log) g.root
  pub commit_term : ℕ
  pub commit_held : term_at n.log n.commit ≡ Ok commit_term
  pub commit : IsSettled g.root g.start st n.term (spot n.commit commit_term)
  pub filled : IsFilled st.links g.root g.start n.log n.applied n.content
  pub leads : n.role ≡ role.Leader → IsTip st n.term (tip n.log)

pub had : (g : Ground) (st : History) (id : ℕ) (n : PlainNode) → Knows g st id n → Had g st n
had g st id n h = record {
  linked = h.log.linked;
  rooted = h.log.rooted;
  commit_term = h.log.commit_term;
  commit_held = h.log.commit_held;
  commit = h.log.commit;
  filled = h.log.filled;
  leads = λ is. (h.log.leads is).ends;
}

pub still_had : (g : Ground) (old new : History) (n : PlainNode) → IsMore old new → Had g old n → Had g new n
still_had g old new n more h = record {
  linked = still_linked old.links new.links n.log more.links h.linked;
  rooted = still_descends old.links new.links (base_spot n.log) g.root more.links h.rooted;
  commit_term = h.commit_term;
  commit_held = h.commit_held;
  commit = still_settled g.root g.start old new n.term (spot n.commit h.commit_term) more h.commit;
  filled = still_filled old.links new.links g.root g.start n.log n.applied n.content more.links h.filled;
  leads = λ is. still_tip old new n.term (tip n.log) more (h.leads is);
}

same_upto : (g : Ground) (said : List Message) (st : History) (v w : LogValue) (i t : ℕ) → IsWhole g said st → IsLinked st.links v → IsLinked st.links w → term_at v i ≡ Ok t → Descends st.links (tip w) (spot i t) → HasSameUpTo v w i
same_upto g said st v w i t whole in_v in_w held down = record {
  entries = λ j low above over.
      (let tree = whole.lawful.history.tree in
      let there = log_holds g.root st.links w i t tree in_w (omega (arith, low, over)) down in
      (linked_match st.links v w tree.single in_v in_w).entries i j t held there low above over);
}

-- Leader completeness: who leads in a term has what any node knew to be committed in an earlier one, whichever came first.
pub leader_has : (g : Ground) (said : List Message) (st : History) (n l : PlainNode) → IsWhole g said st → Had g st n → Had g st l → l.role ≡ role.Leader → n.term < l.term → HasCommitted n l
leader_has g said st n l w a b leads later =
    let s = w.lawful in
    let x = spot n.commit a.commit_term in
    let top = b.leads leads in
    let e = top.election in
    let term = top.of_term in
    let up : Descends st.links (tip l.log) e.tip =
    elim top.is as (λ _. Descends st.links (tip l.log) e.tip) [
      | inl first ↦ subst (λ (y : Spot). Descends st.links y e.tip) (sym first) (record { steps = 0; down = refl })
      | inr m ↦ subst (λ (y : Spot). Descends st.links y e.tip) m.3 (from_tip g.root st m.0.index m.0 e s.history (omega arith) m.1 top.among (top.of_term ∙ sym m.2))
    ] in
    let down : Descends st.links (tip l.log) x =
    elim a.commit as (λ _. Descends st.links (tip l.log) x) [
      | inl first ↦ subst (λ (y : Spot). Descends st.links (tip l.log) y) (sym first) (tip_rooted g.root st.links l.log b.linked b.rooted)
      | inr m ↦
          let low = m.2 in
          let has = complete g.root g.start said st e m.0 s top.among m.1 (omega (arith, low, later, term)) in
          through st.links x (site m.0) (tip l.log) (through st.links (site m.0) e.tip (tip l.log) up has) m.3
    ] in
    record {
      reaches = lower st.links (tip l.log) x down;
      same = same_upto g said st n.log l.log n.commit a.commit_term w a.linked b.linked a.commit_held down;
    }

-- State machine safety: two nodes hold the same entries as far as both know them to be committed.
pub commits_agree : (g : Ground) (said : List Message) (st : History) (n m : PlainNode) (j : ℕ) → IsWhole g said st → Had g st n → Had g st m → j ≤ n.commit → j ≤ m.commit → n.log.base < j → m.log.base < j → entry_at n.log j ≡ entry_at m.log j
commits_agree g said st n m j w a b low_n low_m above_n above_m =
    let s = w.lawful in
    let x = spot n.commit a.commit_term in
    let y = spot m.commit b.commit_term in
    let at_n = log_descends st.links n.log n.commit a.commit_term a.linked a.commit_held in
    let at_m = log_descends st.links m.log m.commit b.commit_term b.linked b.commit_held in
    elim (cases_lt n.commit m.commit) as (λ _. entry_at n.log j ≡ entry_at m.log j) [
      | inl less ↦
          let down = safe_meet g.root g.start said st n.term m.term x y s a.commit b.commit (omega (arith, less)) in
          (same_upto g said st n.log m.log n.commit a.commit_term w a.linked b.linked a.commit_held (through st.links x y (tip m.log) at_m down)).entries j low_n above_n above_m
      | inr over ↦
          let down = safe_meet g.root g.start said st m.term n.term y x s b.commit a.commit over in
          sym ((same_upto g said st m.log n.log m.commit b.commit_term w b.linked a.linked b.commit_held (through st.links y x (tip n.log) at_n down)).entries j low_m above_m above_n)
    ]

-- what is applied is settled
applied_spot : (g : Ground) (said : List Message) (st : History) (n : PlainNode) → IsWhole g said st → n.applied ≤ n.commit → (a : Had g st n) → IsSettled g.root g.start st n.term (spot n.applied a.filled.term)
applied_spot g said st n w known a =
    let tree = w.lawful.history.tree in
    let x = spot n.applied a.filled.term in
    let y = spot n.commit a.commit_term in
    let start = lower st.links (base_spot n.log) g.root a.rooted in
    let above = (held_in n.log n.applied a.filled.term a.filled.held).0 in
    let at = log_descends st.links n.log n.applied a.filled.term a.linked a.filled.held in
    let top = log_descends st.links n.log n.commit a.commit_term a.linked a.commit_held in
    behind_settled g.root g.start said st n.term y x w.lawful (omega (arith, start, above)) a.commit (line g.root st.links (tip n.log) x y tree at top known)

-- State machine safety, as a user sees it: two nodes that have applied as much have the same content.
pub contents_same : (g : Ground) (said : List Message) (st : History) (n m : PlainNode) → IsWhole g said st → Had g st n → Had g st m → n.applied ≤ n.commit → m.applied ≤ m.commit → n.applied ≡ m.applied → n.content ≡ m.content
contents_same g said st n m w a b known_n known_m same =
    let tree = w.lawful.history.tree in
    let x = spot n.applied a.filled.term in
    let y = spot m.applied b.filled.term in
    let down = safe_meet g.root g.start said st n.term m.term x y w.lawful (applied_spot g said st n w known_n a) (applied_spot g said st m w known_m b) (omega (arith, same)) in
    let one : y ≡ x = flat g.root st.links y x tree down same in
    one_content g.root st.links g.start x n.content m.content tree a.filled.is (subst (λ (z : Spot). IsContentAt st.links g.root g.start z m.content) one b.filled.is)
