-- What is refused: a vote for a reason that holds, and an append so that what is sent next begins earlier
use Rattle.std.proofs.Common.{◌≡◌, ℕ, ◌+◌, ◌<◌, ◌≤◌, Bool, true, false, ◌&&◌, ◌||◌, ◌==◌, nat_lt, max, min, refl, sym, subst, ◌∙◌, arith, eqb-true}
use Rattle.std.proofs.lemmas.Bool.{false≢true, eq-eqb}
use Rattle.rb_raftlog.specs.Log.{is_up_to_date}
use Rattle.rb_tracker.proofs.SetLaws.{if_both}
use Rattle.rb_tracker.specs.Progresses.{PlainProgress, refused, refused_in}
use Rattle.rb_tracker.specs.declared.progress.ProgressState.{ProgressState}
use Rattle.rb_tracker.specs.declared.progress.ProgressState.TheVariants as state
use Rattle.rb_message.specs.declared.event.WhyRefused.TheVariants as why_not
use Rattle.rb_message.specs.declared.message.Message.{Message}
use Rattle.rb_node.specs.Node.{PlainNode}
use Rattle.rb_node.specs.Votes.{can_vote_for, grants, why_no_vote, why_refused}
use Rattle.rb_laws.specs.Rules.{IsReason}

-- ---- a vote

other_half : (a b : Bool) → a ≡ true → (a && b) ≡ false → b ≡ false
other_half true b is fails = fails
other_half false b is fails = absurd (false≢true is)

no_first : (a b c : Bool) → (a || b || c) ≡ false → a ≡ false
no_first true b c fails = absurd (false≢true (sym fails))
no_first false b c fails = refl

no_second : (a b c : Bool) → (a || b || c) ≡ false → b ≡ false
no_second true b c fails = absurd (false≢true (sym fails))
no_second false true c fails = absurd (false≢true (sym fails))
no_second false false c fails = refl

-- why another doesn't get the node's vote
pub not_given : (n : PlainNode) (m : Message) (last_term last_index : ℕ) (later : Bool) → (n.vote == m.from || (n.vote == 0 && n.lead == 0) || later) ≡ false → IsReason n m last_term last_index (why_no_vote n)
not_given n m last_term last_index later fails =
    let another : (n.vote == m.from) ≡ false = no_first (n.vote == m.from) (n.vote == 0 && n.lead == 0) later fails in
    let known : (n.vote == 0 && n.lead == 0) ≡ false = no_second (n.vote == m.from) (n.vote == 0 && n.lead == 0) later fails in
    if_both (IsReason n m last_term last_index) (n.vote == 0) (why_not.KnowsLeader n.term n.lead) (why_not.Voted n.term n.vote)
    (λ none. (eqb-true n.vote 0 none, refl, λ nobody. false≢true (sym (other_half (n.vote == 0) (n.lead == 0) none known) ∙ eq-eqb n.lead 0 nobody)))
    (λ some. (refl, λ none. false≢true (sym some ∙ eq-eqb n.vote 0 none), λ same. false≢true (sym another ∙ eq-eqb n.vote m.from same)))

pub refused_for : (n : PlainNode) (m : Message) (last_term last_index : ℕ) (pre_vote : Bool) → grants n m last_term last_index pre_vote ≡ false → IsReason n m last_term last_index (why_refused n m last_term last_index pre_vote)
refused_for n m last_term last_index pre_vote fails =
    if_both (IsReason n m last_term last_index) (can_vote_for n m pre_vote) _ (why_no_vote n)
    (λ can. (refl, refl, other_half (can_vote_for n m pre_vote) (is_up_to_date n.log last_index last_term) can fails))
    (λ cannot. not_given n m last_term last_index (pre_vote && nat_lt n.term m.term) cannot)

-- ---- an append

in_probe : (P : PlainProgress → Type 0) (p : PlainProgress) (index hint : ℕ) → p.state ≡ state.Probe → P (record p { next = max (p.matched + 1) (min index (hint + 1)); waiting = false }) → P (refused p index hint)
in_probe P p index hint probes h = subst (λ (s : ProgressState). P (refused_in s p index hint)) (sym probes) h

pub leads_ahead : (p : PlainProgress) (index hint : ℕ) → p.state ≡ state.Probe → p.matched < (refused p index hint).next
leads_ahead p index hint probes = in_probe (λ (q : PlainProgress). p.matched < q.next) p index hint probes (omega arith)

pub leads_to_hint : (p : PlainProgress) (index hint : ℕ) → p.state ≡ state.Probe → (refused p index hint).next ≤ max (p.matched + 1) (hint + 1)
leads_to_hint p index hint probes = in_probe (λ (q : PlainProgress). q.next ≤ max (p.matched + 1) (hint + 1)) p index hint probes (omega arith)

pub leads_back : (p : PlainProgress) (index hint : ℕ) → p.state ≡ state.Probe → (refused p index hint).next ≤ max (p.matched + 1) index
leads_back p index hint probes = in_probe (λ (q : PlainProgress). q.next ≤ max (p.matched + 1) index) p index hint probes (omega arith)

pub leads_far : (p : PlainProgress) (index hint : ℕ) → p.state ≡ state.Probe → min index (hint + 1) ≤ (refused p index hint).next
leads_far p index hint probes = in_probe (λ (q : PlainProgress). min index (hint + 1) ≤ q.next) p index hint probes (omega arith)

pub leads_on : (p : PlainProgress) (index hint : ℕ) → p.state ≡ state.Probe → (refused p index hint).waiting ≡ false
leads_on p index hint probes = in_probe (λ (q : PlainProgress). q.waiting ≡ false) p index hint probes refl
