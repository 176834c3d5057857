-- Appends in flight (etcd raft documentation, "MaxInflightMsgs"): a full window takes no entries, and loses only what is answered
use Rattle.std.proofs.Common.{◌≡◌, ◌⊎◌, ℕ, zero, suc, ◌-◌, ◌<◌, Bool, true, not, ◌&&◌, ◌==◌, nat_lt, nat_le, List, [], ◌∷◌, ◌++◌, Option, Some, refl, sym, ap, subst, ◌∙◌, arith, inl, inr}
use Rattle.std.specs.Prelude.{Contains, filter}
use Rattle.std.proofs.lemmas.Bool.{false≢true, lt-ltb, and_from}
use Rattle.rb_raftlog.specs.Log.{LogValue}
use Rattle.rb_tracker.proofs.SetLaws.{if_both}
use Rattle.rb_tracker.specs.Progresses.{PlainProgress, sent, sent_in, acked, acked_in, freed_through, freed_in}
use Rattle.rb_tracker.specs.Trackers.{place, view_at}
use Rattle.rb_tracker.specs.Windows.{is_full}
use Rattle.rb_tracker.specs.declared.progress.ProgressState.{ProgressState}
use Rattle.rb_tracker.specs.declared.progress.ProgressState.TheVariants as state
use Rattle.rb_message.specs.declared.kind.MessageKind.TheVariants as kind
use Rattle.rb_node.specs.Node.{PlainNode}
use Rattle.rb_node.specs.Sends.{append_of, snapshot_of, is_ping, is_replicating, takes_nothing, is_window_full, sending_of, sends_by, snapshot_to, empty_to, sends_with, sends_at, sends}
use Rattle.rb_node.specs.declared.sends.SendReason.{SendReason}
use Rattle.rb_node.specs.declared.sends.Sending.{Sending}
use Rattle.rb_node.specs.declared.sends.Sending.TheVariants as sending
use Rattle.rb_laws.specs.Rules.{SendsNoEntries}

-- ---- what goes to a member whose window is full

abbrev IsNoEntries : Sending → Type 0
IsNoEntries sending.Nothing = Unit {0}
IsNoEntries sending.Snapshot = Unit {0}
IsNoEntries sending.Empty = Unit {0}
IsNoEntries sending.Entries = ⊥

full_sends : (log : LogValue) (view : PlainProgress) (how : SendReason) → is_window_full view ≡ true → IsNoEntries (sending_of log view how)
full_sends log view how full =
    if_both IsNoEntries (takes_nothing view) _ _ (λ _. tt)
    (λ _. if_both IsNoEntries (nat_lt (view.next - 1) log.base) _ _ (λ _. tt)
    (λ _. if_both IsNoEntries (is_window_full view) _ _ (λ _. if_both IsNoEntries (is_ping how) _ _ (λ _. tt) (λ _. tt)) (λ no. absurd (false≢true (sym no ∙ full)))))

by_no_entries : (s : Sending) (n : PlainNode) (at to : ℕ) (view : PlainProgress) → IsNoEntries s → view_at n.tracker.views at ≡ Some view → SendsNoEntries n to (sends_by s n at to)
by_no_entries sending.Nothing n at to view none is = inl refl
by_no_entries sending.Snapshot n at to view none is =
    subst (λ (o : Option PlainProgress). SendsNoEntries n to (snapshot_to o n at to)) (sym is) (inr (kind.Snapshot (snapshot_of n), tt, refl))
by_no_entries sending.Empty n at to view none is =
    subst (λ (o : Option PlainProgress). SendsNoEntries n to (empty_to o n to)) (sym is) (inr (append_of n view.next [], refl, refl))
by_no_entries sending.Entries n at to view none is = absurd none

pub full_window_sends : (n : PlainNode) (to at : ℕ) (how : SendReason) (view : PlainProgress) → place n.tracker.views to ≡ Some at → view_at n.tracker.views at ≡ Some view → view.state ≡ state.Replicate → is_full view.window ≡ true → SendsNoEntries n to (sends n to how)
unfolding sends
full_window_sends n to at how view placed is follows full =
    let window : is_window_full view ≡ true = and_from (is_replicating view.state) (is_full view.window) (ap is_replicating follows) full in
    if_both (SendsNoEntries n to) (to == n.id) _ _ (λ _. inl refl)
    (λ _. subst (λ (o : Option ℕ). SendsNoEntries n to (sends_at o n to how)) (sym placed)
    (subst (λ (o : Option PlainProgress). SendsNoEntries n to (sends_with o n at to how)) (sym is)
    (by_no_entries (sending_of n.log view how) n at to view (full_sends n.log view how window) is)))

-- ---- what is in flight

-- sending adds at most the last index
sent_in_flight : (s : ProgressState) (p : PlainProgress) (i : ℕ) → ((sent_in s p i).window.in_flight ≡ p.window.in_flight) ⊎ ((sent_in s p i).window.in_flight ≡ p.window.in_flight ++ i ∷ [])
sent_in_flight state.Probe p i = inl refl
sent_in_flight state.Replicate p i =
    if_both (λ (x : PlainProgress). (x.window.in_flight ≡ p.window.in_flight) ⊎ (x.window.in_flight ≡ p.window.in_flight ++ i ∷ [])) (nat_le p.next i && not (is_full p.window)) _ _
    (λ _. inr refl) (λ _. inl refl)
sent_in_flight state.Snapshot p i = inl refl

pub sending_adds : (p : PlainProgress) (i : ℕ) → ((sent p i).window.in_flight ≡ p.window.in_flight) ⊎ ((sent p i).window.in_flight ≡ p.window.in_flight ++ i ∷ [])
sending_adds p i = sent_in_flight p.state p i

filter_contains : (test : ℕ → Bool) (xs : List ℕ) (x : ℕ) → Contains xs x → test x ≡ true → Contains (filter test xs) x
filter_contains test [] x has passes = absurd (omega (arith, has.1))
filter_contains test (y ∷ ys) x (zero, low, is) passes = let here : test y ≡ true = ap test is ∙ passes in rw here (zero, omega arith, is)
filter_contains test (y ∷ ys) x (suc k, low, is) passes =
    let rest = filter_contains test ys x (k, omega (arith, low), is) passes in
    let within = rest.1 in
    if_both (λ (zs : List ℕ). Contains zs x) (test y) (y ∷ filter test ys) (filter test ys) (λ _. (suc rest.0, omega (arith, within), rest.2)) (λ _. rest)

-- what is above the answered index stays in flight
still_in : (xs : List ℕ) (low i : ℕ) → Contains xs i → low < i → Contains (filter (λ (x : ℕ). nat_lt low x) xs) i
still_in xs low i among above = filter_contains (λ (x : ℕ). nat_lt low x) xs i among (lt-ltb low i above)

pub answers_free : (p : PlainProgress) (index i : ℕ) → p.state ≡ state.Replicate → Contains p.window.in_flight i → index < i → Contains (acked p index).window.in_flight i
answers_free p index i follows among above =
    subst (λ (s : ProgressState). Contains (acked_in s p index).window.in_flight i) (sym follows) (still_in p.window.in_flight index i among above)

pub old_answers_free : (p : PlainProgress) (index i : ℕ) → p.state ≡ state.Replicate → Contains p.window.in_flight i → index < i → Contains (freed_through p index).window.in_flight i
old_answers_free p index i follows among above =
    subst (λ (s : ProgressState). Contains (freed_in s p index).window.in_flight i) (sym follows) (still_in p.window.in_flight index i among above)
