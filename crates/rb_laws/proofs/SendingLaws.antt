-- What a leader sends to a member: the entries that it lacks, or a snapshot
use Rattle.std.proofs.Common.{◌≡◌, ℕ, zero, suc, ◌+◌, ◌-◌, ◌<◌, ◌≤◌, Bool, true, false, not, ◌&&◌, ◌==◌, nat_lt, List, [], ◌∷◌, ◌++◌, take, drop, Option, Some, refl, sym, ap, subst, ◌∙◌, arith, eqb-true, inl, inr}
use Rattle.std.specs.Prelude.{slice_get}
use Rattle.std.specs.Map.{keys_of}
use Rattle.std.proofs.lemmas.Bool.{false≢true, and_parts, ltb-true, lt-ltb}
use Rattle.std.proofs.lemmas.Option.{none-some, same_Some}
use Rattle.rb_raftlog.specs.Log.{LogValue, last, entries_after}
use Rattle.rb_tracker.proofs.SetLaws.{if_both}
use Rattle.rb_tracker.specs.Configs.{members}
use Rattle.rb_tracker.specs.Progresses.{PlainProgress, sent, sent_in}
use Rattle.rb_tracker.specs.Sets.{rank}
use Rattle.rb_tracker.specs.Trackers.{has_view}
use Rattle.rb_tracker.specs.Windows.{is_full}
use Rattle.rb_tracker.specs.declared.progress.ProgressState.{ProgressState}
use Rattle.rb_tracker.specs.declared.progress.ProgressState.TheVariants as state
use Rattle.rb_message.specs.declared.kind.MessageKind.TheVariants as kind
use Rattle.rb_node.specs.Leading.{new_view, with_view_of, with_views, in_lead, leading}
use Rattle.rb_node.specs.Node.{PlainNode, message}
use Rattle.rb_node.specs.Sends.{append_of, snapshot_of, takes_nothing_in, takes_nothing, is_replicating, is_window_full, is_news, sending_of, snapshot_to, entries_to, sends_by, sends_with, sends_at, sends}
use Rattle.rb_node.specs.declared.sends.SendReason.TheVariants as mode
use Rattle.rb_node.specs.declared.sends.Sending.{Sending}
use Rattle.rb_node.specs.declared.sends.Sending.TheVariants as sending
use Rattle.rb_calls.proofs.LeaderLaws.{with_view_only}
use Rattle.rb_laws.specs.Sending.{IsFree, MaySendTo, IsFirstView}

-- ---- what is sent

takes_some : (view : PlainProgress) → IsFree view → takes_nothing view ≡ false
takes_some view (inl probe) = subst (λ (s : ProgressState). takes_nothing_in s view ≡ false) (sym probe.0) probe.1
takes_some view (inr follows) = subst (λ (s : ProgressState). takes_nothing_in s view ≡ false) (sym follows.0) refl

has_room : (view : PlainProgress) → IsFree view → is_window_full view ≡ false
has_room view (inl probe) = subst (λ (s : ProgressState). (is_replicating s && is_full view.window) ≡ false) (sym probe.0) refl
has_room view (inr follows) = subst (λ (s : ProgressState). (is_replicating s && is_full view.window) ≡ false) (sym follows.0) follows.1

entries_go : (log : LogValue) (view : PlainProgress) → IsFree view → log.base ≤ view.next - 1 → sending_of log view mode.Tell ≡ sending.Entries
entries_go log view free reached =
    let P : Sending → Type 0 = λ s. s ≡ sending.Entries in
    if_both P (takes_nothing view) _ _ (λ taken. absurd (false≢true (sym (takes_some view free) ∙ taken)))
    (λ _. if_both P (nat_lt (view.next - 1) log.base) _ _ (λ low. (let past = ltb-true (view.next - 1) log.base low in absurd (omega (arith, past, reached))))
    (λ _. if_both P (is_window_full view) _ _ (λ full. absurd (false≢true (sym (has_room view free) ∙ full)))
    (λ _. if_both P (nat_lt (last log) view.next && is_news mode.Tell) _ _ (λ news. absurd (false≢true (and_parts (nat_lt (last log) view.next) (is_news mode.Tell) news).1)) (λ _. refl))))

snapshot_goes : (log : LogValue) (view : PlainProgress) → IsFree view → view.next - 1 < log.base → sending_of log view mode.Tell ≡ sending.Snapshot
snapshot_goes log view free lacks =
    let P : Sending → Type 0 = λ s. s ≡ sending.Snapshot in
    if_both P (takes_nothing view) _ _ (λ taken. absurd (false≢true (sym (takes_some view free) ∙ taken)))
    (λ _. if_both P (nat_lt (view.next - 1) log.base) _ _ (λ _. refl) (λ fails. absurd (false≢true (sym fails ∙ lt-ltb (view.next - 1) log.base lacks))))

-- what goes to a member is by its view
by_view : (P : PlainNode → Type 0) (n : PlainNode) (to : ℕ) (view : PlainProgress) → (m : MaySendTo n to view) → P (sends_by (sending_of n.log view mode.Tell) n m.at to) → P (sends n to mode.Tell)
unfolding sends
by_view P n to view m h =
    if_both P (to == n.id) n (sends_at _ n to mode.Tell) (λ own. absurd (m.another (eqb-true to n.id own)))
    (λ _. subst (λ (o : Option ℕ). P (sends_at o n to mode.Tell)) (sym m.placed) (subst (λ (o : Option PlainProgress). P (sends_with o n m.at to mode.Tell)) (sym m.is) h))

pub entries_are_sent : (n : PlainNode) (to : ℕ) (view : PlainProgress) → MaySendTo n to view → n.log.base ≤ view.next - 1
    → (sends n to mode.Tell).sent ≡ n.sent ++ message n.id to n.term (append_of n view.next (entries_after n.log (view.next - 1))) ∷ []
entries_are_sent n to view m reached =
    let P : PlainNode → Type 0 = λ x. x.sent ≡ n.sent ++ message n.id to n.term (append_of n view.next (entries_after n.log (view.next - 1))) ∷ [] in
    by_view P n to view m
    (subst (λ (s : Sending). P (sends_by s n m.at to)) (sym (entries_go n.log view m.free reached))
    (subst (λ (o : Option PlainProgress). P (entries_to o n m.at to)) (sym m.is) refl))

pub snapshot_is_sent : (n : PlainNode) (to : ℕ) (view : PlainProgress) → MaySendTo n to view → view.next - 1 < n.log.base
    → (sends n to mode.Tell).sent ≡ n.sent ++ message n.id to n.term (kind.Snapshot (snapshot_of n)) ∷ []
snapshot_is_sent n to view m lacks =
    let P : PlainNode → Type 0 = λ x. x.sent ≡ n.sent ++ message n.id to n.term (kind.Snapshot (snapshot_of n)) ∷ [] in
    by_view P n to view m
    (subst (λ (s : Sending). P (sends_by s n m.at to)) (sym (snapshot_goes n.log view m.free lacks))
    (subst (λ (o : Option PlainProgress). P (snapshot_to o n m.at to)) (sym m.is) refl))

pub probe_waits : (p : PlainProgress) (last : ℕ) → p.state ≡ state.Probe → (sent p last).waiting ≡ true
probe_waits p last probes = subst (λ (s : ProgressState). (sent_in s p last).waiting ≡ true) (sym probes) refl

-- ---- a new leader's views

abbrev AreFirst : PlainNode → List (ℕ × PlainProgress) → Type 0
AreFirst n [] = Unit {0}
AreFirst n (e ∷ es) = ((e.0 ≡ n.id → ⊥) → IsFirstView n e.1) × AreFirst n es

first_take : (n : PlainNode) (es : List (ℕ × PlainProgress)) (i : ℕ) → AreFirst n es → AreFirst n (take i es)
first_take n [] zero are = tt
first_take n [] (suc i) are = tt
first_take n (e ∷ es) zero are = tt
first_take n (e ∷ es) (suc i) are = (are.0, first_take n es i are.1)

first_drop : (n : PlainNode) (es : List (ℕ × PlainProgress)) (i : ℕ) → AreFirst n es → AreFirst n (drop i es)
first_drop n [] zero are = tt
first_drop n [] (suc i) are = tt
first_drop n (e ∷ es) zero are = are
first_drop n (e ∷ es) (suc i) are = first_drop n es i are.1

first_both : (n : PlainNode) (es fs : List (ℕ × PlainProgress)) → AreFirst n es → AreFirst n fs → AreFirst n (es ++ fs)
first_both n [] fs are more = more
first_both n (e ∷ es) fs are more = (are.0, first_both n es fs are.1 more)

first_new : (n x : PlainNode) (id : ℕ) (active : Bool) → x.id ≡ n.id → x.log ≡ n.log → (id ≡ n.id → ⊥) → IsFirstView n (new_view x id active)
first_new n x id active same log other =
    if_both (IsFirstView n) (id == x.id) _ _ (λ own. absurd (other (eqb-true id x.id own ∙ same)))
    (λ _. record { free = inl (refl, refl); matched = refl; next = ap (λ (v : LogValue). last v + 1) log })

first_with : (n x : PlainNode) (ids : List ℕ) (active : Bool) → x.id ≡ n.id → x.log ≡ n.log → AreFirst n x.tracker.views → AreFirst n (with_views x ids active).tracker.views
first_with n x [] active same log are = are
first_with n x (id ∷ ids) active same log are =
    let y : PlainNode = with_view_of x id active in
    let only = with_view_only x id active in
    let i = rank (keys_of x.tracker.views) id in
    first_with n y ids active (ap (λ (z : PlainNode). z.id) only ∙ same) (ap (λ (z : PlainNode). z.log) only ∙ log)
    (if_both (λ (z : PlainNode). AreFirst n z.tracker.views) (has_view x.tracker.views id) _ _ (λ _. are)
    (λ _. first_both n (take i x.tracker.views) ((id, new_view x id active) ∷ drop i x.tracker.views) (first_take n x.tracker.views i are)
    (first_new n x id active same log, first_drop n x.tracker.views i are)))

first_at : (n : PlainNode) (es : List (ℕ × PlainProgress)) (k : ℕ) (e : ℕ × PlainProgress) → AreFirst n es → slice_get es k ≡ Some e → (e.0 ≡ n.id → ⊥) → IsFirstView n e.1
first_at n [] k e are is other = absurd (none-some e is)
first_at n (x ∷ xs) zero e are is other =
    let same : x ≡ e = same_Some x e is in
    subst (λ (y : ℕ × PlainProgress). IsFirstView n y.1) same (are.0 (λ own. other (ap (λ (y : ℕ × PlainProgress). y.0) (sym same) ∙ own)))
first_at n (x ∷ xs) (suc k) e are is other = first_at n xs k e are.1 is other

pub first_views : (n : PlainNode) (k : ℕ) (e : ℕ × PlainProgress) → slice_get (leading n).tracker.views k ≡ Some e → (e.0 ≡ n.id → ⊥) → IsFirstView n e.1
first_views n k e is other =
    first_at n (leading n).tracker.views k e (first_with n (in_lead n) (members n.tracker.config) (not n.options.check_quorum) refl refl tt) is other
