use Rattle.std.proofs.Common.{◌≡◌, ◌∙◌, ℕ, ◌+◌, ◌-◌, List, drop, length, slice_range, true, false, refl, arith, ap, sym, subst}
use Rattle.std.proofs.lemmas.List.{drop-drop, length-drop, take_rest}
use Rattle.rb_lsp.specs.declared.rpc.limits.TheConstants.{MAX_WAITING}
use Rattle.rb_lsp.specs.Cancels.{CancelWaits, later, now}
use Rattle.rb_lsp.specs.Messages.{HasNoMessage, IsMessage, NeverHasMessage}
use Rattle.rb_lsp.proofs.CancelLaws.{none_of_never, none_of_no_message, none_of_no_more, only_later}
use Rattle.rb_lsp.proofs.rpc.message_reader.MessageReader.has_cancel.Goals as goal

pub loop-i-init : goal.loop-i-init
loop-i-init c = record { within = omega arith; all = λ waits. waits; left = λ waits. waits }

pub returns-then-found : goal.returns-then-found
returns-then-found c =
    let found = rw take_rest at c.in-Message.ensures in
    let cancels = rw take_rest at c.in_ok-found-in-Message.ensures in
    let here = subst (λ (l : List ℕ). CancelWaits c.args.id.now (MAX_WAITING - c.loop-i.i) (drop c.loop-i.at l)) c.deref.ensures.value
    (now _ _ _ _ (omega (arith, c.loop-i-test.true)) found.2 (cancels.0 c.if-found.true)) in
    (λ yes. c.loop-i.invariant.all here, λ waits. refl)

pub returns-in-Partial : goal.returns-in-Partial
returns-in-Partial c =
    let found = rw take_rest at c.in-Partial.ensures in
    (λ yes. absurd cc, λ waits. absurd (none_of_no_message _ _ _ (subst (λ (l : List ℕ). HasNoMessage (drop c.loop-i.at l)) c.deref.ensures.value found.0) (c.loop-i.invariant.left waits)))

pub returns-in-Bad : goal.returns-in-Bad
returns-in-Bad c =
    let found = rw take_rest at c.in-Bad.ensures in
    (λ yes. absurd cc, λ waits. absurd (none_of_never _ _ _ (subst (λ (l : List ℕ). NeverHasMessage (drop c.loop-i.at l)) c.deref.ensures.value found) (c.loop-i.invariant.left waits)))

pub returns : goal.returns
returns c = (λ yes. absurd cc, λ waits. absurd (none_of_no_more _ _ _ (omega (arith, c.loop-i-test.false)) (c.loop-i.invariant.left waits)))

pub loop-i-preserved : goal.loop-i-preserved
loop-i-preserved c =
    let id = c.args.id.now in
    let held = c.args.self.now.held.items in
    let i = c.loop-i.i in
    let at = c.loop-i.at in
    let stop = c.in-Message.end in
    let found = rw take_rest at c.in-Message.ensures in
    let cancels = rw take_rest at c.in_ok-found-in-Message.ensures in
    let less : MAX_WAITING - i - 1 ≡ MAX_WAITING - (i + 1) = omega arith in
    let there = λ (l : List ℕ). CancelWaits id (MAX_WAITING - (i + 1)) l in
    let message = subst (λ (l : List ℕ). IsMessage (drop at l) (slice_range (drop at c.deref.result.now) c.in-Message.start stop) (drop stop (drop at l))) c.deref.ensures.value found.2 in
    record {
      within = omega (arith, found.1, length-drop at c.deref.result.now, ap length c.deref.ensures.value, c.loop-i.invariant.within);
      all = λ waits. c.loop-i.invariant.all (later _ _ _ _ (omega (arith, c.loop-i-test.true)) message
          (subst (λ (n : ℕ). CancelWaits id n (drop stop (drop at held))) (sym less) (subst there (sym (drop-drop stop at held)) waits)));
      left = λ waits. subst there (drop-drop stop at held)
          (subst (λ (n : ℕ). CancelWaits id n (drop stop (drop at held))) less
          (only_later id _ _ _ _ message (λ yes. let no : true ≡ false = sym (cancels.1 yes) ∙ c.if-found.false in cc) (c.loop-i.invariant.left waits)));
    }
