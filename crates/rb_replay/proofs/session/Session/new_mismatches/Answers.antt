use Rattle.std.proofs.Common.{◌≡◌, ◌+◌, ◌-◌, ◌≤◌, ◌++◌, ap, ap₂, sym, ◌∙◌, ℕ, List, length, take, drop, map, arith}
use Rattle.std.specs.Prelude.{filter, nat_lt, nat_le}
use Rattle.std.proofs.lemmas.List.{take_rest, length-drop, length-take-le}
use Rattle.std.proofs.lemmas.List.Elements.{All-from_recursion}
use Rattle.std.proofs.lemmas.Result.{IfOk-weaker}
use Rattle.rb_script.specs.declared.limits.TheConstants.{MAX_DIRECTIVES}
use Rattle.rb_replay.specs.Report.{mismatches, differing}
use Rattle.rb_replay.proofs.PartLaws.{all-rest}
use Rattle.rb_replay.proofs.DifferingLaws.{mismatches-rising, mismatches-within, new_mismatches-differing}
use Rattle.rb_replay.proofs.FreshLaws.{held-mismatches}
use Rattle.rb_replay.proofs.session.Session.new_mismatches.Goals as goal

pub list_differing-requires-clause-within : goal.list_differing-requires-clause-within
list_differing-requires-clause-within g c =
    let held = length-drop c.args.compared.from c.args.new_outputs.now in
    let long = length-take-le (c.args.compared.to - c.args.compared.from) (drop c.args.compared.from c.args.new_outputs.now) (omega (arith, held, c.requires.there)) in
    omega (arith, long, c.requires.order, c.requires.new_mismatches.new_within)

pub count_below-front-requires : goal.count_below-front-requires
count_below-front-requires g c = rw (c.deref.ensures.value, c.self.invariant.compared) (mismatches-rising c.self.inside.script)

pub count_below-rest-requires : goal.count_below-rest-requires
count_below-rest-requires g c = rw (c.deref-2.ensures.value, c.self.invariant.compared) (mismatches-rising c.self.inside.script)

pub joined-requires-clause-small : goal.joined-requires-clause-small
joined-requires-clause-small g c =
    rw (c.deref-5.ensures.value, c.self.invariant.compared)
    (all-rest MAX_DIRECTIVES c.count_below-rest.result (mismatches c.self.inside.script)
    (All-from_recursion (λ (p : ℕ). p ≤ MAX_DIRECTIVES) (mismatches c.self.inside.script)
    (mismatches-within MAX_DIRECTIVES c.self.inside.script c.self.invariant.few)))

-- the parts that are joined
parts : (ms one three five : List ℕ) (front rest : ℕ) (a b : ℕ) (f : ℕ → ℕ) (fresh made : List ℕ) → one ≡ ms → three ≡ ms → five ≡ ms → fresh ≡ made
    → take front three ≡ filter (λ p. nat_lt p a) three → drop rest five ≡ filter (λ p. nat_le b p) five
    → take front one ++ (fresh ++ map f (take (length five - rest) (drop rest five))) ≡ filter (λ p. nat_lt p a) ms ++ (made ++ map f (filter (λ p. nat_le b p) ms))
parts ms one three five front rest a b f fresh made first third fifth new fronts rests =
    ap₂ (λ (x y : List ℕ). x ++ y) (ap (take front) (first ∙ sym third) ∙ fronts ∙ ap (filter (λ p. nat_lt p a)) third)
    (ap₂ (λ (x y : List ℕ). x ++ map f y) new (take_rest five rest ∙ rests ∙ ap (filter (λ p. nat_le b p)) fifth))

pub returns : goal.returns
returns g c =
    let held : c.self.inside.mismatches.items ≡ mismatches c.args.self.now.script = held-mismatches c.self.view_is c.self.invariant in
    let rests : drop c.count_below-rest.result c.deref-5.result.now ≡ filter (λ p. nat_le (c.args.compared.old_stop + 1) p) c.deref-5.result.now =
    rw (c.deref-2.ensures.value ∙ sym c.deref-5.ensures.value) at c.count_below-rest.ensures.rest in
    IfOk-weaker c.joined.result _ _
    (λ v e. e ∙ parts (mismatches c.args.self.now.script) c.deref-3.result.now c.deref.result.now c.deref-5.result.now c.count_below-front.result c.count_below-rest.result (c.args.compared.from + 1) (c.args.compared.old_stop + 1)
    (λ (p : ℕ). p - c.args.splice.old_rest + c.args.splice.new_rest) c.deref-4.result.now
    (differing (c.args.compared.from + 1) (drop c.args.compared.from c.args.new.now.blocks) (take (c.args.compared.to - c.args.compared.from) (drop c.args.compared.from c.args.new_outputs.now)))
    (c.deref-3.ensures.value ∙ held) (c.deref.ensures.value ∙ held) (c.deref-5.ensures.value ∙ held) (c.deref-4.ensures.value ∙ c.in_ok-fresh.ensures) c.count_below-front.ensures.front rests
    ∙ new_mismatches-differing c.args.self.now.script c.args.new.now c.args.splice c.args.compared.from
    (take (c.args.compared.to - c.args.compared.from) (drop c.args.compared.from c.args.new_outputs.now)) c.args.compared.old_stop c.requires.new_mismatches) c.joined.ensures
