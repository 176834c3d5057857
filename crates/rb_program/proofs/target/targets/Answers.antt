use Rattle.std.proofs.Common.{◌∙◌, ◌+◌, ℕ, List, [], ◌∷◌, ◌++◌, Option, String, take, sym, ap, subst, arith, string_bytes}
use Rattle.std.specs.declared.alloc.Global.{Global}
use Rattle.std.proofs.lemmas.List.{take_all, take_more}
use Rattle.rb_check.specs.declared.target.Target.{Target}
use Rattle.rb_program.specs.declared.path_kind.PathKind.{PathKind}
use Rattle.rb_program.specs.Targets.{AreNamed, Names}
use Rattle.rb_program.proofs.target.targets.Goals as goal

one_more : (tells : List ℕ → PathKind → Type 0) (words : List (String Global)) (targets : List Target) (word : String Global) (target : Target)
    → AreNamed tells words targets → Names tells (string_bytes word) (string_bytes target.path) target.line → AreNamed tells (words ++ word ∷ []) (targets ++ target ∷ [])
one_more tells [] [] word target are named = (named, tt)
one_more tells [] (t ∷ ts) word target are named = absurd are
one_more tells (w ∷ ws) [] word target are named = absurd are
one_more tells (w ∷ ws) (t ∷ ts) word target are named = (are.0, one_more tells ws ts word target are.1 named)

pub loop-word-init : goal.loop-word-init
loop-word-init g c = subst (λ (ts : List Target). AreNamed (g.S.PathKinds.tells_kind c.args.system.now) [] ts) (sym c.new-all.ensures.items) tt

pub loop-word-preserved : goal.loop-word-preserved
loop-word-preserved g c =
    let tells = g.S.PathKinds.tells_kind c.args.system.now in
    let words = c.args.words.now in
    let i = c.loop-word.word-index in
    let word = c.word-item.result in
    let target = c.in_ok-target.target in
    let of_word = subst (λ (w : List ℕ). Names tells w c.named-line.result.0.now c.named-line.result.1) c.as_str.ensures.value c.named-line.ensures in
    let of_path = subst (λ (p : List ℕ). Names tells (string_bytes word) p c.named-line.result.1) (sym c.in_ok-target.ensures.0) of_word in
    let named = subst (λ (l : Option ℕ). Names tells (string_bytes word) (string_bytes target.path) l) (sym c.in_ok-target.ensures.1) of_path in
    let grown = one_more tells (take i words) c.loop-word.all.items word target c.loop-word.invariant named in
    subst (λ (ts : List Target). AreNamed tells (take (i + 1) words) ts) (sym c.in_ok-push.ensures.items)
    (subst (λ (ws : List (String Global)). AreNamed tells ws (c.loop-word.all.items ++ target ∷ [])) (ap (λ (w : String Global). take i words ++ w ∷ []) c.word-item.is ∙ sym (take_more words i word c.loop-word-test.true)) grown)

pub returns : goal.returns
returns g c =
    subst (λ (ws : List (String Global)). AreNamed (g.S.PathKinds.tells_kind c.args.system.now) ws c.loop-word.all.items)
    (take_all _ c.args.words.now (omega (arith, c.loop-word-test.false))) c.loop-word.invariant
