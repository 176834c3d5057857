use Rattle.std.proofs.Common.{◌≡◌, None, arith, rules, subst}
use Rattle.rb_lsp.specs.Heads.{IsHead}
use Rattle.rb_lsp.proofs.MessageLaws.{no_length, too_long, no_body, a_message}
use Rattle.rb_lsp.proofs.rpc.head.body_at.Goals as goal
use Rattle.rb_lsp.proofs.rpc.head.body_at.Goals.{then-start-gt-MAX_HEAD-via-then-start-gt-MAX_HEAD, then-start-gt-MAX_HEAD-via-else-start-gt-MAX_HEAD+then-len}

pub returns-in_default : goal.returns-in_default
returns-in_default c =
    let none : c.args.told ≡ None = search rules in
    no_length c.args.bytes.now c.args.start (subst (IsHead c.args.bytes.now c.args.start) none c.requires)

pub returns-then-start-gt-MAX_HEAD : goal.returns-then-start-gt-MAX_HEAD
returns-then-start-gt-MAX_HEAD c =
    let head = subst (IsHead c.args.bytes.now c.args.start) c.in-Some.is c.requires in
    elim c.then-start-gt-MAX_HEAD.branch [
      | then-start-gt-MAX_HEAD-via-then-start-gt-MAX_HEAD w ↦ too_long _ _ _ head (λ small. w.if-start-gt-MAX_HEAD.true)
      | then-start-gt-MAX_HEAD-via-else-start-gt-MAX_HEAD+then-len w ↦ too_long _ _ _ head (λ small. absurd (omega (arith, w.if-len.true)))
    ]

pub returns-then-bytes-start : goal.returns-then-bytes-start
returns-then-bytes-start c =
    let head = subst (IsHead c.args.bytes.now c.args.start) c.in-Some.is c.requires in
    (no_body _ _ _ head c.if-bytes-start.true, omega arith)

pub returns : goal.returns
returns c =
    let head = subst (IsHead c.args.bytes.now c.args.start) c.in-Some.is c.requires in
    (omega arith, omega (arith, c.requires.within), a_message _ _ _ head c.if-start-gt-MAX_HEAD.false c.if-len.false c.if-bytes-start.false)
