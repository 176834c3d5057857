use Rattle.std.proofs.Common.{rules, ◌≡◌, ◌≤◌, ◌<◌, ◌++◌, ◌∷◌, [], length, sym, subst, refl}
use Rattle.rb_script.specs.declared.limits.TheConstants.{MAX_LINE}
use Rattle.rb_text.specs.Begun.{Holds}
use Rattle.rb_text.proofs.BegunLaws.{holds_push, holds_return, long_push}
use Rattle.rb_text.proofs.line_buffer.LineBuffer.push.Goals as goal

pub returns-then-len-lt-MAX_LINE : goal.returns-then-len-lt-MAX_LINE
returns-then-len-lt-MAX_LINE c = λ begun holds.
    let pushed : c.push.new.self.items ≡ c.args.self.now ++ c.args.byte ∷ [] = search rules in
    let room : length c.args.self.now < MAX_LINE = search rules in
    subst (Holds (begun ++ c.args.byte ∷ [])) (sym pushed) (holds_push begun _ c.args.byte holds c.if-byte-eq10.false room)

pub returns-then-byte-eq13 : goal.returns-then-byte-eq13
returns-then-byte-eq13 c = λ begun holds.
    let full : MAX_LINE ≤ length c.args.self.now = search rules in
    holds_return begun _ c.args.byte holds c.if-byte-eq13.true full

pub returns-else-byte-eq13 : goal.returns-else-byte-eq13
returns-else-byte-eq13 c = λ begun holds.
    let full : MAX_LINE ≤ length c.args.self.now = search rules in
    (long_push begun _ c.args.byte holds c.if-byte-eq10.false c.if-byte-eq13.false full, refl)
