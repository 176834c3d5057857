-- `==`, as it is derived or written here, decides equality.
use Rattle.std.specs.Prelude.{◌≡◌, ℕ, List, ◌==◌}
use Rattle.std.specs.Bool.{Decides}
use Rattle.std.specs.Cmp.{unsigned_Decides}
use Rattle.std.specs.Cmp.Lexicographic.{pointwise, pointwise_decides}
use Rattle.std.proofs.Common.{rules}
use Rattle.rb_vocab.specs.declared.change.Transition.{Transition}
use Rattle.rb_vocab.specs.declared.change.Word.{Word}
use Rattle.rb_vocab.specs.declared.change.WordKind.{WordKind}
use Rattle.rb_vocab.specs.declared.conf_state.ConfState.{ConfState}
use Rattle.rb_vocab.specs.contracts.change.TransitionPartialEq.TheImpl as transition
use Rattle.rb_vocab.specs.contracts.change.WordPartialEq.TheImpl as word
use Rattle.rb_vocab.specs.contracts.change.WordKindPartialEq.TheImpl as word_kind
use Rattle.rb_vocab.specs.contracts.conf_state.ConfStatePartialEq.TheImpl as conf_state

pub transitions_decide : (x y : Transition) → Decides (transition.eq-value.it x y) (x ≡ y)
transitions_decide = search rules

word_kinds_decide : (x y : WordKind) → Decides (word_kind.eq-value.it x y) (x ≡ y)
word_kinds_decide = search rules

pub words_decide : (x y : Word) → Decides (word.eq-value.it x y) (x ≡ y)
words_decide x y = search (rules, word_kinds_decide)

pub numbers_decide : (xs ys : List ℕ) → Decides (pointwise ◌==◌ xs ys) (xs ≡ ys)
numbers_decide = pointwise_decides unsigned_Decides

pub conf_states_decide : (x y : ConfState) → Decides (conf_state.eq-value.it x y) (x ≡ y)
conf_states_decide x y = search (rules, numbers_decide)
