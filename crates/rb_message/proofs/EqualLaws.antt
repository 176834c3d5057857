-- `==`, as it is derived for kinds of messages, decides equality.
use Rattle.std.specs.Prelude.{◌≡◌}
use Rattle.std.specs.Bool.{Decides}
use Rattle.std.proofs.Common.{rules}
use Rattle.rb_vocab.proofs.DeriveLaws.{values_decide, one}
use Rattle.rb_raftlog.proofs.EqualLaws.{bodies_decide, snapshots_decide}
use Rattle.rb_message.specs.declared.kind.MessageKind.{MessageKind}
use Rattle.rb_message.specs.contracts.kind.MessageKind.{enum}
use Rattle.rb_message.specs.contracts.kind.MessageKindPartialEq.TheImpl as kind
use Rattle.rb_message.proofs.AppendLaws.{appends_decide}

-- a proof for each kind, in their order
pub kinds_decide : (x y : MessageKind) → Decides (kind.eq-value.it x y) (x ≡ y)
kinds_decide = values_decide enum _ (
  search rules,
  (
    search rules,
    (
      search rules,
      (
        search rules,
        (
          one appends_decide,
          (
            search rules,
            (
              search rules,
              (
                search rules,
                (
                  search rules,
                  (
                    one snapshots_decide,
                    (
                      one bodies_decide,
                      (
                        search rules,
                        (
                          search rules,
                          tt,
                        ),
                      ),
                    ),
                  ),
                ),
              ),
            ),
          ),
        ),
      ),
    ),
  ),
)
