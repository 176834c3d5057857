-- A cancellation among the messages that are left is one among all that wait.
use Rattle.std.proofs.Common.{◌≤◌, ◌-◌, length, drop}
use Rattle.rb_lsp.specs.declared.rpc.limits.TheConstants.{MAX_WAITING}
use Rattle.rb_lsp.specs.Cancels.{CancelWaits}
use Rattle.rb_lsp.proofs.rpc.message_reader.MessageReader.has_cancel.Given as goal

abbrev pub invariant-loop-i : goal.invariant-loop-i
invariant-loop-i l = record {
  within : l.at ≤ length l.self.held.items;
  all : CancelWaits l.id (MAX_WAITING - l.i) (drop l.at l.self.held.items) → CancelWaits l.id MAX_WAITING l.self.held.items;
  left : CancelWaits l.id MAX_WAITING l.self.held.items → CancelWaits l.id (MAX_WAITING - l.i) (drop l.at l.self.held.items);
}
