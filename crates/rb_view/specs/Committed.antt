-- What a directive keeps of logs: what a node knows to be committed is never changed, whatever becomes of it, unless the node restarts. (Ongaro's
-- thesis, section 3.5: entries that are committed are durable, and are applied by all nodes in the end.)
use Rattle.std.specs.Prelude.{◌≡◌, ℕ, Bool, true, false, ◌&&◌, not, nat_le, ◌<◌, ◌≤◌, List, Some, Result, Ok, Err, if◌then◌else◌, slice_get}
use Rattle.std.specs.List.{list_all}
use Rattle.rb_script.specs.Directive.{PlainDirective}
use Rattle.rb_vocab.specs.declared.directive_error.DirectiveError.{DirectiveError}
use Rattle.rb_directive.specs.declared.build.Asked.{Asked}
use Rattle.rb_directive.specs.declared.requests.Request.{Request}
use Rattle.rb_directive.specs.declared.requests.Request.TheVariants as requests
use Rattle.rb_directive.specs.Requests.{request}
use Rattle.rb_raftlog.specs.Log.{LogValue, entry_at, last}
use Rattle.rb_node.specs.Node.{PlainNode}
use Rattle.rb_calls.specs.Sound.{IsSound}

-- the indexes of each node are in order
abbrev pub AreSound : List PlainNode → Type 0
AreSound nodes = (k : ℕ) (n : PlainNode) → slice_get nodes k ≡ Some n → IsSound n

-- the entries of a log up to an index that it has are those of before, but for what was compacted
pub record IsKept (old new : LogValue) (index : ℕ) : Type 0 where
  pub base : old.base ≤ new.base
  pub held : index ≤ last old
  pub entries : (i : ℕ) → i ≤ index → new.base < i → entry_at new i ≡ entry_at old i

-- those of each node, up to what it knew to be committed
abbrev pub AreKept : List PlainNode → List PlainNode → Type 0
AreKept olds news = (k : ℕ) (old new : PlainNode) → slice_get olds k ≡ Some old → slice_get news k ≡ Some new → IsKept old.log new.log old.commit

-- ---- which directives keep it

abbrev pub is_restart : Request → Bool
is_restart (requests.Restart ids) = true
is_restart r = false

abbrev pub restarts_by : Result Asked DirectiveError → Bool
restarts_by (Ok a) = is_restart a.request
restarts_by (Err e) = false

-- a node that restarts loses what it hasn't saved, and may have known it to be committed
unfoldable pub restarts : PlainDirective → Bool
restarts d = restarts_by (request d)

-- the indexes of a node are in order, as a test
abbrev pub is_sound : PlainNode → Bool
is_sound n =
    nat_le n.log.base n.applied && nat_le n.applied n.log.durable && nat_le n.log.durable (last n.log) && nat_le n.applied n.commit && nat_le n.commit (last n.log)

-- what these nodes know to be committed stays
abbrev pub keeps_commits : List PlainNode → PlainDirective → Bool
keeps_commits nodes d = not (restarts d) && list_all is_sound nodes

-- the index up to which a node's entries are known to stay, if what is committed does
abbrev pub known : Bool → PlainNode → ℕ
known keeps n = if keeps then n.commit else 0
