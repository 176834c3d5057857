-- What `raft-log` prints of a node in a script
use Rattle.std.specs.Prelude.{ℕ, ◌≡◌, ◌-◌, ◌<◌, List, Some, Ok, slice_get}
use Rattle.std.specs.Option.{unwrap_or}
use Rattle.rb_script.specs.Directive.{PlainDirective}
use Rattle.rb_script.specs.Lines.{Line}
use Rattle.rb_script.specs.Script.{PlainScript}
use Rattle.rb_vocab.specs.declared.level.Level.TheVariants as levels
use Rattle.rb_directive.specs.declared.requests.Request.TheVariants.{RaftLog}
use Rattle.rb_directive.specs.declared.build.Asked.{Asked}
use Rattle.rb_directive.specs.Requests.{request}
use Rattle.rb_node.specs.Node.{PlainNode}
use Rattle.rb_replay.specs.Run.{directives, outputs, state}

-- the directive at a point is a `raft-log` of a node, at any level but none, and these are its lines
pub record PrintsLog (s : PlainScript) (p : ℕ) (n : PlainNode) (lines : List Line) : Type 0 where
  pub directive : PlainDirective
  pub at : slice_get (directives s) p ≡ Some directive
  pub asked : Asked
  pub asks : request directive ≡ Ok asked
  pub id : ℕ
  pub some : 0 < id
  pub is : asked.request ≡ RaftLog id
  pub node : slice_get (state s p).nodes (id - 1) ≡ Some n
  pub shown : unwrap_or asked.log_level (state s p).level ≡ levels.None → ⊥
  pub prints : slice_get (outputs s) p ≡ Some lines
