-- Scripts of the bench that keep the premises of the laws: whoever is added, at whatever point, starts alike, and nobody proposes a change. Nodes may
-- restart; messages may be dropped, and delivered in any order; a snapshot may be sent by hand, and any node may campaign.
use Rattle.std.specs.Prelude.{◌≡◌, List, [], ◌∷◌, Result, Ok, Err}
use Rattle.rb_script.specs.Directive.{PlainDirective}
use Rattle.rb_script.specs.Script.{PlainScript}
use Rattle.rb_vocab.specs.declared.directive_error.DirectiveError.{DirectiveError}
use Rattle.rb_directive.specs.declared.requests.AddNodes.{AddNodes}
use Rattle.rb_directive.specs.declared.requests.Request.{Request}
use Rattle.rb_directive.specs.declared.requests.Request.TheVariants as requests
use Rattle.rb_directive.specs.declared.build.Asked.{Asked}
use Rattle.rb_directive.specs.Requests.{request}
use Rattle.rb_raftlog.specs.declared.snapshot.Snapshot.{Snapshot}
use Rattle.rb_machine.specs.AddNodes.{start}
use Rattle.rb_replay.specs.Run.{directives}

-- a request keeps the members, and adds nodes only where they start as is asked for
abbrev pub IsSteadyRequest : (Snapshot → Type 0) → Request → Type 0
IsSteadyRequest starts (requests.AddNodes asked) = starts (start asked)
IsSteadyRequest starts (requests.ProposeConfChange asked) = ⊥
IsSteadyRequest starts _ = Unit {0}

abbrev pub IsSteadyBy : (Snapshot → Type 0) → Result Asked DirectiveError → Type 0
IsSteadyBy starts (Ok a) = IsSteadyRequest starts a.request
IsSteadyBy starts (Err e) = Unit {0}

abbrev pub AreSteady : (Snapshot → Type 0) → List PlainDirective → Type 0
AreSteady starts [] = Unit {0}
AreSteady starts (d ∷ ds) = IsSteadyBy starts (request d) × AreSteady starts ds

-- all nodes of a script start with the voters and learners of one `add-nodes`
pub record HasSameMembers (s : PlainScript) : Type 0 where
  pub first : AddNodes
  pub steady : AreSteady (λ (from : Snapshot). from.config ≡ (start first).config) (directives s)

-- and with its index and content
pub record HasSameStarts (s : PlainScript) : Type 0 where
  pub first : AddNodes
  pub steady : AreSteady (λ (from : Snapshot). from ≡ start first) (directives s)
