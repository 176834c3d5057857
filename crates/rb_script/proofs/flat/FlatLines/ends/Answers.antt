use Rattle.std.proofs.Common.{◌∙◌, ap}
use Rattle.rb_script.specs.Flat.{ends_of}
use Rattle.rb_script.proofs.flat.FlatLines.ends.Goals as goal

pub returns : goal.returns
returns c = c.as_slice.ensures ∙ c.self.invariant.ends_are ∙ ap (ends_of 0) c.self.view_is
