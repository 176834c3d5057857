use Rattle.std.proofs.Common.{◌≡◌, ◌∙◌, not, ◌==◌, ap, rules}
use Rattle.rb_tracker.specs.Sets.{without}
use Rattle.rb_tracker.proofs.SetLaws.{ascending_filter, kept_is_filter}
use Rattle.rb_tracker.proofs.id_set.IdSet.remove.Goals as goal

taken : (c : goal.After-retain) → c.retain.new.self.items ≡ without c.self.inside.ids.items c.args.id
taken c = kept_is_filter _ (λ x. not (x == c.args.id)) _ (λ x b g y called. search rules) _ _ c.retain.ensures.filtered

pub invariant_of-self : goal.invariant_of-self
invariant_of-self c = rw (taken c) (ascending_filter (λ x. not (x == c.args.id)) c.self.inside.ids.items c.self.invariant)

pub returns : goal.returns
returns c = taken c ∙ ap (λ xs. without xs c.args.id) c.self.view_is
