use Rattle.std.proofs.Common.{◌≡◌, ◌⊎◌, true, inl, inr}
use Rattle.rb_raftlog.specs.Log.{term_at, is_term}
use Rattle.rb_calls.specs.Calling.{run}
use Rattle.rb_calls.proofs.CallLaws.{runs}
use Rattle.rb_laws.proofs.node.laws.leaders_commit_own_terms.Goals as goal

pub returns : goal.returns
returns c = λ cs t sound first end same.
    (let new = (run cs t).node in
    elim (((runs cs t).goes sound).commits first end same) as (λ _. (new.commit ≡ t.node.commit) ⊎ (is_term (term_at new.log new.commit) t.node.term ≡ true)) [
      | inl stays ↦ inl stays
      | inr rose ↦ inr (rw same at rose)
    ])
