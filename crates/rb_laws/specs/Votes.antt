-- Votes, as a network shows them, and who is chosen by them (Ongaro's thesis, section 3.4)
use Rattle.std.specs.Prelude.{ℕ, ◌≡◌, true, List, Contains}
use Rattle.rb_tracker.specs.Ballots.{vote_result}
use Rattle.rb_tracker.specs.Sets.{has}
use Rattle.rb_tracker.specs.declared.config.Config.{Config}
use Rattle.rb_tracker.specs.declared.votes.Votes.{Votes}
use Rattle.rb_tracker.specs.declared.votes.VoteResult.TheVariants.{Won}
use Rattle.rb_message.specs.declared.message.Message.{Message}
use Rattle.rb_calls.specs.Words.{IsYes}

-- a vote was cast: an answer that was put out gives it
pub record IsCast (said : List Message) (voter term candidate : ℕ) : Type 0 where
  pub answer : Message
  pub among : Contains said answer
  pub gives : IsYes answer
  pub by : answer.from ≡ voter
  pub of_term : answer.term ≡ term
  pub for_it : answer.to ≡ candidate

-- votes win an election, and each was cast for the node
pub record IsChosen (config : Config) (said : List Message) (id term : ℕ) : Type 0 where
  pub votes : Votes
  pub won : vote_result config votes ≡ Won
  pub cast : (voter : ℕ) → has votes.granted voter ≡ true → IsCast said voter term id
