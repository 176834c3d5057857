use Rattle.rb_program.proofs.WrittenLaws.{page_ended, page_failed, page_refused, no_page_ends, no_page_fails}
use Rattle.rb_program.proofs.laws.pages_are_one.Goals as goal

pub returns-clause-ended : goal.returns-clause-ended
returns-clause-ended c = page_ended

pub returns-clause-refused : goal.returns-clause-refused
returns-clause-refused c = page_refused

pub returns-clause-failed : goal.returns-clause-failed
returns-clause-failed c = page_failed

pub returns-clause-none : goal.returns-clause-none
returns-clause-none c = no_page_ends

pub returns-clause-unfailed : goal.returns-clause-unfailed
returns-clause-unfailed c = no_page_fails
