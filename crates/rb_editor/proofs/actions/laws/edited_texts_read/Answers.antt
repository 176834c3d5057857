use Rattle.rb_editor.proofs.AppliedLaws.{edited_text}
use Rattle.rb_editor.proofs.actions.laws.edited_texts_read.Goals as goal

pub returns : goal.returns
returns c = edited_text
