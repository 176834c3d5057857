use Rattle.rb_program.proofs.document.page.Goals as goal

pub returns : goal.returns
returns g c = (c.write_document-page.result, c.write_document-page.ensures, c.unless_refused.ensures)
