use Rattle.std.proofs.Common.{◌≡◌, ◌∙◌, ℕ, List, ap}
use Rattle.std.specs.Prelude.{slice_get}
use Rattle.rb_editor.proofs.StopLaws.{got_at, head_of_read}
use Rattle.rb_editor.proofs.actions.stopping.head_line.Goals as goal

pub returns-in-Ok : goal.returns-in-Ok
returns-in-Ok c =
    let read = c.in-Ok.read in
    let got : c.copied.result ≡ slice_get c.deref.result.now c.args.index = c.copied.ensures ∙ got_at c.get.result c.deref.result.now c.args.index c.get.ensures.lookup.1 c.get.ensures.lookup.3 in
    head_of_read c.args.text.now read.script read.heads.items c.args.index c.copied.result c.in-Ok.ensures.found c.in-Ok.ensures.heads
    (got ∙ ap (λ (heads : List ℕ). slice_get heads c.args.index) c.deref.ensures.value)
