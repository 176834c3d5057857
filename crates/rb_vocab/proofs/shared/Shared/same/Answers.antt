use Rattle.std.proofs.lemmas.Slice.Eq.{slice_eq-Decides}
use Rattle.rb_vocab.proofs.shared.Shared.same.Goals as goal

pub returns : goal.returns
returns g c =
    let told = slice_eq-Decides c.requires c.as_slice.result.now c.as_slice-2.result.now c.eq.result c.eq.ensures in
    rw (← c.as_slice.ensures, ← c.as_slice-2.ensures) told
