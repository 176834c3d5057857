use Rattle.std.proofs.Common.{◌≡◌, ◌∙◌, ℕ, false, List, ap}
use Rattle.std.proofs.lemmas.Bool.{lt-leb}
use Rattle.rb_replay.specs.Run.{outputs}
use Rattle.rb_script_report.specs.Accepting.{is_picked, picked_unnamed, up_to_first}
use Rattle.rb_script_report.proofs.AcceptLaws.{stays}
use Rattle.rb_script_report.proofs.laws.echoes_are_left.Goals as goal

pub returns : goal.returns
returns c = λ ls heads left s first k line b o some h hb ho below.
    let picked = picked_unnamed false ls heads s in
    let none : is_picked picked line ≡ false = ap (λ (hs : List ℕ). is_picked (up_to_first hs) line) some ∙ lt-leb line first below in
    stays (record { picked = picked; errors = false }) ls heads s.blocks (outputs s) k line b o h hb ho none
