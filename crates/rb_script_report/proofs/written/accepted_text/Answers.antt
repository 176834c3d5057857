use Rattle.std.proofs.Common.{◌≡◌, ◌∙◌, ℕ, List, length, ap, sym}
use Rattle.rb_script.specs.Lines.{Line}
use Rattle.rb_script.specs.Script.{PlainScript, with_outputs}
use Rattle.rb_script.proofs.ScriptLaws.{reads_once}
use Rattle.rb_replay.specs.Run.{outputs}
use Rattle.rb_script_report.specs.Accepting.{accepted_of}
use Rattle.rb_script_report.specs.Splices.{spliced}
use Rattle.rb_script_report.proofs.AcceptLaws.{accepted_len}
use Rattle.rb_script_report.proofs.ShownLaws.{outputs_len}
use Rattle.rb_script_report.proofs.SpliceLaws.{written_same}
use Rattle.rb_script_report.proofs.written.accepted_text.Goals as goal

pub spliced-requires-clause-expected : goal.spliced-requires-clause-expected
spliced-requires-clause-expected g c =
    let s = c.args.session.now.script in
    let heads = c.as_slice-heads.result.now in
    let count : length heads ≡ length s.blocks = ap length c.as_slice-heads.ensures.value ∙ c.requires.heads_are.count in
    ap length c.in_ok-expected.ensures ∙ accepted_len c.args.wanted c.args.layout.now.text heads s.blocks (outputs s) count (outputs_len s)

pub expecting-requires : goal.expecting-requires
expecting-requires g c = λ t reads.
    let s = c.args.session.now.script in
    let heads = c.as_slice-heads.result.now in
    let count : length heads ≡ length s.blocks = ap length c.as_slice-heads.ensures.value ∙ c.requires.heads_are.count in
    let same : s ≡ t = reads_once c.args.bytes.now s t c.requires.reads reads in
    ap length c.in_ok-expected.ensures ∙ accepted_len c.args.wanted c.args.layout.now.text heads s.blocks (outputs s) count (outputs_len s)
    ∙ ap (λ (x : PlainScript). length x.blocks) same

pub refusal-requires : goal.refusal-requires
refusal-requires g c =
    let s = c.args.session.now.script in
    let heads = c.as_slice-heads.result.now in
    let count : length heads ≡ length s.blocks = ap length c.as_slice-heads.ensures.value ∙ c.requires.heads_are.count in
    count ∙ sym (ap length c.in_ok-expected.ensures ∙ accepted_len c.args.wanted c.args.layout.now.text heads s.blocks (outputs s) count (outputs_len s))

pub returns-in-Ok-clause-bytes : goal.returns-in-Ok-clause-bytes
returns-in-Ok-clause-bytes g c =
    let s = c.args.session.now.script in
    let layout = c.args.layout.now in
    let expected = c.in_ok-expected.ensures ∙ ap (λ (hs : List ℕ). accepted_of c.args.wanted layout.text hs s.blocks (outputs s)) c.as_slice-heads.ensures.value in
    written_same _ _ _ _ _ (c.in_ok-own.ensures ∙ ap (λ (es : List (List Line)). spliced c.args.bytes.now layout.heads.items s.blocks es) expected)
    (c.in-Ok.ensures.made s c.requires.reads ∙ ap (λ (es : List (List Line)). with_outputs s es) expected) c.in_ok-chosen-in-Ok.ensures.bytes
