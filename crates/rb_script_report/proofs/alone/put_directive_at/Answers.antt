use Rattle.std.proofs.Common.{◌≡◌, ◌∙◌, ◌<◌, ℕ, Bool, true, false, cond, List, [], Some, get_or, length, ap, sym, refl, arith}
use Rattle.std.specs.Prelude.{slice_get}
use Rattle.std.proofs.lemmas.Option.{slice_get-get_or}
use Rattle.rb_script.specs.Directive.{PlainDirective}
use Rattle.rb_script.specs.Lines.{Line}
use Rattle.rb_script.specs.Tokens.{plain}
use Rattle.rb_text.proofs.SentLaws.{sent_all, sent_none, writes_along}
use Rattle.rb_replay.specs.Report.{same_lines}
use Rattle.rb_report.specs.Heads.{head_text}
use Rattle.rb_report.specs.Headings.{note_text}
use Rattle.rb_report.specs.Hints.{PlainHint, hint_text, plain_hint}
use Rattle.rb_report.specs.Whys.{reasons_in, told_run}
use Rattle.rb_report.proofs.CellLaws.{always, then_is}
use Rattle.rb_script_report.specs.Checked.{head_of, hint_of, match_shown}
use Rattle.rb_script_report.specs.Errors.{first_line, is_unexpected}
use Rattle.rb_script_report.specs.Whys.{why_at, told_differing, told_directive, told_match}
use Rattle.rb_script_report.proofs.WhyLaws.{told-is, left-is, alone-is, on-is, told-differing, told-matching, leaves-after, leaves-all}
use Rattle.rb_script_report.proofs.alone.put_directive_at.Goals as goal

pub returns-then-not-is_same-clause-wrote : goal.returns-then-not-is_same-clause-wrote
returns-then-not-is_same-clause-wrote g c =
    let run = c.args.run.now in
    let s = run.session.now.script in
    let v = c.args.view in
    let left : ℕ = c.args.table.now.left in
    let all = c.args.all in
    let text = run.layout.now.text in
    let path = v.path.now in
    let whys = run.whys.now in
    let heads = run.layout.now.heads.items in
    let i : ℕ = c.args.index in
    let line : ℕ = get_or heads i 0 in
    let b = c.block_at-block.result.now in
    let o = c.output_at-output.result.now in
    let why : List Line = why_at whys i in
    let head : slice_get heads i ≡ Some line = slice_get-get_or heads i 0 (omega (arith, c.requires.count, c.requires.within)) in
    let other : same_lines b.expected o ≡ false = ap (λ (ls : List Line). same_lines ls o) (sym c.expected.ensures) ∙ sym c.is_same.ensures ∙ c.if-not-is_same.true in
    writes_along _ _ _ _ _
    (sym (told-is left all v.colors path whys heads s i line b o why head c.block_at-block.ensures c.output_at-output.ensures refl)
    ∙ told-differing left all v.colors text path line b o why other
    ∙ alone-is left all v.colors text path whys heads s i line b o why head c.block_at-block.ensures c.output_at-output.ensures refl)
    c.put_mismatch_at.ensures.wrote

pub returns-then-not-is_same-clause-left : goal.returns-then-not-is_same-clause-left
returns-then-not-is_same-clause-left g c =
    let s = c.args.run.now.session.now.script in
    let left : ℕ = c.args.table.now.left in
    let b = c.block_at-block.result.now in
    let o = c.output_at-output.result.now in
    let i : ℕ = c.args.index in
    let other : same_lines b.expected o ≡ false = ap (λ (ls : List Line). same_lines ls o) (sym c.expected.ensures) ∙ sym c.is_same.ensures ∙ c.if-not-is_same.true in
    then_is c.put_mismatch_at.result c.put_mismatch_at.new.table.left _ _ c.put_mismatch_at.ensures.left
    (sym (left-is left s i b o c.block_at-block.ensures c.output_at-output.ensures) ∙ leaves-after left b o other ∙ on-is left s i b o c.block_at-block.ensures c.output_at-output.ensures)

pub returns-then-all-clause-wrote : goal.returns-then-all-clause-wrote
returns-then-all-clause-wrote g c =
    let run = c.args.run.now in
    let s = run.session.now.script in
    let v = c.args.view in
    let left : ℕ = c.args.table.now.left in
    let all = c.args.all in
    let text = run.layout.now.text in
    let path = v.path.now in
    let heads = run.layout.now.heads.items in
    let i : ℕ = c.args.index in
    let b = c.block_at-block.result.now in
    let o = c.output_at-output.result.now in
    let line : ℕ = c.number_at-line.result in
    let why : List Line = reasons_in c.why_at-why.result in
    let head : slice_get heads i ≡ Some line = sym (ap (λ (hs : List ℕ). slice_get hs i) c.as_slice.ensures.value) ∙ c.number_at-line.ensures in
    let same : same_lines b.expected o ≡ true = ap (λ (ls : List Line). same_lines ls o) (sym c.expected.ensures) ∙ sym c.is_same.ensures ∙ c.if-not-is_same.false in
    let shown : told_run path line (head_text (plain c.directive.result)) o why (hint_text (plain_hint c.hint_of-hint.result)) ≡ told_match true text path line b o why = cc in
    writes_along _ _ _ _ _
    (shown ∙ ap (λ (t : Bool). told_match t text path line b o why) (sym c.if-all.true) ∙ told-matching left all v.colors text path line b o why same
    ∙ alone-is left all v.colors text path run.whys.now heads s i line b o why head c.block_at-block.ensures c.output_at-output.ensures c.why_at-why.ensures)
    c.put_run.ensures.wrote

pub returns-then-all-clause-left : goal.returns-then-all-clause-left
returns-then-all-clause-left g c =
    let b = c.block_at-block.result.now in
    let o = c.output_at-output.result.now in
    let same : same_lines b.expected o ≡ true = ap (λ (ls : List Line). same_lines ls o) (sym c.expected.ensures) ∙ sym c.is_same.ensures ∙ c.if-not-is_same.false in
    always _ (leaves-all c.args.table.now.left b o same ∙ on-is c.args.table.now.left c.args.run.now.session.now.script c.args.index b o c.block_at-block.ensures c.output_at-output.ensures)

pub returns-then-is_unexpected-clause-wrote : goal.returns-then-is_unexpected-clause-wrote
returns-then-is_unexpected-clause-wrote g c =
    let run = c.args.run.now in
    let s = run.session.now.script in
    let v = c.args.view in
    let left : ℕ = c.args.table.now.left in
    let all = c.args.all in
    let text = run.layout.now.text in
    let path = v.path.now in
    let whys = run.whys.now in
    let heads = run.layout.now.heads.items in
    let i : ℕ = c.args.index in
    let b = c.block_at-block.result.now in
    let o = c.output_at-output.result.now in
    let line : ℕ = c.number_at-line.result in
    let why : List Line = why_at whys i in
    let head : slice_get heads i ≡ Some line = sym (ap (λ (hs : List ℕ). slice_get hs i) c.as_slice.ensures.value) ∙ c.number_at-line.ensures in
    let same : same_lines b.expected o ≡ true = ap (λ (ls : List Line). same_lines ls o) (sym c.expected.ensures) ∙ sym c.is_same.ensures ∙ c.if-not-is_same.false in
    let note = note_text path line (head_text (plain c.directive-then-is_unexpected.result)) c.first_line.result.now (hint_text (plain_hint c.hint_of-hint-then-is_unexpected.result)) in
    let named : is_unexpected text line o ≡ true = sym c.is_unexpected.ensures ∙ c.if-is_unexpected.true in
    let hint = plain_hint c.hint_of-hint-then-is_unexpected.result in
    let shown : note ≡ note_text path line (head_of b) (first_line o) (hint_of b o)
    = ap (λ (d : PlainDirective). note_text path line (head_text d) c.first_line.result.now (hint_text hint)) c.directive-then-is_unexpected.ensures.whole
    ∙ ap (λ (l : List ℕ). note_text path line (head_of b) l (hint_text hint)) c.first_line.ensures
    ∙ ap (λ (h : PlainHint). note_text path line (head_of b) (first_line o) (hint_text h)) c.hint_of-hint-then-is_unexpected.ensures in
    let matched : note_text path line (head_of b) (first_line o) (hint_of b o) ≡ match_shown false text path line b o = rw named refl in
    writes_along _ _ _ _ _
    (shown ∙ matched ∙ ap (λ (t : Bool). told_match t text path line b o why) (sym c.if-all.false) ∙ told-matching left all v.colors text path line b o why same
    ∙ alone-is left all v.colors text path whys heads s i line b o why head c.block_at-block.ensures c.output_at-output.ensures refl)
    c.put_note.ensures.wrote

pub returns-then-is_unexpected-clause-left : goal.returns-then-is_unexpected-clause-left
returns-then-is_unexpected-clause-left g c =
    let b = c.block_at-block.result.now in
    let o = c.output_at-output.result.now in
    let same : same_lines b.expected o ≡ true = ap (λ (ls : List Line). same_lines ls o) (sym c.expected.ensures) ∙ sym c.is_same.ensures ∙ c.if-not-is_same.false in
    always _ (leaves-all c.args.table.now.left b o same ∙ on-is c.args.table.now.left c.args.run.now.session.now.script c.args.index b o c.block_at-block.ensures c.output_at-output.ensures)

pub returns-clause-wrote : goal.returns-clause-wrote
returns-clause-wrote g c =
    let run = c.args.run.now in
    let s = run.session.now.script in
    let v = c.args.view in
    let left : ℕ = c.args.table.now.left in
    let all = c.args.all in
    let text = run.layout.now.text in
    let path = v.path.now in
    let whys = run.whys.now in
    let heads = run.layout.now.heads.items in
    let i : ℕ = c.args.index in
    let b = c.block_at-block.result.now in
    let o = c.output_at-output.result.now in
    let line : ℕ = c.number_at-line.result in
    let why : List Line = why_at whys i in
    let head : slice_get heads i ≡ Some line = sym (ap (λ (hs : List ℕ). slice_get hs i) c.as_slice.ensures.value) ∙ c.number_at-line.ensures in
    let same : same_lines b.expected o ≡ true = ap (λ (ls : List Line). same_lines ls o) (sym c.expected.ensures) ∙ sym c.is_same.ensures ∙ c.if-not-is_same.false in
    let named : is_unexpected text line o ≡ false = sym c.is_unexpected.ensures ∙ c.if-is_unexpected.false in
    let shown : [] ≡ match_shown false text path line b o = cc in
    sent_all refl (sent_none _ _ [] (sym (shown ∙ ap (λ (t : Bool). told_match t text path line b o why) (sym c.if-all.false) ∙ told-matching left all v.colors text path line b o why same
    ∙ alone-is left all v.colors text path whys heads s i line b o why head c.block_at-block.ensures c.output_at-output.ensures refl)))

pub returns-clause-left : goal.returns-clause-left
returns-clause-left g c =
    let b = c.block_at-block.result.now in
    let o = c.output_at-output.result.now in
    let same : same_lines b.expected o ≡ true = ap (λ (ls : List Line). same_lines ls o) (sym c.expected.ensures) ∙ sym c.is_same.ensures ∙ c.if-not-is_same.false in
    leaves-all c.args.table.now.left b o same ∙ on-is c.args.table.now.left c.args.run.now.session.now.script c.args.index b o c.block_at-block.ensures c.output_at-output.ensures
