use Rattle.std.proofs.Common.{◌≡◌, ◌∙◌, length, ap, sym}
use Rattle.rb_script.specs.Script.{PlainScript}
use Rattle.rb_editor.specs.declared.actions.layout.ScriptLayout.{ScriptLayout}
use Rattle.rb_editor.proofs.RunLaws.{layout_is}
use Rattle.rb_editor.proofs.actions.run.DocumentRun.of_read.Goals as goal

pub invariant_of-result : goal.invariant_of-result
invariant_of-result g c =
    let layout : ScriptLayout = record { script = record { text = c.args.read.lines; heads = c.args.read.heads }; table = c.in_ok-table.table; slips = c.in_ok-slips.slips } in
    let script : c.replace_script.new.self.script ≡ c.args.read.script = c.in_ok-replace_script.ensures.answer.is_on in
    layout_is c.args.encoding c.args.bytes.now c.in_ok-text.text.items c.args.read.script c.replace_script.new.self.script layout c.requires.reads c.requires.lines c.requires.heads c.in_ok-table.ensures c.in_ok-slips.ensures
    c.in_ok-text.ensures.items script

pub warnings-requires : goal.warnings-requires
warnings-requires g c =
    let script : c.replace_script.new.self.script ≡ c.args.read.script = c.in_ok-replace_script.ensures.answer.is_on in
    c.requires.heads.count ∙ ap (λ (x : PlainScript). length x.blocks) (sym script)
