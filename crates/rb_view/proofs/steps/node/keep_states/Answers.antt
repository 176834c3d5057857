use Rattle.std.proofs.Common.{◌∙◌, ◌+◌, ◌++◌, List, drop, ap, sym, subst, refl, append-nil, arith}
use Rattle.std.specs.Prelude.{slice_get}
use Rattle.std.proofs.lemmas.List.{drop_all, map-append}
use Rattle.rb_view.specs.Kept.{texts_of}
use Rattle.rb_view.specs.Rows.{Row, next_text}
use Rattle.rb_view.specs.States.{node_rows, state_rows}
use Rattle.rb_view.specs.Values.{ShowBytes}
use Rattle.rb_view.proofs.KeptLaws.{left_some}
use Rattle.rb_view.proofs.KeepLaws.{one_part}
use Rattle.rb_view.proofs.StateLaws.{since_is, state_more, state_done}
use Rattle.rb_view.proofs.steps.node.keep_states.Goals as goal

pub loop-i-init : goal.loop-i-init
loop-i-init g c = record { texts = refl; bytes = λ rest. rest }

pub loop-i-preserved : goal.loop-i-preserved
loop-i-preserved g c =
    let i = c.loop-i.i in
    let olds = c.args.olds.now in
    let news = c.args.news.now in
    let n = c.node_at.result.now in
    let rest = state_rows (drop (i + 1) olds) (drop (i + 1) news) in
    let here = node_rows (slice_get olds i) n in
    record {
      texts = one_part c.loop-i.texts c.keep_node_at.new.texts (texts_of here) (texts_of (state_rows (drop i olds) (drop i news))) (texts_of rest) _
          (ap texts_of (state_more olds news i n (slice_get olds i) c.node_at.ensures.node refl) ∙ map-append next_text here rest)
          (c.in_ok-keep_node_at.ensures ∙ ap (λ (rs : List Row). c.loop-i.texts ++ texts_of rs) (since_is c.args.keeps (slice_get olds i) n (λ keeps old was. c.requires keeps i old n was c.node_at.ensures.node)))
          c.loop-i.invariant.texts;
      bytes = λ rest. c.loop-i.invariant.bytes (subst ShowBytes (sym (left_some news i n c.node_at.ensures.node)) (c.node_at.ensures.bytes, rest));
    }

pub returns-clause-texts : goal.returns-clause-texts
returns-clause-texts g c =
    let i = c.loop-i.i in
    let t = c.loop-i.texts in
    let olds = drop i c.args.olds.now in
    let none = drop_all i c.args.news.now (omega (arith, c.loop-i-test.false)) in
    sym (append-nil t) ∙ ap (λ (rs : List Row). t ++ texts_of rs) (sym (state_done olds (drop i c.args.news.now) none)) ∙ c.loop-i.invariant.texts

pub returns-clause-bytes : goal.returns-clause-bytes
returns-clause-bytes g c =
    let i = c.loop-i.i in
    let none = drop_all i c.args.news.now (omega (arith, c.loop-i-test.false)) in
    c.loop-i.invariant.bytes (subst ShowBytes (sym none) tt)
