use Rattle.std.proofs.Common.{◌+◌, ◌∙◌, length, refl, ap, sym, arith, eq-eqb}
use Rattle.std.proofs.lemmas.Bool.{ne_eqb}
use Rattle.rb_lsp.specs.declared.document.position.Position.{Position}
use Rattle.rb_lsp.specs.Places.{position_of}
use Rattle.rb_lsp.proofs.TableLaws.{first_stands, line_stands, part_stands, stands_to, all_stand}
use Rattle.rb_lsp.proofs.PlainLaws.{given_all}
use Rattle.rb_lsp.proofs.document.line_table.LineTable.of_all.Goals as goal

pub loop-next-init : goal.loop-next-init
unfolding position_of
loop-next-init c = record {
  within = omega arith;
  few = omega arith;
  begins = refl;
  stand = first_stands c.args.encoding c.args.text.now _ (rw (c.new-starts.ensures.items, c.line_first.ensures) at c.in_ok-push.ensures.items);
}

pub loop-next-preserved-in-Continue-branch-2 : goal.loop-next-preserved-in-Continue-branch-2
loop-next-preserved-in-Continue-branch-2 c =
    let behind = c.in-Some.ensures.next in
    let begins = behind.first c.args.encoding ∙ ap (λ (p : Position). record { line = p.line + 1; character = 0 }) c.loop-next.invariant.begins in
    record {
      within = behind.within;
      few = omega (arith, c.loop-next.invariant.few, behind.further);
      begins = begins;
      stand = line_stands c.args.encoding c.args.text.now c.loop-next.at c.in-Some.next c.loop-next.starts.items _ c.line_first-then-text-at-eq10.result behind (eq-eqb _ 10 c.if-text-at-eq10.true)
          (c.line_first-then-text-at-eq10.ensures ∙ sym begins) c.in_ok-push-2.ensures.items c.loop-next.invariant.stand;
    }

pub loop-next-preserved : goal.loop-next-preserved
loop-next-preserved c =
    let behind = c.in-Some.ensures.next in
    record {
      within = behind.within;
      few = omega (arith, c.loop-next.invariant.few, behind.further);
      begins = behind.first c.args.encoding ∙ ap (λ (p : Position). record { line = p.line + 1; character = 0 }) c.loop-next.invariant.begins;
      stand = part_stands c.args.encoding c.args.text.now c.loop-next.at c.in-Some.next c.loop-next.starts.items behind (ne_eqb _ 10 c.if-text-at-eq10.false) c.loop-next.invariant.stand;
    }

pub returns : goal.returns
returns c =
    let text = c.args.text.now in
    let whole = stands_to c.args.encoding text c.loop-next.at (length text) c.loop-next.starts.items c.loop-next.invariant.within (omega arith) c.in_default.ensures.last c.loop-next.invariant.stand in
    λ n. given_all c.loop-next.starts.items c.position_on-end.result _ n (all_stand c.args.encoding text c.loop-next.starts.items (length text) c.position_on-end.result refl c.position_on-end.ensures whole n)
