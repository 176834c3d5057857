use Rattle.std.proofs.Common.{◌≡◌, ◌&&◌, ◌==◌, true, false, List, [], ◌∷◌, ◌++◌, ap, sym, ◌∙◌}
use Rattle.std.specs.List.{list_all}
use Rattle.std.specs.Option.{is_none}
use Rattle.rb_message.specs.declared.message.Message.{Message}
use Rattle.rb_machine.specs.Pending.{is_meant, Quota, quota_of}
use Rattle.rb_cluster.proofs.ChoiceLaws.{quota_steps, is_taken, joins_chosen, joins_rest, all_chosen}
use Rattle.rb_cluster.proofs.pending.split.Goals as goal

pub loop-shared-preserved-in-Continue-1 : goal.loop-shared-preserved-in-Continue-1
loop-shared-preserved-in-Continue-1 c =
    let meant = is_meant c.args.id c.args.choice.now in
    let q = quota_of c.args.choice.now in
    let m = c.in-Some.shared in
    let same : c.is_meant.result ≡ meant m = c.is_meant.ensures ∙ ap meant c.message.ensures in
    let takes = is_taken meant c.loop-shared.quota m c.is_meant.result c.takes.result true same c.takes.ensures.takes c.if-takes.true in
    let joins = joins_chosen meant q c.loop-shared.quota c.loop-shared.yielded m c.loop-shared.invariant.quota takes in record {
      quota = quota_steps meant q c.loop-shared.quota c.takes.new.self c.loop-shared.yielded m c.is_meant.result c.loop-shared.invariant.quota same c.takes.ensures.left;
      mail = c.in_ok-push.ensures.items ∙ ap (λ (l : List Message). l ++ m ∷ []) c.loop-shared.invariant.mail ∙ sym joins.0;
      others = c.loop-shared.invariant.others ∙ sym joins.1;
    }

pub loop-shared-preserved : goal.loop-shared-preserved
loop-shared-preserved c =
    let meant = is_meant c.args.id c.args.choice.now in
    let q = quota_of c.args.choice.now in
    let m = c.in-Some.shared in
    let same : c.is_meant.result ≡ meant m = c.is_meant.ensures ∙ ap meant c.message.ensures in
    let takes = is_taken meant c.loop-shared.quota m c.is_meant.result c.takes.result false same c.takes.ensures.takes c.if-takes.false in
    let joins = joins_rest meant q c.loop-shared.quota c.loop-shared.yielded m c.loop-shared.invariant.quota takes in record {
      quota = quota_steps meant q c.loop-shared.quota c.takes.new.self c.loop-shared.yielded m c.is_meant.result c.loop-shared.invariant.quota same c.takes.ensures.left;
      mail = c.loop-shared.invariant.mail ∙ sym joins.0;
      others = c.in_ok-push-2.ensures.items ∙ ap (λ (l : List Message). l ++ m ∷ []) c.loop-shared.invariant.others ∙ sym joins.1;
    }

-- all that is pending is chosen
pub returns-then-are_meant-clause-for_node : goal.returns-then-are_meant-clause-for_node
returns-then-are_meant-clause-for_node c =
    let meant = is_meant c.args.id c.args.choice.now in
    let takes = ap (λ (q : Quota). q.skip == 0 && is_none q.count) (sym c.of-quota.ensures) ∙ sym c.takes_all.ensures ∙ c.if-takes_all.true in
    let all = ap (list_all meant) (sym c.deref.ensures.value) ∙ sym c.are_meant.ensures ∙ c.if-are_meant.true in
    sym (all_chosen meant (quota_of c.args.choice.now) c.args.pending.items takes all).0

pub returns-then-are_meant-clause-rest : goal.returns-then-are_meant-clause-rest
returns-then-are_meant-clause-rest c =
    let meant = is_meant c.args.id c.args.choice.now in
    let takes = ap (λ (q : Quota). q.skip == 0 && is_none q.count) (sym c.of-quota.ensures) ∙ sym c.takes_all.ensures ∙ c.if-takes_all.true in
    let all = ap (list_all meant) (sym c.deref.ensures.value) ∙ sym c.are_meant.ensures ∙ c.if-are_meant.true in
    c.new.ensures.items ∙ sym (all_chosen meant (quota_of c.args.choice.now) c.args.pending.items takes all).1
