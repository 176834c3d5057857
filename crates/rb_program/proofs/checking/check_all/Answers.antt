use Rattle.std.proofs.Common.{◌≡◌, ◌∙◌, Bool, List, String, codes, subst, sym}
use Rattle.std.specs.declared.alloc.Global.{Global}
use Rattle.rb_check.specs.declared.target.Target.{Target}
use Rattle.rb_program.specs.Checks.{IsAskedBy}
use Rattle.rb_program.specs.Choices.{IsSetting}
use Rattle.rb_program.specs.Targets.{AreNamed}
use Rattle.rb_program.proofs.checking.check_all.Goals as goal

pub returns-clause-asked : goal.returns-clause-asked
returns-clause-asked g c =
    let asked = c.request-asked.result in
    let found = c.in_ok-targets.targets.items in
    let kinds = g.R.PathKinds.tells_kind c.args.rt.now in
    let settings = g.R.Environment.tells_setting c.args.rt.now in
    let shade = c.colors-colors.result in
    let asked_with = λ (told : Bool). IsAskedBy c.args.choice.now c.in_ok-color.style shade told asked in
    let same : asked.targets.now ≡ found = c.request-asked.ensures.targets ∙ c.as_slice-named.ensures.value in
    record {
      color = c.in_ok-color.color;
      style = c.in_ok-color.style;
      shade = shade;
      asked = asked;
      color_is = c.in_ok-color.ensures.0;
      style_is = c.in_ok-color.ensures.1;
      reviews = c.in_ok-color.ensures.2;
      shade_is = c.colors-colors.ensures;
      is_asked = subst asked_with (c.is_wanted-is_told.ensures ∙ c.new-progress.ensures ∙ c.wants_progress-wanted.ensures) c.request-asked.ensures.asked;
      keys_are = subst (λ (keys : Bool). IsSetting settings (codes "RAFTBENCH_KEYS") keys) (sym c.request-asked.ensures.keys) c.gives_keys-keys.ensures;
      targets_are =
          subst (λ (ts : List Target). AreNamed kinds c.args.choice.now.paths.items ts) (sym same)
          (subst (λ (ws : List (String Global)). AreNamed kinds ws found) c.as_slice-words.ensures.value c.in_ok-targets.ensures);
      filters_are = c.request-asked.ensures.filters;
      status_is = c.in_ok-check.ensures.counted;
    }
