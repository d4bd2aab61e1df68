use Rattle.std.proofs.Common.{refl, ap, subst, ◌∙◌}
use Rattle.std.specs.Option.{option_map}
use Rattle.race_actions.specs.declared.looking.EventBefore.{EventBefore}
use Rattle.race_runs.specs.finder.Events.{Watched}
use Rattle.race_runs.proofs.finder.Finder.done.Goals as goal

pub returns : goal.returns
returns c =
    let t = c.args.thread in
    let old = c.args.self.now.races in
    let new = c.watch_all.new.races in
    let told = c.tell.new.self in
    let at = c.site-site.ensures ∙ ap (option_map (λ (b : EventBefore). b.site)) c.tell.ensures.before in
    record {
      tables = refl;
      actions = told.actions.items;
      short = λ place is. c.offsets_are_short.ensures place (at ∙ is);
      are = c.in_ok-tell.ensures.told;
      watched = subst (λ s. Watched t s told.actions.items old new) at (subst (λ l. Watched t c.site-site.result l old new) c.actions.ensures c.in_ok-watch_all.ensures);
    }
