use Rattle.std.proofs.Common.{◌∷◌, [], refl, sym, subst, ◌∙◌}
use Rattle.machine.specs.declared.machine.Stopped.TheVariants as stopped
use Rattle.machine.specs.Machines.{Repeats}
use Rattle.race_actions.specs.event_actions.Told.{LooksAt}
use Rattle.race_runs.specs.finder.Events.{FindsEvent}
use Rattle.race_runs.specs.raced_runs.Going.{RacesThrough}
use Rattle.race_runs.proofs.raced_runs.Entries.{none_by}
use Rattle.race_runs.proofs.raced_runs.Turned.{all_raced, none_raced}
use Rattle.race_runs.proofs.raced_runs.event.Goals as goal

pub returns-in_ok-done-in-Most : goal.returns-in_ok-done-in-Most
returns-in_ok-done-in-Most c =
    let m = c.args.machine.now in
    let new = c.repeat-why.new.self in
    let e = c.args.event in
    let n = c.repeat-why.result.0 in
    let before = c.args.finder.now in
    let looked = c.look.new.self in
    let by_program = subst (λ p. LooksAt before.tables.linked.now p c.shared.result.now e.thread looked.actions) (c.deref.ensures ∙ c.program.ensures) c.in_ok-look.ensures.looked in
    let looks = subst (λ s. LooksAt before.tables.linked.now m.program s e.thread looked.actions) c.shared.ensures.same by_program in
    let finds = subst (λ s. FindsEvent s e.thread looked c.done.new.self) c.shared-in-Most.ensures.same c.in_ok-done-in-Most.ensures in
    all_raced m new before looked c.done.new.self e n stopped.Most (subst (λ w. Repeats (n, w) e 1 m new) c.in-Most.is c.repeat-why.ensures) c.in_ok-look.ensures.kept refl looks finds

pub returns-in_default : goal.returns-in_default
returns-in_default c =
    let m = c.args.machine.now in
    let new = c.repeat-why.new.self in
    let before = c.args.finder.now in
    let looked = c.look.new.self in
    let why = c.repeat-why.result.1 in
    subst (λ k. RacesThrough (k, why) (c.args.event ∷ []) m new before looked) (sym (none_by why c.in_default.not-Most))
    (none_raced m new before looked looked c.args.event c.repeat-why.result.0 why c.repeat-why.ensures c.in_ok-look.ensures.kept c.in_default.not-Most)
