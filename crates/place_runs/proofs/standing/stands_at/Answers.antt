use Rattle.std.proofs.Common.{◌≡◌, ℕ, List, Bool, Some, None, ap, sym, subst, ◌∙◌, Option}
use Rattle.std.specs.Prelude.{slice_get, ◌&&◌}
use Rattle.thread_stacks.specs.Stacks.{ShownEntry}
use Rattle.machine_state.specs.declared.state.Shared.{Shared}
use Rattle.machine.specs.top_frames.Tops.{GoesOnIf}
use Rattle.place_runs.specs.Shown.{IsTopAt}
use Rattle.place_runs.proofs.Stands.{IsTopIf, stands, no_stack}
use Rattle.place_runs.proofs.standing.stands_at.Goals as goal

pub returns-in_default : goal.returns-in_default
returns-in_default c = λ files. λ trees. λ done. λ has. λ place. λ are.
    no_stack c.args.machine.now c.args.thread c.args.points.now files trees done has place are
    (ap (λ (shared : Shared). slice_get shared.stacks.items c.args.thread) (sym c.shared-shared.ensures.same) ∙ sym c.in_default.ensures)

pub returns-then-goes_on : goal.returns-then-goes_on
returns-then-goes_on c = λ files. λ trees. λ done. λ has. λ place. λ are.
    let m = c.args.machine.now in
    let t = c.args.thread in
    let points = c.args.points.now in
    let stack = c.in-Some.stack.now in
    let b = c.goes_on-goes_on.result in
    let top = c.is_on_top-is_there.result in
    let same = c.shared-shared.ensures.same in
    let at : slice_get m.shared.stacks.items t ≡ Some stack = ap (λ (shared : Shared). slice_get shared.stacks.items t) (sym same) ∙ sym c.in-Some.ensures in
    let going = subst (λ (shared : Shared). GoesOnIf b shared.threads.threads t) same c.goes_on-goes_on.ensures in
    let top_at = subst (λ p. IsTopAt p points stack top) (c.deref.ensures ∙ c.program.ensures) c.is_on_top-is_there.ensures in
    let top_if = subst (λ (o : Option (List ShownEntry)). IsTopIf m.program points o top) (sym at) top_at in
    sym (ap (λ x. x && top) c.if-goes_on.true) ∙ stands m t points files trees done has place are b top going top_if

pub returns-else-goes_on : goal.returns-else-goes_on
returns-else-goes_on c = λ files. λ trees. λ done. λ has. λ place. λ are.
    let m = c.args.machine.now in
    let t = c.args.thread in
    let points = c.args.points.now in
    let stack = c.in-Some.stack.now in
    let b = c.goes_on-goes_on.result in
    let top = c.is_on_top-is_there.result in
    let same = c.shared-shared.ensures.same in
    let at : slice_get m.shared.stacks.items t ≡ Some stack = ap (λ (shared : Shared). slice_get shared.stacks.items t) (sym same) ∙ sym c.in-Some.ensures in
    let going = subst (λ (shared : Shared). GoesOnIf b shared.threads.threads t) same c.goes_on-goes_on.ensures in
    let top_at = subst (λ p. IsTopAt p points stack top) (c.deref.ensures ∙ c.program.ensures) c.is_on_top-is_there.ensures in
    let top_if = subst (λ (o : Option (List ShownEntry)). IsTopIf m.program points o top) (sym at) top_at in
    c.if-goes_on.false ∙ sym (ap (λ x. x && top) c.if-goes_on.false) ∙ stands m t points files trees done has place are b top going top_if
