use Rattle.std.proofs.Common.{◌≡◌, Some, ap, sym, subst, ◌∙◌}
use Rattle.std.specs.Prelude.{slice_get}
use Rattle.machine_state.specs.declared.state.Shared.{Shared}
use Rattle.machine.specs.top_frames.Tops.{GoesOn}
use Rattle.program_runs.specs.traced_runs.Locals.{StandsAtLocal}
use Rattle.program_runs.proofs.traced_runs.LocalEvents.{next_local_by}
use Rattle.program_runs.proofs.traced_runs.locals.is_next_local.Goals as goal

pub returns : goal.returns
returns c = λ is.
    let m = c.args.machine.now in
    let t = c.args.thread in
    let stack = c.in-Some.stack.now in
    let same = c.shared-shared.ensures.same in
    let at : slice_get m.shared.stacks.items t ≡ Some stack = ap (λ (shared : Shared). slice_get shared.stacks.items t) (sym same) ∙ sym c.in-Some.ensures in
    let going = subst (λ (shared : Shared). GoesOn shared.threads.threads t) same c.if-not-goes_on.ensures in
    let stands = subst (λ p. StandsAtLocal p stack) (c.deref.ensures ∙ c.program.ensures) (c.stands_at_local.ensures is) in
    next_local_by c.stacks_are_lent.ensures.holds c.frames_stand.ensures.holds m t stack at going stands
