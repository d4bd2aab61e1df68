use Rattle.std.proofs.Common.{◌≡◌, ℕ, Some, refl, sym, ap, subst, drop, ◌∙◌}
use Rattle.model.specs.Operands.{words}
use Rattle.model.specs.MonitorMeanings.{monitor_exit_meaning, left}
use Rattle.model.specs.Worlds.{is_owner, with_exit}
use Rattle.model.specs.Step.{SteppedOf, PartOf, become}
use Rattle.linked_code.specs.declared.instruction.LinkedInstruction.TheVariants as linked
use Rattle.machine_state.specs.Events.{IsDone}
use Rattle.heap.specs.monitor_events.Tables.{over}
use Rattle.machine_state.proofs.entries.Changing.{monitors_shown}
use Rattle.machine_state.proofs.linked_frames.Moves.{free_done}
use Rattle.machine_instructions.proofs.monitor_instructions.Monitors.{there, gone_on, went, exits, exit_stays}
use Rattle.machine_instructions.proofs.monitor_instructions.instructions.monitor_exit.Goals as goal

pub exit-requires : goal.exit-requires
exit-requires c = let r = c.requires.1 in there r.trees c.requires.0 r.bounds r.inflated c.args.thread c.args.shared.now c.args.stack.now r.state r.frame r.rest r.code r.site r.meaning linked.MonitorExit r.is (monitor_exit_meaning words r.site) r.is.stands.linked.is refl c.in-Some.object c.in-Some.ensures

pub returns-then-not-exit : goal.returns-then-not-exit
returns-then-not-exit c = λ p frames trees bounds inflated state frame rest code site meaning is.
    let old = c.args.shared.now in
    let new = record old { heap = c.exit.new.heap } in
    let object = c.in-Some.object in
    let event = exits trees p bounds inflated c.args.thread c.args.shared.now c.args.stack.now state frame rest code site meaning linked.MonitorExit is frames is.stands.linked.is (Some c.in-Some.object) c.in-Some.ensures in
    let over_is : over state.world old.heap ≡ state.world = λ i. record state.world { monitors = is.lent.represents.world_is.monitors i } in
    let owner = c.exit.ensures.owner state.world ∙ (λ i. is_owner (over_is i) c.args.thread object) in (
      event ∙ ap (λ b. become words trees frames c.args.thread state.world frame rest (left b site.next c.args.thread object state.world frame.place.slots (drop 1 frame.place.slots.stack))) (sym owner ∙ c.if-not-exit.true),
      record { shared = ap (λ h. record old { heap = h }) (exit_stays state.world c.args.thread object old.heap new.heap (sym (c.exit.ensures.owner state.world) ∙ c.if-not-exit.true) c.exit.ensures.after); stack = refl },
    )

pub returns : goal.returns
returns c = λ p frames trees bounds inflated state frame rest code site meaning is.
    let old = c.args.shared.now in
    let new = record old { heap = c.exit.new.heap } in
    let object = c.in-Some.object in
    let event = exits trees p bounds inflated c.args.thread c.args.shared.now c.args.stack.now state frame rest code site meaning linked.MonitorExit is frames is.stands.linked.is (Some c.in-Some.object) c.in-Some.ensures in
    let over_is : over state.world old.heap ≡ state.world = λ i. record state.world { monitors = is.lent.represents.world_is.monitors i } in
    let owner = c.exit.ensures.owner state.world ∙ (λ i. is_owner (over_is i) c.args.thread object) in
    let r = monitors_shown trees p bounds state.world old new is.lent.represents (λ w. with_exit w c.args.thread object) old.heap.locks.fat c.exit.ensures.after refl in
    subst (λ (e : SteppedOf (PartOf ℕ)). IsDone trees p bounds inflated state.world e old new c.go_on.new.stack)
    (sym (event ∙ ap (λ b. become words trees frames c.args.thread state.world frame rest (left b site.next c.args.thread object state.world frame.place.slots (drop 1 frame.place.slots.stack))) (sym owner ∙ c.if-not-exit.false)))
    (free_done trees p bounds inflated state.world (with_exit state.world c.args.thread object) (gone_on trees p bounds inflated c.args.thread c.args.shared.now c.args.stack.now state frame rest code site meaning linked.MonitorExit is) old new c.go_on.new.stack r
    (went trees p bounds inflated c.args.thread c.args.shared.now c.args.stack.now state frame rest code site meaning linked.MonitorExit is is.stands.linked.to c.go_on.new.stack c.go_on.ensures) c.exit.ensures.after.fat_are refl refl)
