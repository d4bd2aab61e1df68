use Rattle.std.proofs.Common.{Some, true, false, Ok, Err, refl, ap, subst, inl, arith, ◌∙◌}
use Rattle.model.specs.Operands.{words}
use Rattle.model.specs.MonitorMeanings.{monitor_enter_meaning}
use Rattle.model.specs.Worlds.{with_entry, entry_cost}
use Rattle.model.specs.Step.{Next, part, enabled_if}
use Rattle.linked_code.specs.declared.instruction.LinkedInstruction.TheVariants as linked
use Rattle.machine_state.specs.Refusals.{of_monitors}
use Rattle.heap.specs.monitor_events.Events.{Enters}
use Rattle.machine_state.specs.entries.Entered.{IsShared}
use Rattle.machine_state.proofs.entries.Entering.{entries_shown}
use Rattle.machine_instructions.proofs.monitor_instructions.Monitors.{there, started, gone_on, went, enters, refused}
use Rattle.machine_instructions.proofs.monitor_instructions.instructions.monitor_enter.Goals as goal

pub enter-requires-clause-there : goal.enter-requires-clause-there
enter-requires-clause-there c = let r = c.requires.1 in there r.trees c.requires.0 r.bounds r.inflated c.args.thread c.args.shared.now c.args.stack.now r.state r.frame r.rest r.code r.site r.meaning linked.MonitorEnter r.is (monitor_enter_meaning words r.site) r.is.stands.linked.is refl c.in-Some.object c.in-Some.ensures

pub enter-requires-clause-numbered : goal.enter-requires-clause-numbered
enter-requires-clause-numbered c =
    let r = c.requires.1 in
    omega (arith, started r.trees c.requires.0 r.bounds r.inflated c.args.thread c.args.shared.now c.args.stack.now r.state r.frame r.rest r.code r.site r.meaning linked.MonitorEnter r.is, c.len-count.ensures.length, c.len-count.ensures.within.limited, c.len-count.ensures.within.numbered)

pub returns-in_err-entered : goal.returns-in_err-entered
returns-in_err-entered c = λ p frames trees bounds inflated state frame rest code site meaning is.
    let old = c.args.shared.now in
    let new = record old { heap = c.enter.new.heap } in
    let object = c.in-Some.object in
    let event = enters trees p bounds inflated c.args.thread c.args.shared.now c.args.stack.now state frame rest code site meaning linked.MonitorEnter is frames is.stands.linked.is (Some c.in-Some.object) c.in-Some.ensures in
    let shared : IsShared trees p bounds inflated old state.world = record { represents = is.lent.represents; flags = is.lent.flags; counted = is.lent.counted } in
    let told = c.in_err-entered.field-0.0 in
    let e = entries_shown trees p bounds inflated state.world old new shared c.args.thread object (Err told) c.in_err-entered.ensures refl in
    refused trees p bounds inflated c.args.thread c.args.shared.now c.args.stack.now state frame rest code site meaning linked.MonitorEnter is new _ (entry_cost state.world object) _ (event ∙ ap (λ b. enabled_if b (Next (entry_cost state.world object) (part (with_entry state.world c.args.thread object) (gone_on trees p bounds inflated c.args.thread c.args.shared.now c.args.stack.now state frame rest code site meaning linked.MonitorEnter is)))) e.0) (of_monitors told) e.1.may e.1.same c.from_residual.result c.from_residual.ensures.1

pub returns-then-not-entered : goal.returns-then-not-entered
returns-then-not-entered c = λ p frames trees bounds inflated state frame rest code site meaning is.
    let old = c.args.shared.now in
    let new = record old { heap = c.enter.new.heap } in
    let object = c.in-Some.object in
    let event = enters trees p bounds inflated c.args.thread c.args.shared.now c.args.stack.now state frame rest code site meaning linked.MonitorEnter is frames is.stands.linked.is (Some c.in-Some.object) c.in-Some.ensures in
    let shared : IsShared trees p bounds inflated old state.world = record { represents = is.lent.represents; flags = is.lent.flags; counted = is.lent.counted } in
    let e =
    entries_shown trees p bounds inflated state.world old new shared c.args.thread object (Ok false)
    (subst (λ b. Enters (Ok b) object c.args.thread old.heap new.heap) c.if-not-entered.true c.in_ok-entered.ensures) refl
    in
    (event ∙ ap (λ b. enabled_if b (Next (entry_cost state.world object) (part (with_entry state.world c.args.thread object) (gone_on trees p bounds inflated c.args.thread c.args.shared.now c.args.stack.now state frame rest code site meaning linked.MonitorEnter is)))) e.0, record { shared = e.1; stack = refl })

pub returns : goal.returns
returns c = λ p frames trees bounds inflated state frame rest code site meaning is.
    let old = c.args.shared.now in
    let new = record old { heap = c.enter.new.heap } in
    let object = c.in-Some.object in
    let event = enters trees p bounds inflated c.args.thread c.args.shared.now c.args.stack.now state frame rest code site meaning linked.MonitorEnter is frames is.stands.linked.is (Some c.in-Some.object) c.in-Some.ensures in
    let shared : IsShared trees p bounds inflated old state.world = record { represents = is.lent.represents; flags = is.lent.flags; counted = is.lent.counted } in
    let e =
    entries_shown trees p bounds inflated state.world old new shared c.args.thread object (Ok true)
    (subst (λ b. Enters (Ok b) object c.args.thread old.heap new.heap) c.if-not-entered.false c.in_ok-entered.ensures) refl
    in
    record {
      cost = entry_cost state.world object;
      next = part (with_entry state.world c.args.thread object) (gone_on trees p bounds inflated c.args.thread c.args.shared.now c.args.stack.now state frame rest code site meaning linked.MonitorEnter is);
      is = event ∙ ap (λ b. enabled_if b (Next (entry_cost state.world object) (part (with_entry state.world c.args.thread object) (gone_on trees p bounds inflated c.args.thread c.args.shared.now c.args.stack.now state frame rest code site meaning linked.MonitorEnter is)))) e.0;
      becomes = record {
        within = e.1.within;
        there = there trees p bounds inflated c.args.thread c.args.shared.now c.args.stack.now state frame rest code site meaning linked.MonitorEnter is (monitor_enter_meaning words site) is.stands.linked.is refl object c.in-Some.ensures;
        represents = e.1.represents;
        stack = went trees p bounds inflated c.args.thread c.args.shared.now c.args.stack.now state frame rest code site meaning linked.MonitorEnter is is.stands.linked.to c.go_on.new.stack c.go_on.ensures;
        flags = e.1.flags;
        others = inl (record { stacks = refl; threads = refl });
      };
    }
