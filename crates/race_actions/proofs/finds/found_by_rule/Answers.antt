use Rattle.race_actions.proofs.finds.Finding.{begin_finds, notified_finds, interrupted_finds, no_event_finds, pending_finds, initialisation_finds, instruction_finds}
use Rattle.race_actions.proofs.finds.found_by_rule.Goals as goal

pub returns-in-Begin : goal.returns-in-Begin
returns-in-Begin c = begin_finds c.args.rule c.args.thread c.in-Begin.is

pub returns-in-Notified : goal.returns-in-Notified
returns-in-Notified c = notified_finds c.args.rule c.args.thread _ _ c.in-Relock.cause c.in-Relock.is c.in-Notified.is

pub returns-in-Interrupted : goal.returns-in-Interrupted
returns-in-Interrupted c = interrupted_finds c.args.rule c.args.thread _ _ c.in-Relock.cause c.in-Relock.is c.in-Interrupted.is

pub returns-in-NoEvent : goal.returns-in-NoEvent
returns-in-NoEvent c = no_event_finds c.args.rule c.args.thread c.in-NoEvent.is

pub returns-in-Pending : goal.returns-in-Pending
returns-in-Pending c = pending_finds c.args.rule c.args.thread _ c.in-Pending.is

pub returns-in-Initialisation : goal.returns-in-Initialisation
returns-in-Initialisation c = initialisation_finds c.args.rule c.args.thread _ _ c.in-Initialisation.is

pub returns-in-Bytecode : goal.returns-in-Bytecode
returns-in-Bytecode c = instruction_finds c.args.rule c.args.thread c.in-Bytecode.is
