use Rattle.std.proofs.Common.{ℕ, Option, false, None, Some, sym, ap, subst}
use Rattle.machine.specs.Machines.{MachineOf}
use Rattle.program_runs.specs.policies.Keeping.{IsFoundBehind}
use Rattle.program_runs.specs.policies.PolicyTurns.{DoesTurn}
use Rattle.program_runs.specs.policies.Runs.{Turned}
use Rattle.program_runs.proofs.policies.Mixing.{rotation_none, rotation_some}
use Rattle.program_runs.proofs.policies.Orders.{able_if, none_there}
use Rattle.program_runs.proofs.policies.rotation.take_turn.Goals as goal

pub end_quietly-requires-clause-none : goal.end_quietly-requires-clause-none
end_quietly-requires-clause-none c =
    none_there c.reports_of_words.ensures.holds c.args.world.now c.end.ensures.holds false c.args.last
    (subst (λ (m : MachineOf). IsFoundBehind m false c.args.last None) c.machine.ensures c.in_default.ensures)

pub returns-in_default-clause-does : goal.returns-in_default-clause-does
returns-in_default-clause-does c =
    subst (λ (x : Turned (Option ℕ)). DoesTurn x.events c.args.world.now c.end_quietly.new.self)
    (sym (rotation_none c.reports_of_words.ensures.holds c.args.world.now c.end.ensures.holds c.args.quantum c.args.last
    (subst (λ (m : MachineOf). IsFoundBehind m false c.args.last None) c.machine.ensures c.in_default.ensures)))
    c.end_quietly.ensures

pub returns-in_default-clause-kept : goal.returns-in_default-clause-kept
returns-in_default-clause-kept c =
    sym (ap (λ (x : Turned (Option ℕ)). x.kept)
    (rotation_none c.reports_of_words.ensures.holds c.args.world.now c.end.ensures.holds c.args.quantum c.args.last
    (subst (λ (m : MachineOf). IsFoundBehind m false c.args.last None) c.machine.ensures c.in_default.ensures)))

pub turn-requires-clause-able : goal.turn-requires-clause-able
turn-requires-clause-able c =
    able_if c.reports_of_words.ensures.holds c.args.world.now false c.args.last c.in-Some.thread
    (subst (λ (m : MachineOf). IsFoundBehind m false c.args.last (Some c.in-Some.thread)) c.machine.ensures c.in-Some.ensures)

pub returns-clause-does : goal.returns-clause-does
returns-clause-does c =
    subst (λ (x : Turned (Option ℕ)). DoesTurn x.events c.args.world.now c.turn.new.self)
    (sym (rotation_some c.reports_of_words.ensures.holds c.args.world.now c.end.ensures.holds c.args.quantum c.args.last c.in-Some.thread
    (subst (λ (m : MachineOf). IsFoundBehind m false c.args.last (Some c.in-Some.thread)) c.machine.ensures c.in-Some.ensures)))
    c.turn.ensures

pub returns-clause-kept : goal.returns-clause-kept
returns-clause-kept c =
    sym (ap (λ (x : Turned (Option ℕ)). x.kept)
    (rotation_some c.reports_of_words.ensures.holds c.args.world.now c.end.ensures.holds c.args.quantum c.args.last c.in-Some.thread
    (subst (λ (m : MachineOf). IsFoundBehind m false c.args.last (Some c.in-Some.thread)) c.machine.ensures c.in-Some.ensures)))
