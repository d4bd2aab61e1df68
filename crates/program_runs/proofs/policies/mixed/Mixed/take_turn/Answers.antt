use Rattle.std.proofs.Common.{◌≡◌, None, Some, sym, ap, subst}
use Rattle.machine.specs.Machines.{MachineOf}
use Rattle.program_runs.specs.policies.Keeping.{IsFoundBehind, drawn_pick, is_down, kept_by}
use Rattle.program_runs.specs.policies.PolicyTurns.{DoesTurn}
use Rattle.program_runs.specs.policies.Runs.{Mixed, Turned}
use Rattle.program_runs.proofs.policies.Mixing.{always, for_equal, mixed_none, mixed_some}
use Rattle.program_runs.proofs.policies.Orders.{able_if, none_there}
use Rattle.program_runs.proofs.policies.mixed.Mixed.take_turn.Goals as goal

pub end_quietly-requires-clause-none : goal.end_quietly-requires-clause-none
end_quietly-requires-clause-none c =
    none_there c.reports_of_words.ensures.holds c.args.world.now c.end.ensures.holds (is_down c.args.self.now.direction) c.args.self.now.last
    (subst (λ (m : MachineOf). IsFoundBehind m (is_down c.args.self.now.direction) c.args.self.now.last None) c.machine.ensures c.in_default.ensures)

pub returns-in_default-clause-does : goal.returns-in_default-clause-does
returns-in_default-clause-does c =
    subst (λ (x : Turned Mixed). DoesTurn x.events c.args.world.now c.end_quietly.new.self)
    (sym (mixed_none c.reports_of_words.ensures.holds c.args.world.now c.end.ensures.holds (kept_by c.args.self.now)
    (subst (λ (m : MachineOf). IsFoundBehind m (is_down c.args.self.now.direction) c.args.self.now.last None) c.machine.ensures c.in_default.ensures))) c.end_quietly.ensures

pub returns-in_default-clause-kept : goal.returns-in_default-clause-kept
returns-in_default-clause-kept c =
    sym (ap (λ (x : Turned Mixed). x.kept) (mixed_none c.reports_of_words.ensures.holds c.args.world.now c.end.ensures.holds (kept_by c.args.self.now)
    (subst (λ (m : MachineOf). IsFoundBehind m (is_down c.args.self.now.direction) c.args.self.now.last None) c.machine.ensures c.in_default.ensures)))

pub give_turn-requires-clause-able : goal.give_turn-requires-clause-able
give_turn-requires-clause-able c =
    able_if c.reports_of_words.ensures.holds c.args.world.now (is_down c.args.self.now.direction) c.args.self.now.last c.in-Some.thread
    (subst (λ (m : MachineOf). IsFoundBehind m (is_down c.args.self.now.direction) c.args.self.now.last (Some c.in-Some.thread)) c.machine.ensures c.in-Some.ensures)

pub returns-clause-does : goal.returns-clause-does
returns-clause-does c =
    for_equal c.give_turn.result c.args.world.now c.give_turn.new.world _ _
    (ap (λ (x : Turned Mixed). x.events)
    (mixed_some c.reports_of_words.ensures.holds c.args.world.now c.end.ensures.holds (kept_by c.args.self.now) c.in-Some.thread c.next_length-most.result c.next_pick-pick.result
    (kept_by c.next_length-most.new.self) (kept_by c.next_pick-pick.new.self) c.next_length-most.ensures.drawn
    (subst (λ (m : MachineOf). (c.next_pick-pick.result, kept_by c.next_pick-pick.new.self) ≡ drawn_pick m (kept_by c.next_length-most.new.self)) c.machine-2.ensures c.next_pick-pick.ensures)
    (subst (λ (m : MachineOf). IsFoundBehind m (is_down c.args.self.now.direction) c.args.self.now.last (Some c.in-Some.thread)) c.machine.ensures c.in-Some.ensures)))
    c.give_turn.ensures

pub returns-clause-kept : goal.returns-clause-kept
returns-clause-kept c =
    always c.give_turn.result
    (sym (ap (λ (x : Turned Mixed). x.kept)
    (mixed_some c.reports_of_words.ensures.holds c.args.world.now c.end.ensures.holds (kept_by c.args.self.now) c.in-Some.thread c.next_length-most.result c.next_pick-pick.result
    (kept_by c.next_length-most.new.self) (kept_by c.next_pick-pick.new.self) c.next_length-most.ensures.drawn
    (subst (λ (m : MachineOf). (c.next_pick-pick.result, kept_by c.next_pick-pick.new.self) ≡ drawn_pick m (kept_by c.next_length-most.new.self)) c.machine-2.ensures c.next_pick-pick.ensures)
    (subst (λ (m : MachineOf). IsFoundBehind m (is_down c.args.self.now.direction) c.args.self.now.last (Some c.in-Some.thread)) c.machine.ensures c.in-Some.ensures))))
