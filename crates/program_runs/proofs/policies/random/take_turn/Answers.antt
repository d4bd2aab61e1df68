use Rattle.std.proofs.Common.{◌≡◌, ◌<◌, length, None, Some, refl, sym, ap, subst}
use Rattle.rand_core.specs.Stream.{Stream}
use Rattle.machine.specs.Machines.{MachineOf}
use Rattle.program_runs.specs.policies.Drawn.{IsDrawn, IsPickDrawn}
use Rattle.program_runs.specs.policies.PolicyTurns.{DoesTurn}
use Rattle.program_runs.specs.policies.Runs.{Turned}
use Rattle.program_runs.specs.worlds.Turns.{MayGo, MayNone}
use Rattle.program_runs.proofs.policies.Drawing.{ends_then, random_none, random_some}
use Rattle.program_runs.proofs.policies.Mixing.{always, for_equal}
use Rattle.program_runs.proofs.policies.Orders.{able_there}
use Rattle.program_runs.proofs.policies.random.take_turn.Goals as goal

pub end_quietly-requires-clause-none : goal.end_quietly-requires-clause-none
end_quietly-requires-clause-none c = subst (λ (m : MachineOf). MayNone m 0 (length m.shared.threads.threads)) c.machine.ensures c.in_default.ensures.drawn

pub returns-in_default-clause-does : goal.returns-in_default-clause-does
returns-in_default-clause-does c =
    subst (λ l. DoesTurn l c.args.world.now c.end_quietly.new.self)
    (sym (random_none c.reports_of_words.ensures.holds c.args.world.now c.end.ensures.holds c.picks_are_in_order.ensures.holds
    (subst (λ (m : MachineOf). MayNone m 0 (length m.shared.threads.threads)) c.machine.ensures c.in_default.ensures.drawn) _))
    c.end_quietly.ensures

pub returns-in_default-clause-kept : goal.returns-in_default-clause-kept
returns-in_default-clause-kept c = λ on. absurd (ends_then c.args.world.now c.end_quietly.new.self c.args.world.now.events refl c.end_quietly.ensures on)

pub give_turn-requires-clause-able : goal.give_turn-requires-clause-able
give_turn-requires-clause-able c =
    able_there c.reports_of_words.ensures.holds c.args.world.now c.in-Some.thread (subst (λ (m : MachineOf). MayGo m c.in-Some.thread) c.machine.ensures c.in-Some.ensures.able)

pub returns-clause-does : goal.returns-clause-does
returns-clause-does c =
    let t = c.in-Some.thread in
    let go = subst (λ (m : MachineOf). MayGo m t) c.machine.ensures c.in-Some.ensures.able in
    for_equal c.give_turn.result c.args.world.now c.give_turn.new.world _ _
    (ap (λ (x : Turned Stream). x.events)
    (random_some c.reports_of_words.ensures.holds c.args.world.now c.end.ensures.holds c.args.random.now c.drawn_thread.new.random c.drawn_pick-pick.new.random t c.drawn_pick-pick.result
    (subst (λ (m : MachineOf). IsDrawn m c.args.random.now (Some t) c.drawn_thread.new.random) c.machine.ensures c.in-Some.ensures.drawn)
    go.0 (able_there c.reports_of_words.ensures.holds c.args.world.now t go c.end.ensures.holds).0
    (subst (λ (m : MachineOf). IsPickDrawn m t c.drawn_thread.new.random c.drawn_pick-pick.result c.drawn_pick-pick.new.random) c.machine-2.ensures c.drawn_pick-pick.ensures)))
    c.give_turn.ensures

pub returns-clause-kept : goal.returns-clause-kept
returns-clause-kept c =
    let t = c.in-Some.thread in
    let go = subst (λ (m : MachineOf). MayGo m t) c.machine.ensures c.in-Some.ensures.able in
    always c.give_turn.result
    (λ on. sym (ap (λ (x : Turned Stream). x.kept)
    (random_some c.reports_of_words.ensures.holds c.args.world.now c.end.ensures.holds c.args.random.now c.drawn_thread.new.random c.drawn_pick-pick.new.random t c.drawn_pick-pick.result
    (subst (λ (m : MachineOf). IsDrawn m c.args.random.now (Some t) c.drawn_thread.new.random) c.machine.ensures c.in-Some.ensures.drawn)
    go.0 (able_there c.reports_of_words.ensures.holds c.args.world.now t go c.end.ensures.holds).0
    (subst (λ (m : MachineOf). IsPickDrawn m t c.drawn_thread.new.random c.drawn_pick-pick.result c.drawn_pick-pick.new.random) c.machine-2.ensures c.drawn_pick-pick.ensures))))
