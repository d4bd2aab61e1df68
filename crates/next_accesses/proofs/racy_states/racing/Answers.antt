use Rattle.std.proofs.Common.{rules, tests}
use Rattle.next_accesses.proofs.racy_states.RaceAt.{race_of_machine}
use Rattle.next_accesses.proofs.racy_states.racing.Goals as goal

pub returns : goal.returns
returns c =
    race_of_machine c.args.tables.now.linked.now c.names_are_apart.ensures c.args.machine.now c.deref.result.now (search (rules, tests))
    c.shared-shared.result.now c.shared-shared.ensures.same c.len-threads.result c.len-threads.ensures.length
    c.in_ok-found.found.items c.in_ok-found.ensures c.deref-2.result.now c.deref-2.ensures.value c.race_among.result c.race_among.ensures
