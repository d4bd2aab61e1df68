use Rattle.std.proofs.Common.{rules, tests}
use Rattle.next_accesses.proofs.racy_states.RaceAt.{racy_told}
use Rattle.next_accesses.proofs.racy_states.is_racy.Goals as goal

pub returns : goal.returns
returns c =
    racy_told c.args.tables.now.linked.now c.args.machine.now c.in_ok-racing.field-0 c.in_ok-racing.ensures c.is_some.result (search (rules, tests))
