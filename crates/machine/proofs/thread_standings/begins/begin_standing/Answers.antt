use Rattle.std.proofs.Common.{sym}
use Rattle.machine.proofs.thread_standings.Enabled.{ends_on, ends_off}
use Rattle.machine.proofs.thread_standings.begins.begin_standing.Goals as goal

pub returns-then-may_begin : goal.returns-then-may_begin
returns-then-may_begin c = λ trees bounds inflated state stack program lent.
    ends_on trees _ _ (sym (c.if-may_begin.ensures trees bounds inflated state stack program lent))

pub returns-else-may_begin : goal.returns-else-may_begin
returns-else-may_begin c = λ trees bounds inflated state stack program lent.
    ends_off trees c.empty_standing.result _ _ (sym (c.if-may_begin.ensures trees bounds inflated state stack program lent))
    (c.empty_standing.ensures trees bounds state.world program lent.represents)
