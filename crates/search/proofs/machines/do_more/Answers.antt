use Rattle.search.proofs.Shown.{more_done}
use Rattle.search.proofs.machines.do_more.Goals as goal

pub returns-in-Most : goal.returns-in-Most
returns-in-Most c = more_done c.args.event c.args.count c.args.machine.now c.repeat-done.new.self c.repeat-done.result c.repeat-done.ensures c.in-Most.is
