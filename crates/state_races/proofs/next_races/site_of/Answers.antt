use Rattle.std.proofs.Common.{◌∙◌}
use Rattle.state_races.proofs.next_races.Standing.{site_told}
use Rattle.state_races.proofs.next_races.site_of.Goals as goal

pub returns : goal.returns
returns c =
    site_told c.args.tables.now.linked.now c.args.machine.now c.deref.result.now (c.deref.ensures ∙ c.program.ensures) c.shared.result.now c.shared.ensures.same c.args.thread
    c.look.new.self c.in_ok-look.ensures c.site-site.result c.site-site.ensures
