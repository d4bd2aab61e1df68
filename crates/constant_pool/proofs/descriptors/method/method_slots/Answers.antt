use Rattle.std.proofs.Common.{◌∙◌}
use Rattle.constant_pool.proofs.descriptors.MethodLaws.{scan_is, found_slots, only_slots}
use Rattle.constant_pool.proofs.descriptors.method.method_slots.Goals as goal

pub returns-clause-scanned : goal.returns-clause-scanned
returns-clause-scanned c = c.scanned.ensures ∙ scan_is c.args.text.now

pub returns-clause-found : goal.returns-clause-found
returns-clause-found c = found_slots c.args.text.now c.scanned.result c.scanned.ensures

pub returns-clause-only : goal.returns-clause-only
returns-clause-only c = only_slots c.args.text.now c.scanned.result c.scanned.ensures
