use Rattle.std.proofs.Common.{◌≡◌, map, take}
use Rattle.verifier.specs.flow.Leads.{lead_on}
use Rattle.verifier.proofs.flow.lead.leads_on.Given as goal

abbrev pub invariant-targets : goal.invariant-targets
invariant-targets l = l.leads.items ≡ map lead_on (take l.target-index l.targets)
