use Rattle.std.proofs.Common.{◌≡◌, take}
use Rattle.verifier.specs.flow.Leads.{targets_in}
use Rattle.verifier.proofs.flow.lead.targets_of.Given as goal

abbrev pub invariant-leads : goal.invariant-leads
invariant-leads l = l.targets.items ≡ targets_in (take l.lead-index l.leads)
