use Rattle.std.proofs.Common.{◌≡◌, ◌++◌, take}
use Rattle.verifier.specs.flow.Leads.{handler_leads}
use Rattle.verifier.proofs.flow.lead.add_handlers.Given as goal

abbrev pub invariant-handlers : goal.invariant-handlers
invariant-handlers l = l.leads.items ≡ l.fn.leads.items ++ handler_leads l.offset (take l.handler-index l.handlers)
