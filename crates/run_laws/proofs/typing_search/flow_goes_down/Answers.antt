use Rattle.run_laws.proofs.typing_search.Flows.{flow_down}
use Rattle.run_laws.proofs.typing_search.flow_goes_down.Goals as goal

pub returns : goal.returns
returns c = record { holds = λ files ordered. flow_down files ordered }
