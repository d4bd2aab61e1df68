use Rattle.std.proofs.Common.{◌≡◌, List, [], ◌∷◌, length, get_or, None, ap, arith}
use Rattle.verifier.specs.declared.flow.lead.Lead.{Lead}
use Rattle.verifier.specs.flow.Leads.{lead_on}
use Rattle.verifier.proofs.flow.lead.only_target.Goals as goal

only_is : (leads : List Lead) (d : Lead) → length leads ≡ 1 → (get_or leads 0 d).handler ≡ None → leads ≡ lead_on (get_or leads 0 d).offset ∷ []
only_is [] d n e = absurd (omega (arith, n))
only_is (lead ∷ []) d n e = ap (λ h. record { offset = lead.offset; handler = h } ∷ []) e
only_is (lead ∷ other ∷ leads) d n e = absurd (omega (arith, n))

pub returns-in-None : goal.returns-in-None
returns-in-None c = only_is c.args.leads.now (record { offset = 0; handler = None }) (omega arith) c.in-None.is
