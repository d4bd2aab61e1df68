-- Outcomes that are the same: a test of it is an equivalence, and tells whether they are equal.
use Rattle.std.proofs.Common.{◌≡◌, subst}
use Rattle.std.specs.Prelude.{◌↔◌, IsTrue}
use Rattle.std.specs.Cmp.{IsEquivalence}
use Rattle.std.proofs.lemmas.Cmp.{eq_by_cmp_equiv}
use Rattle.std.proofs.lemmas.Map.Views.{tells_apart}
use Rattle.run_laws.specs.interleavings.Ends.{Outcome}
use Rattle.search.specs.run_outcomes.Outcomes.{is_same}
use Rattle.search.proofs.run_outcomes.Orders.{outcomes_total, same_outcome}

pub same_laws : IsEquivalence is_same
same_laws = eq_by_cmp_equiv outcomes_total

pub same_are_equal : (one other : Outcome) → IsTrue (is_same one other) ↔ (one ≡ other)
same_are_equal one other = (tells_apart same_outcome one other, λ e. subst (λ o. IsTrue (is_same one o)) e (same_laws.refl one))
