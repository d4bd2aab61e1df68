-- Who holds what is needed.
use Rattle.std.proofs.Common.{◌≡◌, ℕ, Option, Some, refl, sym, ap, ◌∙◌, eq-eqb}
use Rattle.model.specs.ClassInitialisation.{status_of}
use Rattle.model.specs.Monitors.{owns, monitor_at}
use Rattle.model.specs.Names.{Name}
use Rattle.model.specs.State.{Monitor, ClassStatus, NotInitialised, InProgress, Initialised, Erroneous, WorldOf}
use Rattle.std.proofs.lemmas.Option.{none-some, same_Some}
use Rattle.std.specs.Prelude.{List}
use Rattle.search_laws.specs.Waits.{MonitorOf, ClassOf}
use Rattle.search_laws.proofs.Owners.{owner_is}
use Rattle.waiting_circles.specs.Holders.{IsHeldOnlyBy, initiator_in}

by_initiator : (status : ClassStatus) (u : ℕ) → initiator_in status ≡ Some u → status ≡ InProgress u
by_initiator NotInitialised u e = absurd (none-some u e)
by_initiator (InProgress by) u e = ap InProgress (same_Some by u e)
by_initiator Initialised u e = absurd (none-some u e)
by_initiator Erroneous u e = absurd (none-some u e)

module _ (world : WorldOf ℕ) (result : Option ℕ) where
  pub owned : (object : ℕ) (monitors : List Monitor) → monitors ≡ world.monitors → result ≡ (monitor_at monitors object).owner
      → IsHeldOnlyBy world (MonitorOf object) result
  owned object monitors same is =
      let owner : result ≡ (monitor_at world.monitors object).owner = is ∙ ap (λ (ms : List Monitor). (monitor_at ms object).owner) same in
      record {
        holds = λ u e. ap (owns u) (sym owner ∙ e) ∙ eq-eqb u u refl;
        only = λ u h. owner ∙ owner_is u (monitor_at world.monitors object).owner h;
      }

  pub initialised : (class : Name) → result ≡ initiator_in (status_of world class) → IsHeldOnlyBy world (ClassOf class) result
  initialised class is =
      record {
        holds = λ u e. by_initiator (status_of world class) u (sym is ∙ e);
        only = λ u h. is ∙ ap initiator_in h;
      }
