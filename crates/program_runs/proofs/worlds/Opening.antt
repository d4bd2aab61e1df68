-- A world before any event.
use Rattle.std.proofs.Common.{◌≡◌, ℕ, List, [], None, length, refl, sym, ap, subst, arith}
use Rattle.model.specs.declared.event.Event.{Event}
use Rattle.model.specs.declared.limits.Limits.{Limits}
use Rattle.model.specs.Classes.{Program}
use Rattle.machine.specs.Machines.{MachineOf}
use Rattle.machine.specs.machine_replay.Shown.{IsOpened}
use Rattle.machine.specs.schedule_runs.Done.{HasDone}
use Rattle.program_runs.specs.worlds.Worlds.{WorldOf, Holds, IsNew}

module _ (trees : Program) (limits : Limits) (budget : ℕ) (events : List Event) (m : MachineOf) (none : events ≡ []) (opened : IsOpened trees limits m) where
  abbrev world : WorldOf
  world = record { trees = trees; budget = budget; events = events; machine = m; end = None }

  pub holds : Holds world
  holds =
      record {
        files = opened.files;
        done = subst (HasDone m opened.files trees) (sym none) opened.done;
        within = let few : length events ≡ 0 = ap length none in omega (arith, few);
        fits = tt;
      }

  pub is_new : IsNew trees limits budget world
  is_new = record { trees_are = refl; limits_are = opened.limits_are; budget_is = refl; none = none; on = refl }
