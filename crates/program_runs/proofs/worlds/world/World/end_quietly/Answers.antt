use Rattle.std.proofs.Common.{subst, sym}
use Rattle.program_runs.specs.worlds.Turns.{IsFound}
use Rattle.program_runs.specs.worlds.Worlds.{WorldOf}
use Rattle.std.proofs.Common.{None}
use Rattle.program_runs.proofs.worlds.Shared.{ends_quiet}
use Rattle.program_runs.proofs.worlds.world.World.end_quietly.Goals as goal

pub invariant_of-self : goal.invariant_of-self
invariant_of-self c =
    ends_quiet c.reports_of_words.ensures.holds _ c.self.invariant 0 (subst (λ (w : WorldOf). IsFound w.machine 0 None) (sym c.self.view_is) c.requires.none)
