-- What workers keep of the world that they share, and what one does to it at a time (own; JVMS 2.6; JLS 17).
use Rattle.std.specs.Prelude.{◌≡◌, ◌⊎◌, ◌<◌, ℕ, Option, Some, None, Bool, true, false}
use Rattle.std.proofs.Math.Dec.{lit≤}
use Rattle.model.specs.declared.limits.Limits.{Limits}
use Rattle.model.specs.Classes.{Program}
use Rattle.program_runs.specs.declared.worlds.commits.ThreadBurst.{ThreadBurst}
use Rattle.program_runs.specs.worlds.Commits.{CanCommit, IsCommitted, IsStill}
use Rattle.program_runs.specs.worlds.Worlds.{WorldOf, IsSpent}

-- a world is of class files with these trees, under these limits and with this budget, or what is spent of it
pub record IsWorldOf (trees : Program) (limits : Limits) (budget : ℕ) (may_stop : Bool) (w : WorldOf) : Type 0 where
  pub trees_are : w.trees ≡ trees
  pub limits_are : w.machine.limits ≡ limits
  pub budget_is : IsSpent may_stop budget w.budget

-- A burst is committed, which has steps. Or nothing has changed: there is none, or it has no step, or it can't be committed.
abbrev pub TakesOver : Bool → (old : WorldOf) → Option ThreadBurst → (new : WorldOf) → Type 0
TakesOver true old None new = ⊥
TakesOver true old (Some out) new = (0 < out.burst.steps) × IsCommitted old out new
TakesOver false old None new = new ≡ old
TakesOver false old (Some out) new = ((out.burst.steps ≡ 0) × (new ≡ old)) ⊎ ((CanCommit old out → ⊥) × IsStill old new)

-- the least limits
abbrev pub some_limits : Limits
some_limits = record {
  objects = 0;
  cells = 0;
  monitors = 0;
  threads = 1;
  frames = 1;
  objects_fit = lit≤ tt;
  monitors_fit = lit≤ tt;
  threads_fit = (lit≤ tt, lit≤ tt);
  frames_fit = (lit≤ tt, lit≤ tt);
}
