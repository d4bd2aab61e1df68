-- Policies that go by a seed (own).
use Rattle.std.specs.Prelude.{ℕ, false, List, codes}
use Rattle.model.specs.declared.end.End.{End}
use Rattle.model.specs.declared.end.End.TheVariants as ends
use Rattle.model.specs.declared.end.RunCause.{RunCause}
use Rattle.model.specs.declared.end.RunCause.TheVariants as causes
use Rattle.model.specs.declared.limits.Limits.{Limits}
use Rattle.model.specs.Classes.{Program}
use Rattle.model.specs.Schedule.{events_of}
use Rattle.program_runs.specs.policies.PolicyTurns.{IsRunBy}
use Rattle.program_runs.specs.worlds.Records.{IsRecordOf}
use Rattle.program_runs.specs.declared.worlds.records.Recorded.{Recorded}
use Rattle.program_runs.specs.declared.policies.policy.Policy.{Policy}
use Rattle.program_runs.specs.declared.policies.policy.Policy.TheVariants as policies
use Rattle.sweeps.specs.declared.policy_runs.SeededPolicy.{SeededPolicy}
use Rattle.sweeps.specs.declared.policy_runs.SeededPolicy.TheVariants as seeded

abbrev pub with_seed : SeededPolicy → (seed : ℕ) → Policy
with_seed seeded.Mixed seed = policies.Mixed seed
with_seed seeded.Random seed = policies.Random seed

abbrev pub name_of : SeededPolicy → List ℕ
name_of seeded.Mixed = codes "mixed"
name_of seeded.Random = codes "random"

-- an event wanted memory that wasn't there
abbrev pub IsMemory : RunCause → Type 0
IsMemory causes.Memory = Unit {0}
IsMemory causes.Monitors = ⊥
IsMemory causes.LockCount = ⊥
IsMemory causes.Objects = ⊥
IsMemory causes.Cells = ⊥
IsMemory causes.Threads = ⊥

abbrev pub WantsMemory : End → Type 0
WantsMemory (ends.Refused i cause) = IsMemory cause
WantsMemory ends.Quiet = ⊥
WantsMemory ends.Budget = ⊥
WantsMemory ends.Schedule = ⊥
WantsMemory (ends.NotEnabled i) = ⊥

-- by which policy runs are of which class files, under which limits, and with which budget for each
pub record RunsBy : Type 0 where
  pub policy : SeededPolicy
  pub trees : Program
  pub limits : Limits
  pub budget : ℕ

-- the run with a seed, by the policy, which has not ended for want of memory
pub record IsRunWith (by : RunsBy) (seed : ℕ) (r : Recorded) : Type 0 where
  pub recorded : IsRecordOf by.trees by.limits by.budget r
  pub by_policy : IsRunBy (with_seed by.policy seed) false by.trees by.limits by.budget (events_of r.schedule) r.end
  pub no_want : WantsMemory r.end → ⊥
