-- Sweeps over seeds, by the options of a run (own).
use Rattle.std.specs.Prelude.{◌≡◌, ◌==◌, ℕ, Bool, true, false, List, [], ◌∷◌, Option, Some, None, codes}
use Rattle.std.specs.List.{slice_split}
use Rattle.std.specs.Str.Parse.{digits_value}
use Rattle.clap.specs.Words.{Row, Text, first_of}
use Rattle.command_line.specs.Goals.{IsGoal}
use Rattle.command_line.specs.Numerals.{IsNumeralWithin}
use Rattle.command_line.specs.declared.options.Goal.{Goal}
use Rattle.command_line.specs.declared.sweep_options.SeedRange.{SeedRange}
use Rattle.command_line.specs.declared.sweep_options.SweepOptions.{SweepOptions}
use Rattle.command_line.specs.declared.sweep_options.SweepPolicy.{SweepPolicy}
use Rattle.command_line.specs.declared.sweep_options.SweepPolicy.TheVariants as policies

-- ---- the seeds

-- digits alone spell a number of 64 bits
abbrev pub IsSeed : Text → ℕ → Type 0
IsSeed text seed = IsNumeralWithin 0 18446744073709551615 text × (seed ≡ digits_value 10 text)

-- these texts spell the first and the last
abbrev pub AreSeeds : (first last : Text) → SeedRange → Type 0
AreSeeds first last seeds = IsSeed first seeds.first × IsSeed last seeds.last

-- the word is the two texts with two dots between them
abbrev pub IsSeedRange : Text → SeedRange → Type 0
IsSeedRange word seeds = (first : Text) × (last : Text) × (slice_split (λ b. b == 0x2e) word ≡ first ∷ [] ∷ last ∷ []) × AreSeeds first last seeds

-- ---- the policy: a rotation has no seed

abbrev pub IsSweepPolicy : Option Text → SweepPolicy → Type 0
IsSweepPolicy None policies.Mixed = Unit {0}
IsSweepPolicy None policies.Random = ⊥
IsSweepPolicy (Some word) policies.Mixed = word ≡ codes "mixed"
IsSweepPolicy (Some word) policies.Random = word ≡ codes "random"

-- ---- what is to be found

-- a data race, which is no outcome; or an outcome, where one is asked for
abbrev pub IsSweepGoal : Option Text → (for_race : Bool) → Option Goal → Type 0
IsSweepGoal word true goal = (word ≡ Some (codes "race")) × (goal ≡ None)
IsSweepGoal word false goal = IsGoal word goal

-- ---- the sweep

-- beside the seeds of this word there is no seed and no quantum
pub record IsSweepOf (word : Text) (rows : List Row) (sweep : SweepOptions) : Type 0 where
  pub seeds : IsSeedRange word sweep.seeds
  pub no_seed : first_of (codes "seed") rows ≡ None
  pub no_quantum : first_of (codes "quantum") rows ≡ None
  pub policy : IsSweepPolicy (first_of (codes "policy") rows) sweep.policy
  pub goal : IsSweepGoal (first_of (codes "for") rows) sweep.for_race sweep.goal

abbrev pub IsSweepBy : Option Text → List Row → Option SweepOptions → Type 0
IsSweepBy (Some word) rows (Some sweep) = IsSweepOf word rows sweep
IsSweepBy (Some word) rows None = ⊥
IsSweepBy None rows (Some sweep) = ⊥
IsSweepBy None rows None = first_of (codes "for") rows ≡ None

-- the words ask for it, where they name seeds
abbrev pub IsSweep : List Row → Option SweepOptions → Type 0
IsSweep rows sweep = IsSweepBy (first_of (codes "seeds") rows) rows sweep
