-- By which policy one worker runs class files, by the options (own).
use Rattle.std.specs.Prelude.{◌≡◌, ◌<◌, ◌^◌, ℕ, Bool, List, Option, Some, None, unwrap_or}
use Rattle.model.specs.declared.end.End.{End}
use Rattle.model.specs.declared.event.Event.{Event}
use Rattle.model.specs.declared.limits.Limits.{Limits}
use Rattle.model.specs.Classes.{Program}
use Rattle.command_line.specs.Policies.{policy_of}
use Rattle.command_line.specs.declared.run_options.PolicyName.{PolicyName}
use Rattle.command_line.specs.declared.run_options.PolicyName.TheVariants as names
use Rattle.command_line.specs.declared.run_options.RunOptions.{RunOptions}
use Rattle.program_runs.specs.declared.policies.policy.Policy.{Policy}
use Rattle.program_runs.specs.declared.policies.policy.Policy.TheVariants as policies
use Rattle.program_runs.specs.policies.PolicyTurns.{IsRunBy}

-- the seed is that which is asked for, or any of 32 bits
abbrev pub HasSeed : Option ℕ → ℕ → Type 0
HasSeed (Some asked) seed = seed ≡ asked
HasSeed None seed = seed < 2 ^ 32

-- the policy has this name, and the seed or the quantum of these options
abbrev pub IsNamed : PolicyName → RunOptions → Policy → Type 0
IsNamed names.Mixed options (policies.Mixed seed) = HasSeed options.seed seed
IsNamed names.Random options (policies.Random seed) = HasSeed options.seed seed
IsNamed names.Rotation options (policies.Rotation quantum) = quantum ≡ unwrap_or options.quantum 1000
IsNamed name options policy = ⊥

-- it is the one that they ask for
abbrev pub IsAskedFor : RunOptions → Policy → Type 0
IsAskedFor options policy = IsNamed (policy_of options.quantum options.policy) options policy

-- one worker does the events of that policy, or a front of them, where the end is early; which ones several workers do isn't said
abbrev pub IsRunFor : (workers : Option ℕ) → RunOptions → (may_stop : Bool) → Program → Limits → (budget : ℕ) → List Event → End → Type 0
IsRunFor (Some workers) options may_stop trees limits budget events end = Unit {0}
IsRunFor None options may_stop trees limits budget events end =
    (policy : Policy) × IsAskedFor options policy × IsRunBy policy may_stop trees limits budget events end
