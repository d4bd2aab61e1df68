-- Who gives the threads turns, by the options of a run (own).
use Rattle.std.specs.Prelude.{◌≡◌, ℕ, codes, Option, Some, None}
use Rattle.clap.specs.Words.{Text}
use Rattle.command_line.specs.declared.run_options.PolicyName.{PolicyName}
use Rattle.command_line.specs.declared.run_options.PolicyName.TheVariants as policies

-- the word names this policy
abbrev pub IsPolicyWord : Text → PolicyName → Type 0
IsPolicyWord word policies.Mixed = word ≡ codes "mixed"
IsPolicyWord word policies.Random = word ≡ codes "random"
IsPolicyWord word policies.Rotation = word ≡ codes "rotation"

-- the policy that is named, where one is
abbrev pub IsPolicy : Option Text → Option PolicyName → Type 0
IsPolicy None None = Unit {0}
IsPolicy (Some word) (Some name) = IsPolicyWord word name
IsPolicy None (Some name) = ⊥
IsPolicy (Some word) None = ⊥

-- the policy of one worker: where none is named, a quantum asks for a rotation
abbrev pub policy_of : (quantum : Option ℕ) → Option PolicyName → PolicyName
policy_of quantum (Some name) = name
policy_of (Some events) None = policies.Rotation
policy_of None None = policies.Mixed

-- a policy that draws from a seed has no quantum, and a rotation has no seed
abbrev pub IsOfPolicy : PolicyName → (quantum seed : Option ℕ) → Type 0
IsOfPolicy policies.Mixed quantum seed = quantum ≡ None
IsOfPolicy policies.Random quantum seed = quantum ≡ None
IsOfPolicy policies.Rotation quantum seed = seed ≡ None

-- workers side by side have neither a seed nor a policy, and one worker has what is of its policy
abbrev pub GoTogether : (workers quantum seed : Option ℕ) → Option PolicyName → Type 0
GoTogether (Some workers) quantum seed policy = (seed ≡ None) × (policy ≡ None)
GoTogether None quantum seed policy = IsOfPolicy (policy_of quantum policy) quantum seed
