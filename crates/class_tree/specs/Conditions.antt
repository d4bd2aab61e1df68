-- What a check of the conditions on a class file promises.
use Rattle.std.specs.Prelude.{◌≡◌, Bool, true, false, IsFalse, Result, Ok, Err}
use Rattle.constant_pool.specs.declared.reading.fault.Cause.{Cause}
use Rattle.constant_pool.specs.declared.reading.fault.Cause.TheVariants as causes
use Rattle.constant_pool.specs.declared.reading.fault.Stop.{Stop}
use Rattle.constant_pool.specs.declared.reading.fault.Stop.TheVariants as stops
use Rattle.model.specs.Tree.{FileTree}
use Rattle.model.specs.Conditions.{file_indices, file_names, file_descriptors, file_attributes, members_differ}

-- a check passes where its condition is met, and else answers a fault of this cause, unless memory runs out
abbrev pub ChecksOrStops : {A : Type 0} → Cause → Result A Stop → Bool → Type 0
ChecksOrStops cause (Ok x) is_met = is_met ≡ true
ChecksOrStops cause (Err stops.Memory) is_met = Unit {0}
ChecksOrStops cause (Err (stops.Fault e)) is_met = (is_met ≡ false) × (e.cause ≡ cause)

-- the condition that a file does not meet where it has a fault of this cause
abbrev pub Stands : Cause → FileTree → Type 0
Stands causes.Index c = IsFalse (file_indices c)
Stands causes.Name c = IsFalse (file_names c)
Stands causes.Descriptor c = IsFalse (file_descriptors c)
Stands causes.Attribute c = IsFalse (file_attributes c)
Stands causes.Duplicate c = IsFalse (members_differ c)
Stands cause c = ⊥

-- the same, unless memory ran out
abbrev pub StandsOrStops : Stop → FileTree → Type 0
StandsOrStops stops.Memory c = Unit {0}
StandsOrStops (stops.Fault e) c = Stands e.cause c
