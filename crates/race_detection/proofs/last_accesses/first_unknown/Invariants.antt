use Rattle.std.proofs.Common.{◌≡◌, ℕ, ◌<◌, [], get_or}
use Rattle.std.specs.Prelude.{Some, slice_get}
use Rattle.race_detection.specs.declared.last_accesses.Access.{Access}
use Rattle.race_detection.specs.last_accesses.Accesses.{IsUnknown}
use Rattle.race_detection.proofs.last_accesses.first_unknown.Given as goal

abbrev pub invariant-accesses : goal.invariant-accesses
invariant-accesses l =
    (k : ℕ) (access : Access) → k < l.access-index → slice_get l.accesses k ≡ Some access → IsUnknown l.thread (get_or l.threads l.thread []) access → ⊥
