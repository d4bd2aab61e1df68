-- An instruction near by: its leads are merged, and the local variables before it differ in some that are known.
use Rattle.std.specs.Prelude.{◌≡◌, ℕ, List, Option, Some, None, true, false, slice_get, IfSome}
use Rattle.std.specs.List.{AllByRecursion}
use Rattle.model.specs.Classes.{Program}
use Rattle.model.specs.Step.{covers}
use Rattle.model.specs.Typing.{Typing, Reaches}
use Rattle.run_laws.specs.typing_search.Tables.{typing_of, waits}
use Rattle.verifier.specs.declared.flow.handler.Handler.{Handler}
use Rattle.verifier.specs.declared.flow.lead.Lead.{Lead}
use Rattle.verifier.specs.declared.found.Found.{Found}
use Rattle.verifier.specs.declared.found.Origin.{Origin}
use Rattle.verifier.specs.declared.near.Near.{Near}
use Rattle.verifier.specs.Agreeing.{AgreeBut}
use Rattle.verifier.specs.Found.{tables_in, led_to}
use Rattle.verifier.specs.Worklist.{Tables}
use Rattle.types.specs.declared.method_code.declaration.MethodCode.{MethodCode}
use Rattle.types.specs.method_code.View.{files_of}
use Rattle.verifier.specs.Packed.{Parts}

-- a frame type was found at the offset, which does not wait, and that before the instruction differs from it so
pub record IsNear (found : Found) (before : Parts) (near : Near) : Type 0 where
  pub other : Parts
  pub typed : slice_get found.types.items near.offset ≡ Some (Some other)
  pub waits : waits found.waiting near.offset ≡ false
  pub locals : AgreeBut near.changed.items other.locals before.locals
  pub constructed : other.constructed ≡ before.constructed

-- what an instruction at an offset leads to is reached, if it leads to this handler, too
abbrev pub IsReachedBy : Program → Typing → ℕ → Parts → ℕ → Option Handler → Type 0
IsReachedBy files F offset other to None = Unit {0}
IsReachedBy files F offset other to (Some h) = covers offset h.entry ≡ true → Reaches files F to (led_to files other other (Some h))

abbrev pub IsReachedFrom : Program → Typing → ℕ → Parts → Lead → Type 0
IsReachedFrom files F offset other lead = IsReachedBy files F offset other lead.offset lead.handler

-- the handlers that the instruction near by leads to, too, are reached from it
pub record AreKnown (files : Program) (tables : Tables) (before : Parts) (near : Near) (leads : List Lead) : Type 0 where
  pub other : Parts
  pub locals : AgreeBut near.changed.items other.locals before.locals
  pub constructed : other.constructed ≡ before.constructed
  pub reached : AllByRecursion (IsReachedFrom files (typing_of tables.types) near.offset other) leads

-- so it is where an instruction near by is at hand
abbrev pub KnowsNear : MethodCode → Found → Origin → List Lead → Type 0
KnowsNear m found origin leads = IfSome origin.near (λ near. AreKnown (files_of m) (tables_in (files_of m) found) origin.before near leads)

-- as it was, but for the stack before the instruction
pub record IsSameOrigin (old new : Origin) : Type 0 where
  pub after : new.after ≡ old.after
  pub near : new.near ≡ old.near
  pub locals : new.before.locals ≡ old.before.locals
  pub constructed : new.before.constructed ≡ old.before.constructed
