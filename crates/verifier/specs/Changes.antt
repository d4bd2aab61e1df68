-- Local variables that changed, merged into a frame type.
use Rattle.std.specs.Prelude.{◌≡◌, ℕ, List, Option, Some, Bool, true, slice_get, slice_set, slice_index_or, option_map}
use Rattle.model.specs.Classes.{Program}
use Rattle.model.specs.TypeOrder.{is_local_below}
use Rattle.model.specs.TypeJoin.{local_join}
use Rattle.types.specs.View.{type_in}
use Rattle.types.specs.declared.verification_type.VerificationType.{VerificationType}
use Rattle.types.specs.declared.verification_type.VerificationType.TheVariants as type
use Rattle.verifier.specs.Agreeing.{is_among, AgreeBut}
use Rattle.verifier.specs.Packed.{Parts}

-- what a local variable holds in a frame type is below what it holds in that there; past its end, below what is not usable
abbrev pub fits : Program → Parts → Parts → ℕ → Bool
fits files there frame k =
    is_local_below files (type_in files (slice_index_or frame.locals k type.Unusable)) (type_in files (slice_index_or there.locals k type.Unusable))

-- of frame types that are of one stack, and constructed both or none, these local variables alone may differ
pub record PartsDiffer (ks : List ℕ) (a b : Parts) : Type 0 where
  pub locals : AgreeBut ks a.locals b.locals
  pub stack : a.stack ≡ b.stack
  pub constructed : a.constructed ≡ b.constructed

-- so it is of a frame type in a table
abbrev pub DiffersAt : List ℕ → ℕ → Parts → List (Option Parts) → Type 0
DiffersAt ks offset b types = (a : Parts) → slice_get types offset ≡ Some (Some a) → PartsDiffer ks a b

-- these local variables of the frame type that is there have become the joins of both
pub record IsJoined (files : Program) (ks : List ℕ) (there frame join : Parts) : Type 0 where
  pub differ : PartsDiffer ks there join
  pub joins : (k : ℕ) → is_among ks k ≡ true → (x y : VerificationType) → slice_get there.locals k ≡ Some x → slice_get frame.locals k ≡ Some y
      → option_map (type_in files) (slice_get join.locals k) ≡ Some (local_join files (type_in files x) (type_in files y))

-- so it is of a frame type in a table
pub record HasJoined (files : Program) (to : ℕ) (frame : Parts) (ks : List ℕ) (there : Parts) (before after : List (Option Parts)) : Type 0 where
  pub join : Parts
  pub joined : IsJoined files ks there frame join
  pub set : after ≡ slice_set before to (Some join)

abbrev pub JoinsAt : Program → ℕ → Parts → List ℕ → List (Option Parts) → List (Option Parts) → Type 0
JoinsAt files to frame ks before after = (there : Parts) → slice_get before to ≡ Some (Some there) → HasJoined files to frame ks there before after
