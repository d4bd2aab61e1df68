-- What instructions want, in the words of the definitions: a class is named by its place in the program.
use Rattle.std.specs.Prelude.{ℕ, List, [], ◌∷◌, map, Option, Some, None}
use Rattle.model.specs.Classes.{Program}
use Rattle.model.specs.Types as model
use Rattle.model.specs.Operands as operands
use Rattle.hierarchy.specs.Places.{name_at}
use Rattle.types.specs.View.{reference_in}
use Rattle.instruction_types.specs.declared.operand_types.wants.Want.{Want}
use Rattle.instruction_types.specs.declared.operand_types.wants.Want.TheVariants as want
use Rattle.instruction_types.specs.declared.operand_types.wants.LocalRead.{LocalRead}
use Rattle.instruction_types.specs.declared.operand_types.wants.Wants.{Wants}
use Rattle.instruction_types.specs.declared.operand_types.wants.Asked.{Asked}

abbrev pub want_in : Program → Want → model.Want
want_in files want.AnyWord = model.AnyWord
want_in files want.AnInt = model.AnInt
want_in files want.AnyReference = model.AnyReference
want_in files (want.AReference type) = model.AReference (reference_in files type)
want_in files (want.AReceiver class) = model.AReceiver (name_at files class)
want_in files (want.AnOwner class) = model.AnOwner (name_at files class)
want_in files want.AnArray = model.AnArray
want_in files want.AByteArray = model.AByteArray

-- the local variable that is read, if there is one
abbrev pub reads_in : Program → Option LocalRead → List (ℕ × model.Want)
reads_in files None = []
reads_in files (Some read) = (read.local, want_in files read.want) ∷ []

abbrev pub wants_in : Program → Wants → operands.Wants
wants_in files w =
    record { allowed = w.allowed; reads = reads_in files w.reads; pops = map (want_in files) w.pops.items; grows = w.grows }

abbrev pub asked_in : Program → Asked → operands.Wants
asked_in files a =
    record { allowed = a.allowed; reads = reads_in files a.reads; pops = map (want_in files) a.pops.now; grows = a.grows }
