-- Frame types by their parts, and with their local variables in runs: so many of one type, one after another.
use Rattle.std.specs.Prelude.{List, map, reverse, replicate, Bool}
use Rattle.std.specs.List.{flat_map}
use Rattle.model.specs.Classes.{Program}
use Rattle.model.specs.TypeOrder.{is_frame_below}
use Rattle.model.specs.TypeOrder as frames
use Rattle.types.specs.View.{type_in}
use Rattle.types.specs.declared.verification_type.VerificationType.{VerificationType}
use Rattle.types.specs.declared.frame_type.FrameType.{FrameType}
use Rattle.verifier.specs.declared.run.Run.{Run}
use Rattle.verifier.specs.declared.locals.Locals.{Locals}
use Rattle.verifier.specs.declared.locals.Locals.TheVariants as locals

-- the types of runs
abbrev pub unpacked : List Run → List VerificationType
unpacked runs = flat_map (λ (run : Run). replicate run.count run.of) runs

-- the types of local variables, in runs or one by one
abbrev pub locals_in : Locals → List VerificationType
locals_in (locals.Runs runs) = unpacked runs.items
locals_in (locals.Each types) = types.items

-- a frame type by its parts; the top of the stack comes last
pub record Parts : Type 0 where
  pub locals : List VerificationType
  pub stack : List VerificationType
  pub constructed : Bool

abbrev pub parts_of : FrameType → Parts
parts_of frame = record { locals = frame.locals.items; stack = frame.stack.items; constructed = frame.constructed }

abbrev pub parts_in : Program → Parts → frames.FrameType
parts_in files f =
    record {
      slots = record { locals = map (type_in files) f.locals; stack = reverse (map (type_in files) f.stack) };
      constructed = f.constructed;
    }
