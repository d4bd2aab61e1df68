-- Where the next bytecode of a thread stands (own; JVMS 2.5.1, 2.6, 2.10; JLS 17).
use Rattle.std.specs.Prelude.{ℕ, List, [], ◌∷◌, Option, Bool, false, ◌&&◌, slice_get, unwrap_or}
use Rattle.model.specs.declared.value.Value.{Value}
use Rattle.model.specs.Names.{Member}
use Rattle.model.specs.Classes.{Program}
use Rattle.model.specs.State.{Invocation, Initialisation, StackOf, State}
use Rattle.model.specs.Worlds.{thread_at}
use Rattle.run_laws.specs.interleavings.Local.{is_going}
use Rattle.place_texts.specs.Places.{PlaceOf}
use Rattle.code_places.specs.Points.{is_point}

-- the frame on top stands at a place
abbrev pub is_on_top : {A : Type 0} → Program → PlaceOf → StackOf A → Bool
is_on_top trees place [] = false
is_on_top trees place (Invocation frame ∷ stack) = is_point trees place frame.method frame.place.offset
is_on_top trees place (Initialisation class phase ∷ stack) = false

-- The next bytecode of a thread is at a place: the thread runs, with no exception pending, and the frame on top stands there.
abbrev pub is_at : Program → PlaceOf → State → ℕ → Bool
is_at trees place state t =
    is_going (thread_at state.world t).status (thread_at state.world t).pending && is_on_top trees place (unwrap_or (slice_get state.stacks t) [])
