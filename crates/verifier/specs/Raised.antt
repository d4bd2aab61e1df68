-- One frame type merged into another.
use Rattle.std.specs.Prelude.{◌≡◌, Some, None, true}
use Rattle.model.specs.Classes.{Program}
use Rattle.model.specs.TypeOrder.{is_frame_below}
use Rattle.model.specs.TypeJoin.{frame_join}
use Rattle.verifier.specs.Packed.{Parts, parts_in}
use Rattle.verifier.specs.declared.raised.Raised.{Raised}
use Rattle.verifier.specs.declared.raised.Raised.TheVariants as raised

-- what a frame type becomes as another is merged into it: itself where the other is below it, else their join if they have one
abbrev pub Raises : Program → Parts → Parts → Raised → Type 0
Raises files there t raised.Not = is_frame_below files (parts_in files t) (parts_in files there) ≡ true
Raises files there t (raised.To join) =
    (is_frame_below files (parts_in files t) (parts_in files there) ≡ true → ⊥) × (frame_join files (parts_in files there) (parts_in files t) ≡ Some (parts_in files join))
Raises files there t raised.Clash = frame_join files (parts_in files there) (parts_in files t) ≡ None
