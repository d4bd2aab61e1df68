-- Where an instruction leads, its handlers aside.
use Rattle.std.specs.Prelude.{ℕ, List, Option, Some, None, if◌then◌else◌}
use Rattle.model.specs.declared.value.Value.{Value}
use Rattle.model.specs.Classes.{Program}
use Rattle.model.specs.Types.{type_meets}
use Rattle.model.specs.Operands.{over_types, is_ready}
use Rattle.model.specs.TypeOrder.{FrameType}
use Rattle.model.specs.Sites.{MeaningOf, Site}
use Rattle.model.specs.Typing.{successors}

-- by its meaning: none where there is no meaning, or its operands are not as it wants them
abbrev pub successors_by : Program → Site → FrameType → Option (MeaningOf Value) → Option (List (ℕ × FrameType))
successors_by files site t None = None
successors_by files site t (Some meaning) =
    if is_ready (type_meets files) over_types meaning.wants site.body.code.max_stack t.slots then Some (successors site meaning t) else None
