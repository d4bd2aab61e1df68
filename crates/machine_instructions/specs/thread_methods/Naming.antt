-- What the machine keeps of a Thread without a name (own).
use Rattle.std.specs.Prelude.{ℕ, ◌+◌, ◌++◌, ◌%◌, ◌^◌, codes}
use Rattle.std.specs.Fmt.{signed_decimal}
use Rattle.model.specs.Ints.{signed}
use Rattle.model.specs.Texts.{Text}
use Rattle.heap.specs.Heap.{put_field}
use Rattle.machine_state.specs.declared.state.Shared.{Shared}

-- the number of the next one is in the slot of its field `number`, and one more was made
abbrev pub numbered : Shared → (thread : ℕ) → Shared
numbered old thread = record old {
  heap = record old.heap { objects = put_field old.heap.objects thread 2 old.unnamed };
  unnamed = (old.unnamed + 1) % 2 ^ 32;
}

-- the text of its name, by the word of its number
abbrev pub numbered_name : ℕ → Text
numbered_name word = codes "Thread-" ++ signed_decimal (signed word)
