-- How many events turns have (own).
use Rattle.std.specs.Prelude.{◌≡◌, ℕ, Bool, true, false}
use Rattle.rand_core.specs.Stream.{Stream}
use Rattle.program_runs.specs.declared.policies.turn_lengths.Turn.{Turn}
use Rattle.program_runs.specs.declared.policies.turn_lengths.Turn.TheVariants as turn
use Rattle.program_runs.specs.declared.policies.turn_lengths.TurnLengths.{TurnLengths}
use Rattle.program_runs.specs.policies.Draws.{counted_length}

-- before any turn
pub record AreNew (n : ℕ) (main_first : Bool) (lengths : TurnLengths) : Type 0 where
  pub n_is : lengths.n ≡ n
  pub first_is : lengths.is_main_first ≡ main_first
  pub none : (lengths.same ≡ 0) × (lengths.another ≡ 0)

-- how turns get their lengths stays
abbrev pub KeepsRule : (old new : TurnLengths) → Type 0
KeepsRule old new = (new.n ≡ old.n) × (new.is_main_first ≡ old.is_main_first)

-- so many events are drawn, and a short turn counts among those of the same thread as the turn before
pub record IsLengthOfSame (old : TurnLengths) (s : Stream) (length : ℕ) (new : TurnLengths) (rest : Stream) : Type 0 where
  pub drawn : (length, (new.same, rest)) ≡ counted_length old.n old.same s
  pub rule : KeepsRule old new
  pub another : new.another ≡ old.another

-- among those of another one
pub record IsLengthOfAnother (old : TurnLengths) (s : Stream) (length : ℕ) (new : TurnLengths) (rest : Stream) : Type 0 where
  pub drawn : (length, (new.another, rest)) ≡ counted_length old.n old.another s
  pub rule : KeepsRule old new
  pub same : new.same ≡ old.same

-- 10,000 events; nothing is drawn, and it is no short turn
pub record IsLongFirst (old : TurnLengths) (s : Stream) (length : ℕ) (new : TurnLengths) (rest : Stream) : Type 0 where
  pub long : length ≡ 10000
  pub none : rest ≡ s
  pub kept : new ≡ old

-- of the first turn, where main goes first, and where it doesn't
abbrev pub IsFirstLength : (main_first : Bool) → (old : TurnLengths) → Stream → (length : ℕ) → (new : TurnLengths) → Stream → Type 0
IsFirstLength true = IsLongFirst
IsFirstLength false = IsLengthOfSame

-- how many events the next turn has
abbrev pub HasLength : Turn → (old : TurnLengths) → Stream → (length : ℕ) → (new : TurnLengths) → Stream → Type 0
HasLength turn.First old = IsFirstLength old.is_main_first old
HasLength turn.Same old = IsLengthOfSame old
HasLength turn.Another old = IsLengthOfAnother old
