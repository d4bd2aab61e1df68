-- What is true of races between the next events of two threads, whatever the others do meanwhile.
use Rattle.std.specs.Prelude.{ℕ, List}
use Rattle.model.specs.Accepted.{IsAccepted}
use Rattle.model.specs.Classes.{Program}
use Rattle.search_laws.specs.Alone.{IsToldByWords}
use Rattle.search_laws.specs.Verdicts.{IsLastingConflict}
use Rattle.racing_threads.specs.Racing.{are_racing}

-- words tell them
abbrev pub AreRacesTold : Type 0
AreRacesTold = (files : List (List ℕ)) (trees : Program) → IsAccepted files trees → (frames : ℕ) → IsToldByWords trees (are_racing trees frames)

-- they go both ways, and events of other threads keep them
abbrev pub DoRacesLast : Type 0
DoRacesLast = (files : List (List ℕ)) (trees : Program) → IsAccepted files trees → (frames : ℕ) → IsLastingConflict trees frames (are_racing trees frames)
