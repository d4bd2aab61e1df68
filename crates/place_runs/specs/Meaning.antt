-- Which events a schedule with places stands for, in runs of class files (own; JVMS 2.6; JLS 17).
use Rattle.std.specs.Prelude.{◌≡◌, ◌<◌, ◌≤◌, ℕ, List, [], ◌∷◌, ◌++◌, Some, IsTrue, IsFalse, replicate}
use Rattle.model.specs.declared.event.Event.{Event}
use Rattle.model.specs.Classes.{Program}
use Rattle.model.specs.Run.{run}
use Rattle.model.specs.State.{State}
use Rattle.machine.specs.Tops.{plain}
use Rattle.place_texts.specs.Places.{PlaceOf, DeedOf, Entry, Until}
use Rattle.place_runs.specs.Standing.{is_at}

-- ---- a place

-- after these events the thread is at the place, or it isn't
abbrev pub IsAt : Program → (frames : ℕ) → List Event → (t : ℕ) → PlaceOf → Type 0
IsAt trees frames events t place = (state : State) × (run trees frames events ≡ Some state) × IsTrue (is_at trees place state t)

abbrev pub IsNotAt : Program → (frames : ℕ) → List Event → (t : ℕ) → PlaceOf → Type 0
IsNotAt trees frames events t place = (state : State) × (run trees frames events ≡ Some state) × IsFalse (is_at trees place state t)

-- after some events, none of up to so many further ones of the thread brings it to the place
abbrev pub IsNotReached : Program → (frames : ℕ) → (done : List Event) → (t : ℕ) → PlaceOf → (count : ℕ) → Type 0
IsNotReached trees frames done t place count =
    (k : ℕ) → 1 ≤ k → k ≤ count → IsNotAt trees frames (done ++ replicate k (plain t)) t place

-- so many do, at least one, and no fewer
pub record IsReachedBy (trees : Program) (frames : ℕ) (done : List Event) (t : ℕ) (place : PlaceOf) (count : ℕ) : Type 0 where
  pub some : 1 ≤ count
  pub reached : IsAt trees frames (done ++ replicate count (plain t)) t place
  pub first : (k : ℕ) → 1 ≤ k → k < count → IsNotAt trees frames (done ++ replicate k (plain t)) t place

-- ---- words

-- after some events, a word stands for these
abbrev pub MeansOne : Program → (frames : ℕ) → (done : List Event) → DeedOf → List Event → Type 0
MeansOne trees frames done (Entry entry) events = events ≡ replicate entry.repeat entry.event
MeansOne trees frames done (Until t place) events = (count : ℕ) × (events ≡ replicate count (plain t)) × IsReachedBy trees frames done t place count

-- These are the events of words, one after the other: of each word and its own events this holds, after the events before them.
abbrev pub InTurn : (IsOfOne : (done : List Event) → DeedOf → List Event → Type 0) → (done : List Event) → List DeedOf → List Event → Type 0
InTurn IsOfOne done [] events = events ≡ []
InTurn IsOfOne done (deed ∷ deeds) events =
    (own : List Event) × (rest : List Event) × (events ≡ own ++ rest) × IsOfOne done deed own × InTurn IsOfOne (done ++ own) deeds rest

-- after some events, words stand for these
abbrev pub Means : Program → (frames : ℕ) → (done : List Event) → List DeedOf → List Event → Type 0
Means trees frames done deeds events = InTurn (MeansOne trees frames) done deeds events
