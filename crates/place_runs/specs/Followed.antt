-- The events of a schedule with places (own).
use Rattle.std.specs.Prelude.{◌≡◌, ℕ, List}
use Rattle.model.specs.declared.event.Event.{Event}
use Rattle.model.specs.declared.limits.Limits.{Limits}
use Rattle.model.specs.Classes.{Program}
use Rattle.model.specs.Schedule.{events_of}
use Rattle.place_runs.specs.declared.run.Followed.{Followed}
use Rattle.place_texts.specs.Places.{DeedOf}
use Rattle.place_runs.specs.Following.{IsFollowed, with_stop}

-- The events of a schedule are those that the words do in a run of these files, with the one that can't be done, if that
-- is why there are no more.
pub record AreEventsOf (trees : Program) (limits : Limits) (budget : ℕ) (deeds : List DeedOf) (f : Followed) : Type 0 where
  pub events : List Event
  pub followed : IsFollowed trees limits 4294967295 budget deeds events f.stop
  pub are : events_of f.schedule ≡ with_stop events f.stop
