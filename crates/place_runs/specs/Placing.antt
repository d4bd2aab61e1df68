-- Texts with places that stand for events (own).
use Rattle.std.specs.Prelude.{ℕ, List, []}
use Rattle.model.specs.declared.event.Event.{Event}
use Rattle.model.specs.declared.limits.Limits.{Limits}
use Rattle.model.specs.Classes.{Program}
use Rattle.schedule.specs.schedule_text.Text.{text_words}
use Rattle.place_texts.specs.Places.{DeedOf}
use Rattle.place_texts.specs.Texts.{SpellDeeds}
use Rattle.place_runs.specs.Meaning.{Means}

-- The words of a text are those of places and entries, and over these class files they stand for these events.
pub record IsPlacedText (trees : Program) (limits : Limits) (events : List Event) (text : List ℕ) : Type 0 where
  pub deeds : List DeedOf
  pub spelled : SpellDeeds (text_words text) deeds
  pub means : Means trees limits.frames [] deeds events
