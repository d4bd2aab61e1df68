-- Schedules with places as a word of a command line (own).
use Rattle.std.specs.Prelude.{◌≡◌, ℕ, List, true, false}
use Rattle.std.specs.List.{list_any}
use Rattle.schedule.specs.schedule_text.Text.{text_words}
use Rattle.place_texts.specs.Places.{DeedOf}
use Rattle.place_texts.specs.Reading.{has, is_marked}
use Rattle.place_texts.specs.Texts.{SpellDeeds}

-- It is no path: entries and places alone, at least one place, and no comment.
pub record IsPlacesWord (word : List ℕ) : Type 0 where
  pub bare : has 35 word ≡ false
  pub marked : list_any is_marked (text_words word) ≡ true
  pub deeds : List DeedOf
  pub spelled : SpellDeeds (text_words word) deeds
