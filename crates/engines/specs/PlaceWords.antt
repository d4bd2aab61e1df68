-- The words of a schedule with places, as they are read and followed.
use Rattle.std.specs.Prelude.{◌≡◌, ◌⊎◌, ◌++◌, ◌∷◌, ℕ, List, Option, Some, None, Bool, false}
use Rattle.model.specs.declared.event.Event.{Event}
use Rattle.model.specs.declared.limits.Limits.{Limits}
use Rattle.model.specs.Classes.{Program}
use Rattle.model.specs.Schedule.{events_of}
use Rattle.schedule.specs.Files.{Recording}
use Rattle.schedule.specs.declared.fault.ScheduleFault.TheVariants as schedules
use Rattle.schedule.specs.declared.schedule_text.either.EitherFault.TheVariants.{File, Text}
use Rattle.schedule.specs.declared.schedule_text.fault.TextFault.{TextFault}
use Rattle.schedule.specs.declared.schedule_text.fault.TextFault.TheVariants as texts
use Rattle.schedule.specs.schedule_text.Either.{GivesEvents}
use Rattle.schedule.specs.schedule_text.Text.{text_words}
use Rattle.place_texts.specs.Places.{DeedOf, PlaceOf, Until, deeds_of}
use Rattle.place_texts.specs.Texts.{SpellDeeds, place_words}
use Rattle.place_runs.specs.declared.following.Stop.{Stop}
use Rattle.place_runs.specs.Following.{IsFollowed, with_stop}
use Rattle.code_places.specs.There.{Misses}
use Rattle.engines.specs.GivenPlaces.{AreThere, is_given_up}
use Rattle.engines.specs.Opening.{IsUnspelled}
use Rattle.engines.specs.declared.fault.Fault.{Fault}
use Rattle.engines.specs.declared.fault.Fault.TheVariants as faults
use Rattle.engines.specs.declared.place_schedules.Words.{Words}
use Rattle.engines.specs.declared.place_schedules.Words.TheVariants as words

-- the bytes give these events, or the words of their text these places and entries
abbrev pub SpellsWords : List ℕ → Option Recording → Words → Type 0
SpellsWords bytes recorded (words.Entries schedule) = GivesEvents bytes recorded (events_of schedule)
SpellsWords bytes recorded (words.Places deeds) = (recorded ≡ None) × SpellDeeds (text_words bytes) (deeds_of deeds.items)

-- why there are none: the bytes give no schedule without places
abbrev pub IsUnreadWords : Option (List ℕ) → Fault → Type 0
IsUnreadWords left faults.Device = Unit {0}
IsUnreadWords left faults.Memory = Unit {0}
IsUnreadWords left (faults.Schedule fault) = (fault ≡ schedules.OutOfMemory) ⊎ IsUnspelled left (File fault)
IsUnreadWords left (faults.Text fault) = (fault ≡ texts.OutOfMemory) ⊎ IsUnspelled left (Text fault)
IsUnreadWords left (faults.Place missing) = ⊥
IsUnreadWords left (faults.Refusal refusal) = ⊥

-- Why a text spells no places, which spells no schedule for the first of these faults: memory ran out, or that was no want of memory.
abbrev pub IsTextOf : TextFault → Fault → Type 0
IsTextOf fault told = (told ≡ faults.Text texts.OutOfMemory) ⊎ ((fault ≡ texts.OutOfMemory → ⊥) × ((why : TextFault) × (told ≡ faults.Text why)))

-- what is told of the place of a word isn't there
abbrev pub IsMissingAt : Program → DeedOf → Fault → Type 0
IsMissingAt trees deed faults.Device = ⊥
IsMissingAt trees deed faults.Memory = Unit {0}
IsMissingAt trees deed (faults.Schedule fault) = ⊥
IsMissingAt trees deed (faults.Text fault) = ⊥
IsMissingAt trees deed (faults.Place missing) = (thread : ℕ) × (place : PlaceOf) × (deed ≡ Until thread place)
    × Misses trees place (Some missing.fault) × (missing.words.items ≡ place_words place)
IsMissingAt trees deed (faults.Refusal refusal) = ⊥

-- of one of these words
abbrev pub IsMissingIn : Program → List DeedOf → Fault → Type 0
IsMissingIn trees deeds fault = (before : List DeedOf) × (deed : DeedOf) × (behind : List DeedOf)
    × (deeds ≡ before ++ deed ∷ behind) × IsMissingAt trees deed fault

-- memory ran out, or it is so of one
abbrev pub IsUnfollowed : Program → List DeedOf → Fault → Type 0
IsUnfollowed trees deeds fault = (fault ≡ faults.Memory) ⊎ IsMissingIn trees deeds fault

abbrev pub IsMissingFor : Words → Program → Fault → Type 0
IsMissingFor (words.Entries schedule) trees fault = ⊥
IsMissingFor (words.Places deeds) trees fault = IsUnfollowed trees (deeds_of deeds.items) fault

-- the events of words over these class files, the last of which is that which can't be done, if that is why there are no more
abbrev pub DeedsGive : List DeedOf → Program → Limits → (budget : ℕ) → List Event → (gives_up : Bool) → Type 0
DeedsGive deeds trees limits budget events gives_up = AreThere trees deeds × ((done : List Event) × (stop : Stop)
    × IsFollowed trees limits 4294967295 budget deeds done stop × (events ≡ with_stop done stop) × (gives_up ≡ is_given_up stop))

abbrev pub WordsGive : Words → Program → Limits → (budget : ℕ) → List Event → (gives_up : Bool) → Type 0
WordsGive (words.Entries schedule) trees limits budget events gives_up = (events ≡ events_of schedule) × (gives_up ≡ false)
WordsGive (words.Places deeds) trees limits budget events gives_up = DeedsGive (deeds_of deeds.items) trees limits budget events gives_up
