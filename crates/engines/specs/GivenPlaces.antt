-- What a schedule gives that may have places, and what is told of a run that gave up at one (own).
use Rattle.std.specs.Prelude.{◌≡◌, ◌⊎◌, ◌++◌, ℕ, List, [], ◌∷◌, Option, None, Bool, true, false, codes, if◌then◌else◌, map}
use Rattle.model.specs.declared.end.End.{End}
use Rattle.model.specs.declared.event.Event.{Event}
use Rattle.model.specs.declared.limits.Limits.{Limits}
use Rattle.model.specs.declared.report.Report.{Report}
use Rattle.model.specs.Classes.{Program}
use Rattle.model.specs.Report.{end_state_of, line, number, thread_lines}
use Rattle.model.specs.Texts.{printed_lines}
use Rattle.schedule.specs.Files.{Recording}
use Rattle.schedule.specs.schedule_text.Either.{GivesEvents}
use Rattle.schedule.specs.schedule_text.Text.{text_words}
use Rattle.machine.specs.machine_replay.Replays.{text_of}
use Rattle.code_places.specs.There.{Misses}
use Rattle.place_texts.specs.Places.{DeedOf, Entry, Until}
use Rattle.place_texts.specs.Texts.{SpellDeeds}
use Rattle.place_runs.specs.declared.following.Stop.{Stop}
use Rattle.place_runs.specs.declared.following.Stop.TheVariants as stops
use Rattle.place_runs.specs.Following.{IsFollowed, with_stop}
use Rattle.engines.specs.Statuses.{status_of}
use Rattle.engines.specs.declared.status.Status.{Status}
use Rattle.engines.specs.declared.status.Status.TheVariants as statuses

-- ---- what it gives

-- it gives up at a place
abbrev pub is_given_up : Stop → Bool
is_given_up stops.Whole = false
is_given_up (stops.Event event) = false
is_given_up stops.UsedUp = true

-- the place of a word, if it has one, is there in these class files
abbrev pub IsThere : Program → DeedOf → Type 0
IsThere trees (Entry entry) = Unit {0}
IsThere trees (Until thread place) = Misses trees place None

abbrev pub AreThere : Program → List DeedOf → Type 0
AreThere trees [] = Unit {0}
AreThere trees (deed ∷ deeds) = IsThere trees deed × AreThere trees deeds

-- The words of a text are those of places and entries, the places are there, and these are their events over these class files: the last
-- one is that which can't be done, if that is why there are no more.
pub record GivesPlaces (schedule : List ℕ) (trees : Program) (limits : Limits) (budget : ℕ) (events : List Event) (gives_up : Bool) : Type 0 where
  pub deeds : List DeedOf
  pub spelled : SpellDeeds (text_words schedule) deeds
  pub there : AreThere trees deeds
  pub done : List Event
  pub stop : Stop
  pub followed : IsFollowed trees limits 4294967295 budget deeds done stop
  pub events_are : events ≡ with_stop done stop
  pub given_up : gives_up ≡ is_given_up stop

-- the bytes of a schedule give these events, with what it was recorded, and give up at a place or don't
abbrev pub Gives : List ℕ → Program → Limits → (budget : ℕ) → Option Recording → List Event → (gives_up : Bool) → Type 0
Gives schedule trees limits budget recorded events gives_up =
    (GivesEvents schedule recorded events × (gives_up ≡ false))
    ⊎ ((recorded ≡ None) × GivesPlaces schedule trees limits budget events gives_up)

-- they spell a schedule, with what it was recorded, or words of places and entries
abbrev pub Spells : List ℕ → Option Recording → Type 0
Spells schedule recorded =
    ((events : List Event) × GivesEvents schedule recorded events) ⊎ ((recorded ≡ None) × (deeds : List DeedOf) × SpellDeeds (text_words schedule) deeds)

-- ---- what is told of it

-- the text of the report of a run that gave up at a place
abbrev pub place_text_of : Report → List ℕ
place_text_of r =
    printed_lines r.printed.items
    ++ (thread_lines 0 (map end_state_of r.threads.items) ++ (line (codes "events " ++ number r.events) ++ line (codes "end place " ++ number r.events)))

abbrev pub told_text : (gives_up : Bool) → Report → End → List ℕ
told_text gives_up r end = if gives_up then place_text_of r else text_of r end

abbrev pub told_status : (gives_up : Bool) → Report → End → Status
told_status gives_up r end = if gives_up then statuses.Stopped else status_of r.threads.items end
