-- Places, and what the words of a schedule with places stand for (own).
use Rattle.std.specs.Prelude.{ℕ, List, Option, map, vec_items}
use Rattle.std.specs.Option.{option_map}
use Rattle.model.specs.Names.{Name}
use Rattle.model.specs.declared.event.ScheduleEntry.{ScheduleEntry}
use Rattle.place_texts.specs.declared.place.Position.{Position}
use Rattle.place_texts.specs.declared.place.Place.{Place}
use Rattle.place_texts.specs.declared.place.Deed.{Deed}
use Rattle.place_texts.specs.declared.place.Deed.TheVariants as deeds
use Rattle.place_texts.specs.declared.place.PlacedDeed.{PlacedDeed}

-- a position in the code of the methods of a name that a class declares: of all of them, or of the one with a descriptor
pub record PlaceOf : Type 0 where
  pub class : Name
  pub method : Name
  pub descriptor : Option Name
  pub position : Position

abbrev pub place_of : Place → PlaceOf
place_of p = record { class = p.class.items; method = p.method.items; descriptor = option_map vec_items p.descriptor; position = p.position }

-- so many equal events; or a thread goes on until its next bytecode is at a place
pub data DeedOf : Type 0 where
  Entry : (entry : ScheduleEntry) → DeedOf
  Until : (thread : ℕ) (place : PlaceOf) → DeedOf

abbrev pub deed_of : Deed → DeedOf
deed_of (deeds.Entry entry) = Entry entry
deed_of (deeds.Until thread place) = Until thread (place_of place)

abbrev pub deeds_of : List PlacedDeed → List DeedOf
deeds_of words = map (λ (w : PlacedDeed). deed_of w.deed) words
