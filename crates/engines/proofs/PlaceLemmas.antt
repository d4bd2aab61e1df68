-- What a schedule with places gives, and what keeps it from that.
use Rattle.std.proofs.Common.{◌≡◌, ◌⊎◌, ◌++◌, ◌<◌, ◌≤◌, ◌+◌, ℕ, List, [], ◌∷◌, Bool, false, true, None, Option, ap, arith, get_or, inl, inr, length, refl, subst, sym, take, drop, ◌∙◌}
use Rattle.std.specs.Prelude.{◌==◌, ◌&&◌, nat_le}
use Rattle.std.proofs.Math.Dec.{leb}
use Rattle.std.proofs.lemmas.Bool.{eqb-true, leb-true}
use Rattle.std.proofs.lemmas.Bool.Decides.{leb_tells}
use Rattle.std.proofs.lemmas.List.{drop_more, map-append, take-append-drop, take_more}
use Rattle.model.specs.declared.device.DeviceFault.{DeviceFault}
use Rattle.model.specs.declared.device.DeviceFault.TheVariants as devices
use Rattle.model.specs.declared.event.Event.{Event}
use Rattle.model.specs.declared.event.ScheduleEntry.{ScheduleEntry}
use Rattle.model.specs.declared.limits.Limits.{Limits}
use Rattle.model.specs.Accepted.{IsAccepted}
use Rattle.model.specs.Classes.{Program}
use Rattle.model.specs.Schedule.{events_of}
use Rattle.schedule.specs.Files.{Recording}
use Rattle.schedule.specs.declared.schedule_text.either.EitherFault.TheVariants.{Text}
use Rattle.schedule.specs.declared.schedule_text.fault.TextFault.{TextFault}
use Rattle.schedule.specs.schedule_text.Either.{GivesEvents, IsMemory}
use Rattle.schedule.proofs.schedule_text.GrowingLaws.{plain_text}
use Rattle.schedule.specs.schedule_text.Text.{SpellsSchedule, behind_comments, text_words, words_from}
use Rattle.place_texts.specs.declared.place.PlacedDeed.{PlacedDeed}
use Rattle.place_texts.specs.Places.{DeedOf, deed_of, deeds_of}
use Rattle.place_texts.specs.Texts.{SpellDeeds}
use Rattle.engines.specs.Devices.{fault_of}
use Rattle.engines.specs.Engines.{CountsWith, Reads, ReadsEach}
use Rattle.engines.specs.GivenPlaces.{AreThere, Gives, IsThere, Spells}
use Rattle.engines.specs.Opening.{IsAfterFiles, IsKeptBy, IsMisplaced, IsOfSchedule, IsUnspelled}
use Rattle.engines.specs.PlaceWords.{IsMissingAt, IsMissingFor, IsMissingIn, IsTextOf, IsUnfollowed, IsUnreadWords, SpellsWords, WordsGive}
use Rattle.engines.specs.Placings.{IsUnplaced, PlacesPart, SpellsEvents}
use Rattle.engines.specs.declared.fault.Fault.{Fault}
use Rattle.engines.specs.declared.fault.Fault.TheVariants as faults
use Rattle.engines.specs.declared.place_schedules.MissingPlace.{MissingPlace}
use Rattle.engines.specs.declared.place_schedules.Words.{Words}
use Rattle.engines.specs.declared.place_schedules.Words.TheVariants as words
use Rattle.engines.specs.declared.recording.Conditions.{Conditions}

-- ---- what words give

pub words_give : (bytes : List ℕ) (trees : Program) (limits : Limits) (budget : ℕ) (recorded : Option Recording) (given : Words) (events : List Event) (gives_up : Bool)
    → SpellsWords bytes recorded given → WordsGive given trees limits budget events gives_up → Gives bytes trees limits budget recorded events gives_up
words_give bytes trees limits budget recorded (words.Entries schedule) events gives_up spells (are, none) = inl (subst (GivesEvents bytes recorded) (sym are) spells, none)
words_give bytes trees limits budget recorded (words.Places deeds) events gives_up (none, spelled) (there, (done, stop, followed, are, is)) =
    inr (none, record { deeds = deeds_of deeds.items; spelled = spelled; there = there; done = done; stop = stop; followed = followed; events_are = are; given_up = is })

pub words_spell : (bytes : List ℕ) (recorded : Option Recording) (given : Words) → SpellsWords bytes recorded given → Spells bytes recorded
words_spell bytes recorded (words.Entries schedule) spells = inl (events_of schedule, spells)
words_spell bytes recorded (words.Places deeds) (none, spelled) = inr (none, deeds_of deeds.items, spelled)

-- ---- words that can't be read

pub text_is_unread : (left : Option (List ℕ)) (fault : TextFault) (told : Fault) → IsTextOf fault told → IsMemory (Text fault) ⊎ IsUnspelled left (Text fault)
    → IsUnreadWords left told
text_is_unread left fault told (inl is) why = subst (IsUnreadWords left) (sym is) (inl refl)
text_is_unread left fault told (inr (other, (why, is))) (inl memory) = absurd (other memory)
text_is_unread left fault told (inr (other, (why, is))) (inr (bytes, read, none, stands)) = subst (IsUnreadWords left) (sym is) (inr (bytes, read, none, stands))

pub text_counts : (fault : TextFault) (told : Fault) (n : ℕ) → IsTextOf fault told → CountsWith told n n
text_counts fault told n (inl is) = subst (λ (f : Fault). CountsWith f n n) (sym is) refl
text_counts fault told n (inr (other, (why, is))) = subst (λ (f : Fault). CountsWith f n n) (sym is) refl

pub unread_is_kept : (fault : Fault) (left : Option (List ℕ)) (lefts : List (Option (List ℕ))) (options : Conditions) → IsUnreadWords left fault
    → IsKeptBy left lefts options fault
unread_is_kept faults.Device left lefts options unread = tt
unread_is_kept faults.Memory left lefts options unread = tt
unread_is_kept (faults.Schedule fault) left lefts options (inl memory) = inl memory
unread_is_kept (faults.Schedule fault) left lefts options (inr none) = inr (inl none)
unread_is_kept (faults.Text fault) left lefts options unread = unread
unread_is_kept (faults.Place missing) left lefts options unread = absurd unread
unread_is_kept (faults.Refusal refusal) left lefts options unread = absurd unread

-- ---- places that aren't there

-- it is the place of one of the words
pub of_word : (given : List PlacedDeed) (i : ℕ) (word : PlacedDeed) → i < length given → word ≡ get_or given i word → (trees : Program) (fault : Fault)
    → IsMissingAt trees (deed_of word.deed) fault → IsUnfollowed trees (deeds_of given) fault
of_word given i word less at trees fault missing =
    let parted : given ≡ take i given ++ word ∷ drop (i + 1) given =
    sym (take-append-drop i given) ∙ ap (λ l. take i given ++ l) (drop_more given i word less ∙ ap (λ (x : PlacedDeed). x ∷ drop (i + 1) given) (sym at))
    in
    inr (
      deeds_of (take i given),
      deed_of word.deed,
      deeds_of (drop (i + 1) given),
      ap deeds_of parted ∙ map-append (λ (x : PlacedDeed). deed_of x.deed) (take i given) (word ∷ drop (i + 1) given),
      missing,
    )

there_longer : (trees : Program) (deeds : List DeedOf) (deed : DeedOf) → AreThere trees deeds → IsThere trees deed → AreThere trees (deeds ++ deed ∷ [])
there_longer trees [] deed are is = (is, tt)
there_longer trees (first ∷ deeds) deed (one, others) is = (one, there_longer trees deeds deed others is)

-- the next word has one that is there, or has none
pub there_more : (given : List PlacedDeed) (i : ℕ) (word : PlacedDeed) → i < length given → word ≡ get_or given i word → (trees : Program)
    → AreThere trees (deeds_of (take i given)) → IsThere trees (deed_of word.deed) → AreThere trees (deeds_of (take (i + 1) given))
there_more given i word less at trees are is =
    let all : deeds_of (take (i + 1) given) ≡ deeds_of (take i given) ++ deed_of word.deed ∷ [] =
    ap deeds_of (take_more given i word less ∙ ap (λ (x : PlacedDeed). take i given ++ x ∷ []) (sym at)) ∙ map-append (λ (x : PlacedDeed). deed_of x.deed) (take i given) (word ∷ [])
    in
    subst (λ (l : List DeedOf). AreThere trees l) (sym all) (there_longer trees (deeds_of (take i given)) (deed_of word.deed) are is)

-- no device has failed then
missing_counts : (trees : Program) (deeds : List DeedOf) (fault : Fault) (n : ℕ) → IsMissingIn trees deeds fault → CountsWith fault n n
missing_counts trees deeds faults.Device n (before, deed, behind, are, missing) = absurd missing
missing_counts trees deeds faults.Memory n missing = refl
missing_counts trees deeds (faults.Schedule fault) n missing = refl
missing_counts trees deeds (faults.Text fault) n missing = refl
missing_counts trees deeds (faults.Place place) n missing = refl
missing_counts trees deeds (faults.Refusal refusal) n missing = refl

pub unfollowed_counts : (given : Words) (trees : Program) (fault : Fault) (n : ℕ) → IsMissingFor given trees fault → CountsWith fault n n
unfollowed_counts (words.Entries schedule) trees fault n unfollowed = absurd unfollowed
unfollowed_counts (words.Places deeds) trees fault n (inl is) = subst (λ (f : Fault). CountsWith f n n) (sym is) refl
unfollowed_counts (words.Places deeds) trees fault n (inr missing) = missing_counts trees (deeds_of deeds.items) fault n missing

module _ (left : Option (List ℕ)) (lefts : List (Option (List ℕ))) (options : Conditions) (bytes : List ℕ) (files : List (List ℕ)) (recorded : Option Recording) (trees : Program)
    (read : Reads left bytes) (read_files : ReadsEach lefts files) (accepted : IsAccepted files trees) where
  misplaced : (deeds : List DeedOf) (told : MissingPlace) → SpellDeeds (text_words bytes) deeds → IsMissingIn trees deeds (faults.Place told) → IsMisplaced left lefts told
  misplaced deeds told spelled (before, deed, behind, are, (thread, place, is, misses, words_are)) =
      record {
        schedule = bytes;
        files = files;
        trees = trees;
        read = read;
        read_files = read_files;
        accepted = accepted;
        before = before;
        thread = thread;
        place = place;
        behind = behind;
        spelled = subst (λ (d : DeedOf). SpellDeeds (text_words bytes) (before ++ d ∷ behind)) is (subst (λ (l : List DeedOf). SpellDeeds (text_words bytes) l) are spelled);
        misses = misses;
        told = words_are;
      }

  missing_is_kept : (deeds : List DeedOf) (fault : Fault) → SpellDeeds (text_words bytes) deeds → IsMissingIn trees deeds fault → IsKeptBy left lefts options fault
  missing_is_kept deeds faults.Device spelled missing = tt
  missing_is_kept deeds faults.Memory spelled missing = tt
  missing_is_kept deeds (faults.Schedule fault) spelled (before, deed, behind, are, missing) = absurd missing
  missing_is_kept deeds (faults.Text fault) spelled (before, deed, behind, are, missing) = absurd missing
  missing_is_kept deeds (faults.Place told) spelled missing = misplaced deeds told spelled missing
  missing_is_kept deeds (faults.Refusal refusal) spelled (before, deed, behind, are, missing) = absurd missing

  missing_is_after : (deeds : List DeedOf) (fault : Fault) → SpellDeeds (text_words bytes) deeds → IsMissingIn trees deeds fault → IsOfSchedule fault
      → IsAfterFiles left lefts options fault
  missing_is_after deeds faults.Device spelled missing of_schedule = absurd of_schedule
  missing_is_after deeds faults.Memory spelled missing of_schedule = absurd of_schedule
  missing_is_after deeds (faults.Schedule fault) spelled (before, deed, behind, are, missing) of_schedule = absurd missing
  missing_is_after deeds (faults.Text fault) spelled (before, deed, behind, are, missing) of_schedule = absurd missing
  missing_is_after deeds (faults.Place told) spelled missing of_schedule = misplaced deeds told spelled missing
  missing_is_after deeds (faults.Refusal refusal) spelled missing of_schedule = absurd of_schedule

  pub unfollowed_is_kept : (given : Words) (fault : Fault) → SpellsWords bytes recorded given → IsMissingFor given trees fault → IsKeptBy left lefts options fault
  unfollowed_is_kept (words.Entries schedule) fault spells unfollowed = absurd unfollowed
  unfollowed_is_kept (words.Places deeds) fault spells (inl is) = subst (λ (f : Fault). IsKeptBy left lefts options f) (sym is) tt
  unfollowed_is_kept (words.Places deeds) fault (none, spelled) (inr missing) = missing_is_kept (deeds_of deeds.items) fault spelled missing

  pub unfollowed_is_after : (given : Words) (fault : Fault) → SpellsWords bytes recorded given → IsMissingFor given trees fault → IsOfSchedule fault
      → IsAfterFiles left lefts options fault
  unfollowed_is_after (words.Entries schedule) fault spells unfollowed of_schedule = absurd unfollowed
  unfollowed_is_after (words.Places deeds) fault spells (inl is) of_schedule = absurd (subst IsOfSchedule is of_schedule)
  unfollowed_is_after (words.Places deeds) fault (none, spelled) (inr missing) of_schedule = missing_is_after (deeds_of deeds.items) fault spelled missing of_schedule

-- ---- a text with places

-- nothing is written where nothing is run
pub kept_is_unplaced : (fault : Fault) (left : Option (List ℕ)) (lefts : List (Option (List ℕ))) (options : Conditions) (held : Option (List ℕ))
    → IsKeptBy left lefts options fault → IsUnplaced left lefts options held held fault
kept_is_unplaced faults.Device left lefts options held kept = inl refl
kept_is_unplaced faults.Memory left lefts options held kept = inl refl
kept_is_unplaced (faults.Schedule fault) left lefts options held kept = (refl, kept)
kept_is_unplaced (faults.Text fault) left lefts options held kept = (refl, kept)
kept_is_unplaced (faults.Place missing) left lefts options held kept = (refl, kept)
kept_is_unplaced (faults.Refusal refusal) left lefts options held kept = (refl, kept)

-- where a device fails, or there is no memory for what it does, a part may be written
pub part_is_unplaced : (fault : DeviceFault) (left : Option (List ℕ)) (lefts : List (Option (List ℕ))) (options : Conditions) (old new : Option (List ℕ))
    → PlacesPart left lefts options old new → IsUnplaced left lefts options old new (fault_of fault)
part_is_unplaced devices.Device left lefts options old new part = part
part_is_unplaced devices.Memory left lefts options old new part = part

-- a line without a word spells no entries
no_words : text_words (10 ∷ []) ≡ []
unfolding words_from behind_comments
no_words = refl

pub spells_none : SpellsSchedule (10 ∷ []) None []
spells_none = record { fits = record { count = omega arith; each = tt }; recording_fits = tt; spelled = plain_text (10 ∷ []) [] no_words refl }

pub spells_line : (joined schedule : List ScheduleEntry) (text : List ℕ) → text ≡ 10 ∷ [] → joined ≡ [] → events_of joined ≡ events_of schedule
    → SpellsEvents (events_of schedule) text
spells_line joined schedule text is none same = ([], subst (λ (t : List ℕ). SpellsSchedule t None []) (sym is) spells_none, ap events_of (sym none) ∙ same)

pub no_entries : (xs : List ScheduleEntry) (b : Bool) → b ≡ (length xs == 0) → b ≡ true → xs ≡ []
no_entries [] b is empty = refl
no_entries (x ∷ xs) b is empty = let none : length (x ∷ xs) ≡ 0 = eqb-true (length (x ∷ xs)) 0 (sym is ∙ empty) in absurd (omega (arith, none))

-- ---- where a schedule gives up at a place

pub gives_up_few : (gives_up : Bool) (count budget : ℕ) → (gives_up && nat_le count budget) ≡ true → (gives_up ≡ true) × (count ≤ budget)
gives_up_few true count budget is = (refl, leb-true count budget is)
gives_up_few false count budget is = absurd cc

pub gives_up_past : (gives_up : Bool) (count budget : ℕ) → (gives_up && nat_le count budget) ≡ false → gives_up ≡ true → budget < count
gives_up_past false count budget is up = absurd cc
gives_up_past true count budget is up = by (leb_tells count budget)
  where
    by : ((leb count budget ≡ true) × (count ≤ budget)) ⊎ ((leb count budget ≡ false) × (budget < count)) → budget < count
    by (inl (at_most, few)) = let bad : false ≡ true = sym is ∙ at_most in absurd cc
    by (inr (more, past)) = past
