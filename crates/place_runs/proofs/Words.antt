-- The words of a schedule with places, one after the other.
use Rattle.std.proofs.Common.{◌≡◌, ◌⊎◌, ◌<◌, ◌≤◌, ◌+◌, ◌^◌, ℕ, zero, suc, List, [], ◌∷◌, ◌++◌, Option, Some, None, get_or, length, map, replicate, take, drop, inl, inr, refl, sym, ap, subst, ◌∙◌, arith}
use Rattle.std.proofs.lemmas.List.{append-nil, append_assoc, drop_more, map-append, take-append-drop, take_more}
use Rattle.model.specs.declared.event.Event.{Event}
use Rattle.model.specs.declared.event.ScheduleEntry.{ScheduleEntry}
use Rattle.model.specs.declared.limits.Limits.{Limits}
use Rattle.model.specs.Classes.{Program}
use Rattle.model.specs.Schedule.{events_of}
use Rattle.machine.specs.declared.machine.Stopped.{Stopped}
use Rattle.machine.specs.declared.machine.Stopped.TheVariants as stopped
use Rattle.machine.specs.Tops.{plain}
use Rattle.program_runs.specs.continued_runs.Following.{WantsMemory}
use Rattle.program_runs.specs.worlds.Worlds.{WorldOf, IsNew, IsOfSame, HasRepeated, RepeatsWithin}
use Rattle.place_runs.proofs.Kept.{joined}
use Rattle.place_texts.specs.declared.place.PlacedDeed.{PlacedDeed}
use Rattle.place_texts.specs.Places.{PlaceOf, DeedOf, Entry, Until, deed_of, deeds_of}
use Rattle.place_runs.specs.declared.following.Stop.{Stop}
use Rattle.place_runs.specs.declared.following.Stop.TheVariants as stops
use Rattle.place_runs.specs.declared.run.Followed.{Followed}
use Rattle.place_runs.specs.Meaning.{InTurn, MeansOne, Means}
use Rattle.place_runs.specs.Following.{AreDone, AreUsedUp, CannotBeDone, HasRoomFor, IsDone, IsFollowed, IsStopped, IsWithin, StopsIn, StopsShort, with_stop}
use Rattle.place_runs.specs.Worlds.{DeedComesTo, DoesDeed, FollowsDeeds, GoesOn, IsStoppedBy, stop_by}
use Rattle.place_runs.specs.Followed.{AreEventsOf}
use Rattle.place_runs.proofs.Repeated.{at_most, stopped_by}

-- ---- why a word was not done whole

module _ (budget : ℕ) (w new : WorldOf) (same : IsOfSame w new) (part : List Event) (events : new.events ≡ w.events ++ part) (deed : DeedOf) (next : Event) where
  cannot : CannotBeDone new.trees new.machine.limits new.events next → CannotBeDone w.trees w.machine.limits (w.events ++ part) next
  cannot h =
      let by_trees : CannotBeDone w.trees new.machine.limits new.events next = subst (λ (t : Program). CannotBeDone t new.machine.limits new.events next) same.trees h in
      let by_limits : CannotBeDone w.trees w.machine.limits new.events next = subst (λ (l : Limits). CannotBeDone w.trees l new.events next) same.limits by_trees in
      subst (λ l. CannotBeDone w.trees w.machine.limits l next) events by_limits

  fewer : length new.events < new.budget → length (w.events ++ part) < w.budget
  fewer h = let many : length new.events ≡ length (w.events ++ part) = ap length events in omega (arith, h, many, same.budget)

  used : AreUsedUp new.budget budget deed (length new.events) → AreUsedUp w.budget budget deed (length (w.events ++ part))
  used h = subst (λ l. AreUsedUp w.budget budget deed (length l)) events (subst (λ b. AreUsedUp b budget deed (length new.events)) same.budget h)

  pub stops_in : (why : Stopped) → IsStoppedBy (AreUsedUp new.budget budget deed (length new.events)) why new next
      → StopsIn w.trees w.machine.limits w.budget budget w.events part deed next (stop_by why next)
  stops_in stopped.Most h = used h
  stops_in stopped.NotEnabled h = (refl, fewer h.0, cannot h.1)
  stops_in (stopped.Refused told) h = (refl, fewer h.0, cannot h.1)

-- ---- an entry

module _ (entry : ScheduleEntry) (w : WorldOf) (on : w.end ≡ None) (n : ℕ) (why : Stopped) (new : WorldOf) (repeats : RepeatsWithin entry.event entry.repeat w.end (n, why) w new) where
  abbrev r : HasRepeated entry.event entry.repeat n why w new
  r = subst (λ o. RepeatsWithin entry.event entry.repeat o (n, why) w new) on repeats

  pub entry_done : (budget : ℕ) → n ≡ entry.repeat → DoesDeed None (Entry entry) budget w new
  entry_done budget all = record { same = r.same; on = r.on ∙ on; comes = (replicate n entry.event, r.events, (ap (λ k. replicate k entry.event) all, tt)) }

  of_most : (budget : ℕ) (x : Stopped) → IsStoppedBy (length new.events ≡ new.budget) x new entry.event
      → IsStoppedBy (AreUsedUp new.budget budget (Entry entry) (length new.events)) x new entry.event
  of_most budget stopped.Most h = h
  of_most budget stopped.NotEnabled h = h
  of_most budget (stopped.Refused told) h = h

  pub entry_stops : (budget : ℕ) → length w.events ≤ w.budget → (n ≡ entry.repeat → ⊥) → (told : Stopped) → told ≡ why → (WantsMemory why → ⊥)
      → DoesDeed (Some (stop_by told entry.event)) (Entry entry) budget w new
  entry_stops budget inside other told is no_want =
      let less : n < entry.repeat = omega (arith, other, at_most entry.event entry.repeat n why w new r) in
      let stopped : IsStoppedBy (length new.events ≡ new.budget) why new entry.event = stopped_by entry.event entry.repeat n why w new r inside less no_want in
      let by_told : IsStoppedBy (AreUsedUp new.budget budget (Entry entry) (length new.events)) told new entry.event =
      subst (λ x. IsStoppedBy (AreUsedUp new.budget budget (Entry entry) (length new.events)) x new entry.event) (sym is) (of_most budget why stopped)
      in
      record {
        same = r.same;
        on = r.on ∙ on;
        comes = record {
          part = replicate n entry.event;
          next = entry.event;
          events_are = r.events;
          is_part = (n, less, refl, refl);
          within = tt;
          stops = stops_in budget w new r.same (replicate n entry.event) r.events (Entry entry) entry.event told by_told;
        };
      }

-- ---- a place

-- the events of a thread that goes on are within the budget
within : (t : ℕ) (place : PlaceOf) (budget count : ℕ) (done events : List Event) → events ≡ done ++ replicate count (plain t)
    → (count ≡ 0) ⊎ (length events ≤ budget) → IsWithin budget done (Until t place) (replicate count (plain t))
within t place budget count done events are (inl no_event) = inl (ap (λ k. replicate k (plain t)) no_event)
within t place budget count done events are (inr few) = inr (subst (λ l. length l ≤ budget) are few)

pub place_done : (t : ℕ) (place : PlaceOf) (budget : ℕ) (w new : WorldOf) → GoesOn None t place budget w new → DoesDeed None (Until t place) budget w new
place_done t place budget w new g = record { same = g.same; on = g.on; comes = (replicate g.count (plain t), g.done, ((g.count, refl, g.comes), within t place budget g.count w.events new.events g.done g.within)) }

pub place_stops : (t : ℕ) (place : PlaceOf) (budget : ℕ) (w new : WorldOf) (why : Stopped) → GoesOn (Some why) t place budget w new
    → DoesDeed (Some (stop_by why (plain t))) (Until t place) budget w new
place_stops t place budget w new why g =
    record {
      same = g.same;
      on = g.on;
      comes = record {
        part = replicate g.count (plain t);
        next = plain t;
        events_are = g.done;
        is_part = (g.count, refl, g.comes.0, refl);
        within = within t place budget g.count w.events new.events g.done g.within;
        stops = stops_in budget w new g.same (replicate g.count (plain t)) g.done (Until t place) (plain t) why g.comes.1;
      };
    }

-- ---- words

module _ (IsOfOne : List Event → DeedOf → List Event → Type 0) where
  one_behind : (done : List Event) (deeds : List DeedOf) (events : List Event) (deed : DeedOf) (own : List Event)
      → InTurn IsOfOne done deeds events → IsOfOne (done ++ events) deed own → InTurn IsOfOne done (deeds ++ deed ∷ []) (events ++ own)
  one_behind done [] events deed own none one =
      let at : done ++ events ≡ done = ap (λ l. done ++ l) none ∙ append-nil done in
      (own, [], ap (λ l. l ++ own) none ∙ sym (append-nil own), subst (λ l. IsOfOne l deed own) at one, refl)
  one_behind done (first ∷ deeds) events deed own turn one =
      let at : done ++ events ≡ (done ++ turn.0) ++ turn.1 = ap (λ l. done ++ l) turn.2 ∙ sym (append_assoc done turn.0 turn.1) in (
        turn.0,
        turn.1 ++ own,
        ap (λ l. l ++ own) turn.2 ∙ append_assoc turn.0 turn.1 own,
        turn.3,
        one_behind (done ++ turn.0) deeds turn.1 deed own turn.4 (subst (λ l. IsOfOne l deed own) at one),
      )

-- what is done within a budget is what the words mean
means : (trees : Program) (frames budget : ℕ) (done : List Event) (deeds : List DeedOf) (events : List Event) → AreDone trees frames budget done deeds events
    → Means trees frames done deeds events
means trees frames budget done [] events are = are
means trees frames budget done (deed ∷ deeds) events are =
    (are.0, are.1, are.2, are.3.0, means trees frames budget (done ++ are.0) deeds are.1 are.4)

-- the words so far were done whole
pub record Passed (deeds : List DeedOf) (budget : ℕ) (first w : WorldOf) : Type 0 where
  pub same : IsOfSame first w
  pub on : w.end ≡ None
  pub whole : AreDone first.trees first.machine.limits.frames budget [] deeds w.events

pub begins : (budget : ℕ) (w : WorldOf) → w.end ≡ None → w.events ≡ [] → Passed [] budget w w
begins budget w on none = record { same = record { trees = refl; budget = refl; limits = refl }; on = on; whole = none }

module _ (words : List PlacedDeed) (first w : WorldOf) (i : ℕ) (word : PlacedDeed) (less : i < length words) (at : word ≡ get_or words i word)
    (budget : ℕ) (passed : Passed (deeds_of (take i words)) budget first w) (new : WorldOf) where
  pub one_more : DoesDeed None (deed_of word.deed) budget w new → Passed (deeds_of (take (i + 1) words)) budget first new
  one_more does =
      let comes = does.comes in
      let all : deeds_of (take (i + 1) words) ≡ deeds_of (take i words) ++ deed_of word.deed ∷ [] =
      ap deeds_of (take_more words i word less ∙ ap (λ (x : PlacedDeed). take i words ++ x ∷ []) (sym at)) ∙ map-append (λ (x : PlacedDeed). deed_of x.deed) (take i words) (word ∷ [])
      in
      let one : IsDone first.trees first.machine.limits.frames budget w.events (deed_of word.deed) comes.0 =
      subst (λ (l : Limits). IsDone first.trees l.frames budget w.events (deed_of word.deed) comes.0) passed.same.limits
      (subst (λ (t : Program). IsDone t w.machine.limits.frames budget w.events (deed_of word.deed) comes.0) passed.same.trees comes.2)
      in
      let longer : AreDone first.trees first.machine.limits.frames budget [] (deeds_of (take i words) ++ deed_of word.deed ∷ []) (w.events ++ comes.0) =
      one_behind (IsDone first.trees first.machine.limits.frames budget) [] (deeds_of (take i words)) w.events (deed_of word.deed) comes.0 passed.whole one
      in
      record {
        same = joined first w new passed.same does.same;
        on = does.on;
        whole = subst (λ l. AreDone first.trees first.machine.limits.frames budget [] l new.events) (sym all)
            (subst (λ l. AreDone first.trees first.machine.limits.frames budget [] (deeds_of (take i words) ++ deed_of word.deed ∷ []) l) (sym comes.1) longer);
      }

  pub stops_there : (stop : Stop) → DoesDeed (Some stop) (deed_of word.deed) budget w new → FollowsDeeds stop (deeds_of words) budget first new
  stops_there stop does =
      let parted : words ≡ take i words ++ word ∷ drop (i + 1) words =
      sym (take-append-drop i words) ∙ ap (λ l. take i words ++ l) (drop_more words i word less ∙ ap (λ (x : PlacedDeed). x ∷ drop (i + 1) words) (sym at))
      in
      let by_trees : IsStopped first.trees w.machine.limits w.budget budget w.events (deed_of word.deed) new.events stop =
      subst (λ (t : Program). IsStopped t w.machine.limits w.budget budget w.events (deed_of word.deed) new.events stop) passed.same.trees does.comes
      in
      let by_limits : IsStopped first.trees first.machine.limits w.budget budget w.events (deed_of word.deed) new.events stop =
      subst (λ (l : Limits). IsStopped first.trees l w.budget budget w.events (deed_of word.deed) new.events stop) passed.same.limits by_trees
      in
      record {
        same = joined first w new passed.same does.same;
        on = does.on;
        followed = inr (record {
          before = deeds_of (take i words);
          deed = deed_of word.deed;
          behind = deeds_of (drop (i + 1) words);
          deeds_are = ap deeds_of parted ∙ map-append (λ (x : PlacedDeed). deed_of x.deed) (take i words) (word ∷ drop (i + 1) words);
          done = w.events;
          whole = passed.whole;
          stopped = subst (λ b. IsStopped first.trees first.machine.limits b budget w.events (deed_of word.deed) new.events stop) passed.same.budget by_limits;
        });
      }

pub all_done : (words : List PlacedDeed) (budget : ℕ) (first w : WorldOf) (so_far : List PlacedDeed) → so_far ≡ words → Passed (deeds_of so_far) budget first w
    → FollowsDeeds stops.Whole (deeds_of words) budget first w
all_done words budget first w so_far all passed =
    let done : AreDone first.trees first.machine.limits.frames budget [] (deeds_of words) w.events =
    subst (λ (l : List PlacedDeed). AreDone first.trees first.machine.limits.frames budget [] (deeds_of l) w.events) all passed.whole
    in
    record { same = passed.same; on = passed.on; followed = inl (refl, done) }

-- ---- the events

-- where an event stops a word, there is room for it
pub room_for : (trees : Program) (limits : Limits) (most budget : ℕ) (deeds : List DeedOf) (events : List Event) (stop : Stop) → most < 2 ^ 32
    → IsFollowed trees limits most budget deeds events stop → HasRoomFor stop events
room_for trees limits most budget deeds events stop small (inl whole) = subst (λ s. HasRoomFor s events) (sym whole.0) tt
room_for trees limits most budget deeds events stops.Whole small (inr short) = tt
room_for trees limits most budget deeds events stops.UsedUp small (inr short) = tt
room_for trees limits most budget deeds events (stops.Event event) small (inr short) =
    let s = short.stopped in
    let few : length (short.done ++ s.part) < most = s.stops.1 in
    let many : length events ≡ length (short.done ++ s.part) = ap length s.events_are in
    omega (arith, few, many, small)

module _ (trees : Program) (limits : Limits) (most budget : ℕ) (opened : WorldOf) (is_new : IsNew trees limits most opened) (deeds : List DeedOf) (stop : Stop) (w : WorldOf)
    (follows : FollowsDeeds stop deeds budget opened w) where
  pub followed : IsFollowed trees limits most budget deeds w.events stop
  followed =
      let by_trees : IsFollowed trees opened.machine.limits opened.budget budget deeds w.events stop =
      subst (λ (t : Program). IsFollowed t opened.machine.limits opened.budget budget deeds w.events stop) is_new.trees_are follows.followed
      in
      let by_limits : IsFollowed trees limits opened.budget budget deeds w.events stop =
      subst (λ (l : Limits). IsFollowed trees l opened.budget budget deeds w.events stop) is_new.limits_are by_trees
      in
      subst (λ b. IsFollowed trees limits b budget deeds w.events stop) is_new.budget_is by_limits

pub events_are : (trees : Program) (limits : Limits) (budget : ℕ) (deeds : List DeedOf) (events : List Event) (stop : Stop) → IsFollowed trees limits 4294967295 budget deeds events stop
    → (f : Followed) → f.stop ≡ stop → events_of f.schedule ≡ with_stop events stop → AreEventsOf trees limits budget deeds f
events_are trees limits budget deeds events stop followed f is are =
    record {
      events = events;
      followed = subst (λ s. IsFollowed trees limits 4294967295 budget deeds events s) (sym is) followed;
      are = are ∙ ap (with_stop events) (sym is);
    }

-- ---- the events of a schedule

pub whole : (trees : Program) (limits : Limits) (most budget : ℕ) (deeds : List DeedOf) (events : List Event) (stop : Stop) → stop ≡ stops.Whole
    → IsFollowed trees limits most budget deeds events stop → Means trees limits.frames [] deeds events
whole trees limits most budget deeds events stops.Whole is (inl w) = means trees limits.frames budget [] deeds events w.1
whole trees limits most budget deeds events stops.Whole is (inr short) = absurd short.stopped.stops
whole trees limits most budget deeds events (stops.Event event) is followed = absurd cc
whole trees limits most budget deeds events stops.UsedUp is followed = absurd cc

pub stand : (trees : Program) (limits : Limits) (budget : ℕ) (deeds : List DeedOf) (f : Followed) (schedule : List ScheduleEntry)
    → AreEventsOf trees limits budget deeds f → f.stop ≡ stops.Whole → f.schedule ≡ schedule → Means trees limits.frames [] deeds (events_of schedule)
stand trees limits budget deeds f schedule are is same =
    let by_words : Means trees limits.frames [] deeds are.events = whole trees limits 4294967295 budget deeds are.events f.stop is are.followed in
    let events : are.events ≡ events_of schedule = ap (with_stop are.events) (sym is) ∙ sym are.are ∙ ap events_of same in
    subst (λ l. Means trees limits.frames [] deeds l) events by_words
