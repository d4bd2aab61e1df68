-- The first racy state of those that were visited.
use Rattle.std.proofs.Common.{◌≡◌, ℕ, ◌<◌, List, length, Bool, true, false, ◌||◌, Option, Some, None, refl, sym, ap, subst, ◌∙◌}
use Rattle.std.specs.Prelude.{IsTrue, IsFalse}
use Rattle.std.proofs.lemmas.Bool.{false≢true, true≢false}
use Rattle.std.proofs.lemmas.Option.{same_Some}
use Rattle.model.specs.declared.event.Event.{Event}
use Rattle.model.specs.declared.event.ScheduleEntry.{ScheduleEntry}
use Rattle.model.specs.declared.limits.Limits.{Limits}
use Rattle.model.specs.Classes.{Program}
use Rattle.model.specs.Schedule.{events_of}
use Rattle.data_races.specs.Races.{IsRacy}
use Rattle.search.specs.declared.kinds.Kinds.{Kinds}
use Rattle.search.specs.declared.searching.Verdict.{Verdict}
use Rattle.search.specs.declared.searching.Verdict.TheVariants as verdict
use Rattle.search.specs.declared.search_reports.answers.Answer.{Answer}
use Rattle.search.specs.declared.search_reports.answers.Answer.TheVariants as answer
use Rattle.search.specs.Kinds.{and_also, endless_alone}
use Rattle.search.specs.declared.visiting.SeenStates.{SeenStates}
use Rattle.search.specs.declared.visiting.Visit.{Visit}
use Rattle.search.specs.declared.visiting.Visit.TheVariants as visit
use Rattle.search.specs.RacyStates.{IsRacyAt, HasRaceAfter, HasRaceAt, IsNumberIf, IsRaceShown, IsScheduleIf, KeepsRace, TellsRace, TellsRaceAt, first_race}
use Rattle.search.specs.States.{StatesOf, IsSchedule, Grows}
use Rattle.search.specs.Verdicts.{ComesTo}
use Rattle.search.proofs.Growth.{within}

-- no race but those of the states
kept_race : (race endless : Bool) → endless ≡ false → (race || endless) ≡ race
kept_race true endless e = refl
kept_race false endless e = e

pub kinds_kept : (kinds endless all : Kinds) (b : Bool) → endless ≡ endless_alone b → all ≡ and_also kinds endless → all.race ≡ kinds.race
kinds_kept kinds endless all b none is =
    ap (λ (k : Kinds). k.race) is ∙ kept_race kinds.race endless.race (ap (λ (k : Kinds). k.race) none)

module _ (trees : Program) (limits : Limits) where
  -- what was told stays where more states are met
  pub still_racy : (s s_new : StatesOf) → Grows s s_new → (race : Bool) (o : Option ℕ) → HasRaceAt trees limits s race o → HasRaceAt trees limits s_new race o
  still_racy s s_new grows race None h = h
  still_racy s s_new grows race (Some number) h = (
    h.0,
    record { within = within s s_new grows number h.1.within; events = h.1.events; at = grows.kept number h.1.events h.1.at; comes = h.1.comes },
  )

  -- one state more, which is racy or not
  pub one_more : (s : StatesOf) (number : ℕ) (race : Bool) (o : Option ℕ) → HasRaceAt trees limits s race o → (is_racy : Bool)
      → (is_racy ≡ true → IsRacyAt trees limits s number) → HasRaceAt trees limits s (race || is_racy) (first_race o is_racy number)
  one_more s number true None h is_racy racy = absurd (true≢false h)
  one_more s number false None h true racy = (refl, racy refl)
  one_more s number false None h false racy = refl
  one_more s number true (Some first) h is_racy racy = (refl, h.1)
  one_more s number false (Some first) h is_racy racy = absurd (false≢true h.0)

  pub race_by : (own : Limits) → own ≡ limits → (v : Visit) (s : StatesOf) (visited : SeenStates) → HasRaceAfter trees own v s visited → v ≡ visit.Visited
      → HasRaceAt trees limits s visited.seen.kinds.race visited.race
  race_by own same v s visited after is =
      subst (λ (x : Visit). HasRaceAfter trees limits x s visited) is (subst (λ (l : Limits). HasRaceAfter trees l v s visited) same after)

  -- ---- what is said

  number_if : (s : StatesOf) (race : Bool) (o : Option ℕ) → HasRaceAt trees limits s race o → IsNumberIf s o
  number_if s race None h = tt
  number_if s race (Some number) h = h.1.within

  pub said_at : (s : StatesOf) (kinds : Kinds) (o : Option ℕ) → HasRaceAt trees limits s kinds.race o → (v : Verdict) → KeepsRace kinds v
      → TellsRaceAt trees limits s v o
  said_at s kinds o h (verdict.Complete outcomes told) kept = subst (λ b. HasRaceAt trees limits s b o) (sym kept) h
  said_at s kinds o h (verdict.Found schedule) kept = number_if s kinds.race o h
  said_at s kinds o h verdict.GaveUp kept = number_if s kinds.race o h

  pub number_of : (s : StatesOf) (v : Verdict) (o : Option ℕ) → TellsRaceAt trees limits s v o → IsNumberIf s o
  number_of s (verdict.Complete outcomes told) o h = number_if s told.race o h
  number_of s (verdict.Found schedule) o h = h
  number_of s verdict.GaveUp o h = h

  -- the schedule of the number leads there
  shown_by : (s : StatesOf) (race : Bool) (o : Option ℕ) → HasRaceAt trees limits s race o → (schedule : Option (List ScheduleEntry)) → IsScheduleIf s o schedule
      → IsRaceShown trees limits race schedule
  shown_by s race None h schedule is = subst (IsRaceShown trees limits race) (sym is) h
  shown_by s race (Some number) h schedule is =
      let same : h.1.events ≡ events_of is.0 = same_Some h.1.events (events_of is.0) (sym h.1.at ∙ is.2) in
      subst (IsRaceShown trees limits race) (sym is.1) (h.0, subst (ComesTo trees limits (IsRacy trees limits.frames)) same h.1.comes)

  pub race_told : (s : StatesOf) (v : Verdict) (o : Option ℕ) → TellsRaceAt trees limits s v o → (schedule : Option (List ScheduleEntry)) → IsScheduleIf s o schedule
      → TellsRace trees limits v schedule
  race_told s (verdict.Complete outcomes told) o h schedule is = shown_by s told.race o h schedule is
  race_told s (verdict.Found found) o h schedule is = tt
  race_told s verdict.GaveUp o h schedule is = tt
