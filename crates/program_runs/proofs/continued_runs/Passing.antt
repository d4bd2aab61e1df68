-- The entries of a schedule are passed one after another.
use Rattle.std.proofs.Common.{◌≡◌, ◌⊎◌, ◌<◌, ◌≤◌, ◌+◌, ◌-◌, ℕ, List, [], ◌∷◌, ◌++◌, None, length, replicate, take, inl, inr, refl, sym, ap, subst, ◌∙◌, arith, Result, Ok, Err}
use Rattle.std.specs.Prelude.{min, IfOk}
use Rattle.std.proofs.lemmas.Bool.{cases_lt}
use Rattle.std.proofs.lemmas.List.{append-nil, append_assoc, length-append, length-replicate, replicate-append-replicate, take-replicate}
use Rattle.std.proofs.Math.Seq.{take-append_seam}
use Rattle.std.proofs.Math.Nat.{min-le_left, min-le_right, min-eq_left, le-min}
use Rattle.model.specs.declared.event.Event.{Event}
use Rattle.model.specs.Classes.{Program}
use Rattle.model.specs.LimitStands.{bounds_of}
use Rattle.machine.specs.declared.machine.Stopped.{Stopped}
use Rattle.machine.specs.declared.machine.Stopped.TheVariants as stopped
use Rattle.machine.specs.schedule_runs.Done.{OfNext, EndsBy}
use Rattle.program_runs.specs.worlds.Worlds.{WorldOf, IsOfSame, HasRepeated, RepeatsWithin}
use Rattle.program_runs.specs.continued_runs.Following.{Stands, StopsBy, Follows, WantsMemory}

pub joined : (a b c : WorldOf) → IsOfSame a b → IsOfSame b c → IsOfSame a c
joined a b c ab bc = record { trees = bc.trees ∙ ab.trees; budget = bc.budget ∙ ab.budget; limits = bc.limits ∙ ab.limits }

-- all of these were done since, and there is no end yet
pub record HasPassed (schedule : List Event) (first w : WorldOf) : Type 0 where
  pub same : IsOfSame first w
  pub on : w.end ≡ None
  pub events : w.events ≡ first.events ++ schedule

pub begins : (w : WorldOf) → w.end ≡ None → HasPassed [] w w
begins w on = record { same = record { trees = refl; budget = refl; limits = refl }; on = on; events = sym (append-nil w.events) }

pub all_done : (schedule : List Event) (first w : WorldOf) → HasPassed schedule first w → Follows schedule stopped.Most first w
all_done schedule first w passed =
    record { same = passed.same; on = passed.on; front = schedule; left = []; events_are = sym (append-nil schedule); done = passed.events; stops = inl refl }

-- ---- an end of some left is one of more

some_left : (P : Event → Type 0) (left : List Event) → OfNext left P → 0 < length left
some_left P [] h = absurd h
some_left P (e ∷ left) h = omega arith

of_more : (P : Event → Type 0) (left rest : List Event) → OfNext left P → OfNext (left ++ rest) P
of_more P [] rest h = absurd h
of_more P (e ∷ left) rest h = h

module _ (schedule : List Event) (first w new : WorldOf) (passed : HasPassed schedule first w) (event : Event) (most n : ℕ) (why : Stopped)
    (r : RepeatsWithin event most w.end (n, why) w new) where
  abbrev at : HasRepeated event most n why w new
  at = subst (λ o. RepeatsWithin event most o (n, why) w new) passed.on r

  within : n ≤ at.asked
  within =
      let all : at.asked ≡ length (at.gone.front ++ at.gone.left) = sym (length-replicate at.asked event) ∙ ap length at.gone.schedule_is in
      omega (arith, all, at.gone.count, length-append at.gone.front at.gone.left)

  front_is : at.gone.front ≡ replicate n event
  front_is =
      sym (take-append_seam at.gone.front at.gone.left) ∙ ap (take (length at.gone.front)) (sym at.gone.schedule_is) ∙ ap (λ k. take k (replicate at.asked event)) (sym at.gone.count)
      ∙ take-replicate n at.asked event within

  all_asked : at.asked ≡ length at.gone.front + length at.gone.left
  all_asked = sym (length-replicate at.asked event) ∙ ap length at.gone.schedule_is ∙ length-append at.gone.front at.gone.left

  many : length new.events ≡ length w.events + n
  many = ap length at.events ∙ length-append w.events (replicate n event) ∙ ap (λ k. length w.events + k) (length-replicate n event)

  -- where another one was asked for, the budget allowed it
  below : (P : Event → Type 0) → OfNext at.gone.left P → length new.events < new.budget
  below P h = omega (arith, some_left P at.gone.left h, all_asked, at.gone.count, many, at.same.budget, at.asked_is, min-le_right most (w.budget - length w.events))

  no_more : at.asked ≤ most
  no_more = omega (arith, at.asked_is, min-le_left most (w.budget - length w.events))

  same : IsOfSame first new
  same = joined first w new passed.same at.same

  longer : new.events ≡ first.events ++ (schedule ++ replicate n event)
  longer = at.events ∙ ap (λ l. l ++ replicate n event) passed.events ∙ append_assoc first.events schedule (replicate n event)

  pub goes_on : (n < most → ⊥) → HasPassed (schedule ++ replicate most event) first new
  goes_on not_less =
      let all : n ≡ most = omega (arith, within, no_more, not_less) in
      record { same = same; on = at.on ∙ passed.on; events = longer ∙ ap (λ k. first.events ++ (schedule ++ replicate k event)) all }

  -- ---- where it was not done as often

  module _ (less : n < most) (rest : List Event) where
    abbrev behind : List Event
    behind = at.gone.left ++ (replicate (most - at.asked) event ++ rest)

    room : most ≤ w.budget - length w.events → at.asked ≡ most
    room le = at.asked_is ∙ min-eq_left le

    used_up : at.asked ≡ n → w.budget ≤ length new.events
    used_up as_asked = by_order (cases_lt (w.budget - length w.events) (most))
      where
        by_order : (w.budget - length w.events < most) ⊎ (most ≤ w.budget - length w.events) → w.budget ≤ length new.events
        by_order (inl lt) =
            let least : w.budget - length w.events ≤ min most (w.budget - length w.events) = le-min (omega (arith, lt)) (omega arith) in
            omega (arith, many, as_asked, at.asked_is, least)
        by_order (inr le) = absurd (omega (arith, room le, as_asked, less))

    stands : (why : Stopped) → EndsBy why w.trees (bounds_of new.machine.limits) at.gone.done.run.lead.state (w.events
        ++ at.gone.front) behind → Stands why new.machine new.trees new.events behind
    stands why ends =
        let here : Stands why new.machine w.trees (w.events ++ at.gone.front) behind = (at.files, at.gone.done, ends) in
        let by_events : Stands why new.machine w.trees new.events behind = subst (λ l. Stands why new.machine w.trees l behind) (ap (λ l. w.events ++ l) front_is ∙ sym at.events) here in
        subst (λ (t : Program). Stands why new.machine t new.events behind) (sym at.same.trees) by_events

    stops_by : (x : Stopped) → (WantsMemory x → ⊥) → EndsBy x w.trees (bounds_of new.machine.limits) at.gone.done.run.lead.state (w.events
        ++ at.gone.front) at.gone.left → StopsBy x new behind
    stops_by stopped.Most no_want none_left =
        inr (subst (λ b. b ≤ length new.events) (sym at.same.budget) (used_up (
        let all : at.asked ≡ length (at.gone.front ++ at.gone.left) = sym (length-replicate at.asked event) ∙ ap length at.gone.schedule_is in
        let nothing : length at.gone.left ≡ 0 = ap length none_left in
        omega (arith, all, nothing, at.gone.count, length-append at.gone.front at.gone.left)
        )))
    stops_by stopped.NotEnabled no_want ends = (below _ ends, stands stopped.NotEnabled (of_more _ at.gone.left (replicate (most - at.asked) event ++ rest) ends))
    stops_by (stopped.Refused told) no_want ends = (no_want, below _ ends, stands (stopped.Refused told) (of_more _ at.gone.left (replicate (most - at.asked) event ++ rest) ends))

    split : replicate most event ++ rest ≡ at.gone.front ++ behind
    split =
        let whole : at.asked + (most - at.asked) ≡ most = omega (arith, no_more) in
        ap (λ k. replicate k event ++ rest) (sym whole) ∙ ap (λ l. l ++ rest) (sym (replicate-append-replicate at.asked (most - at.asked) event))
        ∙ append_assoc (replicate at.asked event) (replicate (most - at.asked) event) rest
        ∙ ap (λ l. l ++ (replicate (most - at.asked) event ++ rest)) at.gone.schedule_is
        ∙ append_assoc at.gone.front at.gone.left (replicate (most - at.asked) event ++ rest)

    stops : (all : List Event) → all ≡ schedule ++ (replicate most event ++ rest) → (WantsMemory why → ⊥) → Follows all why first new
    stops all is no_want =
        record {
          same = same;
          on = at.on ∙ passed.on;
          front = schedule ++ at.gone.front;
          left = behind;
          events_are = is ∙ ap (λ l. schedule ++ l) split ∙ sym (append_assoc schedule at.gone.front behind);
          done = longer ∙ ap (λ l. first.events ++ (schedule ++ l)) (sym front_is);
          stops = stops_by why no_want at.gone.ends;
        }

    pub stops_if : (all : List Event) → all ≡ schedule ++ (replicate most event ++ rest)
        → {E : Type 0} (result : Result Stopped E) → IfOk result (λ told. (told ≡ why) × (WantsMemory why → ⊥))
        → IfOk result (λ told. Follows all told first new)
    stops_if all is (Ok told) h = subst (λ x. Follows all x first new) (sym h.0) (stops all is h.1)
    stops_if all is (Err e) h = tt
