-- A world comes to an end.
use Rattle.std.proofs.Common.{◌≡◌, ◌<◌, ◌≤◌, ◌+◌, ◌-◌, ℕ, List, ◌++◌, Option, Some, None, length, replicate, refl, sym, ap, subst, ◌∙◌, arith}
use Rattle.std.specs.Prelude.{min}
use Rattle.std.proofs.lemmas.List.{length-append, length-replicate}
use Rattle.std.proofs.Math.Nat.{min-le_right}
use Rattle.model.specs.declared.end.End.{End}
use Rattle.model.specs.declared.event.Event.{Event}
use Rattle.machine.specs.Tops.{plain}
use Rattle.program_runs.specs.worlds.Worlds.{WorldOf, Holds, HasShared, HasEnded, TakesTurn}
use Rattle.program_runs.specs.worlds.Finishing.{HasTakenTurns}
use Rattle.program_runs.proofs.worlds.Staying.{of_equal, joined, of_turn}

-- ---- how many turns are left

-- one more where there is no end
abbrev open_end : Option End → ℕ
open_end None = 1
open_end (Some end) = 0

-- so many at most: each does an event at least, or sets an end
unfoldable pub left : WorldOf → ℕ
left w = (w.budget - length w.events) + open_end w.end

-- ---- turns

pub none_yet : (w : WorldOf) → HasTakenTurns w w
none_yet w = record { same = of_equal w w refl; kept = λ end e. refl }

-- a turn where there is no end
abbrev Turn : (from most : ℕ) → Option ℕ → (old new : WorldOf) → Type 0
Turn from most r old new = TakesTurn from most None r old new

turn : (from most : ℕ) (r : Option ℕ) (old new : WorldOf) → old.end ≡ None → TakesTurn from most old.end r old new
    → Turn from most r old new
turn from most r old new on t = subst (λ o. TakesTurn from most o r old new) on t

pub one_more : (first old new : WorldOf) (from most : ℕ) (r : Option ℕ) → HasTakenTurns first old → old.end ≡ None
    → TakesTurn from most old.end r old new → HasTakenTurns first new
one_more first old new from most r before on t =
    record {
      same = joined first old new before.same (of_turn from most old.end r old new t);
      kept = λ end e. let bad : None ≡ Some end = sym on ∙ ap (λ (w : WorldOf). w.end) (before.kept end e) ∙ e in absurd cc;
    }

-- ---- fewer are left

front_within : (event : Event) (m : ℕ) (front left : List Event) → replicate m event ≡ front ++ left → length front ≤ m
front_within event m front left e =
    let all : m ≡ length (front ++ left) = sym (length-replicate m event) ∙ ap length e in
    omega (arith, all, length-append front left)

after_shared : (t most : ℕ) (old new : WorldOf) → length old.events ≤ old.budget → old.end ≡ None → HasShared old new t most
    → left new < left old
unfolding left
after_shared t most old new within on s =
    let r = s.repeated in
    let front : length r.gone.front ≤ r.asked = front_within (plain t) r.asked r.gone.front r.gone.left r.gone.schedule_is in
    let room : min most (old.budget - length old.events) ≤ old.budget - length old.events = min-le_right most (old.budget - length old.events) in
    let longer : length new.events ≡ length old.events + s.count = ap length r.events ∙ length-append old.events (replicate s.count (plain t)) ∙ ap (λ k. length old.events + k) (length-replicate s.count (plain t)) in
    let before : open_end old.end ≡ 1 = ap open_end on in
    let after : open_end new.end ≡ 1 = ap open_end r.on ∙ before in
    omega (arith, front, room, longer, before, after, r.gone.count, r.asked_is, r.same.budget, s.some, within)

after_end : (old new : WorldOf) → old.end ≡ None → HasEnded old new → left new < left old
unfolding left
after_end old new on e =
    let before : open_end old.end ≡ 1 = ap open_end on in
    let after : open_end new.end ≡ 0 = ap open_end e.is in
    let budget : new.budget ≡ old.budget = e.same.budget in
    let events : length new.events ≡ length old.events = ap length e.events in
    omega (arith, before, after, budget, events)

pub smaller : (old new : WorldOf) (from most : ℕ) (r : Option ℕ) → Holds old → old.end ≡ None → TakesTurn from most old.end r old new
    → left new < left old
smaller old new from most r holds on t = by_result r (turn from most r old new on t)
  where
    by_result : (r : Option ℕ) → Turn from most r old new → left new < left old
    by_result (Some t) shared = after_shared t most old new holds.within on shared.1
    by_result None ended = after_end old new on ended
