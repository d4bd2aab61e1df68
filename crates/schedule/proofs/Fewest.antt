-- Entries that are joined are the fewest of their events.
use Rattle.std.proofs.Common.{◌≡◌, ℕ, ◌+◌, ◌-◌, ◌<◌, ◌≤◌, List, [], ◌∷◌, ◌++◌, length, replicate, get_or, drop, sym, ap, subst, ◌∙◌, add-zero, arith}
use Rattle.std.specs.List.{AllByRecursion}
use Rattle.std.proofs.Math.Decide.{dec_lt}
use Rattle.std.proofs.Math.Seq.{drop-append_seam}
use Rattle.std.proofs.lemmas.List.{drop-append-le, drop-replicate, get_or_append_left, get_or-append-add, get_or-replicate, length-append, length-replicate}
use Rattle.model.specs.declared.event.Event.{Event}
use Rattle.model.specs.declared.event.ScheduleEntry.{ScheduleEntry}
use Rattle.model.specs.Schedule.{EntryFits, events_of}
use Rattle.schedule.specs.Joined.{AreJoined, AreRuns}
use Rattle.schedule.proofs.recorded_events.Runs.{fewer}

-- ---- equal events, and others behind them

after : (n : ℕ) (e : Event) (rest : List Event) → drop n (replicate n e ++ rest) ≡ rest
after n e rest = ap (λ k. drop k (replicate n e ++ rest)) (sym (length-replicate n e)) ∙ drop-append_seam (replicate n e) rest

after_some : (k n : ℕ) (e : Event) (rest : List Event) → k ≤ n → drop k (replicate n e ++ rest) ≡ replicate (n - k) e ++ rest
after_some k n e rest le =
    drop-append-le k (replicate n e) rest (subst (λ m. k ≤ m) (sym (length-replicate n e)) le) ∙ ap (λ l. l ++ rest) (drop-replicate k n e)

event_at : (k n : ℕ) (e d : Event) (rest : List Event) → k < n → get_or (replicate n e ++ rest) k d ≡ e
event_at k n e d rest lt =
    get_or_append_left (replicate n e) rest d k (subst (λ m. k < m) (sym (length-replicate n e)) lt) ∙ get_or-replicate n k e d lt

event_behind : (n : ℕ) (e d : Event) (rest : List Event) → get_or (replicate n e ++ rest) n d ≡ get_or rest 0 d
event_behind n e d rest =
    ap (λ k. get_or (replicate n e ++ rest) k d) (sym (ap (λ k. k + 0) (length-replicate n e) ∙ add-zero n)) ∙ get_or-append-add (replicate n e) rest 0 d

tail_joined : (p : ScheduleEntry) (ps : List ScheduleEntry) → AreJoined (p ∷ ps) → AreJoined ps
tail_joined p [] h = tt
tail_joined p (x ∷ ps) h = h.1

tail_runs : (p : ScheduleEntry) (ps : List ScheduleEntry) → AreRuns (p ∷ ps) → AreRuns ps
tail_runs p ps h = record { each = h.each.1; joined = tail_joined p ps h.joined }

-- ---- an entry is as long as it can be

-- as many equal events, m of them, stand first in what joined entries stand for: the first entry stands for all of these
module _ (q p : ScheduleEntry) (m : ℕ) (rest : List Event) (fits : EntryFits q) (some : 0 < m) (few : m ≤ q.repeat) where
  same_event : EntryFits p → (others : List Event) → replicate m q.event ++ rest ≡ replicate p.repeat p.event ++ others → q.event ≡ p.event
  same_event fit others is =
      sym (event_at 0 m q.event q.event rest some) ∙ ap (λ l. get_or l 0 q.event) is ∙ event_at 0 p.repeat p.event q.event others (omega (arith, fit.repeat.0))

  too_short : (ps : List ScheduleEntry) → AreRuns (p ∷ ps) → replicate m q.event ++ rest ≡ events_of (p ∷ ps) → p.repeat < m → ⊥
  too_short [] runs is lt =
      omega (arith, lt, ap length is, length-append (replicate m q.event) rest, length-replicate m q.event, length-append (replicate p.repeat p.event) [], length-replicate p.repeat p.event)
  too_short (x ∷ ps) runs is lt =
      let first = same_event runs.each.0 (events_of (x ∷ ps)) is in
      let next : q.event ≡ x.event =
      sym (event_at p.repeat m q.event q.event rest lt) ∙ ap (λ l. get_or l p.repeat q.event) is
      ∙ event_behind p.repeat p.event q.event (events_of (x ∷ ps)) ∙ event_at 0 x.repeat x.event q.event (events_of ps) (omega (arith, runs.each.1.0.repeat.0)) in
      let plain : q.event.pick ≡ 0 = fits.alone (omega (arith, few, lt, runs.each.0.repeat.0)) in
      runs.joined.0 (record {
        same = sym first ∙ next;
        plain = ap (λ (e : Event). e.pick) (sym next) ∙ plain;
        room = omega (arith, lt, few, fits.repeat.1);
      })

-- ---- the fewest

-- joined entries of the events behind some others of these entries are as many at most
abbrev AreFewest : List ScheduleEntry → Type 0
AreFewest qs = (ps : List ScheduleEntry) (front : List Event) → AreRuns ps → events_of qs ≡ front ++ events_of ps → length ps ≤ length qs

module _ (q : ScheduleEntry) (qs : List ScheduleEntry) (p : ScheduleEntry) (ps : List ScheduleEntry) (front : List Event) (fits : EntryFits q)
    (others : AreFewest qs) (runs : AreRuns (p ∷ ps)) (is : events_of (q ∷ qs) ≡ front ++ events_of (p ∷ ps)) where
  -- the first entry stands for no more than what stands in front
  past_front : q.repeat ≤ length front → length (p ∷ ps) ≤ length (q ∷ qs)
  past_front le =
      let rest : events_of qs ≡ drop q.repeat front ++ events_of (p ∷ ps) =
      sym (after q.repeat q.event (events_of qs)) ∙ ap (drop q.repeat) is ∙ drop-append-le q.repeat front (events_of (p ∷ ps)) le in
      omega (arith, others (p ∷ ps) (drop q.repeat front) runs rest)

  -- or for the first of the joined ones, too
  within_first : (m : ℕ) → m ≡ q.repeat - length front → length front < q.repeat → length (p ∷ ps) ≤ length (q ∷ qs)
  within_first m left lt = case (dec_lt p.repeat m)
    where
      both : replicate m q.event ++ events_of qs ≡ events_of (p ∷ ps)
      both =
          ap (λ k. replicate k q.event ++ events_of qs) left
          ∙ sym (after_some (length front) q.repeat q.event (events_of qs) (omega (arith, lt))) ∙ ap (drop (length front)) is ∙ drop-append_seam front (events_of (p ∷ ps))

      case : Dec (p.repeat < m) → length (p ∷ ps) ≤ length (q ∷ qs)
      case (yes short) = absurd (too_short q p m (events_of qs) fits (omega (arith, lt, left)) (omega (arith, left)) ps runs both short)
      case (no ge) =
          let le : m ≤ p.repeat = omega (arith, ge) in
          let rest : events_of qs ≡ replicate (p.repeat - m) p.event ++ events_of ps =
          sym (after m q.event (events_of qs)) ∙ ap (drop m) both ∙ after_some m p.repeat p.event (events_of ps) le in
          omega (arith, others ps (replicate (p.repeat - m) p.event) (tail_runs p ps runs) rest)

  step : length (p ∷ ps) ≤ length (q ∷ qs)
  step = case (dec_lt (length front) q.repeat)
    where
      case : Dec (length front < q.repeat) → length (p ∷ ps) ≤ length (q ∷ qs)
      case (yes lt) = within_first (q.repeat - length front) (omega arith) lt
      case (no ge) = past_front (omega (arith, ge))

pub fewest : (qs ps : List ScheduleEntry) (front : List Event) → AllByRecursion EntryFits qs → AreRuns ps → events_of qs ≡ front ++ events_of ps
    → length ps ≤ length qs
fewest [] ps front fits runs is = omega (arith, fewer ps runs.each, ap length is, length-append front (events_of ps))
fewest (q ∷ qs) [] front fits runs is = omega arith
fewest (q ∷ qs) (p ∷ ps) front fits runs is = step q qs p ps front fits.0 (λ others before joined are. fewest qs others before fits.1 joined are) runs is
