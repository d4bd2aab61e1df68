-- Turns of the policies mixed and rotation in a world.
use Rattle.std.proofs.Common.{◌≡◌, ℕ, List, [], ◌∷◌, ◌++◌, Option, Some, None, Bool, true, false, ◌&&◌, length, Result, Ok, Err, refl, sym, ap, subst, ◌∙◌}
use Rattle.std.specs.Prelude.{◌==◌, OnOk, if◌then◌else◌, nat_lt}
use Rattle.std.proofs.lemmas.List.{append-nil}
use Rattle.rand_core.specs.Stream.{Stream}
use Rattle.model.specs.declared.event.Event.{Event}
use Rattle.model.specs.Classes.{Program}
use Rattle.model.specs.LimitStands.{Bounds, bounds_of}
use Rattle.model.specs.Run.{run}
use Rattle.model.specs.State.{State, StateOf, Thread}
use Rattle.run_laws.specs.word_reports.Reports.{AreReportsOfWords}
use Rattle.program_runs.specs.declared.policies.turn_lengths.Turn.{Turn}
use Rattle.program_runs.specs.declared.policies.turn_lengths.Turn.TheVariants as turn
use Rattle.program_runs.specs.declared.policies.turn_lengths.TurnLengths.{TurnLengths}
use Rattle.program_runs.specs.policies.Keeping.{IsFoundBehind, drawn_pick, turn_for}
use Rattle.program_runs.specs.policies.Lengths.{HasLength, IsFirstLength, IsLengthOfAnother, IsLengthOfSame}
use Rattle.program_runs.specs.policies.PolicyTurns.{DoesTurn}
use Rattle.program_runs.specs.policies.Runs.{Mixed, Turned, can_do, first_of, in_rotation, length_of, length_of_another, length_of_same, mixed_turn, mixed_turn_of, pick_of, random_event, random_turn, rotation_turn, turned_if, waiting_in, with_picked, with_turn}
use Rattle.program_runs.specs.worlds.Worlds.{WorldOf, Holds}
use Rattle.program_runs.proofs.policies.Orders.{first_is}
use Rattle.program_runs.proofs.policies.TurnEvents.{turn_appends}

-- ---- where there was memory

pub always : {T E : Type 0} (result : Result T E) {P : Type 0} → P → OnOk result P
always (Ok x) p = p
always (Err e) p = tt

pub for_equal : {T E : Type 0} (result : Result T E) (w new : WorldOf) (one other : List Event) → one ≡ other → OnOk result (DoesTurn other w new) → OnOk result (DoesTurn one w new)
for_equal result w new one other e does = subst (λ l. OnOk result (DoesTurn l w new)) (sym e) does

-- ---- events are added

picked_appends : (trees : Program) (bounds : Bounds) (budget pick most t : ℕ) (done : List Event) → (more : List Event) × (with_picked trees bounds budget pick most t done ≡ done ++ more)
picked_appends trees bounds budget pick most t done = by (nat_lt 0 pick && can_do trees bounds budget done (record { thread = t; pick = pick }))
  where
    by : (b : Bool) → (more : List Event)
        × ((if b then done ++ record { thread = t; pick = pick } ∷ [] else with_turn trees bounds budget most t done) ≡ done ++ more)
    by true = (record { thread = t; pick = pick } ∷ [], refl)
    by false = turn_appends trees bounds budget most t done

if_appends : {A Kept : Type 0} (o : Option A) (next : A → Turned Kept) (kept : Kept) (done : List Event)
    → ((x : A) → (more : List Event) × ((next x).events ≡ done ++ more)) → (more : List Event) × ((turned_if o next kept done).events ≡ done ++ more)
if_appends None next kept done each = ([], sym (append-nil done))
if_appends (Some x) next kept done each = each x

pub mixed_appends : (trees : Program) (bounds : Bounds) (budget : ℕ) (kept : Mixed) (done : List Event)
    → (more : List Event) × ((mixed_turn trees bounds budget kept done).events ≡ done ++ more)
mixed_appends trees bounds budget kept done =
    if_appends (run trees bounds.frames done) _ kept done
    (λ state. if_appends (first_of trees bounds.frames state (in_rotation kept.down kept.last (length state.world.threads))) _ kept done
    (λ t. picked_appends trees bounds budget _ _ t done))

pub rotation_appends : (trees : Program) (bounds : Bounds) (budget quantum : ℕ) (last : Option ℕ) (done : List Event)
    → (more : List Event) × ((rotation_turn trees bounds budget quantum last done).events ≡ done ++ more)
rotation_appends trees bounds budget quantum last done =
    if_appends (run trees bounds.frames done) _ last done
    (λ state. if_appends (first_of trees bounds.frames state (in_rotation false last (length state.world.threads))) _ last done
    (λ t. turn_appends trees bounds budget quantum t done))

abbrev pub rotation_next : (quantum : ℕ) → Program → Bounds → (budget : ℕ) → (last : Option ℕ) → List Event → Turned (Option ℕ)
rotation_next quantum trees bounds budget = rotation_turn trees bounds budget quantum

pub rotation_next_appends : (quantum : ℕ) (trees : Program) (bounds : Bounds) (budget : ℕ) (last : Option ℕ) (done : List Event)
    → (more : List Event) × ((rotation_next quantum trees bounds budget last done).events ≡ done ++ more)
rotation_next_appends quantum trees bounds budget last done = rotation_appends trees bounds budget quantum last done

pub random_appends : (trees : Program) (bounds : Bounds) (budget : ℕ) (kept : Stream) (done : List Event)
    → (more : List Event) × ((random_turn trees bounds budget kept done).events ≡ done ++ more)
random_appends trees bounds budget kept done =
    if_appends (run trees bounds.frames done) (random_event trees bounds budget kept done) kept done (λ state. picked_appends trees bounds budget _ 1 _ done)

-- ---- the length of a turn

-- what is kept is that of the lengths
abbrev pub with_lengths : Mixed → TurnLengths → Stream → Mixed
with_lengths kept lengths words =
    record { words = words; exponent = lengths.n; down = kept.down; main_first = lengths.is_main_first; same = lengths.same; another = lengths.another; last = kept.last }

module _ (kept : Mixed) (old new : TurnLengths) (before rest : Stream) (most : ℕ) where
  abbrev start : Mixed
  start = with_lengths kept old before

  abbrev Is : ℕ × Mixed → Type 0
  Is d = (most, with_lengths kept new rest) ≡ d

  abbrev with_these : ℕ → Bool → (same another : ℕ) → ℕ × Mixed
  with_these n first same another =
      (most, record { words = rest; exponent = n; down = kept.down; main_first = first; same = same; another = another; last = kept.last })

  of_same : IsLengthOfSame old before most new rest → Is (length_of_same start)
  of_same h =
      ap (λ n. with_these n new.is_main_first new.same new.another) h.rule.0 ∙ ap (λ b. with_these old.n b new.same new.another) h.rule.1
      ∙ ap (λ k. with_these old.n old.is_main_first new.same k) h.another
      ∙ ap (λ (d : ℕ × (ℕ × Stream)). let m : Mixed = record start { same = d.1.0; words = d.1.1 } in (d.0, m)) h.drawn

  of_another : IsLengthOfAnother old before most new rest → Is (length_of_another start)
  of_another h =
      ap (λ n. with_these n new.is_main_first new.same new.another) h.rule.0 ∙ ap (λ b. with_these old.n b new.same new.another) h.rule.1
      ∙ ap (λ k. with_these old.n old.is_main_first k new.another) h.same
      ∙ ap (λ (d : ℕ × (ℕ × Stream)). let m : Mixed = record start { another = d.1.0; words = d.1.1 } in (d.0, m)) h.drawn

  of_first : (b : Bool) → old.is_main_first ≡ b → IsFirstLength b old before most new rest → Is (if old.is_main_first then (10000, start) else length_of_same start)
  of_first true e h =
      ap (λ n. let d : ℕ × Mixed = (n, with_lengths kept new rest) in d) h.long ∙ ap (λ (l : TurnLengths). let d : ℕ × Mixed = (10000, with_lengths kept l rest) in d) h.kept
      ∙ ap (λ (s : Stream). let d : ℕ × Mixed = (10000, with_lengths kept old s) in d) h.none ∙ sym (by old.is_main_first e)
    where
      by : (b : Bool) → b ≡ true → (if b then (10000, start) else length_of_same start) ≡ (10000, start)
      by true e = refl
      by false e = absurd cc
  of_first false e h = of_same h ∙ sym (by old.is_main_first e)
    where
      by : (b : Bool) → b ≡ false → (if b then (10000, start) else length_of_same start) ≡ length_of_same start
      by false e = refl
      by true e = absurd cc

  of_turn : (last : Option ℕ) (t : ℕ) → HasLength (turn_for last t) old before most new rest → Is (length_of last t start)
  of_turn None t h = of_first old.is_main_first refl h
  of_turn (Some last) t h = by (last == t) h
    where
      by : (b : Bool) → HasLength (if b then turn.Same else turn.Another) old before most new rest → Is (if b then length_of_same start else length_of_another start)
      by true h = of_same h
      by false h = of_another h

  pub length_is : (last : Option ℕ) (t : ℕ) (of : Turn) → of ≡ turn_for last t → HasLength of old before most new rest → Is (length_of last t start)
  length_is last t of is h = of_turn last t (subst (λ x. HasLength x old before most new rest) is h)

-- ---- in a world

module _ (reported : AreReportsOfWords) (w : WorldOf) (holds : Holds w) where
  abbrev bounds : Bounds
  bounds = bounds_of w.machine.limits

  abbrev state : State
  state = holds.done.run.lead.state

  abbrev threads : List Thread
  threads = state.world.threads

  reached : run w.trees bounds.frames w.events ≡ Some state
  reached = holds.done.run.lead.reached

  threads_are : w.machine.shared.threads.threads ≡ threads
  threads_are = holds.done.run.shown.represents.world_is.threads ∙ ap (λ (s : StateOf ℕ). s.world.threads) holds.done.run.lead.are.are

  -- ---- of mixed

  module _ (kept : Mixed) where
    mixed_by : (r : Option ℕ) → IsFoundBehind w.machine kept.down kept.last r
        → mixed_turn w.trees bounds w.budget kept w.events ≡ turned_if r (mixed_turn_of w.trees bounds w.budget kept w.events state) kept w.events
    mixed_by r found =
        ap (λ o. turned_if o (λ s. turned_if (first_of w.trees bounds.frames s (in_rotation kept.down kept.last (length s.world.threads))) (mixed_turn_of w.trees bounds w.budget kept w.events s) kept w.events) kept w.events) reached
        ∙ ap (λ o. turned_if o (mixed_turn_of w.trees bounds w.budget kept w.events state) kept w.events) (first_is reported w holds kept.down kept.last r found)

    pub mixed_none : IsFoundBehind w.machine kept.down kept.last None → mixed_turn w.trees bounds w.budget kept w.events ≡ record { kept = kept; events = w.events }
    mixed_none found = mixed_by None found

    module _ (t most pick : ℕ) (one two : Mixed) (long : (most, one) ≡ length_of kept.last t kept) (drawn : (pick, two) ≡ drawn_pick w.machine one) where
      abbrev with_length : ℕ × Mixed → List Thread → Turned Mixed
      with_length d threads =
          let pick = pick_of (waiting_in threads) d.1.words in
          record { kept = record d.1 { words = pick.1; last = Some t }; events = with_picked w.trees bounds w.budget pick.0 d.0 t w.events }

      abbrev with_pick : ℕ × Mixed → Turned Mixed
      with_pick q = record { kept = record q.1 { last = Some t }; events = with_picked w.trees bounds w.budget q.0 most t w.events }

      pub mixed_some : IsFoundBehind w.machine kept.down kept.last (Some t) → mixed_turn w.trees bounds w.budget kept w.events ≡ with_pick (pick, two)
      mixed_some found =
          mixed_by (Some t) found ∙ ap (λ d. with_length d threads) (sym long) ∙ ap (with_length (most, one)) (sym threads_are) ∙ ap with_pick (sym drawn)

  -- ---- of rotation

  module _ (quantum : ℕ) (last : Option ℕ) where
    abbrev of_thread : ℕ → Turned (Option ℕ)
    of_thread t = record { kept = Some t; events = with_turn w.trees bounds w.budget quantum t w.events }

    rotation_is : (r : Option ℕ) → IsFoundBehind w.machine false last r → rotation_turn w.trees bounds w.budget quantum last w.events ≡ turned_if r of_thread last w.events
    rotation_is r found =
        ap (λ o. turned_if o (λ s. turned_if (first_of w.trees bounds.frames s (in_rotation false last (length s.world.threads))) of_thread last w.events) last w.events) reached
        ∙ ap (λ o. turned_if o of_thread last w.events) (first_is reported w holds false last r found)

    pub rotation_none : IsFoundBehind w.machine false last None → rotation_turn w.trees bounds w.budget quantum last w.events ≡ record { kept = last; events = w.events }
    rotation_none found = rotation_is None found

    pub rotation_some : (t : ℕ) → IsFoundBehind w.machine false last (Some t) → rotation_turn w.trees bounds w.budget quantum last w.events ≡ of_thread t
    rotation_some t found = rotation_is (Some t) found
