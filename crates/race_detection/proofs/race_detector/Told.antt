-- What a detector tells of one more step.
use Rattle.std.proofs.Common.{◌≡◌, refl, sym, ◌∙◌, ap, subst, ℕ, ◌<◌, ◌≤◌, ◌⊎◌, inl, inr, List, [], ◌∷◌, length, arith}
use Rattle.std.specs.Prelude.{Option, Some, None, slice_get, slice_index_or, Bool, true, false, not, ◌&&◌, ◌||◌, ◌==◌, IsTrue}
use Rattle.std.specs.Option.{option_map, option_or}
use Rattle.std.proofs.lemmas.Option.{slice_get_within}
use Rattle.std.proofs.lemmas.Bool.{eqb-true, eq-eqb}
use Rattle.std.proofs.lemmas.Bool.Decides.{eqb_tells}
use Rattle.data_races.specs.HappensBefore.{Pair, HappensBefore}
use Rattle.data_races.proofs.Order.{get_left, get_seam, with_next}
use Rattle.race_detection.specs.declared.run_steps.Action.{Action}
use Rattle.race_detection.specs.declared.run_steps.Action.TheVariants.{Read, Write, Acquire, Release, Clear}
use Rattle.race_detection.specs.declared.run_steps.Step.{Step}
use Rattle.race_detection.specs.declared.last_accesses.Access.{Access}
use Rattle.race_detection.specs.last_accesses.Accesses.{Has, IsFirstUnknown}
use Rattle.race_detection.specs.run_steps.Synchronization.{conflicts, step_order}
use Rattle.race_detection.specs.vector_clocks.Times.{time_in}
use Rattle.race_detection.specs.race_detector.Watched.{AreLast, step_with, Tells}
use Rattle.race_detection.proofs.race_detector.Known.{IsFoundBy, known_before, before_cases}
use Rattle.race_detection.proofs.race_detector.Clocks.{ShowKnown, lt_or_le}

-- ---- which actions conflict

not_true : (b : Bool) → IsTrue (not b) → b ≡ false
not_true true h = absurd (cc)
not_true false h = refl

not_false : (b : Bool) → b ≡ false → IsTrue (not b)
not_false true h = absurd (cc)
not_false false h = refl

both : (a b : Bool) → IsTrue (a && b) → IsTrue a × IsTrue b
both true true h = (refl, refl)
both true false h = absurd (cc)
both false b h = absurd (cc)

and_true : (a b : Bool) → IsTrue a → IsTrue b → IsTrue (a && b)
and_true true true g h = refl
and_true true false g h = absurd (cc)
and_true false b g h = absurd (cc)

either : (a b : Bool) → IsTrue (a || b) → IsTrue a ⊎ IsTrue b
either true b h = inl refl
either false b h = inr h

or_right : (a b : Bool) → IsTrue b → IsTrue (a || b)
or_right true b h = refl
or_right false b h = h

or_left : (a b : Bool) → IsTrue a → IsTrue (a || b)
or_left true b h = refl
or_left false b h = absurd (cc)

-- with a read a write of the variable alone
with_read : (a : Action) (variable : ℕ) → IsTrue (conflicts a (Read variable)) → a ≡ Write variable
with_read (Read v) variable h = absurd (cc)
with_read (Write v) variable h = ap (λ n. Write n) (eqb-true v variable h)
with_read (Acquire p) variable h = absurd (cc)
with_read (Release p) variable h = absurd (cc)
with_read (Clear taken left) variable h = absurd (cc)

with_write : (a : Action) (variable : ℕ) → IsTrue (conflicts a (Write variable)) → (a ≡ Write variable) ⊎ (a ≡ Read variable)
with_write (Read v) variable h = inr (ap (λ n. Read n) (eqb-true v variable h))
with_write (Write v) variable h = elim (either (v == variable) false h) [ inl e ↦ inl (ap (λ n. Write n) (eqb-true v variable e)) | inr e ↦ absurd (cc) ]
with_write (Acquire p) variable h = absurd (cc)
with_write (Release p) variable h = absurd (cc)
with_write (Clear taken left) variable h = absurd (cc)

write_read : (variable : ℕ) → IsTrue (conflicts (Write variable) (Read variable))
write_read variable = eq-eqb variable variable refl

write_write : (variable : ℕ) → IsTrue (conflicts (Write variable) (Write variable))
write_write variable = or_left (variable == variable) false (eq-eqb variable variable refl)

read_write : (variable : ℕ) → IsTrue (conflicts (Read variable) (Write variable))
read_write variable = eq-eqb variable variable refl

-- an action that conflicts with none
abbrev pub ConflictsWithNone : Action → Type 0
ConflictsWithNone b = (a : Action) → IsTrue (conflicts a b) → ⊥

pub acquire_alone : (place : ℕ) → ConflictsWithNone (Acquire place)
acquire_alone place (Read v) h = cc
acquire_alone place (Write v) h = cc
acquire_alone place (Acquire p) h = cc
acquire_alone place (Release p) h = cc
acquire_alone place (Clear taken left) h = cc

pub release_alone : (place : ℕ) → ConflictsWithNone (Release place)
release_alone place (Read v) h = cc
release_alone place (Write v) h = cc
release_alone place (Acquire p) h = cc
release_alone place (Release p) h = cc
release_alone place (Clear taken left) h = cc

pub clear_alone : (t l : ℕ) → ConflictsWithNone (Clear t l)
clear_alone t l (Read v) h = cc
clear_alone t l (Write v) h = cc
clear_alone t l (Acquire p) h = cc
clear_alone t l (Release p) h = cc
clear_alone t l (Clear taken left) h = cc

module _ (run : List Step) (s : Step) where
  last_is : (x : Step) → slice_get (with_next run s) (length run) ≡ Some x → x ≡ s
  last_is x at = let e : Some x ≡ Some s = sym at ∙ get_seam run s in cc

  pub tells_nothing : ConflictsWithNone s.action → Tells run s None
  tells_nothing none i race =
      let c = both _ _ race.conflict in
      none race.pair.first.action (subst (λ (x : Step). IsTrue (conflicts race.pair.first.action x.action)) (last_is race.pair.second race.pair.at_second) c.1)

  module _ (threads : List (List ℕ)) (shown : ShowKnown run threads) (nothing : (i : ℕ) → IsFoundBy run s i → ⊥) where
    abbrev clock_knows : ℕ → ℕ → Type 0
    clock_knows i thread = i < time_in threads s.thread thread

    -- an access that the clock does not know races with the step
    pub unknown_races : (accesses : List Access) (action : Action) → AreLast run action accesses → IsTrue (conflicts action s.action)
        → (access : Access) → Has accesses access → (access.thread ≡ s.thread → ⊥) → time_in threads s.thread access.thread ≤ access.position
        → Tells run s (Some (step_with action access))
    unknown_races accesses action last conflict access has other late =
        let at = last.stand access has in
        let l : access.position < length run = slice_get_within run access.position (step_with action access) at in
        let pair : Pair (with_next run s) access.position (length run) =
        record {
          first = step_with action access;
          second = s;
          earlier = l;
          at_first = get_left run (s ∷ []) access.position l ∙ at;
          at_second = get_seam run s;
        } in
        let apart : IsTrue (not (access.thread == s.thread)) =
        elim (eqb_tells access.thread s.thread) [ inl p ↦ absurd (other p.1) | inr p ↦ not_false (access.thread == s.thread) p.0 ] in (
          access.position,
          at,
          record {
            pair = pair;
            conflict = and_true (not (access.thread == s.thread)) (conflicts action s.action) apart conflict;
            unordered = λ h.
                elim (before_cases run s access.position h) [
                  | inl k ↦ absurd (let b : access.position < time_in threads s.thread access.thread = (shown s.thread access.position (step_with action access) at other).1 k in omega arith)
                  | inr f ↦ nothing access.position f
                ];
          },
        )

    -- where the clock knows all accesses by other threads, none of this action does
    pub known_ordered : (accesses : List Access) (action : Action) → AreLast run action accesses
        → ((access : Access) → Has accesses access → (access.thread ≡ s.thread → ⊥) → access.position < time_in threads s.thread access.thread)
        → (i : ℕ) (step : Step) → slice_get run i ≡ Some step → (step.thread ≡ s.thread → ⊥) → step.action ≡ action
        → HappensBefore step_order (with_next run s) i (length run)
    known_ordered accesses action last known i step at other is =
        let q = last.last i step at is in
        let same : q.0.thread ≡ step.thread = q.2 in
        let most : i ≤ q.0.position = q.3 in
        let l : q.0.position < time_in threads s.thread q.0.thread = known q.0 q.1 (λ g. other (sym same ∙ g)) in
        let m : q.0.position < time_in threads s.thread step.thread = subst (λ t. q.0.position < time_in threads s.thread t) same l in
        known_before run s i ((shown s.thread i step at other).0 (omega arith))

    -- no race, where each action that conflicts is ordered
    pub none_races : ((i : ℕ) (step : Step) → slice_get run i ≡ Some step → (step.thread ≡ s.thread → ⊥) → IsTrue (conflicts step.action s.action)
        → HappensBefore step_order (with_next run s) i (length run))
        → Tells run s None
    none_races ordered i race =
        let c = both _ _ race.conflict in
        let is = last_is race.pair.second race.pair.at_second in
        let l : i < length run = race.pair.earlier in
        let at : slice_get run i ≡ Some race.pair.first = sym (get_left run (s ∷ []) i l) ∙ race.pair.at_first in
        let other : race.pair.first.thread ≡ s.thread → ⊥ = λ e.
        let f : (race.pair.first.thread == race.pair.second.thread) ≡ false = not_true _ c.0 in
        let t : (race.pair.first.thread == race.pair.second.thread) ≡ true =
        eq-eqb race.pair.first.thread race.pair.second.thread (e ∙ ap (λ (x : Step). x.thread) (sym is)) in
        let g : true ≡ false = sym t ∙ f in cc in
        race.unordered (ordered i race.pair.first at other (subst (λ (x : Step). IsTrue (conflicts race.pair.first.action x.action)) is c.1))

    abbrev clock : List ℕ
    clock = slice_index_or threads s.thread []

    known_all : (accesses : List Access) → IsFirstUnknown accesses s.thread clock None → (access : Access) → Has accesses access
        → (access.thread ≡ s.thread → ⊥) → access.position < time_in threads s.thread access.thread
    known_all accesses none access has other =
        elim (lt_or_le access.position (time_in threads s.thread access.thread)) [
          | inl l ↦ l
          | inr l ↦ absurd (none access has (record { other = other; unknown = l }))
        ]

    pub told_read : (variable : ℕ) → s.action ≡ Read variable → (writes : List Access) → AreLast run (Write variable) writes
        → (o : Option Access) → IsFirstUnknown writes s.thread clock o → Tells run s (option_map (step_with (Write variable)) o)
    told_read variable is writes last None none =
        none_races (λ i step at other c.
        known_ordered writes (Write variable) last (known_all writes none) i step at other (with_read step.action variable (subst (λ (a : Action). IsTrue (conflicts step.action a)) is c)))
    told_read variable is writes last (Some access) u =
        unknown_races writes (Write variable) last (subst (λ (a : Action). IsTrue (conflicts (Write variable) a)) (sym is) (write_read variable))
        access u.0 u.1.other u.1.unknown

    pub told_write : (variable : ℕ) → s.action ≡ Write variable → (reads writes : List Access) → AreLast run (Read variable) reads
        → AreLast run (Write variable) writes → (o p : Option Access) → IsFirstUnknown writes s.thread clock o → IsFirstUnknown reads s.thread clock p
        → Tells run s (option_or (option_map (step_with (Write variable)) o) (option_map (step_with (Read variable)) p))
    told_write variable is reads writes last_reads last_writes None None none_o none_p =
        none_races (λ i step at other c.
        elim (with_write step.action variable (subst (λ (a : Action). IsTrue (conflicts step.action a)) is c)) [
          | inl w ↦ known_ordered writes (Write variable) last_writes (known_all writes none_o) i step at other w
          | inr r ↦ known_ordered reads (Read variable) last_reads (known_all reads none_p) i step at other r
        ])
    told_write variable is reads writes last_reads last_writes None (Some access) none_o u =
        unknown_races reads (Read variable) last_reads (subst (λ (a : Action). IsTrue (conflicts (Read variable) a)) (sym is) (read_write variable))
        access u.0 u.1.other u.1.unknown
    told_write variable is reads writes last_reads last_writes (Some access) p u none_p =
        unknown_races writes (Write variable) last_writes (subst (λ (a : Action). IsTrue (conflicts (Write variable) a)) (sym is) (write_write variable))
        access u.0 u.1.other u.1.unknown
