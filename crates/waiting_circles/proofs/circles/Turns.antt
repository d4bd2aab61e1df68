-- Rounds of threads are circles of the state that a machine shows.
use Rattle.std.proofs.Common.{◌≡◌, ℕ, List, [], ◌∷◌, Option, Bool, sym, subst, ◌∙◌}
use Rattle.std.specs.Prelude.{IsTrue, IsFalse}
use Rattle.std.proofs.lemmas.Option.{same_Some}
use Rattle.model.specs.Classes.{Program}
use Rattle.model.specs.LimitStands.{bounds_of}
use Rattle.model.specs.State.{State, StateOf}
use Rattle.model.specs.WellTyped.{IsWellTyped}
use Rattle.model.specs.Words.{words_of}
use Rattle.run_laws.specs.laws.Steps.{Rooted}
use Rattle.run_laws.proofs.laws.LinkedOf.{linked_of}
use Rattle.search_laws.specs.Waits.{Need, MonitorOf, ClassOf, IsHeldBy, WaitsFor, WaitInTurn}
use Rattle.search_laws.proofs.NeedsByWords.{need_by_words}
use Rattle.linked_code.specs.declared.program.LinkedProgram.{LinkedProgram}
use Rattle.machine_state.specs.declared.state.Shared.{Shared}
use Rattle.machine.specs.Machines.{MachineOf}
use Rattle.waiting_circles.specs.Circles.{Awaits, IsAwaited, AreAwaited, HasCircle, TellsCircle}
use Rattle.waiting_circles.specs.Holders.{Holds}
use Rattle.waiting_circles.specs.Rounds.{next_in, LeadsTo, HasRound, TellsRound}

-- ---- a state and its words

module _ (trees : Program) (rooted : Rooted trees) (frames : ℕ) (state : State) (typed : IsWellTyped trees state) where
  held_values : (u : ℕ) (need : Need) → Holds (words_of state).world u need → IsHeldBy state.world u need
  held_values u (MonitorOf object) h = h
  held_values u (ClassOf class) h = h

  held_words : (u : ℕ) (need : Need) → IsHeldBy state.world u need → Holds (words_of state).world u need
  held_words u (MonitorOf object) h = h
  held_words u (ClassOf class) h = h

  waits : (t u : ℕ) → Awaits trees frames (words_of state) t u → WaitsFor trees frames t u state
  waits t u a =
      record { differ = a.differ; need = a.need; needs = sym (need_by_words trees rooted frames state typed t) ∙ a.needs; held = held_values u a.need a.held }

  awaits : (t u : ℕ) → WaitsFor trees frames t u state → Awaits trees frames (words_of state) t u
  awaits t u w =
      record { differ = w.differ; need = w.need; needs = need_by_words trees rooted frames state typed t ∙ w.needs; held = held_words u w.need w.held }

  module _ (nexts : List (Option ℕ)) (are : (t : ℕ) → IsAwaited trees frames (words_of state) t (next_in nexts t)) where
    turns : (first t : ℕ) (threads : List ℕ) → LeadsTo nexts first t threads → WaitInTurn trees frames first t threads state
    turns first t [] way = waits t first ((are t).awaits first way)
    turns first t (u ∷ threads) way = (waits t u ((are t).awaits u way.0), turns first u threads way.1)

    leads : (first t : ℕ) (threads : List ℕ) → WaitInTurn trees frames first t threads state → LeadsTo nexts first t threads
    leads first t [] w = (are t).only first (awaits t first w)
    leads first t (u ∷ threads) w = ((are t).only u (awaits t u w.0), leads first u threads w.1)

    pub circle_of : HasRound nexts → HasCircle trees frames state
    circle_of round = record { first = round.first; threads = round.others; is = turns round.first round.first round.others round.is }

    pub round_of : HasCircle trees frames state → HasRound nexts
    round_of circle = record { first = circle.first; others = circle.threads; is = leads circle.first circle.first circle.threads circle.is }

-- ---- a machine

module _ (m : MachineOf) (nexts : List (Option ℕ)) (awaited : AreAwaited m.program m.shared m.limits.frames nexts) (told : Bool) (rounds : TellsRound nexts told) where
  abbrev Tells : Program → State → Type 0
  Tells trees state = (IsTrue told → HasCircle trees m.limits.frames state) × (IsFalse told → HasCircle trees m.limits.frames state → ⊥)

  pub tells : TellsCircle m told
  tells files trees events state done reached =
      let has = done.run in
      let frames = m.limits.frames in
      let lead = has.lead in
      let rooted = (linked_of files trees done.accepted.linkable.spelled done.accepted.linkable.no_refusal).rooted in
      let are : (t : ℕ) → IsAwaited trees frames (words_of lead.state) t (next_in nexts t) = λ t.
      subst (λ (w : StateOf ℕ). IsAwaited trees frames w t (next_in nexts t)) lead.are.are
      (awaited t trees (bounds_of m.limits) _ has.at done.program has.shown)
      in
      subst (Tells trees) (same_Some lead.state state (sym lead.reached ∙ reached)) (
        λ h. circle_of trees rooted frames lead.state lead.are.typed nexts are (rounds.0 h),
        λ h circle. rounds.1 h (round_of trees rooted frames lead.state lead.are.typed nexts are circle),
      )

-- what is lent is of the machine
pub of_machine : (m : MachineOf) (p : LinkedProgram) (shared : Shared) (frames : ℕ) (nexts : List (Option ℕ)) → p ≡ m.program
    → shared ≡ m.shared → frames ≡ m.limits.frames → AreAwaited p shared frames nexts → AreAwaited m.program m.shared m.limits.frames nexts
of_machine m p shared frames nexts program_is shared_is frames_are awaited =
    subst (λ q. AreAwaited q m.shared m.limits.frames nexts) program_is
    (subst (λ s. AreAwaited p s m.limits.frames nexts) shared_is (subst (λ n. AreAwaited p shared n nexts) frames_are awaited))
