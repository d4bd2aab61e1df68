-- The phase of the class on top, set and set back.
use Rattle.std.proofs.Common.{◌≡◌, ℕ, List, [], ◌∷◌, refl}
use Rattle.model.specs.Names.{Name}
use Rattle.model.specs.Classes.{Program}
use Rattle.model.specs.State as model
use Rattle.model.specs.State.{StackOf}
use Rattle.linked_code.specs.declared.program.LinkedProgram.{LinkedProgram}
use Rattle.thread_stacks.specs.declared.entry.Phase.TheVariants as phase
use Rattle.thread_stacks.specs.Stacks.{ShownEntry, Invocation, Initialisation, in_phase}
use Rattle.machine_state.specs.shown_stacks.Shown.{ShowsStack}

module _ (trees : Program) (p : LinkedProgram) (class : Name) (rest : StackOf ℕ) where
  pub at_end : (from : List ShownEntry) → ShowsStack trees p from (model.Initialisation class model.Super ∷ rest)
      → ShowsStack trees p (in_phase phase.End from) (model.Initialisation class model.End ∷ rest)
  at_end [] s = absurd s
  at_end (Invocation frame ∷ others) s = absurd s.0
  at_end (Initialisation number at ∷ others) s = ((s.0.0, refl), s.1)

  pub back : (from : List ShownEntry) → ShowsStack trees p from (model.Initialisation class model.Super ∷ rest)
      → in_phase phase.Super (in_phase phase.End from) ≡ from
  back [] s = absurd s
  back (Invocation frame ∷ others) s = absurd s.0
  back (Initialisation number phase.Super ∷ others) s = refl
  back (Initialisation number phase.End ∷ others) s = absurd (let wrong = s.0.1 in cc)
