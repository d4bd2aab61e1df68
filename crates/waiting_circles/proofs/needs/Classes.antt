-- What an event needs of a class that comes first.
use Rattle.std.proofs.Common.{◌≡◌, ℕ, ◌∷◌, Option, Some, None, refl, sym, ap}
use Rattle.model.specs.Classes.{Program}
use Rattle.model.specs.ClassInitialisation.{Look, IsReady, IsNew, IsHeld, HasFailed, look_at, look_by, status_of}
use Rattle.model.specs.Names.{Name}
use Rattle.model.specs.Operands.{words}
use Rattle.model.specs.State.{Phase, Super, End, Initialisation, StackOf, WorldOf}
use Rattle.data_races.specs.EventActions.{needed_before}
use Rattle.search_laws.specs.Waits.{Need, look_need, class_need, stack_need}
use Rattle.linked_code.specs.Numbers.{IsClassAt}
use Rattle.waiting_circles.specs.declared.needs.kinds.Need.TheVariants as the
use Rattle.waiting_circles.specs.Needs.{IsNeed}

module _ (trees : Program) (frames t : ℕ) (world : WorldOf ℕ) (next : Option Need) where
  abbrev need_of : Option Name → Option Need
  need_of looks = class_need words trees frames t world looks next

  -- it is ready, whether there is one
  pub ready_anyway : (looks : Option Name) → look_at t world looks ≡ IsReady → need_of looks ≡ next
  ready_anyway None e = refl
  ready_anyway (Some class) e = ap (λ (l : Look). look_need l class next) e

  module _ (class : Name) where
    abbrev found : Look
    found = look_by t (status_of world class)

    pub ready_class : IsReady ≡ found → need_of (Some class) ≡ next
    ready_class e = ap (λ (l : Look). look_need l class next) (sym e)

    pub held_class : (number : ℕ) → IsClassAt trees number class → IsHeld ≡ found → IsNeed trees (Some (the.Class number)) (need_of (Some class))
    held_class number at e = (class, at, ap (λ (l : Look). look_need l class next) (sym e))

    pub new_class : IsNew ≡ found → need_of (Some class) ≡ None
    new_class e = ap (λ (l : Look). look_need l class next) (sym e)

    pub failed_class : HasFailed ≡ found → need_of (Some class) ≡ None
    failed_class e = ap (λ (l : Look). look_need l class next) (sym e)

-- what a class on top needs
module _ (trees : Program) (frames t : ℕ) (world : WorldOf ℕ) (class : Name) (rest : StackOf ℕ) where
  pub phase_need : (phase : Phase) → stack_need words trees frames t world (Initialisation class phase ∷ rest)
      ≡ class_need words trees frames t world (needed_before trees class phase) None
  phase_need Super = refl
  phase_need End = refl
