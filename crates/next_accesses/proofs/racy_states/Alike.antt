-- Accesses conflict by their names exactly where they do by numbers.
use Rattle.std.proofs.Common.{◌≡◌, ℕ, Bool, true, false, refl, sym, ap, ◌∙◌}
use Rattle.std.specs.Prelude.{not, ◌&&◌, ◌||◌, ◌==◌}
use Rattle.model.specs.Classes.{Program}
use Rattle.race_places.specs.declared.run_actions.Variable.{Variable}
use Rattle.race_places.specs.declared.run_actions.Variable.TheVariants.{InstanceField, StaticField, Element}
use Rattle.race_places.specs.declared.run_actions.Action.{Action}
use Rattle.race_places.specs.declared.run_actions.Action.TheVariants.{Read, Write}
use Rattle.race_places.specs.named_actions.Names.{Names, AreApart, named_variable, named_action, IsOfField, IsRight}
use Rattle.data_races.specs.Variables as named
use Rattle.data_races.specs.Actions as actions
use Rattle.next_accesses.specs.racy_states.Racy.{is_same_variable, writes, reads, conflict}

module _ (names : Names) (files : Program) (apart : AreApart names) where
  same_alike : (v w : Variable) (x y : Bool) → IsOfField names files v x → IsOfField names files w y
      → named.is_same_variable (named_variable names v) (named_variable names w) ≡ is_same_variable v w
  same_alike (InstanceField object class field) (InstanceField r c f) x y g h = ap (λ b. (object == r) && b) (apart.fields class field c f g.0 h.0)
  same_alike (InstanceField object class field) (StaticField c f) x y g h = refl
  same_alike (InstanceField object class field) (Element r i) x y g h = refl
  same_alike (StaticField class field) (InstanceField r c f) x y g h = refl
  same_alike (StaticField class field) (StaticField c f) x y g h = apart.fields class field c f g.0 h.0
  same_alike (StaticField class field) (Element r i) x y g h = refl
  same_alike (Element array index) (InstanceField r c f) x y g h = refl
  same_alike (Element array index) (StaticField c f) x y g h = refl
  same_alike (Element array index) (Element r i) x y g h = refl

  volatile_is : (v : Variable) (x : Bool) → IsOfField names files v x → named.is_volatile files (named_variable names v) ≡ x
  volatile_is (InstanceField object class field) x h = sym h.1
  volatile_is (StaticField class field) x h = sym h.1
  volatile_is (Element array index) x h = sym h

  write_alike : (v : Variable) (x : Bool) (b : Action) → IsOfField names files v x → IsRight names files b
      → actions.is_write (named_variable names v) (named_action names b) ≡ writes v b
  write_alike v x (Write w y) g h = same_alike v w x y g h
  write_alike v x _ g h = refl

  read_alike : (v : Variable) (x : Bool) (b : Action) → IsOfField names files v x → IsRight names files b
      → actions.is_read (named_variable names v) (named_action names b) ≡ reads v b
  read_alike v x (Read w y) g h = same_alike v w x y g h
  read_alike v x _ g h = refl

  pub conflicts_alike : (a b : Action) → IsRight names files a → IsRight names files b
      → actions.conflicts files (named_action names a) (named_action names b) ≡ conflict a b
  conflicts_alike (Read v x) b g h =
      ap (λ t. not t && actions.is_write (named_variable names v) (named_action names b)) (volatile_is v x g) ∙ ap (λ t. not x && t) (write_alike v x b g h)
  conflicts_alike (Write v x) b g h =
      ap (λ t. not t && (actions.is_write (named_variable names v) (named_action names b) || actions.is_read (named_variable names v) (named_action names b)))
      (volatile_is v x g)
      ∙ ap (λ t. not x && (t || actions.is_read (named_variable names v) (named_action names b))) (write_alike v x b g h)
      ∙ ap (λ t. not x && (writes v b || t)) (read_alike v x b g h)
  conflicts_alike _ b g h = refl
