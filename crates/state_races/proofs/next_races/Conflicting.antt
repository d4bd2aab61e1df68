-- Actions that conflict by numbers are accesses of one variable.
use Rattle.std.proofs.Common.{◌≡◌, ℕ, Bool, true, false, Some, refl, sym, ap, subst, ◌∙◌}
use Rattle.std.specs.Prelude.{not, ◌&&◌, ◌||◌, ◌==◌}
use Rattle.std.proofs.lemmas.Bool.{and_parts, eqb-true, false≢true}
use Rattle.data_races.specs.Actions as named
use Rattle.race_places.specs.declared.run_actions.Variable.{Variable}
use Rattle.race_places.specs.declared.run_actions.Variable.TheVariants.{InstanceField, StaticField, Element}
use Rattle.race_places.specs.declared.run_actions.Action.{Action}
use Rattle.race_places.specs.declared.run_actions.Action.TheVariants.{Read, Write}
use Rattle.race_places.specs.named_actions.Names.{Names, named_variable, named_action}
use Rattle.run_races.specs.named_races.Named.{access_action}
use Rattle.run_races.specs.race_finder.Found.{accessed}
use Rattle.next_accesses.specs.racy_states.Racy.{is_same_variable, reads, writes, conflict}

both : (a b : ℕ) → (a == b) ≡ true → a ≡ b
both a b e = eqb-true a b e

same : (v w : Variable) → is_same_variable v w ≡ true → v ≡ w
same (InstanceField object class field) (InstanceField r c f) e =
    let one = and_parts (object == r) ((class == c) && (field == f)) e in
    let two = and_parts (class == c) (field == f) one.1 in
    ap (λ (x : ℕ). InstanceField x class field) (both object r one.0)
    ∙ (ap (λ (x : ℕ). InstanceField r x field) (both class c two.0) ∙ ap (λ (x : ℕ). InstanceField r c x) (both field f two.1))
same (InstanceField object class field) (StaticField c f) e = absurd (false≢true e)
same (InstanceField object class field) (Element r i) e = absurd (false≢true e)
same (StaticField class field) (InstanceField r c f) e = absurd (false≢true e)
same (StaticField class field) (StaticField c f) e =
    let two = and_parts (class == c) (field == f) e in
    ap (λ (x : ℕ). StaticField x field) (both class c two.0) ∙ ap (λ (x : ℕ). StaticField c x) (both field f two.1)
same (StaticField class field) (Element r i) e = absurd (false≢true e)
same (Element array index) (InstanceField r c f) e = absurd (false≢true e)
same (Element array index) (StaticField c f) e = absurd (false≢true e)
same (Element array index) (Element r i) e =
    let two = and_parts (array == r) (index == i) e in
    ap (λ (x : ℕ). Element x index) (both array r two.0) ∙ ap (λ (x : ℕ). Element r x) (both index i two.1)

-- an access of the variable, by numbers and by names
pub record Accesses (names : Names) (v : Variable) (a : Action) : Type 0 where
  pub writes : Bool
  pub is : accessed a ≡ Some (v, writes)
  pub named_so : named_action names a ≡ access_action writes (named_variable names v)

module _ (names : Names) where
  read_is : (v w : Variable) (volatile : Bool) → v ≡ w → Accesses names v (Read w volatile)
  read_is v w volatile e = subst (λ (x : Variable). Accesses names x (Read w volatile)) (sym e) (record { writes = false; is = refl; named_so = refl })

  write_is : (v w : Variable) (volatile : Bool) → v ≡ w → Accesses names v (Write w volatile)
  write_is v w volatile e = subst (λ (x : Variable). Accesses names x (Write w volatile)) (sym e) (record { writes = true; is = refl; named_so = refl })

  written : (v : Variable) (b : Action) → writes v b ≡ true → Accesses names v b
  written v (Write w volatile) e = write_is v w volatile (same v w e)
  written v _ e = absurd (false≢true e)

  either : (v : Variable) (b : Action) → (writes v b || reads v b) ≡ true → Accesses names v b
  either v (Write w volatile) e = write_is v w volatile (same v w (or_false (is_same_variable v w) e))
    where
      or_false : (x : Bool) → (x || false) ≡ true → x ≡ true
      or_false true h = refl
      or_false false h = absurd (false≢true h)
  either v (Read w volatile) e = read_is v w volatile (same v w e)
  either v _ e = absurd (false≢true e)

  pub record Conflicting (a b : Action) : Type 0 where
    pub variable : Variable
    pub first : Accesses names variable a
    pub second : Accesses names variable b

  pub conflicting : (a b : Action) → conflict a b ≡ true → Conflicting a b
  conflicting (Read v volatile) b e =
      record { variable = v; first = read_is v v volatile refl; second = written v b (and_parts (not volatile) (writes v b) e).1 }
  conflicting (Write v volatile) b e =
      record { variable = v; first = write_is v v volatile refl; second = either v b (and_parts (not volatile) (writes v b || reads v b) e).1 }
  conflicting _ b e = absurd (false≢true e)
