-- Two accesses conflict whichever of them is named first.
use Rattle.std.proofs.Common.{◌≡◌, refl, Bool, true, false, not, ◌||◌, ◌==◌, sym, ap, ◌∙◌, subst}
use Rattle.std.specs.Prelude.{IsTrue}
use Rattle.std.proofs.lemmas.Bool.{false≢true, and_parts, and_from, eqb-true}
use Rattle.model.specs.Names.{member_eq}
use Rattle.model.specs.Classes.{Program}
use Rattle.run_laws.proofs.laws.Classes.{members_same}
use Rattle.data_races.specs.Actions.{Action, Read, Write, conflicts}
use Rattle.data_races.specs.Variables.{Variable, InstanceField, StaticField, Element, is_same_variable, is_volatile}

-- the test tells that they are one
same : (v w : Variable) → IsTrue (is_same_variable v w) → v ≡ w
same (InstanceField r f) (InstanceField s g) h =
    let q = and_parts (r == s) (member_eq f g) h in
    ap (λ n. InstanceField n f) (eqb-true r s q.0) ∙ ap (InstanceField s) (members_same f g q.1)
same (InstanceField r f) (StaticField g) h = absurd (false≢true h)
same (InstanceField r f) (Element s j) h = absurd (false≢true h)
same (StaticField f) (InstanceField s g) h = absurd (false≢true h)
same (StaticField f) (StaticField g) h = ap StaticField (members_same f g h)
same (StaticField f) (Element s j) h = absurd (false≢true h)
same (Element r i) (InstanceField s g) h = absurd (false≢true h)
same (Element r i) (StaticField g) h = absurd (false≢true h)
same (Element r i) (Element s j) h =
    let q = and_parts (r == s) (i == j) h in
    ap (λ n. Element n i) (eqb-true r s q.0) ∙ ap (Element s) (eqb-true i j q.1)

module _ (files : Program) where
  abbrev is_plain : Variable → Bool
  is_plain v = not (is_volatile files v)

  -- both are one variable that is not volatile
  record AreOne (v w : Variable) : Type 0 where
    plain : is_plain w ≡ true
    is_same : is_same_variable w v ≡ true

  one : (v w : Variable) → is_plain v ≡ true → is_same_variable v w ≡ true → AreOne v w
  one v w plain h =
      let e = same v w h in
      record {
        plain = subst (λ x. is_plain x ≡ true) e plain;
        is_same = sym (ap (λ x. is_same_variable x w) e ∙ ap (is_same_variable w) (sym e)) ∙ h;
      }

  or_none : (b : Bool) → (b || false) ≡ b
  or_none true = refl
  or_none false = refl

  pub turned : (a b : Action) → IsTrue (conflicts files a b) → IsTrue (conflicts files b a)
  turned (Read v) (Write w) h =
      let q = and_parts (is_plain v) (is_same_variable v w) h in
      let o = one v w q.0 q.1 in
      and_from (is_plain w) (is_same_variable w v) o.plain o.is_same
  turned (Write v) (Read w) h =
      let q = and_parts (is_plain v) (is_same_variable v w) h in
      let o = one v w q.0 q.1 in
      and_from (is_plain w) (is_same_variable w v) o.plain o.is_same
  turned (Write v) (Write w) h =
      let q = and_parts (is_plain v) (is_same_variable v w || false) h in
      let o = one v w q.0 (sym (or_none (is_same_variable v w)) ∙ q.1) in
      and_from (is_plain w) (is_same_variable w v || false) o.plain (or_none (is_same_variable w v) ∙ o.is_same)
  turned (Read v) _ h = absurd (false≢true ((and_parts (is_plain v) false h).1))
  turned (Write v) _ h = absurd (false≢true ((and_parts (is_plain v) false h).1))
  turned _ b h = absurd (false≢true h)
