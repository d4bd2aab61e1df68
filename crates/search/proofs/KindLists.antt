-- Kinds that are told, and those that are to be found.
use Rattle.std.proofs.Common.{◌≡◌, Bool, true, false, ◌||◌, ◌⊎◌, inl, inr, refl}
use Rattle.std.specs.Prelude.{IsTrue, IsFalse}
use Rattle.std.proofs.lemmas.Bool.{false≢true, true≢false}
use Rattle.search.specs.declared.kinds.Goal.{Goal}
use Rattle.search.specs.declared.kinds.Goal.TheVariants as goals
use Rattle.search.specs.declared.kinds.Kind.{Kind}
use Rattle.search.specs.declared.kinds.Kind.TheVariants as kind
use Rattle.search.specs.declared.kinds.Kinds.{Kinds}
use Rattle.search.specs.Kinds.{is_told, and_also, is_sought}

either : (a b : Bool) → (a || b) ≡ true → (a ≡ true) ⊎ (b ≡ true)
either true b e = inl refl
either false b e = inr e

or_of : (a b : Bool) → (a ≡ true) ⊎ (b ≡ true) → (a || b) ≡ true
or_of true b h = refl
or_of false b (inl e) = absurd (false≢true e)
or_of false b (inr e) = e

neither : (a b : Bool) → (a || b) ≡ false → (a ≡ false) × (b ≡ false)
neither true b e = absurd (true≢false e)
neither false b e = (refl, e)

none_of : (a b : Bool) → a ≡ false → b ≡ false → (a || b) ≡ false
none_of true b e f = e
none_of false b e f = f

-- ---- two lists of kinds

pub told_or : (k : Kind) (these others : Kinds) → IsTrue (is_told (and_also these others) k) → IsTrue (is_told these k) ⊎ IsTrue (is_told others k)
told_or kind.Race these others e = either these.race others.race e
told_or kind.Uncaught these others e = either these.uncaught others.uncaught e
told_or kind.Deadlock these others e = either these.deadlock others.deadlock e
told_or kind.Endless these others e = either these.endless others.endless e

pub or_told : (k : Kind) (these others : Kinds) → IsTrue (is_told these k) ⊎ IsTrue (is_told others k) → IsTrue (is_told (and_also these others) k)
or_told kind.Race these others h = or_of these.race others.race h
or_told kind.Uncaught these others h = or_of these.uncaught others.uncaught h
or_told kind.Deadlock these others h = or_of these.deadlock others.deadlock h
or_told kind.Endless these others h = or_of these.endless others.endless h

-- ---- what is to be found

pub sought_one : (kinds : Kinds) → (kinds.race || (kinds.uncaught || (kinds.deadlock || kinds.endless))) ≡ true → (k : Kind) × IsTrue (is_told kinds k)
sought_one kinds e = elim (either kinds.race (kinds.uncaught || (kinds.deadlock || kinds.endless)) e) [
  | inl race ↦ (kind.Race, race)
  | inr more ↦ elim (either kinds.uncaught (kinds.deadlock || kinds.endless) more) [
    | inl uncaught ↦ (kind.Uncaught, uncaught)
    | inr last ↦ elim (either kinds.deadlock kinds.endless last) [
      | inl deadlock ↦ (kind.Deadlock, deadlock)
      | inr endless ↦ (kind.Endless, endless)
    ]
  ]
]

none_told : (k : Kind) (these others : Kinds) → IsFalse (is_told these k) → IsFalse (is_told others k) → IsFalse (is_told (and_also these others) k)
none_told kind.Race these others e f = none_of these.race others.race e f
none_told kind.Uncaught these others e f = none_of these.uncaught others.uncaught e f
none_told kind.Deadlock these others e f = none_of these.deadlock others.deadlock e f
none_told kind.Endless these others e f = none_of these.endless others.endless e f

pub unsought_both : (g : Goal) (these others : Kinds) → IsFalse (is_sought g these) → IsFalse (is_sought g others) → IsFalse (is_sought g (and_also these others))
unsought_both (goals.Outcome want) these others e f = refl
unsought_both (goals.Kind k) these others e f = none_told k these others e f
unsought_both goals.AnyKind these others e f =
    let a = neither these.race (these.uncaught || (these.deadlock || these.endless)) e in
    let b = neither others.race (others.uncaught || (others.deadlock || others.endless)) f in
    let c = neither these.uncaught (these.deadlock || these.endless) a.1 in
    let d = neither others.uncaught (others.deadlock || others.endless) b.1 in
    let m = neither these.deadlock these.endless c.1 in
    let n = neither others.deadlock others.endless d.1 in
    let last = none_of (these.deadlock || others.deadlock) (these.endless || others.endless) (none_of these.deadlock others.deadlock m.0 n.0) (none_of these.endless others.endless m.1 n.1) in
    let more = none_of (these.uncaught || others.uncaught) ((these.deadlock || others.deadlock) || (these.endless || others.endless)) (none_of these.uncaught others.uncaught c.0 d.0) last in
    none_of (these.race || others.race) ((these.uncaught || others.uncaught) || ((these.deadlock || others.deadlock) || (these.endless || others.endless))) (none_of these.race others.race a.0 b.0) more
