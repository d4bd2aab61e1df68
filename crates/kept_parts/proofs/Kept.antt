-- Numbers stand for one heap, and go on to stand for it.
use Rattle.std.proofs.Common.{◌≡◌, ℕ, List, [], ◌∷◌, refl, sym, ◌∙◌, Some}
use Rattle.model.specs.State.{Monitor}
use Rattle.heap.specs.Heap.{Object}
use Rattle.word_table.specs.Lists.{StandsFor, Grows}
use Rattle.kept_parts.specs.Objects.{object_row}
use Rattle.kept_parts.specs.Heaps.{AreObjects}
use Rattle.kept_parts.proofs.Codes.{object_one}

some_is : {A : Type 0} (x y : A) → Some x ≡ Some y → x ≡ y
some_is x y h = cc

-- a number stands for one list
pub stands_one : (parts : List (List ℕ)) (number : ℕ) (xs ys : List ℕ) → StandsFor parts number xs → StandsFor parts number ys → xs ≡ ys
stands_one parts number xs ys a b = some_is xs ys (sym a ∙ b)

pub objects_stand_one : (parts : List (List ℕ)) (numbers : List ℕ) (os ps : List Object) (ms ns : List Monitor)
    → AreObjects parts numbers os ms → AreObjects parts numbers ps ns → (os ≡ ps) × (ms ≡ ns)
objects_stand_one parts [] [] [] [] [] a b = (refl, refl)
objects_stand_one parts (number ∷ numbers) (o ∷ os) (p ∷ ps) (m ∷ ms) (n ∷ ns) a b =
    let first : (o ≡ p) × (m ≡ n) = object_one o p m n (stands_one parts number (object_row o m) (object_row p n) a.0 b.0) in
    let rest : (os ≡ ps) × (ms ≡ ns) = objects_stand_one parts numbers os ps ms ns a.1 b.1 in
    let o_is : o ≡ p = first.0 in
    let m_is : m ≡ n = first.1 in
    let os_are : os ≡ ps = rest.0 in
    let ms_are : ms ≡ ns = rest.1 in
    (cc, cc)
objects_stand_one parts [] [] ps [] (n ∷ ns) a b = absurd b
objects_stand_one parts [] [] (p ∷ ps) [] ns a b = absurd b
objects_stand_one parts [] (o ∷ os) ps ms ns a b = absurd a
objects_stand_one parts [] os ps (m ∷ ms) ns a b = absurd a
objects_stand_one parts (number ∷ numbers) [] ps ms ns a b = absurd a
objects_stand_one parts (number ∷ numbers) os ps [] ns a b = absurd a
objects_stand_one parts (number ∷ numbers) os [] ms ns a b = absurd b
objects_stand_one parts (number ∷ numbers) os ps ms [] a b = absurd b

pub objects_stay : (old new : List (List ℕ)) → Grows old new → (numbers : List ℕ) (os : List Object) (ms : List Monitor)
    → AreObjects old numbers os ms → AreObjects new numbers os ms
objects_stay old new grows [] [] [] a = tt
objects_stay old new grows (number ∷ numbers) (o ∷ os) (m ∷ ms) a =
    (grows.kept number (object_row o m) a.0, objects_stay old new grows numbers os ms a.1)
objects_stay old new grows [] (o ∷ os) ms a = absurd a
objects_stay old new grows [] [] (m ∷ ms) a = absurd a
objects_stay old new grows (number ∷ numbers) [] ms a = absurd a
objects_stay old new grows (number ∷ numbers) (o ∷ os) [] a = absurd a
