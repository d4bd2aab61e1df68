-- Objects of the opening state, one after another.
use Rattle.std.proofs.Common.{ℕ, ◌+◌, ◌<◌, List, [], ◌∷◌, ◌++◌, Result, Ok, Err, get_or, length, map, replicate, take, ap, sym, ◌∙◌, arith, subst}
use Rattle.std.specs.Prelude.{OnOk}
use Rattle.std.proofs.lemmas.List.{append_assoc, length-append, map_more, replicate-append-replicate}
use Rattle.heap.specs.Heap.{Object, Heap}
use Rattle.machine_threads.specs.machine_opening.Opened.{opened, AddsObjects}

pub after_ok : {A E : Type 0} (P Q : Type 0) → (P → Q) → (r : Result A E) → OnOk r P → OnOk r Q
after_ok P Q f (Ok x) h = f h
after_ok P Q f (Err e) h = tt

pub adds_both : (a b : List Object) (old mid new : Heap) → AddsObjects a old mid → AddsObjects b mid new → AddsObjects (a ++ b) old new
adds_both a b old mid new f s =
    record {
      count = omega (arith, f.count, s.count, length-append a b);
      are = λ limits before e. s.are limits (before ++ a) (f.are limits before e) ∙ ap (opened limits) (append_assoc before a b);
    }

pub adds_next : (n : ℕ) (object : Object) (old mid new : Heap) → AddsObjects (replicate n object) old mid
    → AddsObjects (object ∷ []) mid new
    → AddsObjects (replicate (n + 1) object) old new
adds_next n object old mid new f s =
    subst (λ (objects : List Object). AddsObjects objects old new) (replicate-append-replicate n 1 object) (adds_both (replicate n object) (object ∷ []) old mid new f s)

pub adds_one : {X : Type 0} (object_of : X → Object) (xs : List X) (i : ℕ) (d : X) (old mid new : Heap) → i < length xs
    → AddsObjects (map object_of (take i xs)) old mid → AddsObjects (object_of (get_or xs i d) ∷ []) mid new
    → AddsObjects (map object_of (take (i + 1) xs)) old new
adds_one object_of xs i d old mid new inside f s =
    subst (λ (objects : List Object). AddsObjects objects old new) (sym (map_more object_of xs i d inside)) (adds_both (map object_of (take i xs)) (object_of (get_or xs i d) ∷ []) old mid new f s)
