-- The list of threads when one more is started: the others go on, and the new one is typed.
use Rattle.std.proofs.Common.{◌≡◌, ℕ, zero, suc, List, [], ◌∷◌, ◌++◌, true, Some, None, refl, subst}
use Rattle.std.specs.Prelude.{slice_get}
use Rattle.std.proofs.lemmas.Bool.{false≢true}
use Rattle.model.specs.Names.{java_lang_thread}
use Rattle.model.specs.Classes.{Program}
use Rattle.model.specs.ReferenceTypes.{ReferenceType}
use Rattle.model.specs.State.{Thread, new_thread}
use Rattle.model.specs.WellTyped.{is_object_in}
use Rattle.run_laws.proofs.laws.Lists.{get_front}
use Rattle.run_laws.proofs.typed_runs.Changes.{Started, Go}
use Rattle.run_laws.proofs.typed_runs.Threads.{kept_self, waits}

pub front_waits : (threads : List Thread) (new : Thread) (object u : ℕ) → waits threads object u ≡ true
    → waits (threads ++ new ∷ []) object u ≡ true
front_waits [] new object u h = absurd (false≢true h)
front_waits (x ∷ xs) new object zero h = h
front_waits (x ∷ xs) new object (suc u) h = front_waits xs new object u h

last_is : (threads : List Thread) (new : Thread) (u : ℕ) (thread : Thread) → slice_get threads u ≡ None
    → slice_get (threads ++ new ∷ []) u ≡ Some thread → new ≡ thread
last_is [] new zero thread n e = cc
last_is [] new (suc u) thread n e = absurd cc
last_is (x ∷ xs) new zero thread n e = absurd cc
last_is (x ∷ xs) new (suc u) thread n e = last_is xs new u thread n e

pub started_go : (files : Program) (os : List ReferenceType) (t : ℕ) (threads : List Thread) (object : ℕ)
    → is_object_in files os java_lang_thread object ≡ true → Go files os t threads (threads ++ new_thread object ∷ [])
started_go files os t threads object h =
    record {
      still = λ u thread e. record { thread = thread; there = get_front threads (new_thread object ∷ []) u thread e; object = refl; kept = λ q. kept_self thread };
      started = λ u thread n e. subst (Started files os) (last_is threads (new_thread object) u thread n e) (record { pending = refl; status = refl; object = h });
    }
