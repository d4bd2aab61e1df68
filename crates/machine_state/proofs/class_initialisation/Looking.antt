-- How a class is found, and what the answers of need_class say of that.
use Rattle.std.proofs.Common.{◌≡◌, ℕ, List, Option, Some, None, Bool, true, false, Result, Ok, Err, refl, sym, ap, subst, ◌∙◌}
use Rattle.std.specs.Prelude.{slice_get, unwrap_or}
use Rattle.std.specs.Option.{option_map}
use Rattle.std.specs.Result.{MatchResult, IsOkAnd, IsErrAnd}
use Rattle.std.proofs.lemmas.Option.{same_Some}
use Rattle.model.specs.State as model
use Rattle.model.specs.ClassInitialisation.{IsReady, look_by}
use Rattle.machine_state.specs.declared.state.ClassStatus.{ClassStatus}
use Rattle.machine_state.specs.declared.state.ClassStatus.TheVariants as status
use Rattle.machine_state.specs.declared.answers.Answer.{Answer}
use Rattle.machine_state.specs.declared.refusals.EventRefusal.{EventRefusal}
use Rattle.machine_state.specs.Shown.{shown_status, is_initialised}

-- the status that is kept
pub known : (o : Option ClassStatus) (s : model.ClassStatus) → option_map shown_status o ≡ Some s
    → shown_status (unwrap_or o status.Initialised) ≡ s
known None s h = absurd cc
known (Some x) s h = same_Some _ _ h

-- a class that is initialised is ready for each thread
ready_by : (t : ℕ) (s : model.ClassStatus) → is_initialised s ≡ true → IsReady ≡ look_by t s
ready_by t model.NotInitialised h = absurd cc
ready_by t (model.InProgress by) h = absurd cc
ready_by t model.Initialised h = refl
ready_by t model.Erroneous h = absurd cc

pub ready_look : (t : ℕ) (s : model.ClassStatus) (flags : List Bool) (number : ℕ) (flag : Bool)
    → flag ≡ unwrap_or (slice_get flags number) false → flag ≡ true → slice_get flags number ≡ Some (is_initialised s)
    → IsReady ≡ look_by t s
ready_look t s flags number flag e on h = ready_by t s (sym (ap (λ o. unwrap_or o false) h) ∙ sym e ∙ on)

-- what is said of an answer is said of it as the one of need_class
pub instead : (P : Result Answer EventRefusal → Type 0) (Q : Result (Option Answer) EventRefusal → Type 0)
    → ((answer : Answer) → P (Ok answer) → Q (Ok (Some answer))) → ((told : EventRefusal) → P (Err told) → Q (Err told))
    → (result : Result Answer EventRefusal) (mapped : Result (Option Answer) EventRefusal)
    → MatchResult result (λ answer. IsOkAnd mapped (λ o. o ≡ Some answer)) (λ told. mapped ≡ Err told) → P result → Q mapped
instead P Q ok err (Ok answer) (Ok o) h e = subst (λ (o : Option Answer). Q (Ok o)) (sym h) (ok answer e)
instead P Q ok err (Ok answer) (Err told) h e = absurd h
instead P Q ok err (Err told) mapped h e = subst Q (sym h) (err told e)

-- a refusal that is handed on
pub told_so : (P : Result Answer EventRefusal → Type 0) (why : EventRefusal) (result : Result Answer EventRefusal) → IsErrAnd result (λ told. told ≡ why)
    → P (Err why) → P result
told_so P why (Ok answer) e h = absurd e
told_so P why (Err told) e h = subst (λ (r : EventRefusal). P (Err r)) (sym e) h
