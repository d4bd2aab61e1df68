-- What worlds keep, and stacks over words.
use Rattle.std.proofs.Common.{◌≡◌, ℕ, List, [], Option, Some, None, refl, ap, ◌∙◌}
use Rattle.std.specs.Prelude.{slice_get, unwrap_or}
use Rattle.std.specs.Option.{option_map}
use Rattle.std.proofs.lemmas.Option.{slice_get-map}
use Rattle.model.specs.Operands.{word_of}
use Rattle.model.specs.State.{StackOf, State}
use Rattle.model.specs.Words.{map_stack, words_of}
use Rattle.program_runs.specs.traced_runs.Traces.{stack_at}
use Rattle.program_runs.specs.worlds.Worlds.{WorldOf, IsOfSame}

pub joined : (a b c : WorldOf) → IsOfSame a b → IsOfSame b c → IsOfSame a c
joined a b c ab bc = record { trees = bc.trees ∙ ab.trees; budget = bc.budget ∙ ab.budget; limits = bc.limits ∙ ab.limits }

mapped_or : {A B : Type 0} (f : A → B) (found : Option (StackOf A))
    → unwrap_or (option_map (map_stack f) found) [] ≡ map_stack f (unwrap_or found [])
mapped_or f None = refl
mapped_or f (Some stack) = refl

pub stack_of_words : (state : State) (t : ℕ) → stack_at (words_of state) t ≡ map_stack word_of (stack_at state t)
stack_of_words state t = ap (λ (o : Option (StackOf ℕ)). unwrap_or o []) (slice_get-map (map_stack word_of) state.stacks t) ∙ mapped_or word_of (slice_get state.stacks t)
