-- How many steps the verification of a set of classes takes at most (own).
use Rattle.std.specs.Prelude.{ℕ, suc, ◌+◌, ◌*◌, ◌<◌, ◌≤◌, Option, Some, None, length}
use Rattle.std.specs.Option.{option_map_or}
use Rattle.std.specs.List.{sum_by}
use Rattle.model.specs.Names.{Member}
use Rattle.model.specs.Tree.{FileTree, MethodTree}
use Rattle.model.specs.Classes.{Program, Body}
use Rattle.hierarchy.specs.Places.{class_at}
use Rattle.types.specs.method_code.View.{shown_in, shown_at}
use Rattle.run_laws.specs.typing_search.Weights.{places}
use Rattle.run_laws.specs.typing_search.Decided.{IsBounded}
use Rattle.verifier.specs.Worklist.{most_a_turn, search_steps}

-- how many it may take, all methods together
abbrev pub most_steps : ℕ
most_steps = 2000000000

-- ---- of each method

-- how many steps the search over each method may take
abbrev pub Costs : Type 0
Costs = Member → Body → ℕ

-- no search takes more, however many of its turns are done
abbrev pub AreCosts : Program → Costs → Type 0
AreCosts files costs = (member : Member) (body : Body) (turns : ℕ) → search_steps files member body turns ≤ costs member body

abbrev pub method_steps : Member → Body → Costs → ℕ
method_steps member body costs = costs member body

-- ---- of all methods

-- of a method, if it has code
abbrev pub shown_steps : Option (Member × Body) → Costs → ℕ
shown_steps None costs = 0
shown_steps (Some shown) costs = method_steps shown.0 shown.1 costs

abbrev pub class_steps : FileTree → Costs → ℕ
class_steps file costs = sum_by (λ (m : MethodTree). shown_steps (shown_in file m) costs) file.methods

-- of the classes of all files; the built-in ones have typings in each program, and take none
abbrev pub all_steps : Program → Costs → ℕ
all_steps files costs = sum_by (λ (file : FileTree). class_steps file costs) files

-- ---- of those at a place, if there are any

abbrev pub steps_at : Program → ℕ → ℕ → Costs → ℕ
steps_at files class method costs = shown_steps (shown_at files class method) costs

abbrev pub steps_of_class : Program → ℕ → Costs → ℕ
steps_of_class files class costs = option_map_or (λ (file : FileTree). class_steps file costs) (class_at files class) 0

-- ---- steps that are taken, and those that are left

-- what takes so many steps at most was done: so many were left before, and so many after
abbrev pub TakesAtMost : Program → (Costs → ℕ) → ℕ → ℕ → Type 0
TakesAtMost files most before after = (costs : Costs) → AreCosts files costs → before ≤ after + most costs

-- fewer are left than it may take
abbrev pub MayTakeMore : Program → (Costs → ℕ) → ℕ → Type 0
MayTakeMore files most left = (costs : Costs) → AreCosts files costs → left < most costs

-- ---- costs that are known before a search begins

-- how many types may be above those of each method
abbrev pub Limits : Type 0
Limits = Member → Body → ℕ

-- of which there are some, by `types_of_a_method_are_limited` of `run_laws`
abbrev pub AreLimits : Program → Limits → Type 0
AreLimits files limits = (member : Member) (body : Body) → IsBounded files member body (limits member body)

-- Turns, where no type has more than a limit above it: as many as the work that is left when nothing is found yet
-- (`Rattle.run_laws.specs.typing_search.Weights`), since each turn lessens it.
abbrev pub most_turns : Body → ℕ → ℕ
most_turns body limit = 2 * (length body.code.code * (places body * suc limit + 2))

abbrev pub limited_costs : Limits → Costs
limited_costs limits member body = most_turns body (limits member body) * most_a_turn body
