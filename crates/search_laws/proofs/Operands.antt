-- Operands that an instruction finds are as it wants them.
use Rattle.std.proofs.Common.{◌≡◌, ℕ, List, [], ◌∷◌, ◌++◌, map, take, drop, length, true, refl, sym, subst}
use Rattle.std.specs.Prelude.{slice_index_or}
use Rattle.model.specs.declared.value.Value.{Value}
use Rattle.model.specs.declared.value.Value.TheVariants as value
use Rattle.model.specs.Classes.{Program}
use Rattle.model.specs.Operands.{Slots, Wants, over_values, operands, is_ready}
use Rattle.model.specs.ReferenceTypes.{ReferenceType}
use Rattle.model.specs.Types.{value_meets}
use Rattle.run_laws.proofs.laws.Lists.{Pairwise}
use Rattle.run_laws.proofs.laws.Rows.{ready_popped}
use Rattle.run_laws.proofs.word_runs.WordMeanings.{Kinded}

-- what is popped stands behind what is read
behind_reads : {A B : Type 0} (f : A → B) (rs : List A) (ys : List B) → drop (length rs) (map f rs ++ ys) ≡ ys
behind_reads f [] ys = refl
behind_reads f (r ∷ rs) ys = behind_reads f rs ys

pub kinded : (files : Program) (os : List ReferenceType) (w : Wants) (max : ℕ) (s : Slots Value)
    → is_ready (value_meets files os) over_values w max s ≡ true → Kinded files os w (operands over_values w s)
kinded files os w max s e =
    subst (λ l. Pairwise (value_meets files os) w.pops l) (sym (behind_reads (λ r. slice_index_or s.locals r.0 value.Unset) w.reads (take (length w.pops) s.stack)))
    (ready_popped (value_meets files os) over_values w max s e)
