use Rattle.std.proofs.Common.{refl}
use Rattle.run_laws.proofs.examples.stack_moves.Goals as goal

pub returns : goal.returns
returns c =
    record {
      holds = record {
        pop = λ value1. record { turns = λ locals rest next. refl; goes_on = λ next words. refl; is_done = λ files. refl; too_few = λ files. refl };
        pop2 = λ value1 value2. record { turns = λ locals rest next. refl; goes_on = λ next words. refl; is_done = λ files. refl; too_few = λ files. refl };
        dup = λ value1. record { turns = λ locals rest next. refl; goes_on = λ next words. refl; is_done = λ files. refl; too_few = λ files. refl };
        dup_x1 = λ value1 value2. record { turns = λ locals rest next. refl; goes_on = λ next words. refl; is_done = λ files. refl; too_few = λ files. refl };
        dup_x2 = λ value1 value2 value3. record { turns = λ locals rest next. refl; goes_on = λ next words. refl; is_done = λ files. refl; too_few = λ files. refl };
        dup2 = λ value1 value2. record { turns = λ locals rest next. refl; goes_on = λ next words. refl; is_done = λ files. refl; too_few = λ files. refl };
        dup2_x1 = λ value1 value2 value3. record { turns = λ locals rest next. refl; goes_on = λ next words. refl; is_done = λ files. refl; too_few = λ files. refl };
        dup2_x2 = λ value1 value2 value3 value4. record { turns = λ locals rest next. refl; goes_on = λ next words. refl; is_done = λ files. refl; too_few = λ files. refl };
        swap = λ value1 value2. record { turns = λ locals rest next. refl; goes_on = λ next words. refl; is_done = λ files. refl; too_few = λ files. refl };
        dup_overflows = λ value1. λ files. refl;
        dup_x1_overflows = λ value1 value2. λ files. refl;
        dup_x2_overflows = λ value1 value2 value3. λ files. refl;
        dup2_overflows = λ value1 value2. λ files. refl;
        dup2_x1_overflows = λ value1 value2 value3. λ files. refl;
        dup2_x2_overflows = λ value1 value2 value3 value4. λ files. refl;
      };
    }
