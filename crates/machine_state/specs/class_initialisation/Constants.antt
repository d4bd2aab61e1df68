-- The constants of a class among the words of static fields (JVMS 4.7.2; 5.5, step 6).
use Rattle.std.specs.Prelude.{ℕ, List, [], ◌∷◌, slice_set}
use Rattle.linked_code.specs.declared.class.LinkedConstant.{LinkedConstant}

-- each is set in its slot
abbrev pub with_constants : List LinkedConstant → List ℕ → List ℕ
with_constants [] slots = slots
with_constants (c ∷ cs) slots = with_constants cs (slice_set slots c.slot c.word)
