-- The frame on top at its handler.
use Rattle.std.specs.Prelude.{OnErr}
use Rattle.std.proofs.Common.{Result, Ok, Err, ◌≡◌, ℕ, List, [], ◌∷◌, length, sym, ap, ◌∙◌, arith}
use Rattle.std.proofs.Math.ListN.{drop_of_length-le}
use Rattle.thread_stacks.specs.Stacks.{ShownEntry, Invocation, moved, on_top, operands_on, at_place, with_operands}
use Rattle.machine_threads.specs.pending_exceptions.Caught.{IsCaughtOnTop}

-- its operands go, and it goes on at the handler with the word
pub caught_on : (from between to : List ShownEntry) (count handler word : ℕ) → count ≡ operands_on from
    → between ≡ on_top (with_operands count (word ∷ [])) from → to ≡ on_top (moved handler) between → IsCaughtOnTop handler word from to
caught_on from between to count handler word all first second shown others is =
    let every : length shown.operands ≡ count = sym (all ∙ ap operands_on is) in
    second
    ∙ ap (on_top (moved handler)) first
    ∙ ap (λ xs. on_top (moved handler) (on_top (with_operands count (word ∷ [])) xs)) is
    ∙ ap (λ xs. Invocation (at_place handler (record shown { operands = word ∷ xs })) ∷ others) (drop_of_length-le shown.operands (omega arith))

-- so it is of an error, too
pub of_error : {T E : Type 0} (result : Result T E) {P : Type 0} → P → OnErr result P
of_error (Ok done) p = tt
of_error (Err told) p = p
