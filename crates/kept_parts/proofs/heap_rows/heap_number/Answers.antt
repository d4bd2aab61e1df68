use Rattle.std.proofs.Common.{ℕ, List, subst}
use Rattle.word_table.specs.Lists.{IsWritten}
use Rattle.kept_parts.proofs.Chains.{if_ok}
use Rattle.kept_parts.proofs.Numbers.{heap_written}
use Rattle.kept_parts.proofs.heap_rows.heap_number.Goals as goal

pub returns : goal.returns
returns c =
    if_ok c.list_number.result _ _
    (λ number written. heap_written c.args.heap.now number c.all_numbers.new.numbers.items c.args.parts.now c.all_numbers.new.parts c.list_number.new.parts
    c.in_ok-all_numbers.ensures.grows c.in_ok-all_numbers.ensures.numbers
    (subst (λ (ns : List ℕ). IsWritten ns number c.all_numbers.new.parts c.list_number.new.parts) c.as_slice.ensures.value written))
    c.list_number.ensures
