use Rattle.std.proofs.Common.{◌++◌, ◌∙◌, ℕ, List, ap, arith}
use Rattle.std.specs.List.{flat_map}
use Rattle.std.proofs.lemmas.List.{take_all}
use Rattle.listings.specs.printed_names.Printed.{printed, printed_byte}
use Rattle.listings.proofs.printed_names.printed.push_printed.Goals as goal

pub returns : goal.returns
unfolding printed
returns c =
    let name = c.args.name.now in
    c.bytes.invariant ∙ ap (λ (l : List ℕ). c.args.text.now.items ++ flat_map printed_byte l) (take_all c.bytes.byte-index name (omega (arith, c.bytes-test.false)))
