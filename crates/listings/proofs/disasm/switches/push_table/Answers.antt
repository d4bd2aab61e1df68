use Rattle.std.proofs.Common.{◌≡◌, arith}
use Rattle.std.specs.Int.{w32, cast_signed, cast_unsigned}
use Rattle.std.proofs.lemmas.Int.{to_z-of_z}
use Rattle.model.specs.Instruction.{jump_count}
use Rattle.model.specs.Listing.{default_case, each_below, table_case}
use Rattle.listings.proofs.disasm.Writing.{then_pushed}
use Rattle.listings.proofs.disasm.switches.push_table.Goals as goal

pub returns : goal.returns
returns c =
    let default : cast_signed w32 (cast_unsigned w32 c.args.default) ≡ c.args.default = grind (arith, to_z-of_z) in
    let low : cast_signed w32 (cast_unsigned w32 c.args.low) ≡ c.args.low = grind (arith, to_z-of_z) in
    let high : cast_signed w32 (cast_unsigned w32 c.args.high) ≡ c.args.high = grind (arith, to_z-of_z) in
    let first = rw default at c.in_ok-push_default.ensures in
    let second = rw (low, high) at c.push_table_cases.ensures in
    let cases = each_below (table_case c.args.code.now c.args.pc c.args.low c.args.at) (jump_count c.args.low c.args.high) in
    then_pushed c.push_table_cases.result c.args.text.now.items c.push_default.new.text.items c.push_table_cases.new.text.items (default_case c.args.pc c.args.default) cases first second
