use Rattle.std.proofs.Common.{sym, subst}
use Rattle.method_tables.specs.method_links.Numbers.{AreNumbersOf}
use Rattle.method_tables.proofs.method_links.Numbering.{table_is}
use Rattle.method_tables.proofs.method_links.numbers.MethodNumbers.new.Goals as goal

pub returns : goal.returns
returns c = subst (AreNumbersOf c.args.set.now) (sym c.in_ok-counted.ensures) (table_is c.args.set.now)
