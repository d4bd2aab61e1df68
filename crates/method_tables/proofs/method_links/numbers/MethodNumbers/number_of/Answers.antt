use Rattle.std.proofs.Common.{rules, arith, ◌≡◌, true, false}
use Rattle.method_tables.specs.method_links.Numbers.{is_at}
use Rattle.method_tables.proofs.method_links.Numbering.{number_is, stands_so, stands_not}
use Rattle.method_tables.proofs.method_links.numbers.MethodNumbers.number_of.Goals as goal

pub returns-then-not-stands_at : goal.returns-then-not-stands_at
returns-then-not-stands_at c =
    let no : is_at c.args.self.now.places c.saturating_add-number.result c.args.place ≡ false = search rules in
    λ files numbers. stands_not files c.args.self.now numbers c.saturating_add-number.result c.first.result c.args.place c.first.ensures
    (λ lt. omega (arith, lt, c.stands_at.ensures.fits, c.saturating_add-number.ensures)) no

pub returns : goal.returns
returns c =
    let yes : is_at c.args.self.now.places c.saturating_add-number.result c.args.place ≡ true = search rules in
    λ files numbers. number_is files c.args.self.now numbers c.saturating_add-number.result c.args.place (stands_so files c.args.self.now numbers c.saturating_add-number.result c.args.place yes)
