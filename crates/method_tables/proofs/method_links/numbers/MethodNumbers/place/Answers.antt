use Rattle.std.proofs.Common.{◌∙◌, ap}
use Rattle.std.specs.Option.{option_map}
use Rattle.method_tables.specs.method_links.Methods.{member_at}
use Rattle.method_tables.proofs.method_links.Numbering.{place_is}
use Rattle.method_tables.proofs.method_links.numbers.MethodNumbers.place.Goals as goal

pub returns-clause-method : goal.returns-clause-method
returns-clause-method c = λ files numbers. ap (option_map (member_at files)) c.at.ensures ∙ place_is files c.args.self.now numbers c.args.number
