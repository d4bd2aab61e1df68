use Rattle.std.proofs.Common.{rules, ◌≡◌, [], None, get_or, subst}
use Rattle.method_tables.specs.method_links.Methods.{Names}
use Rattle.method_tables.specs.method_links.Named.{named_in}
use Rattle.method_tables.proofs.method_links.Naming.{by_method, by_interface, by_none}
use Rattle.method_tables.proofs.method_links.named.NamedMethods.named.Goals as goal

pub returns-clause-method : goal.returns-clause-method
returns-clause-method c =
    let is : get_or (get_or c.args.self.now c.args.class []) c.args.index None ≡ c.number_in.result = search rules in
    λ files named file at m e. by_method files file.pool c.args.index c.number_in.result m e (subst (λ o. Names files o (named_in files file.pool c.args.index)) is (named c.args.class file at c.args.index c.ranges.index.fits))

pub returns-clause-interface_method : goal.returns-clause-interface_method
returns-clause-interface_method c =
    let is : get_or (get_or c.args.self.now c.args.class []) c.args.index None ≡ c.number_in.result = search rules in
    λ files named file at m e. by_interface files file.pool c.args.index c.number_in.result m e (subst (λ o. Names files o (named_in files file.pool c.args.index)) is (named c.args.class file at c.args.index c.ranges.index.fits))

pub returns-clause-other : goal.returns-clause-other
returns-clause-other c =
    let is : get_or (get_or c.args.self.now c.args.class []) c.args.index None ≡ c.number_in.result = search rules in
    λ files named file at e i. by_none files file.pool c.args.index c.number_in.result e i (subst (λ o. Names files o (named_in files file.pool c.args.index)) is (named c.args.class file at c.args.index c.ranges.index.fits))
