use Rattle.std.proofs.Common.{◌∙◌, sym}
use Rattle.std.proofs.lemmas.Bool.{false≢true}
use Rattle.verifier.proofs.Entries.{stands_there, stands_nowhere}
use Rattle.verifier.proofs.Puts.{there_at}
use Rattle.verifier.proofs.found.Found.before.Goals as goal

pub returns-then-not-has_handlers : goal.returns-then-not-has_handlers
returns-then-not-has_handlers c = λ there at has. absurd (false≢true (sym c.if-not-has_handlers.true ∙ (c.has_handlers.ensures ∙ has)))

pub returns-in-Some : goal.returns-in-Some
returns-in-Some c =
    stands_there c.args.offset c.in-Some.there c.args.self.now.types.items c.args.leads.now (there_at c.args.self.now.types.items c.args.offset _ _ c.requires c.index.ensures c.in-Some.is) c.copy.result c.copy.ensures

pub returns-in-None : goal.returns-in-None
returns-in-None c =
    stands_nowhere c.args.offset c.args.self.now.types.items c.args.leads.now (there_at c.args.self.now.types.items c.args.offset _ _ c.requires c.index.ensures c.in-None.is) _
