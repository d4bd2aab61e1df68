use Rattle.std.proofs.Common.{◌∙◌, refl, sym}
use Rattle.verifier.specs.declared.look.Look.{Look}
use Rattle.verifier.proofs.Looked.{settles_new}
use Rattle.verifier.proofs.found.Found.settle.Goals as goal

pub returns-clause-looks : goal.returns-clause-looks
returns-clause-looks c =
    let look : Look = record { targets = c.args.targets; changed = c.new.result } in
    settles_new c.args.offset c.args.targets.items c.args.self.now c.set_look.new.self look (sym c.has.ensures ∙ c.if-has.false) c.set_look.ensures.looks refl c.new.ensures.items
