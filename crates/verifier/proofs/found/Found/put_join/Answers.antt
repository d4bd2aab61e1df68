use Rattle.std.proofs.Common.{ℕ, subst}
use Rattle.std.specs.Prelude.{IfSome}
use Rattle.std.specs.Global.{Vec}
use Rattle.verifier.specs.Changes.{DiffersAt}
use Rattle.verifier.specs.Looks.{NotesAt}
use Rattle.verifier.proofs.Looked.{changes_nothing, changes_some}
use Rattle.verifier.proofs.found.Found.put_join.Goals as goal

pub returns-in_default-clause-looks : goal.returns-in_default-clause-looks
returns-in_default-clause-looks c = changes_nothing c.args.offset c.args.join c.args.self.now c.put.new.self c.put.ensures.looks

pub returns-clause-looks : goal.returns-clause-looks
returns-clause-looks c =
    changes_some c.args.offset c.args.join c.in-Some.changed.items c.args.self.now c.put_changed.new.self
    (subst (λ o. IfSome o (λ (v : Vec ℕ). DiffersAt v.items c.args.offset c.args.join c.args.self.now.types.items)) c.in-Some.is c.in_ok-changed.ensures)
    (subst (λ l. NotesAt c.args.offset l c.args.self.now.looks.items c.put_changed.new.self.looks.items) c.deref.ensures.value c.in_ok-put_changed.ensures.looks)
