use Rattle.std.proofs.Common.{◌∙◌, ◌-◌, ltb, cond, Some, None, ap, sym}
use Rattle.std.proofs.lemmas.Bool.{lt-ltb, le-ltb}
use Rattle.hierarchy.proofs.Indices.{built_in_count}
use Rattle.verifier.proofs.verified.file_number.Goals as goal

pub returns-then-class-lt-BUILT_IN_CLASSES : goal.returns-then-class-lt-BUILT_IN_CLASSES
returns-then-class-lt-BUILT_IN_CLASSES c =
    let class = c.args.class in
    sym (ap (λ n. cond (ltb class n) None (Some (class - n))) built_in_count ∙ ap (λ b. cond b None (Some (class - 37))) (lt-ltb class 37 c.if-class-lt-BUILT_IN_CLASSES.true))

pub returns : goal.returns
returns c =
    let class = c.args.class in
    sym (ap (λ n. cond (ltb class n) None (Some (class - n))) built_in_count ∙ ap (λ b. cond b None (Some (class - 37))) (le-ltb class 37 c.if-class-lt-BUILT_IN_CLASSES.false))
