use Rattle.std.proofs.Common.{◌∙◌, ◌-◌, ◌<◌, sym, ap, arith}
use Rattle.model.specs.ReferenceTypes.{ReferenceArray, is_type_below, is_subclass_or_implements}
use Rattle.model.specs.DescribedTypes.{arrays}
use Rattle.hierarchy.specs.declared.reference_type.Innermost as declared_innermost
use Rattle.hierarchy.specs.Types.{innermost_of}
use Rattle.hierarchy.proofs.TypeLaws.{as_many, more, fewer}
use Rattle.hierarchy.proofs.hierarchy.Hierarchy.is_subtype.Goals as goal

pub returns-then-s-t : goal.returns-then-s-t
returns-then-s-t c =
    c.is_innermost_subtype.ensures ∙ sym (as_many (is_subclass_or_implements c.args.self.now) c.args.s.arrays c.args.t.arrays (innermost_of c.args.s.innermost) (innermost_of c.args.t.innermost) c.if-s-t.true)

pub returns-then-s-t-2 : goal.returns-then-s-t-2
returns-then-s-t-2 c = sym (fewer (is_subclass_or_implements c.args.self.now) c.args.s.arrays c.args.t.arrays c.args.s.innermost (innermost_of c.args.t.innermost) c.if-s-t-2.true)

pub returns-in-Class : goal.returns-in-Class
returns-in-Class c =
    let below = is_subclass_or_implements c.args.self.now in
    let m = c.args.s.arrays in
    let n = c.args.t.arrays in
    let lt : n < m = omega (arith, c.if-s-t.false, c.if-s-t-2.false) in
    let s = arrays (m - n - 1) (innermost_of c.args.s.innermost) in
    c.is_object.ensures ∙ ap (λ (t : declared_innermost.Innermost). is_type_below below (ReferenceArray s) (innermost_of t)) (sym c.in-Class.is) ∙ sym (more below m n (innermost_of c.args.s.innermost) (innermost_of c.args.t.innermost) lt)

pub returns-in-PrimitiveArray : goal.returns-in-PrimitiveArray
returns-in-PrimitiveArray c =
    let below = is_subclass_or_implements c.args.self.now in
    let m = c.args.s.arrays in
    let n = c.args.t.arrays in
    let lt : n < m = omega (arith, c.if-s-t.false, c.if-s-t-2.false) in
    let s = arrays (m - n - 1) (innermost_of c.args.s.innermost) in
    ap (λ (t : declared_innermost.Innermost). is_type_below below (ReferenceArray s) (innermost_of t)) (sym c.in-PrimitiveArray.is) ∙ sym (more below m n (innermost_of c.args.s.innermost) (innermost_of c.args.t.innermost) lt)
