use Rattle.std.proofs.Common.{◌≡◌, length, map, ap, subst, ◌∙◌, arith}
use Rattle.std.proofs.lemmas.List.{length-map}
use Rattle.model.specs.Tree.{FileTree}
use Rattle.classfile.specs.View.{method_of}
use Rattle.advice.specs.Telling.{TellsMethods}
use Rattle.advice.proofs.WalkLaws.{mapped_at, methods_none, methods_more}
use Rattle.advice.proofs.site.declarations.Site.push_methods.Goals as goal

pub loop-number-init : goal.loop-number-init
loop-number-init c = methods_none _ _ _ _

pub loop-number-preserved : goal.loop-number-preserved
loop-number-preserved c =
    let facts = c.args.self.now.facts in
    let methods : map method_of c.deref-method-items.result.now ≡ facts.1.methods =
    (let items : c.deref-method-items.result.now ≡ c.file-file.result.now.methods.items = cc in
    ap (map method_of) items ∙ ap (λ (t : FileTree). t.methods) c.file-file.ensures) in
    methods_more _ _ _ _ _ _ _ (method_of c.method-item.result) c.loop-number.invariant c.in_ok-push_method.ensures
    (mapped_at method_of c.deref-method-items.result.now facts.1.methods c.loop-number.number c.method-item.result methods (omega (arith, c.loop-number-test.true)) c.method-item.is)

pub returns : goal.returns
returns c =
    let facts = c.args.self.now.facts in
    let methods : map method_of c.deref-method-items.result.now ≡ facts.1.methods =
    (let items : c.deref-method-items.result.now ≡ c.file-file.result.now.methods.items = cc in
    ap (map method_of) items ∙ ap (λ (t : FileTree). t.methods) c.file-file.ensures) in
    let long : length (map method_of c.deref-method-items.result.now) ≡ length facts.1.methods = ap length methods in
    let all : c.loop-number.number ≡ length facts.1.methods = omega (arith, c.loop-number-test.false, long, length-map c.deref-method-items.result.now method_of) in
    subst (λ n. TellsMethods facts.0 facts.1 c.args.told.now.items c.loop-number.told.items c.args.self.now.number n) all c.loop-number.invariant
