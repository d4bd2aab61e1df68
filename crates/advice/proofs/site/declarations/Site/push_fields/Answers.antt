use Rattle.std.proofs.Common.{◌≡◌, length, map, ap, ◌∙◌, arith}
use Rattle.std.proofs.lemmas.List.{length-map}
use Rattle.model.specs.Tree.{FileTree}
use Rattle.classfile.specs.View.{field_of}
use Rattle.advice.specs.Wrong.{is_field_wrong, is_wrong_at}
use Rattle.advice.specs.declared.told.ToldPlace.TheVariants as places
use Rattle.advice.proofs.TellingLaws.{one_more, each_of, none_past}
use Rattle.advice.proofs.WalkLaws.{mapped_here}
use Rattle.advice.proofs.site.declarations.Site.push_fields.Goals as goal

pub loop-number-preserved : goal.loop-number-preserved
loop-number-preserved c =
    let facts = c.args.self.now.facts in
    let file = c.file-file.result.now in
    let items : c.deref-field-items.result.now ≡ file.fields.items = cc in
    let fields : map field_of c.deref-field-items.result.now ≡ facts.1.fields = ap (map field_of) items ∙ ap (λ (t : FileTree). t.fields) c.file-file.ensures in
    one_more _ _ _ _ (λ k. places.Field k) (λ k. is_wrong_at facts.0 facts.1 (places.Field k)) c.loop-number.number _
    c.loop-number.invariant c.in_ok-push_field.ensures
    (λ h. mapped_here (is_field_wrong facts.0 facts.1) field_of c.deref-field-items.result.now facts.1.fields c.loop-number.number c.field-item.result fields c.field-item.is h)

pub returns : goal.returns
returns c =
    let facts = c.args.self.now.facts in
    let file = c.file-file.result.now in
    let items : c.deref-field-items.result.now ≡ file.fields.items = cc in
    let fields : map field_of c.deref-field-items.result.now ≡ facts.1.fields = ap (map field_of) items ∙ ap (λ (t : FileTree). t.fields) c.file-file.ensures in
    let long : length (map field_of c.deref-field-items.result.now) ≡ length facts.1.fields = ap length fields in
    each_of _ _ _ (λ k. places.Field k) (λ k. is_wrong_at facts.0 facts.1 (places.Field k)) c.loop-number.number
    c.loop-number.invariant
    (λ k le h. none_past (is_field_wrong facts.0 facts.1) facts.1.fields k
    (omega (arith, le, c.loop-number-test.false, long, length-map c.deref-field-items.result.now field_of)) h)
