use Rattle.std.proofs.Common.{◌≡◌, ◌∙◌, ◌++◌, ℕ, List, ap, subst}
use Rattle.std.specs.List.{flat_map}
use Rattle.std.specs.Io.KnownBytes.{Appends}
use Rattle.std.proofs.lemmas.Result.{err_from_is_err_and}
use Rattle.model.specs.Devices.{AppendsFront, Writes}
use Rattle.model.specs.Listing.{class_line, field_line, method_lines}
use Rattle.class_tree.specs.declared.tree.Field.{Field}
use Rattle.class_tree.specs.declared.tree.Method.{Method}
use Rattle.classfile.specs.View.{field_of, file_of, method_of}
use Rattle.listings.proofs.disasm.Writing.{first_fails, then_fails, then_writes, flat_map_over}
use Rattle.listings.proofs.disasm.listing.list.Goals as goal

pub returns-in_err-write_line-clause-written : goal.returns-in_err-write_line-clause-written
returns-in_err-write_line-clause-written g c =
    let p = err_from_is_err_and c.from_residual.result c.from_residual.ensures.1 in
    let contents = g.W.Sink.contents in
    let file = file_of c.args.file.now in
    rw p.1 (first_fails (contents c.args.writer.now) (contents c.write_line.new.writer) (class_line file) (flat_map (field_line file.pool) file.fields ++ flat_map (method_lines file.pool) file.methods)
    (c.in_err-write_line.ensures.written (class_line file) c.class_line.ensures))

pub returns-in_err-list_fields-clause-written : goal.returns-in_err-list_fields-clause-written
returns-in_err-list_fields-clause-written g c =
    let p = err_from_is_err_and c.from_residual-in_err-list_fields.result c.from_residual-in_err-list_fields.ensures.1 in
    let contents = g.W.Sink.contents in
    let file = file_of c.args.file.now in
    let said : flat_map (λ (f : Field). field_line file.pool (field_of f)) c.deref.result.now ≡ flat_map (field_line file.pool) file.fields = ap (λ (l : List Field). flat_map (λ (f : Field). field_line file.pool (field_of f)) l) c.deref.ensures.value ∙ flat_map_over (field_line file.pool) field_of c.args.file.now.fields.items in
    let fields : AppendsFront (contents c.write_line.new.writer) (contents c.list_fields.new.writer) (flat_map (field_line file.pool) file.fields) =
    subst (λ (l : List ℕ). AppendsFront (contents c.write_line.new.writer) (contents c.list_fields.new.writer) l) said c.in_err-list_fields.ensures.written in
    rw p.1 (then_fails (contents c.args.writer.now) (contents c.write_line.new.writer) (contents c.list_fields.new.writer) (class_line file) (flat_map (field_line file.pool) file.fields ++ flat_map (method_lines file.pool) file.methods)
    (c.in_ok-write_line.ensures.written (class_line file) c.class_line.ensures)
    (first_fails (contents c.write_line.new.writer) (contents c.list_fields.new.writer) (flat_map (field_line file.pool) file.fields) (flat_map (method_lines file.pool) file.methods) fields))

pub returns-clause-written : goal.returns-clause-written
returns-clause-written g c =
    let contents = g.W.Sink.contents in
    let file = file_of c.args.file.now in
    let field_texts : flat_map (λ (f : Field). field_line file.pool (field_of f)) c.deref.result.now ≡ flat_map (field_line file.pool) file.fields = ap (λ (l : List Field). flat_map (λ (f : Field). field_line file.pool (field_of f)) l) c.deref.ensures.value ∙ flat_map_over (field_line file.pool) field_of c.args.file.now.fields.items in
    let fields : Appends (contents c.write_line.new.writer) (contents c.list_fields.new.writer) (flat_map (field_line file.pool) file.fields) =
    subst (λ (l : List ℕ). Appends (contents c.write_line.new.writer) (contents c.list_fields.new.writer) l) field_texts c.in_ok-list_fields.ensures.written in
    let method_texts : flat_map (λ (m : Method). method_lines file.pool (method_of m)) c.deref-2.result.now ≡ flat_map (method_lines file.pool) file.methods = ap (λ (l : List Method). flat_map (λ (m : Method). method_lines file.pool (method_of m)) l) c.deref-2.ensures.value ∙ flat_map_over (method_lines file.pool) method_of c.args.file.now.methods.items in
    let methods : Writes c.list_methods.result (flat_map (method_lines file.pool) file.methods) (contents c.list_fields.new.writer) (contents c.list_methods.new.writer) =
    subst (λ (l : List ℕ). Writes c.list_methods.result l (contents c.list_fields.new.writer) (contents c.list_methods.new.writer)) method_texts c.list_methods.ensures.written in
    then_writes c.list_methods.result (contents c.args.writer.now) (contents c.write_line.new.writer) (contents c.list_methods.new.writer) (class_line file) (flat_map (field_line file.pool) file.fields ++ flat_map (method_lines file.pool) file.methods)
    (c.in_ok-write_line.ensures.written (class_line file) c.class_line.ensures)
    (then_writes c.list_methods.result (contents c.write_line.new.writer) (contents c.list_fields.new.writer) (contents c.list_methods.new.writer) (flat_map (field_line file.pool) file.fields) (flat_map (method_lines file.pool) file.methods) fields methods)
