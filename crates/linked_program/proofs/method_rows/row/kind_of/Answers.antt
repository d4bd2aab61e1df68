use Rattle.std.proofs.Common.{rules, ◌≡◌, ◌∙◌, sym, true, false, is_some}
use Rattle.classfile.specs.View.{file_of, method_of}
use Rattle.model.specs.Classes.{body_of}
use Rattle.method_tables.specs.method_links.Methods.{member_of}
use Rattle.linked_program.proofs.method_rows.Facts.{with_body_concrete, kind_coded, kind_abstract, kind_built_in}
use Rattle.linked_program.proofs.method_rows.row.kind_of.Goals as goal

pub returns-then-is_some : goal.returns-then-is_some
returns-then-is_some c = λ files linked class member at stands told.
    let file = file_of c.args.file.now in
    let m = method_of c.args.method.now in
    let coded : is_some c.args.call.now.code ≡ true = search rules in
    kind_coded files (member_of file m) (body_of files (member_of file m)) c.args.call.now.code told.code coded (with_body_concrete files linked class member file m at stands)

pub returns-then-call : goal.returns-then-call
returns-then-call c = λ files linked class member at stands told.
    let file = file_of c.args.file.now in
    let m = method_of c.args.method.now in
    let uncoded : is_some c.args.call.now.code ≡ false = sym c.is_some.ensures ∙ c.if-is_some.false in
    let abstract : c.args.call.now.is_abstract ≡ true = search rules in
    kind_abstract files (member_of file m) (body_of files (member_of file m)) c.args.call.now.code told.code uncoded (sym told.abstract ∙ abstract)

pub returns-else-call : goal.returns-else-call
returns-else-call c = λ files linked class member at stands told.
    let file = file_of c.args.file.now in
    let m = method_of c.args.method.now in
    let uncoded : is_some c.args.call.now.code ≡ false = sym c.is_some.ensures ∙ c.if-is_some.false in
    let concrete : c.args.call.now.is_abstract ≡ false = search rules in
    kind_built_in files (member_of file m) (body_of files (member_of file m)) c.args.call.now.code c.machine_method.result told.code uncoded (sym told.abstract ∙ concrete) c.machine_method.ensures
