use Rattle.std.proofs.Common.{◌≡◌, refl, sym, subst, false, map, take, ◌+◌}
use Rattle.std.specs.List.{AllByRecursion}
use Rattle.model.specs.declared.class_file.ExceptionEntry.{ExceptionEntry}
use Rattle.model.specs.DescribedTypes.{type_named}
use Rattle.model.specs.Typing.{caught_class, caught_type}
use Rattle.types.specs.View.{type_in}
use Rattle.types.specs.described_types.Described.{type_missing}
use Rattle.types.specs.method_code.View.{files_of, body_of}
use Rattle.verifier.specs.declared.flow.handler.Handler.{Handler}
use Rattle.run_laws.proofs.laws.Lists.{every_append}
use Rattle.verifier.proofs.flow.Anywhere.{every_index, mapped_more}
use Rattle.verifier.proofs.flow.LinkedTypes.{handlers_found}
use Rattle.verifier.proofs.flow.handler.handlers.Goals as goal

pub caught_type-caught-requires : goal.caught_type-caught-requires
caught_type-caught-requires c =
    let m = c.args.method.now in
    let P : ExceptionEntry → Type 0 = λ e. type_missing (files_of m) (type_named (caught_class (body_of m).pool e)) ≡ false in
    let all : AllByRecursion P c.as_slice-entries.result.now = subst (λ es. AllByRecursion P es) (sym c.as_slice-entries.ensures.value) (handlers_found m c.requires) in
    every_index P c.as_slice-entries.result.now c.entries.entry-index _ all c.entries-test.true

pub entries-preserved : goal.entries-preserved
entries-preserved c =
    let m = c.args.method.now in
    let P : Handler → Type 0 = λ h. type_in (files_of m) h.caught ≡ caught_type (files_of m) (body_of m).pool h.entry in
    let items = sym c.in_ok-push.ensures.items in
    record {
      entries = subst (λ hs. map (λ (h : Handler). h.entry) hs ≡ take (c.entries.entry-index + 1) c.as_slice-entries.result.now) items
          (mapped_more (λ (h : Handler). h.entry) c.entries.handlers.items _ c.as_slice-entries.result.now c.entries.entry-index _ c.entries-test.true c.entries.invariant.entries refl);
      caught = subst (λ hs. AllByRecursion P hs) items (every_append P c.entries.handlers.items _ c.entries.invariant.caught (c.caught_type-caught.ensures, tt));
    }
