use Rattle.std.proofs.Common.{◌||◌, Some, false, refl, subst}
use Rattle.std.specs.List.{list_any}
use Rattle.model.specs.declared.instr.Instr.TheVariants as instr
use Rattle.model.specs.Names.{Name}
use Rattle.model.specs.Classes.{Program}
use Rattle.model.specs.DescriptorParts.{classes_in}
use Rattle.model.specs.Resolution.{is_missing}
use Rattle.model.specs.Operands.{values}
use Rattle.model.specs.Arrays.{array_length_meaning}
use Rattle.model.specs.Calls.{return_of}
use Rattle.model.specs.Objects.{constant_at}
use Rattle.model.specs.ThrowMeaning.{throw_meaning}
use Rattle.model.specs.MonitorMeanings.{monitor_enter_meaning, monitor_exit_meaning}
use Rattle.types.specs.method_code.View.{files_of}
use Rattle.types.specs.method_code.Site.{site_of}
use Rattle.instruction_types.specs.Answers.{Answers}
use Rattle.instruction_types.proofs.Telling.{answers_told, narrowed}
use Rattle.instruction_types.proofs.Sites.{answers_for, for_return, refused_for}
use Rattle.instruction_types.proofs.table.meaning_of.Goals as goal

pub returns-in-Return : goal.returns-in-Return
returns-in-Return c =
    let files = files_of c.args.site.now.method in
    let site = site_of c.args.site.now in
    let returned = c.in-Return.returned in
    let at_set = subst (λ (p : Program). Answers p site (list_any (is_missing p) (classes_in c.descriptor.result.now) || false) (Some (return_of values p c.descriptor.result.now returned)) c.return_of.result) c.set-set.ensures (c.return_of.ensures site false) in
    for_return files site c.return_of.result returned c.in-Return.is
    (subst (λ (d : Name). Answers files site (list_any (is_missing files) (classes_in d) || false) (Some (return_of values files d returned)) c.return_of.result) c.descriptor.ensures at_set)

pub returns-in-LoadConstant : goal.returns-in-LoadConstant
returns-in-LoadConstant c =
    let files = files_of c.args.site.now.method in
    let site = site_of c.args.site.now in
    let i = instr.LoadConstant c.in-LoadConstant.index in
    let refused = refused_for files site c.load_constant.result i in
    answers_for files site c.load_constant.result i c.in-LoadConstant.is
    (subst (λ (p : Program). Answers p site refused (constant_at values p site c.in-LoadConstant.index) c.load_constant.result) c.set-set.ensures (c.load_constant.ensures site refused refl))

pub returns-in-NewArray : goal.returns-in-NewArray
returns-in-NewArray c =
    let files = files_of c.args.site.now.method in
    let site = site_of c.args.site.now in
    answers_for files site c.new_array.result (instr.NewArray c.in-NewArray.code) c.in-NewArray.is (c.new_array.ensures files site _)

pub returns-in-ArrayLength : goal.returns-in-ArrayLength
returns-in-ArrayLength c =
    let files = files_of c.args.site.now.method in
    let site = site_of c.args.site.now in
    let M = array_length_meaning values site in
    answers_for files site c.array_length.result instr.ArrayLength c.in-ArrayLength.is
    (answers_told files site _ (Some M) M c.array_length.result refl (narrowed files site c.array_length.result (λ site. array_length_meaning values site) c.array_length.ensures.means) c.array_length.ensures.memory)

pub returns-in-Throw : goal.returns-in-Throw
returns-in-Throw c =
    let files = files_of c.args.site.now.method in
    let site = site_of c.args.site.now in
    let M = throw_meaning values in
    answers_for files site c.throw.result instr.Throw c.in-Throw.is
    (answers_told files site _ (Some M) M c.throw.result refl (narrowed files site c.throw.result (λ site. throw_meaning values) c.throw.ensures.means) c.throw.ensures.memory)

pub returns-in-MonitorEnter : goal.returns-in-MonitorEnter
returns-in-MonitorEnter c =
    let files = files_of c.args.site.now.method in
    let site = site_of c.args.site.now in
    let M = monitor_enter_meaning values site in
    answers_for files site c.on_monitor.result instr.MonitorEnter c.in-MonitorEnter.is
    (answers_told files site _ (Some M) M c.on_monitor.result refl (narrowed files site c.on_monitor.result (λ site. monitor_enter_meaning values site) c.on_monitor.ensures.enter) c.on_monitor.ensures.memory)

pub returns-in-MonitorExit : goal.returns-in-MonitorExit
returns-in-MonitorExit c =
    let files = files_of c.args.site.now.method in
    let site = site_of c.args.site.now in
    let M = monitor_exit_meaning values site in
    answers_for files site c.on_monitor-in-MonitorExit.result instr.MonitorExit c.in-MonitorExit.is
    (answers_told files site _ (Some M) M c.on_monitor-in-MonitorExit.result refl (narrowed files site c.on_monitor-in-MonitorExit.result (λ site. monitor_exit_meaning values site) c.on_monitor-in-MonitorExit.ensures.exit) c.on_monitor-in-MonitorExit.ensures.memory)
