-- Why class files are not run, and how far a run is written.
use Rattle.std.proofs.Common.{◌≡◌, arith, ℕ, Bool, ◌^◌, ◌<◌, ◌≤◌, List, length, Option, Some, None, inl, refl, subst, sym}
use Rattle.std.specs.Prelude.{IfOk, Result, Ok, Err}
use Rattle.std.proofs.lemmas.Bool.{ltb-false}
use Rattle.model.specs.declared.device.DeviceFault.{DeviceFault}
use Rattle.model.specs.declared.device.DeviceFault.TheVariants as devices
use Rattle.model.specs.Accepted.{IsAccepted}
use Rattle.model.specs.declared.limits.Limits.{Limits}
use Rattle.model.specs.Classes.{Program}
use Rattle.model.specs.Schedule.{events_of}
use Rattle.run_laws.proofs.laws.Unrefused.{unrefused_of}
use Rattle.command_line.specs.declared.options.LimitOptions.{LimitOptions}
use Rattle.command_line.specs.declared.run_options.RunOptions.{RunOptions}
use Rattle.program_runs.specs.declared.policies.policy.Policy.{Policy}
use Rattle.program_runs.specs.declared.worlds.records.Recorded.{Recorded}
use Rattle.program_runs.specs.policies.PolicyTurns.{IsRunBy}
use Rattle.program_runs.specs.worlds.Records.{IsRecordWithin}
use Rattle.engines.specs.Devices.{fault_of}
use Rattle.engines.specs.Engines.{IsOfFile}
use Rattle.engines.specs.Policies.{IsAskedFor, IsRunFor}
use Rattle.engines.specs.Runs.{IsUnrun, RunsPart}
use Rattle.engines.specs.declared.fault.Fault.{Fault}
use Rattle.engines.specs.declared.fault.Fault.TheVariants as faults
use Rattle.engines.specs.declared.recording.RecordForm.{RecordForm}
use Rattle.engines.proofs.VerificationLemmas.{spelled_count}

-- accepted files are few
pub few_files : (files : List (List ℕ)) (trees : Program) → IsAccepted files trees → length files < 2 ^ 32
few_files files trees accepted =
    let unrefused = unrefused_of files trees accepted.linkable.spelled accepted.linkable.no_refusal in
    let few : length trees ≤ 65000 = ltb-false 65000 (length trees) unrefused.files_fit in
    omega (arith, few, spelled_count files trees accepted.linkable.spelled)

-- a class file isn't read, and nothing is written
pub unread_is_unrun : (fault : Fault) (form : RecordForm) (lefts : List (Option (List ℕ))) (asked : LimitOptions) (options : RunOptions) (may_stop races : Bool)
    (held : Option (List ℕ)) (kept : Option (List ℕ)) (file : ℕ)
    → file < length lefts → IsOfFile file fault → IsUnrun form lefts asked options may_stop races held held kept kept fault
unread_is_unrun faults.Device form lefts asked options may_stop races held kept file within of_file = inl (refl, refl)
unread_is_unrun faults.Memory form lefts asked options may_stop races held kept file within of_file = absurd of_file
unread_is_unrun (faults.Schedule fault) form lefts asked options may_stop races held kept file within of_file = absurd of_file
unread_is_unrun (faults.Text fault) form lefts asked options may_stop races held kept file within of_file = absurd of_file
unread_is_unrun (faults.Place missing) form lefts asked options may_stop races held kept file within of_file = absurd of_file
unread_is_unrun (faults.Refusal refusal) form lefts asked options may_stop races held kept file within of_file = (refl, refl, inl (file, within, of_file))

-- the writing stops
pub part_is_unrun : (fault : DeviceFault) (form : RecordForm) (lefts : List (Option (List ℕ))) (asked : LimitOptions) (options : RunOptions) (may_stop races : Bool)
    (old new : Option (List ℕ)) (kept made : Option (List ℕ))
    → RunsPart form lefts asked options may_stop races old new kept made → IsUnrun form lefts asked options may_stop races old new kept made (fault_of fault)
part_is_unrun devices.Device form lefts asked options may_stop races old new kept made part = part
part_is_unrun devices.Memory form lefts asked options may_stop races old new kept made part = part

-- what is so of an answer by its clauses
pub by_one : {A E : Type 0} (result : Result A E) (p all : A → Type 0) → ((value : A) → p value → all value) → IfOk result p → IfOk result all
by_one (Ok value) p all on is = on value is
by_one (Err fault) p all on is = tt

pub by_two : {A E : Type 0} (result : Result A E) (p q all : A → Type 0) → ((value : A) → p value → q value → all value)
    → IfOk result p → IfOk result q → IfOk result all
by_two (Ok value) p q all on first second = on value first second
by_two (Err fault) p q all on first second = tt

pub by_three : {A E : Type 0} (result : Result A E) (p q r all : A → Type 0) → ((value : A) → p value → q value → r value → all value)
    → IfOk result p → IfOk result q → IfOk result r → IfOk result all
by_three (Ok value) p q r all on first second third = on value first second third
by_three (Err fault) p q r all on first second third = tt

-- ---- what is recorded

-- of the files and the budget that are asked for
pub record_of_budget : {E : Type 0} (may_stop : Bool) (trees asked : Program) (limits : Limits) (budget wanted : ℕ) → trees ≡ asked → budget ≡ wanted
    → (result : Result Recorded E) → IfOk result (IsRecordWithin may_stop trees limits budget) → IfOk result (IsRecordWithin may_stop asked limits wanted)
record_of_budget may_stop trees asked limits budget wanted files count result is =
    subst (λ (t : Program). IfOk result (IsRecordWithin may_stop t limits wanted)) files (subst (λ b. IfOk result (IsRecordWithin may_stop trees limits b)) count is)

-- by workers
pub run_of_workers : {E : Type 0} (options : RunOptions) (may_stop : Bool) (count : ℕ) → options.workers ≡ Some count → (trees : Program) (limits : Limits) (budget : ℕ)
    → (result : Result Recorded E) → IfOk result (λ (r : Recorded). IsRunFor options.workers options may_stop trees limits budget (events_of r.schedule) r.end)
run_of_workers options may_stop count is trees limits budget (Ok r) =
    subst (λ w. IsRunFor w options may_stop trees limits budget (events_of r.schedule) r.end) (sym is) tt
run_of_workers options may_stop count is trees limits budget (Err e) = tt

-- by the policy that is asked for
pub run_of_policy : {E : Type 0} (options : RunOptions) (may_stop : Bool) → options.workers ≡ None → (policy : Policy) → IsAskedFor options policy
    → (trees asked : Program) (limits : Limits) (budget wanted : ℕ) → trees ≡ asked → budget ≡ wanted → (result : Result Recorded E)
    → IfOk result (λ (r : Recorded). IsRunBy policy may_stop trees limits budget (events_of r.schedule) r.end)
    → IfOk result (λ (r : Recorded). IsRunFor options.workers options may_stop asked limits wanted (events_of r.schedule) r.end)
run_of_policy options may_stop none policy is_asked trees asked limits budget wanted files count (Ok r) run =
    subst (λ w. IsRunFor w options may_stop asked limits wanted (events_of r.schedule) r.end) (sym none) (
      policy,
      is_asked,
      subst (λ (t : Program). IsRunBy policy may_stop t limits wanted (events_of r.schedule) r.end) files
          (subst (λ b. IsRunBy policy may_stop trees limits b (events_of r.schedule) r.end) count run),
    )
run_of_policy options may_stop none policy is_asked trees asked limits budget wanted files count (Err e) run = tt
