-- The class that is needed first, by the rule that is told.
use Rattle.std.proofs.Common.{◌≡◌, refl, sym, ◌∙◌, subst, ℕ, zero, suc}
use Rattle.std.specs.Prelude.{Option, Some, None, slice_get}
use Rattle.std.proofs.lemmas.Option.{same_Some}
use Rattle.model.specs.Names.{main_of}
use Rattle.model.specs.Classes.{Program}
use Rattle.model.specs.Step.{initial_class}
use Rattle.linked_code.specs.declared.method.LinkedMethod.{LinkedMethod}
use Rattle.linked_code.specs.declared.program.LinkedProgram.{LinkedProgram}
use Rattle.linked_code.specs.Numbers.{IsClassAt, IsClassIf}
use Rattle.thread_stacks.specs.declared.entry.Phase.{Phase}
use Rattle.thread_stacks.specs.declared.entry.Phase.TheVariants as phase
use Rattle.heap.specs.declared.java_threads.status.WakeCause.{WakeCause}
use Rattle.machine_state.specs.shown_stacks.Shown.{phase_of}
use Rattle.machine_state.specs.method_selection.Rows.{AreMethodsRead}
use Rattle.machine_state.specs.class_initialisation.Steps.{IsBefore}
use Rattle.data_races.specs.EventActions.{Rule, Begins, Does, Initialises, Relocks, Other, needed_at_begin, needed_before, needed_class}
use Rattle.thread_rules.specs.declared.next_rules.NextRule.{NextRule}
use Rattle.thread_rules.specs.declared.next_rules.NextRule.TheVariants as rule
use Rattle.thread_rules.specs.needed_classes.Needed.{IsFirstClass, NeedsAtBegin, NeedsInPhase, NeedsBy}

-- ---- the class of the first file

module _ (read : AreMethodsRead) (p : LinkedProgram) where
  pub first_there : (row : LinkedMethod) → slice_get p.methods.items p.main ≡ Some row → IsFirstClass p (Some row.class)
  first_there row is trees program =
      let has = read trees p program.linked p.main (main_of (initial_class trees)) program.linked.main in
      subst (λ (r : LinkedMethod). IsClassAt trees r.class (initial_class trees)) (same_Some _ _ (sym has.is ∙ is)) has.linked.class

  pub first_missing : slice_get p.methods.items p.main ≡ None → IsFirstClass p None
  first_missing none trees program =
      let has = read trees p program.linked p.main (main_of (initial_class trees)) program.linked.main in
      let e = sym has.is ∙ none in absurd cc

-- ---- as a thread begins, and in a phase of an initialisation

pub first_begins : (p : LinkedProgram) (t : ℕ) (number : Option ℕ) → t ≡ 0 → IsFirstClass p number → NeedsAtBegin p t number
first_begins p t number e first trees program = subst (λ (n : ℕ). IsClassIf trees number (needed_at_begin trees n)) (sym e) (first trees program)

none_begins : (trees : Program) (t : ℕ) → (t ≡ 0 → ⊥) → IsClassIf trees None (needed_at_begin trees t)
none_begins trees zero ne = absurd (ne refl)
none_begins trees (suc t) ne = tt

pub others_begin : (p : LinkedProgram) (t : ℕ) → (t ≡ 0 → ⊥) → NeedsAtBegin p t None
others_begin p t ne trees program = none_begins trees t ne

pub super_next : (p : LinkedProgram) (class : ℕ) (at : Phase) (number : Option ℕ) → at ≡ phase.Super → IsBefore p class number → NeedsInPhase p class at number
super_next p class at number e h trees program name is =
    subst (λ (ph : Phase). IsClassIf trees number (needed_before trees name (phase_of ph))) (sym e) (h trees program name is)

pub end_next : (p : LinkedProgram) (class : ℕ) (at : Phase) → at ≡ phase.End → NeedsInPhase p class at None
end_next p class at e trees program name is = subst (λ (ph : Phase). IsClassIf trees None (needed_before trees name (phase_of ph))) (sym e) tt

-- ---- by the rule

module _ (p : LinkedProgram) (t : ℕ) (by_instruction : Option ℕ) where
  of_rule : (trees : Program) (number : Option ℕ) (meant is : Rule) → meant ≡ is → IsClassIf trees number (needed_class trees t is)
      → IsClassIf trees number (needed_class trees t meant)
  of_rule trees number meant is e h = subst (λ (r : Rule). IsClassIf trees number (needed_class trees t r)) (sym e) h

  told_as : (told other : NextRule) (number : Option ℕ) → told ≡ other → NeedsBy p other t by_instruction number → NeedsBy p told t by_instruction number
  told_as told other number e h = subst (λ (r : NextRule). NeedsBy p r t by_instruction number) (sym e) h

  pub no_event : (told : NextRule) → told ≡ rule.NoEvent → NeedsBy p told t by_instruction None
  no_event told e = told_as told rule.NoEvent None e (λ trees program meant is. of_rule trees None meant Other is tt)

  pub relock : (told : NextRule) (object count : ℕ) (why : WakeCause) → told ≡ rule.Relock object count why → NeedsBy p told t by_instruction None
  relock told object count why e = told_as told (rule.Relock object count why) None e (λ trees program meant is. of_rule trees None meant (Relocks is.0) is.1 tt)

  pub pending : (told : NextRule) (exception : ℕ) → told ≡ rule.Pending exception → NeedsBy p told t by_instruction None
  pending told exception e = told_as told (rule.Pending exception) None e (λ trees program meant is. of_rule trees None meant Other is tt)

  pub begins : (told : NextRule) (number : Option ℕ) → told ≡ rule.Begin → NeedsAtBegin p t number → NeedsBy p told t by_instruction number
  begins told number e h = told_as told rule.Begin number e (λ trees program meant is. of_rule trees number meant Begins is (h trees program))

  pub initialises : (told : NextRule) (class : ℕ) (at : Phase) (number : Option ℕ) → told ≡ rule.Initialisation class at → NeedsInPhase p class at number
      → NeedsBy p told t by_instruction number
  initialises told class at number e h =
      told_as told (rule.Initialisation class at) number e
      (λ trees program meant is. of_rule trees number meant (Initialises is.0 (phase_of at)) is.2 (h trees program is.0 is.1))

  pub instruction : (told : NextRule) → told ≡ rule.Bytecode → NeedsBy p told t by_instruction by_instruction
  instruction told e = told_as told rule.Bytecode by_instruction e (λ trees program meant is. of_rule trees by_instruction meant (Does is.0) is.1 is.2)
