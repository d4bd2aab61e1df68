-- In the programs of the examples no condition stands: each of their files is a class file, and they link.
use Rattle.std.specs.Prelude.{◌≡◌, List, [], ◌++◌}
use Rattle.std.specs.List.{flat_map}
use Rattle.model.specs.Names.{Name}
use Rattle.model.specs.Classes.{Program}
use Rattle.run_laws.specs.examples.Conditions.{malformed_as, standing}
use Rattle.run_laws.specs.examples.ArrayStore as array_store
use Rattle.run_laws.specs.examples.CounterUnderLock as counter_under_lock
use Rattle.run_laws.specs.examples.Entry257 as entry_257
use Rattle.run_laws.specs.examples.ExceptionReleases as exception_releases
use Rattle.run_laws.specs.examples.ExitOfWhatIsNotOwned as exit_of_what_is_not_owned
use Rattle.run_laws.specs.examples.FailingInitialClass as failing_initial_class
use Rattle.run_laws.specs.examples.FailingInitialiser as failing_initialiser
use Rattle.run_laws.specs.examples.HandlerOrder as handler_order
use Rattle.run_laws.specs.examples.HeldInitialiser as held_initialiser
use Rattle.run_laws.specs.examples.InitialisersInOrder as initialisers_in_order
use Rattle.run_laws.specs.examples.InterruptedWaits as interrupted_waits
use Rattle.run_laws.specs.examples.LockOrderDeadlock as lock_order_deadlock
use Rattle.run_laws.specs.examples.LostUpdate as lost_update
use Rattle.run_laws.specs.examples.MadeStrings as made_strings
use Rattle.run_laws.specs.examples.TextMethods as text_methods
use Rattle.run_laws.specs.examples.NarrowArrays as narrow_arrays
use Rattle.run_laws.specs.examples.NotARunnable as not_a_runnable
use Rattle.run_laws.specs.examples.SameString as same_string
use Rattle.run_laws.specs.examples.ShadowedFields as shadowed_fields
use Rattle.run_laws.specs.examples.StackOverflow as stack_overflow
use Rattle.run_laws.specs.examples.SuperCall as super_call
use Rattle.run_laws.specs.examples.SuperclassConstant as superclass_constant
use Rattle.run_laws.specs.examples.UncaughtException as uncaught_exception
use Rattle.run_laws.specs.examples.WaitKeepsCount as wait_keeps_count
use Rattle.run_laws.specs.examples.WaiterOfAThread as waiter_of_a_thread
use Rattle.run_laws.specs.examples.JavaObjects as java_objects
use Rattle.run_laws.specs.examples.JavaThreads as java_threads
use Rattle.run_laws.specs.examples.JavaCalls as java_calls
use Rattle.run_laws.specs.examples.ThreadsThatWait as threads_that_wait

-- the conditions of class files, and those of linking
abbrev pub all_standing : Program → List Name
all_standing files = flat_map malformed_as files ++ standing files

pub record ProgramsLink : Type 0 where
  pub array_store_links : all_standing array_store.files ≡ []
  pub counter_under_lock_links : all_standing counter_under_lock.files ≡ []
  pub entry_257_links : all_standing entry_257.files ≡ []
  pub exception_releases_links : all_standing exception_releases.files ≡ []
  pub exit_of_what_is_not_owned_links : all_standing exit_of_what_is_not_owned.files ≡ []
  pub failing_initial_class_links : all_standing failing_initial_class.files ≡ []
  pub failing_initialiser_links : all_standing failing_initialiser.files ≡ []
  pub handler_order_links : all_standing handler_order.files ≡ []
  pub held_initialiser_links : all_standing held_initialiser.files ≡ []
  pub initialisers_in_order_links : all_standing initialisers_in_order.files ≡ []
  pub interrupted_waits_links : all_standing interrupted_waits.files ≡ []
  pub lock_order_deadlock_links : all_standing lock_order_deadlock.files ≡ []
  pub lost_update_links : all_standing lost_update.files ≡ []
  pub made_strings_links : all_standing made_strings.files ≡ []
  pub narrow_arrays_links : all_standing narrow_arrays.files ≡ []
  pub not_a_runnable_links : all_standing not_a_runnable.files ≡ []
  pub same_string_links : all_standing same_string.files ≡ []
  pub shadowed_fields_links : all_standing shadowed_fields.files ≡ []
  pub stack_overflow_links : all_standing stack_overflow.files ≡ []
  pub super_call_links : all_standing super_call.files ≡ []
  pub superclass_constant_links : all_standing superclass_constant.files ≡ []
  pub text_methods_links : all_standing text_methods.files ≡ []
  pub uncaught_exception_links : all_standing uncaught_exception.files ≡ []
  pub wait_keeps_count_links : all_standing wait_keeps_count.files ≡ []
  pub waiter_of_a_thread_links : all_standing waiter_of_a_thread.files ≡ []
  pub java_objects_links : all_standing java_objects.files ≡ []
  pub java_threads_links : all_standing java_threads.files ≡ []
  pub java_calls_links : all_standing java_calls.files ≡ []
  pub threads_that_wait_links : all_standing threads_that_wait.files ≡ []
