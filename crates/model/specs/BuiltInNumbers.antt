-- What is built in, by number (own): where the built-in classes stand among the classes of each program, which come
-- first, and the objects with which a run opens.
use Rattle.std.specs.Prelude.{ℕ}

-- how many classes are built in
abbrev pub built_in_count : ℕ
built_in_count = 37

-- ---- classes

abbrev pub object_number : ℕ
object_number = 0

abbrev pub thread_number : ℕ
thread_number = 2

abbrev pub string_number : ℕ
string_number = 3

abbrev pub class_number : ℕ
class_number = 4

abbrev pub cloneable_number : ℕ
cloneable_number = 33

abbrev pub print_stream_number : ℕ
print_stream_number = 6

abbrev pub string_builder_number : ℕ
string_builder_number = 36

-- ---- the errors and exceptions that the machine makes

abbrev pub incompatible_class_change_error : ℕ
incompatible_class_change_error = 12

abbrev pub no_class_def_found_error : ℕ
no_class_def_found_error = 13

abbrev pub exception_in_initializer_error : ℕ
exception_in_initializer_error = 14

abbrev pub abstract_method_error : ℕ
abstract_method_error = 15

abbrev pub stack_overflow_error : ℕ
stack_overflow_error = 16

abbrev pub interrupted_exception : ℕ
interrupted_exception = 18

abbrev pub arithmetic_exception : ℕ
arithmetic_exception = 19

abbrev pub array_store_exception : ℕ
array_store_exception = 20

abbrev pub class_cast_exception : ℕ
class_cast_exception = 21

abbrev pub illegal_monitor_state_exception : ℕ
illegal_monitor_state_exception = 22

abbrev pub negative_array_size_exception : ℕ
negative_array_size_exception = 26

abbrev pub null_pointer_exception : ℕ
null_pointer_exception = 27

abbrev pub illegal_thread_state_exception : ℕ
illegal_thread_state_exception = 28

abbrev pub array_index_out_of_bounds_exception : ℕ
array_index_out_of_bounds_exception = 29

abbrev pub string_index_out_of_bounds_exception : ℕ
string_index_out_of_bounds_exception = 32

abbrev pub clone_not_supported_exception : ℕ
clone_not_supported_exception = 34

-- ---- methods and objects

-- Thread.run among the methods of each program
abbrev pub thread_run_number : ℕ
thread_run_number = 10

-- the first of the Class objects, behind the PrintStream of System.out, the arguments and the Thread of main
abbrev pub first_class_reference : ℕ
first_class_reference = 3

-- how many threads there may be at most
abbrev pub most_threads : ℕ
most_threads = 32767
