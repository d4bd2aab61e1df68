-- The built-in classes (own): part of each program, and initialised from the start. Their members are those that stand here
-- and no others. A method without code is native: what it does is a rule of the machine.
-- Made by `tools/build-built-in` of the class files of builtin/classes. Not to be edited.
use Rattle.std.specs.Prelude.{List, [], ◌∷◌, codes}
use Rattle.model.specs.Tree.{FileTree}
use Rattle.model.specs.BuiltInForm.{Declared, declared, public_class, public_interface, abstract_method, constructor, with_message, with_cause, built_in}
use Rattle.model.specs.built_in.Object.{object_class}
use Rattle.model.specs.built_in.Thread.{thread_class}
use Rattle.model.specs.built_in.String.{string_class}
use Rattle.model.specs.built_in.Class.{class_class}
use Rattle.model.specs.built_in.System.{system_class}
use Rattle.model.specs.built_in.PrintStream.{print_stream_class}
use Rattle.model.specs.built_in.Throwable.{throwable_class}
use Rattle.model.specs.built_in.Error.{error_class}
use Rattle.model.specs.built_in.Exception.{exception_class}
use Rattle.model.specs.built_in.VirtualMachineError.{virtual_machine_error_class}
use Rattle.model.specs.built_in.ExceptionInInitializerError.{exception_in_initializer_error_class}
use Rattle.model.specs.built_in.RuntimeException.{runtime_exception_class}
use Rattle.model.specs.built_in.IllegalArgumentException.{illegal_argument_exception_class}
use Rattle.model.specs.built_in.IllegalStateException.{illegal_state_exception_class}
use Rattle.model.specs.built_in.ArrayIndexOutOfBoundsException.{array_index_out_of_bounds_exception_class}
use Rattle.model.specs.built_in.StringIndexOutOfBoundsException.{string_index_out_of_bounds_exception_class}
use Rattle.model.specs.built_in.AssertionError.{assertion_error_class}
use Rattle.model.specs.built_in.StringBuilder.{string_builder_class}

abbrev pub runnable_methods : List Declared
runnable_methods =
    declared abstract_method (codes "run") (codes "()V")
    ∷ []

abbrev pub runnable_class : FileTree
runnable_class = built_in public_interface (codes "java/lang/Runnable") (codes "java/lang/Object") runnable_methods

abbrev pub comparable_methods : List Declared
comparable_methods =
    declared abstract_method (codes "compareTo") (codes "(Ljava/lang/Object;)I")
    ∷ []

abbrev pub comparable_class : FileTree
comparable_class = built_in public_interface (codes "java/lang/Comparable") (codes "java/lang/Object") comparable_methods

abbrev pub char_sequence_methods : List Declared
char_sequence_methods =
    declared abstract_method (codes "length") (codes "()I")
    ∷ declared abstract_method (codes "charAt") (codes "(I)C")
    ∷ declared abstract_method (codes "subSequence") (codes "(II)Ljava/lang/CharSequence;")
    ∷ declared abstract_method (codes "toString") (codes "()Ljava/lang/String;")
    ∷ []

abbrev pub char_sequence_class : FileTree
char_sequence_class = built_in public_interface (codes "java/lang/CharSequence") (codes "java/lang/Object") char_sequence_methods

unfoldable pub built_in_classes : List FileTree
built_in_classes =
    object_class
    ∷ runnable_class
    ∷ thread_class
    ∷ string_class
    ∷ class_class
    ∷ system_class
    ∷ print_stream_class
    ∷ throwable_class
    ∷ error_class
    ∷ exception_class
    ∷ built_in public_class (codes "java/lang/LinkageError") (codes "java/lang/Error") (constructor ∷ with_message ∷ with_cause ∷ [])
    ∷ virtual_machine_error_class
    ∷ built_in public_class (codes "java/lang/IncompatibleClassChangeError") (codes "java/lang/LinkageError") (constructor ∷ with_message ∷ [])
    ∷ built_in public_class (codes "java/lang/NoClassDefFoundError") (codes "java/lang/LinkageError") (constructor ∷ with_message ∷ [])
    ∷ exception_in_initializer_error_class
    ∷ built_in public_class (codes "java/lang/AbstractMethodError") (codes "java/lang/IncompatibleClassChangeError") (constructor ∷ with_message ∷ [])
    ∷ built_in public_class (codes "java/lang/StackOverflowError") (codes "java/lang/VirtualMachineError") (constructor ∷ with_message ∷ [])
    ∷ runtime_exception_class
    ∷ built_in public_class (codes "java/lang/InterruptedException") (codes "java/lang/Exception") (constructor ∷ with_message ∷ [])
    ∷ built_in public_class (codes "java/lang/ArithmeticException") (codes "java/lang/RuntimeException") (constructor ∷ with_message ∷ [])
    ∷ built_in public_class (codes "java/lang/ArrayStoreException") (codes "java/lang/RuntimeException") (constructor ∷ with_message ∷ [])
    ∷ built_in public_class (codes "java/lang/ClassCastException") (codes "java/lang/RuntimeException") (constructor ∷ with_message ∷ [])
    ∷ built_in public_class (codes "java/lang/IllegalMonitorStateException") (codes "java/lang/RuntimeException") (constructor ∷ with_message ∷ [])
    ∷ illegal_argument_exception_class
    ∷ illegal_state_exception_class
    ∷ built_in public_class (codes "java/lang/IndexOutOfBoundsException") (codes "java/lang/RuntimeException") (constructor ∷ with_message ∷ [])
    ∷ built_in public_class (codes "java/lang/NegativeArraySizeException") (codes "java/lang/RuntimeException") (constructor ∷ with_message ∷ [])
    ∷ built_in public_class (codes "java/lang/NullPointerException") (codes "java/lang/RuntimeException") (constructor ∷ with_message ∷ [])
    ∷ built_in public_class (codes "java/lang/IllegalThreadStateException") (codes "java/lang/IllegalArgumentException") (constructor ∷ with_message ∷ [])
    ∷ array_index_out_of_bounds_exception_class
    ∷ comparable_class
    ∷ char_sequence_class
    ∷ string_index_out_of_bounds_exception_class
    ∷ built_in public_interface (codes "java/lang/Cloneable") (codes "java/lang/Object") []
    ∷ built_in public_class (codes "java/lang/CloneNotSupportedException") (codes "java/lang/Exception") (constructor ∷ with_message ∷ [])
    ∷ assertion_error_class
    ∷ string_builder_class
    ∷ []
