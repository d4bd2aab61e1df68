-- What the built-in methods without code take and give, by their descriptors (JVMS 4.3.3).
use Rattle.std.proofs.Common.{◌≡◌, [], ◌∷◌, map, false, refl}
use Rattle.std.specs.Prelude.{codes}
use Rattle.model.specs.Names.{Name, java_lang_object, java_lang_throwable, java_lang_string, java_lang_thread}
use Rattle.model.specs.DescriptorScan.{method_type, field_type, parameters_at, field_at, element_at}
use Rattle.model.specs.BuiltIn.{built_in_classes}
use Rattle.model.specs.Classes.{Program}
use Rattle.model.specs.ReferenceTypes.{ClassType}
use Rattle.model.specs.Types.{IntType, OfType}
use Rattle.model.specs.DescribedTypes.{parameters_declared, verification_type}
use Rattle.model.specs.Calls.{parameter_count, result_types}
use Rattle.model.specs.BuiltInMethods.{of_object, of_thread, of_print_stream, of_string}
use Rattle.model.specs.Typing.{has_no_receiver, argument_types}

module _ (files : Program) where
  pub void_results : (class name : Name) → result_types files (record { class = class; name = name; descriptor = codes "()V" }) ≡ []
  unfolding method_type parameters_at field_at element_at field_type
  void_results class name = refl

  pub bit_results : (name : Name) → result_types files (of_thread name (codes "()Z")) ≡ IntType ∷ []
  unfolding method_type parameters_at field_at element_at field_type
  bit_results name = refl

  pub thread_results : result_types files (of_thread (codes "currentThread") (codes "()Ljava/lang/Thread;"))
      ≡ OfType (ClassType java_lang_thread) ∷ []
  unfolding method_type parameters_at field_at element_at field_type built_in_classes
  thread_results = refl

  -- methods of PrintStream with a parameter
  pub int_printed_results : (name : Name) → result_types files (of_print_stream name (codes "(I)V")) ≡ []
  unfolding method_type parameters_at field_at element_at field_type
  int_printed_results name = refl

  pub char_printed_results : (name : Name) → result_types files (of_print_stream name (codes "(C)V")) ≡ []
  unfolding method_type parameters_at field_at element_at field_type
  char_printed_results name = refl

  pub string_printed_results : (name : Name) → result_types files (of_print_stream name (codes "(Ljava/lang/String;)V")) ≡ []
  unfolding method_type parameters_at field_at element_at field_type
  string_printed_results name = refl

  -- methods of String
  pub int_answered_results : (name : Name) → result_types files (of_string name (codes "()I")) ≡ IntType ∷ []
  unfolding method_type parameters_at field_at element_at field_type
  int_answered_results name = refl

  pub char_at_results : result_types files (of_string (codes "charAt") (codes "(I)C")) ≡ IntType ∷ []
  unfolding method_type parameters_at field_at element_at field_type
  char_at_results = refl

  pub equals_results : result_types files (of_string (codes "equals") (codes "(Ljava/lang/Object;)Z")) ≡ IntType ∷ []
  unfolding method_type parameters_at field_at element_at field_type
  equals_results = refl

  pub compare_results : result_types files (of_string (codes "compareTo") (codes "(Ljava/lang/String;)I")) ≡ IntType ∷ []
  unfolding method_type parameters_at field_at element_at field_type
  compare_results = refl

  pub index_results : result_types files (of_string (codes "indexOf") (codes "(II)I")) ≡ IntType ∷ []
  unfolding method_type parameters_at field_at element_at field_type
  index_results = refl

  pub regions_results : result_types files (of_string (codes "regionMatches") (codes "(ILjava/lang/String;II)Z")) ≡ IntType ∷ []
  unfolding method_type parameters_at field_at element_at field_type
  regions_results = refl

  pub concat_results : result_types files (of_string (codes "concat") (codes "(Ljava/lang/String;)Ljava/lang/String;")) ≡ OfType (ClassType java_lang_string) ∷ []
  unfolding method_type parameters_at field_at element_at field_type built_in_classes
  concat_results = refl

  pub concat_arguments : argument_types files (of_string (codes "concat") (codes "(Ljava/lang/String;)Ljava/lang/String;"))
      ≡ OfType (ClassType java_lang_string) ∷ OfType (ClassType java_lang_string) ∷ []
  unfolding method_type parameters_at field_at element_at field_type built_in_classes
  concat_arguments = refl

  pub substring_results : result_types files (of_string (codes "substring") (codes "(II)Ljava/lang/String;")) ≡ OfType (ClassType java_lang_string) ∷ []
  unfolding method_type parameters_at field_at element_at field_type built_in_classes
  substring_results = refl

  pub substring_arguments : argument_types files (of_string (codes "substring") (codes "(II)Ljava/lang/String;"))
      ≡ OfType (ClassType java_lang_string) ∷ IntType ∷ IntType ∷ []
  unfolding method_type parameters_at field_at element_at field_type built_in_classes
  substring_arguments = refl

  pub int_text_results : result_types files (of_string (codes "valueOf") (codes "(I)Ljava/lang/String;")) ≡ OfType (ClassType java_lang_string) ∷ []
  unfolding method_type parameters_at field_at element_at field_type built_in_classes
  int_text_results = refl

  pub char_text_results : result_types files (of_string (codes "valueOf") (codes "(C)Ljava/lang/String;")) ≡ OfType (ClassType java_lang_string) ∷ []
  unfolding method_type parameters_at field_at element_at field_type built_in_classes
  char_text_results = refl

  pub wait_arguments : argument_types files (of_object (codes "wait") (codes "()V")) ≡ OfType (ClassType java_lang_object) ∷ []
  unfolding method_type parameters_at field_at element_at field_type built_in_classes
  wait_arguments = refl

  pub wait_receiver : has_no_receiver files (of_object (codes "wait") (codes "()V")) ≡ false
  unfolding built_in_classes
  wait_receiver = refl

  pub start_arguments : argument_types files (of_thread (codes "start") (codes "()V")) ≡ OfType (ClassType java_lang_thread) ∷ []
  unfolding method_type parameters_at field_at element_at field_type built_in_classes
  start_arguments = refl

  pub start_receiver : has_no_receiver files (of_thread (codes "start") (codes "()V")) ≡ false
  unfolding built_in_classes
  start_receiver = refl

  pub no_parameters : (class name : Name) → parameter_count (record { class = class; name = name; descriptor = codes "()V" }) ≡ 0
  unfolding method_type parameters_at field_at element_at field_type
  no_parameters class name = refl

  pub message_parameters : map (verification_type files) (parameters_declared (codes "(Ljava/lang/String;)V")) ≡ OfType (ClassType java_lang_string) ∷ []
  unfolding method_type parameters_at field_at element_at field_type built_in_classes
  message_parameters = refl

  pub cause_parameters : map (verification_type files) (parameters_declared (codes "(Ljava/lang/String;Ljava/lang/Throwable;)V"))
      ≡ OfType (ClassType java_lang_string) ∷ OfType (ClassType java_lang_throwable) ∷ []
  unfolding method_type parameters_at field_at element_at field_type built_in_classes
  cause_parameters = refl
