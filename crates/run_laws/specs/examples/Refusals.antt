-- Files in which a condition of linking stands, and no other one.
use Rattle.std.specs.Prelude.{◌≡◌, ℕ, [], ◌∷◌, ◌++◌, true, false, replicate, codes}
use Rattle.model.specs.Names.{Name, java_lang_object}
use Rattle.model.specs.Tree.{ConstantOf, FileTree}
use Rattle.model.specs.Classes.{Program}
use Rattle.model.specs.BuiltInForm.{public_class, built_in}
use Rattle.model.specs.Linkable.{too_many_files}
use Rattle.run_laws.specs.examples.Conditions.{standing, refused_as, answered_as}
use Rattle.run_laws.specs.examples.Made.{class, main, field, method, code_with, code, returns, exception, a_with, a_alone, with_method, doing, with_field, catching, beside, b_below, b_interface}
use Rattle.run_laws.specs.examples.PrintsSeven.{prints_seven_file}

-- one condition stands, and no other
abbrev pub Meets : Program → Name → Type 0
Meets files condition = standing files ≡ condition ∷ []

-- ---- OutsideProfile

pub record OutsideProfiles : Type 0 where
  -- static long f(), a field of type long, and one with a constant of such a type
  pub left_out_field : Meets (with_field (field 0x0008 13 16 [])) (codes "field_of_left_out_type")
  pub left_out_constant : standing (with_field (field 0x0008 13 16 (ConstantOf 66 67 ∷ [])))
      ≡ codes "field_of_left_out_type" ∷ codes "left_out_constant" ∷ []
  pub instance_field : Meets (beside (b_interface (field 0x0001 13 12 [] ∷ []) [])) (codes "instance_field_of_interface")
  pub native : Meets (with_method (method 0x0101 8 9 [])) (codes "native_method")
  -- <clinit>(I)V, and an abstract <clinit>()V
  pub initialiser_of_int : Meets (with_method (method 0x0008 11 14 returns)) (codes "initialiser_of_other_descriptor")
  pub abstract_initialiser : Meets (with_method (method 0x0400 11 9 [])) (codes "abstract_initialiser")
  -- int <init>(), a static abstract f, and a static <init>
  pub result : Meets (with_method (method 0x0001 10 15 (code (codes "03 ac")))) (codes "constructor_with_result")
  pub static_abstract : Meets (with_method (method 0x0408 8 9 [])) (codes "contradictory_abstract_method")
  pub static_constructor : Meets (with_method (method 0x0008 10 9 returns)) (codes "contradictory_constructor")
  pub default_method : Meets (beside (b_interface [] (method 0x0001 8 9 returns ∷ []))) (codes "concrete_method_of_interface")
  -- lload_0, wide ret
  pub lload : Meets (doing (codes "1e b1")) (codes "unknown_opcode")
  pub wide_ret : Meets (doing (codes "c4 a9 0000 b1")) (codes "unknown_opcode")
  -- ldc2_w, whose operand would be a tableswitch that is cut, and before it a goto into its operand
  pub ldc2_w : Meets (doing (codes "14 00aa")) (codes "unknown_opcode")
  pub goto_into : Meets (doing (codes "a70004 140013 b1")) (codes "unknown_opcode")
  -- checkcast long[], newarray float, ldc of a float, ldc int[].class
  pub long_array : Meets (doing (codes "01 c00012 57 b1")) (codes "operand_of_left_out_type")
  pub float_array : Meets (doing (codes "03 bc06 57 b1")) (codes "left_out_array")
  pub float : Meets (doing (codes "1213 57 b1")) (codes "float_constant")
  pub array_class : Meets (doing (codes "1215 57 b1")) (codes "array_class_constant")
  -- f of an int[], which is not found either; clone of one by invokespecial; by invokevirtual no condition stands
  pub array_method : standing (doing (codes "01 b6004d b1")) ≡ codes "method_of_array_class" ∷ codes "method_missing" ∷ []
  pub array_method_answered : answered_as (doing (codes "01 b6004d b1")) ≡ codes "OutsideProfile" ∷ []
  pub special_clone : standing (doing (codes "01 b70019 57 b1")) ≡ codes "method_of_array_class" ∷ codes "special_of_class_aside" ∷ []
  pub clone : standing (doing (codes "01 b60019 57 b1")) ≡ []

-- ---- Malformed, cause Code

pub record MalformedCodes : Type 0 where
  -- static f(int) with no local variable, and iload_0 in f() with none
  pub argument : Meets (with_method (method 0x0009 8 14 (code_with 0 (codes "b1") []))) (codes "too_few_locals")
  pub iload : Meets (with_method (method 0x0009 8 9 (code_with 0 (codes "1a 57 b1") []))) (codes "local_above_max")
  -- a tableswitch from 6 to 5, a lookupswitch of -2147483648 pairs, bipush at the end
  pub from_6_to_5 : Meets (doing (codes "aa000000 00000010 00000006 00000005 b1")) (codes "low_above_high")
  pub negative : Meets (doing (codes "ab000000 00000000 80000000 b1")) (codes "negative_count")
  pub cut : Meets (doing (codes "b1 10")) (codes "cut_instruction")
  -- sipush at the end, whose operand would begin no instruction of the table
  pub cut_sipush : Meets (doing (codes "11 ca")) (codes "cut_instruction")
  -- goto into itself, and before the code
  pub goto : Meets (doing (codes "a70001 b1")) (codes "jump_off_boundary")
  pub goto_before : Meets (doing (codes "a7ffff b1")) (codes "jump_off_boundary")
  -- a lookupswitch for 5 and 5
  pub same_match : Meets (doing (codes "ab000000 0000001c 00000002 00000005 0000001c 00000005 0000001c b1")) (codes "unsorted_matches")
  -- checkcast of a Utf8
  pub utf8 : Meets (doing (codes "01 c00001 57 b1")) (codes "operand_of_wrong_kind")
  -- invokeinterface Runnable.run with count 2, and with another last byte
  pub count : Meets (doing (codes "01 b9001e0200 b1")) (codes "wrong_interface_count")
  pub last : Meets (doing (codes "01 b9001e0101 b1")) (codes "wrong_interface_end")
  -- invokevirtual Object.<init>, invokestatic A.<clinit>, invokespecial B.f with B beside A
  pub constructor : Meets (doing (codes "01 b60021 b1")) (codes "constructor_not_by_special")
  pub initialiser : Meets (a_with [] (method 0x0008 11 9 returns ∷ method 0x0009 8 9 (code (codes "b80023 b1")) ∷ [])
      ∷ []) (codes "calls_initialiser")
  pub beside_it : Meets (a_with [] (method 0x0009 8 9 (code (codes "01 b70027 b1")) ∷ []) ∷ b_below 4 [] (method 0x0001 8 9 returns ∷ [])
      ∷ []) (codes "special_of_class_aside")
  -- new int[], anewarray of 255 dimensions
  pub array : Meets (doing (codes "bb0015 57 b1")) (codes "new_of_array")
  pub dimensions : Meets (doing (codes "03 bd002b 57 b1")) (codes "too_many_dimensions")
  -- in nop, bipush 0, pop, return, pop, return
  pub empty : Meets (catching (exception 1 1 5 0)) (codes "empty_range")
  pub off_start : Meets (catching (exception 2 3 5 0)) (codes "range_off_boundary")
  pub off_end : Meets (catching (exception 0 2 5 0)) (codes "range_off_boundary")
  pub off_handler : Meets (catching (exception 0 3 2 0)) (codes "handler_off_boundary")
  pub to_the_end : standing (catching (exception 0 7 5 0)) ≡ []

-- ---- BadHierarchy

-- A with a method, and a class below it with another one
abbrev pub redeclaring : ℕ → ℕ → ℕ → Program
redeclaring flags this again = a_with [] (method flags 8 9 returns ∷ []) ∷ class 0x0021 this 2 [] [] (method again 8 9 returns ∷ []) ∷ []

pub record BadHierarchies : Type 0 where
  -- B extends B, Runnable, String; B implements A; the interface B extends A
  pub itself : Meets (beside (b_below 37 [] [])) (codes "in_cycle")
  pub runnable : Meets (beside (b_below 27 [] [])) (codes "extends_interface")
  pub string : Meets (beside (b_below 63 [] [])) (codes "extends_final")
  pub class_implemented : Meets (beside (b_below 4 (2 ∷ []) [])) (codes "implements_class")
  pub interface_below : Meets (beside (class 0x0601 37 2 [] [] [])) (codes "interface_below_other")
  -- wait of Object, in a class and in an interface
  pub wait : Meets (beside (b_below 4 [] (method 0x0001 61 9 returns ∷ []))) (codes "final_redeclared")
  pub wait_of_interface : Meets (beside (b_interface [] (method 0x0401 61 9 [] ∷ []))) (codes "final_redeclared")
  pub static : Meets (redeclaring 0x0009 37 0x0001) (codes "static_redeclared")
  pub instance : Meets (redeclaring 0x0001 37 0x0009) (codes "instance_redeclared")
  -- f without an access flag, in A and in p/B; in A and in B it is none
  pub other_package : Meets (redeclaring 0x0000 65 0x0000) (codes "redeclared_in_other_package")
  pub same_package : standing (redeclaring 0x0000 37 0x0000) ≡ []
  pub private : Meets (redeclaring 0x0001 37 0x0002) (codes "redeclared_as_private")
  -- a private one is no matter
  pub of_private : standing (redeclaring 0x0002 37 0x0009) ≡ []
  -- a handler for Object, and one for int[]
  pub object : Meets (catching (exception 0 3 5 4)) (codes "catches_no_throwable")
  pub array : Meets (catching (exception 0 3 5 21)) (codes "catches_no_throwable")

-- ---- Unresolved

pub record Unresolveds : Type 0 where
  pub superclass : Meets (beside (b_below 45 [] [])) (codes "superclass_missing")
  pub interface : Meets (beside (b_below 4 (45 ∷ []) [])) (codes "interface_missing")
  pub catch_type : Meets (catching (exception 0 3 5 45)) (codes "catch_type_missing")
  pub declared : Meets (with_field (field 0x0008 13 46 [])) (codes "declared_class_missing")
  -- checkcast Missing, new Runnable
  pub operand : Meets (doing (codes "01 c0002d 57 b1")) (codes "operand_class_missing")
  pub new_interface : Meets (doing (codes "bb001b 57 b1")) (codes "new_of_abstract")
  -- getstatic A.x, which is not there, or is an instance field; getfield of a static one
  pub no_field : Meets (doing (codes "b20030 57 b1")) (codes "field_missing")
  pub getstatic : Meets (a_with (field 0x0001 13 12 [] ∷ []) (method 0x0009 8 9 (code (codes "b20030 57 b1")) ∷ [])
      ∷ []) (codes "field_of_other_kind")
  pub getfield : Meets (a_with (field 0x0009 13 12 [] ∷ []) (method 0x0009 8 9 (code (codes "01 b40030 57 b1")) ∷ [])
      ∷ []) (codes "field_of_other_kind")
  -- putstatic System.out, getfield Thread.target
  pub out : Meets (doing (codes "01 b30036 b1")) (codes "puts_system_stream")
  pub target : Meets (doing (codes "01 b4003c 57 b1")) (codes "names_hidden_field")
  -- invokevirtual B.f, invokespecial B.<init>, neither of which B declares
  pub no_method : Meets (a_with [] (method 0x0009 8 9 (code (codes "01 b60027 b1")) ∷ []) ∷ b_below 4 [] [] ∷ []) (codes "method_missing")
  pub no_constructor : Meets (a_with [] (method 0x0009 8 9 (code (codes "bb0025 b70029 b1")) ∷ []) ∷ b_below 4 [] []
      ∷ []) (codes "method_missing")
  -- invokestatic String.described
  pub described : Meets (doing (codes "01 03 b8004a 57 b1")) (codes "names_hidden_method")
  -- invokevirtual A.f, which is static, and invokestatic of an instance method
  pub virtual : Meets (doing (codes "01 b60028 b1")) (codes "method_of_other_kind")
  pub static : Meets (with_method (method 0x0001 8 9 (code (codes "b80028 b1")))) (codes "method_of_other_kind")
  -- invokevirtual Runnable.run
  pub interface_method : Meets (doing (codes "01 b6001f b1")) (codes "call_on_other_kind")

-- ---- the others, and their order

-- a class with so many instance fields
abbrev pub with_fields : ℕ → FileTree
with_fields n = a_with (replicate n (field 0x0001 13 12 [])) []

pub record OtherRefusals : Type 0 where
  pub two : Meets (a_alone ∷ a_alone ∷ []) (codes "two_of_one_name")
  pub built_in_name : Meets (beside (built_in public_class (codes "java/lang/String") java_lang_object [])) (codes "has_built_in_name")
  pub none : Meets [] (codes "no_file")
  -- main is an instance method; main stands in the second file
  pub instance_main : Meets (class 0x0021 2 4 [] [] (method 0x0001 5 6 returns ∷ []) ∷ []) (codes "no_static_main")
  pub second : Meets (b_below 4 [] [] ∷ a_alone ∷ []) (codes "no_static_main")
  pub files : too_many_files (replicate 65001 a_alone) ≡ true
  pub files_at_most : too_many_files (replicate 65000 a_alone) ≡ false
  pub fields : refused_as (with_fields 65536 ∷ []) ≡ codes "TooLarge by fields" ∷ []
  pub fields_at_most : refused_as (with_fields 65535 ∷ []) ≡ []
  -- what a Throwable keeps by itself doesn't count
  pub fields_of_throwable : refused_as (class 0x0021 2 76 [] (replicate 65535 (field 0x0001 13 12 [])) (main ∷ []) ∷ []) ≡ []
  pub linkable : standing (prints_seven_file ∷ []) ≡ []
  -- a native method, a superclass that is missing and a cycle: first what the profile leaves out, then the cycle
  pub three : refused_as (with_method (method 0x0101 8 9 []) ++ (b_below 37 [] [] ∷ class 0x0021 65 45 [] [] [] ∷ []))
      ≡ codes "OutsideProfile" ∷ codes "BadHierarchy" ∷ codes "Unresolved" ∷ []
  pub first_of_three : answered_as (with_method (method 0x0101 8 9 []) ++ (b_below 37 [] [] ∷ class 0x0021 65 45 [] [] [] ∷ []))
      ≡ codes "OutsideProfile" ∷ []
  pub first_of_two : answered_as (beside (b_below 37 [] []) ++ (class 0x0021 65 45 [] [] [] ∷ [])) ≡ codes "BadHierarchy" ∷ []
