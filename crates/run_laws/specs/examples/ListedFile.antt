-- The listing of the class file whose main prints 7.
use Rattle.std.specs.Prelude.{◌≡◌, ℕ, List, ◌++◌, codes}
use Rattle.model.specs.Listing.{listing}
use Rattle.run_laws.specs.examples.PrintsSeven.{prints_seven_file}

-- a line of the class, one of main with its access flags (JVMS table 4.6-A) and the sizes of its frames (JVMS 4.7.3), and
-- one for each of its four instructions
abbrev pub text : List ℕ
text =
    codes "class A extends java/lang/Object\n"
    ++ codes "method main([Ljava/lang/String;)V flags 0009 stack 2 locals 1\n"
    ++ codes "00000 b2000d getstatic java/lang/System.out:Ljava/io/PrintStream;\n"
    ++ codes "00003 1007 bipush 7\n"
    ++ codes "00005 b60013 invokevirtual java/io/PrintStream.println:(I)V\n"
    ++ codes "00008 b1 return\n"

pub record ListedFile : Type 0 where
  pub listed : listing prints_seven_file ≡ text
