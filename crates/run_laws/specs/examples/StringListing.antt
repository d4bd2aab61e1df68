-- The methods with code of java/lang/String, as a listing shows them.
use Rattle.std.specs.Prelude.{ℕ, List, [], ◌∷◌, ◌++◌, codes}
use Rattle.std.specs.List.{flat_map}

abbrev pub constructor : List ℕ
constructor =
    codes "method <init>([C)V flags 0001 stack 4 locals 2\n00000 2a aload_0\n00001 2b aload_1\n00002 03 iconst_0\n"
    ++ (codes "00003 2b aload_1\n00004 be arraylength\n00005 b70012 invokespecial java/lang/String.<init>:([CII)V\n"
    ++ codes "00008 b1 return\n")

abbrev pub value_of : List ℕ
value_of =
    codes "method valueOf(Ljava/lang/Object;)Ljava/lang/String; flags 0009 stack 1 locals 1\n00000 2a aload_0\n"
    ++ (codes "00001 c70008 ifnonnull 9\n00004 120a ldc #10\n00006 a70007 goto 13\n00009 2a aload_0\n"
    ++ codes "00010 b60016 invokevirtual java/lang/Object.toString:()Ljava/lang/String;\n00013 b0 areturn\n")

abbrev pub value_of_2 : List ℕ
value_of_2 =
    codes "method valueOf(Z)Ljava/lang/String; flags 0009 stack 1 locals 1\n00000 1a iload_0\n00001 990008 ifeq 9\n"
    ++ codes "00004 120c ldc #12\n00006 a70005 goto 11\n00009 120e ldc #14\n00011 b0 areturn\n"

abbrev pub value_of_3 : List ℕ
value_of_3 =
    codes "method valueOf([C)Ljava/lang/String; flags 0009 stack 5 locals 1\n00000 bb0002 new java/lang/String\n"
    ++ (codes "00003 59 dup\n00004 2a aload_0\n00005 03 iconst_0\n00006 2a aload_0\n00007 be arraylength\n"
    ++ codes "00008 b70012 invokespecial java/lang/String.<init>:([CII)V\n00011 b0 areturn\n")

abbrev pub value_of_4 : List ℕ
value_of_4 =
    codes "method valueOf([CII)Ljava/lang/String; flags 0009 stack 5 locals 3\n00000 bb0002 new java/lang/String\n"
    ++ (codes "00003 59 dup\n00004 2a aload_0\n00005 1b iload_1\n00006 1c iload_2\n"
    ++ codes "00007 b70012 invokespecial java/lang/String.<init>:([CII)V\n00010 b0 areturn\n")

abbrev pub copy_value_of : List ℕ
copy_value_of =
    codes "method copyValueOf([C)Ljava/lang/String; flags 0009 stack 5 locals 1\n"
    ++ (codes "00000 bb0002 new java/lang/String\n00003 59 dup\n00004 2a aload_0\n00005 03 iconst_0\n00006 2a aload_0\n"
    ++ codes "00007 be arraylength\n00008 b70012 invokespecial java/lang/String.<init>:([CII)V\n00011 b0 areturn\n")

abbrev pub copy_value_of_2 : List ℕ
copy_value_of_2 =
    codes "method copyValueOf([CII)Ljava/lang/String; flags 0009 stack 5 locals 3\n"
    ++ (codes "00000 bb0002 new java/lang/String\n00003 59 dup\n00004 2a aload_0\n00005 1b iload_1\n00006 1c iload_2\n"
    ++ codes "00007 b70012 invokespecial java/lang/String.<init>:([CII)V\n00010 b0 areturn\n")

abbrev pub join : List ℕ
join =
    flat_map (λ text. text)
    (codes "method join(Ljava/lang/CharSequence;[Ljava/lang/CharSequence;)Ljava/lang/String; flags 0009 stack 3 locals 5\n"
    ∷ codes "00000 2a aload_0\n"
    ∷ codes "00001 b900170100 invokeinterface java/lang/CharSequence.toString:()Ljava/lang/String; 1\n"
    ∷ codes "00006 4d astore_2\n00007 bb0019 new java/lang/StringBuilder\n00010 59 dup\n"
    ∷ codes "00011 b7001c invokespecial java/lang/StringBuilder.<init>:()V\n00014 4e astore_3\n00015 03 iconst_0\n"
    ∷ codes "00016 3604 istore 4\n00018 1504 iload 4\n00020 2b aload_1\n00021 be arraylength\n"
    ∷ codes "00022 a2001d if_icmpge 51\n00025 1504 iload 4\n00027 9e0009 ifle 36\n00030 2d aload_3\n"
    ∷ codes "00031 2c aload_2\n"
    ∷ codes "00032 b60020 invokevirtual java/lang/StringBuilder.append:(Ljava/lang/String;)Ljava/lang/StringBuilder;\n"
    ∷ codes "00035 57 pop\n00036 2d aload_3\n00037 2b aload_1\n00038 1504 iload 4\n00040 32 aaload\n"
    ∷ codes "00041 b60023 invokevirtual java/lang/StringBuilder.append:(Ljava/lang/CharSequence;)Ljava/lang/StringBuilder;\n"
    ∷ codes "00044 57 pop\n00045 840401 iinc 4 1\n00048 a7ffe2 goto 18\n00051 2d aload_3\n"
    ∷ codes "00052 b60024 invokevirtual java/lang/StringBuilder.toString:()Ljava/lang/String;\n00055 b0 areturn\n"
    ∷ [])

abbrev pub is_empty : List ℕ
is_empty =
    codes "method isEmpty()Z flags 0001 stack 1 locals 1\n00000 2a aload_0\n"
    ++ (codes "00001 b60028 invokevirtual java/lang/String.length:()I\n00004 9a0007 ifne 11\n00007 04 iconst_1\n"
    ++ codes "00008 a70004 goto 12\n00011 03 iconst_0\n00012 ac ireturn\n")

abbrev pub to_string : List ℕ
to_string =
    codes "method toString()Ljava/lang/String; flags 0001 stack 1 locals 1\n00000 2a aload_0\n00001 b0 areturn\n"

abbrev pub substring : List ℕ
substring =
    codes "method substring(I)Ljava/lang/String; flags 0001 stack 3 locals 2\n00000 2a aload_0\n00001 1b iload_1\n"
    ++ (codes "00002 2a aload_0\n00003 b60028 invokevirtual java/lang/String.length:()I\n"
    ++ codes "00006 b6002c invokevirtual java/lang/String.substring:(II)Ljava/lang/String;\n00009 b0 areturn\n")

abbrev pub sub_sequence : List ℕ
sub_sequence =
    codes "method subSequence(II)Ljava/lang/CharSequence; flags 0001 stack 3 locals 3\n00000 2a aload_0\n"
    ++ (codes "00001 1b iload_1\n00002 1c iload_2\n"
    ++ codes "00003 b6002c invokevirtual java/lang/String.substring:(II)Ljava/lang/String;\n00006 b0 areturn\n")

abbrev pub compare_to : List ℕ
compare_to =
    codes "method compareTo(Ljava/lang/Object;)I flags 0001 stack 2 locals 2\n00000 2a aload_0\n00001 2b aload_1\n"
    ++ (codes "00002 c00002 checkcast java/lang/String\n"
    ++ codes "00005 b60030 invokevirtual java/lang/String.compareTo:(Ljava/lang/String;)I\n00008 ac ireturn\n")

abbrev pub index_of : List ℕ
index_of =
    codes "method indexOf(I)I flags 0001 stack 3 locals 2\n00000 2a aload_0\n00001 1b iload_1\n00002 03 iconst_0\n"
    ++ codes "00003 b60034 invokevirtual java/lang/String.indexOf:(II)I\n00006 ac ireturn\n"

abbrev pub index_of_2 : List ℕ
index_of_2 =
    codes "method indexOf(Ljava/lang/String;)I flags 0001 stack 3 locals 2\n00000 2a aload_0\n00001 2b aload_1\n"
    ++ (codes "00002 03 iconst_0\n00003 b60037 invokevirtual java/lang/String.indexOf:(Ljava/lang/String;I)I\n"
    ++ codes "00006 ac ireturn\n")

abbrev pub index_of_3 : List ℕ
index_of_3 =
    flat_map (λ text. text)
    (codes "method indexOf(Ljava/lang/String;I)I flags 0001 stack 5 locals 6\n00000 2b aload_1\n"
    ∷ codes "00001 b60028 invokevirtual java/lang/String.length:()I\n00004 3e istore_3\n00005 2a aload_0\n"
    ∷ codes "00006 b60028 invokevirtual java/lang/String.length:()I\n00009 1d iload_3\n00010 64 isub\n"
    ∷ codes "00011 3604 istore 4\n00013 1c iload_2\n00014 9c0007 ifge 21\n00017 03 iconst_0\n00018 a70004 goto 22\n"
    ∷ codes "00021 1c iload_2\n00022 3605 istore 5\n00024 1505 iload 5\n00026 1504 iload 4\n"
    ∷ codes "00028 a30018 if_icmpgt 52\n00031 2a aload_0\n00032 1505 iload 5\n00034 2b aload_1\n00035 03 iconst_0\n"
    ∷ codes "00036 1d iload_3\n00037 b6003b invokevirtual java/lang/String.regionMatches:(ILjava/lang/String;II)Z\n"
    ∷ codes "00040 990006 ifeq 46\n00043 1505 iload 5\n00045 ac ireturn\n00046 840501 iinc 5 1\n"
    ∷ codes "00049 a7ffe7 goto 24\n00052 1d iload_3\n00053 9a000a ifne 63\n00056 2a aload_0\n"
    ∷ codes "00057 b60028 invokevirtual java/lang/String.length:()I\n00060 a70004 goto 64\n00063 02 iconst_m1\n"
    ∷ codes "00064 ac ireturn\n"
    ∷ [])

abbrev pub last_index_of : List ℕ
last_index_of =
    codes "method lastIndexOf(I)I flags 0001 stack 4 locals 2\n00000 2a aload_0\n00001 1b iload_1\n"
    ++ (codes "00002 2a aload_0\n00003 b60028 invokevirtual java/lang/String.length:()I\n00006 04 iconst_1\n"
    ++ codes "00007 64 isub\n00008 b6003e invokevirtual java/lang/String.lastIndexOf:(II)I\n00011 ac ireturn\n")

abbrev pub last_index_of_2 : List ℕ
last_index_of_2 =
    codes "method lastIndexOf(II)I flags 0001 stack 2 locals 5\n00000 2a aload_0\n"
    ++ (codes "00001 b60028 invokevirtual java/lang/String.length:()I\n00004 04 iconst_1\n00005 64 isub\n"
    ++ (codes "00006 3e istore_3\n00007 1c iload_2\n00008 1d iload_3\n00009 a20007 if_icmpge 16\n00012 1c iload_2\n"
    ++ (codes "00013 a70004 goto 17\n00016 1d iload_3\n00017 3604 istore 4\n00019 1504 iload 4\n00021 9b0016 iflt 43\n"
    ++ (codes "00024 2a aload_0\n00025 1504 iload 4\n00027 b60042 invokevirtual java/lang/String.charAt:(I)C\n"
    ++ (codes "00030 1b iload_1\n00031 a00006 if_icmpne 37\n00034 1504 iload 4\n00036 ac ireturn\n"
    ++ codes "00037 8404ff iinc 4 -1\n00040 a7ffeb goto 19\n00043 02 iconst_m1\n00044 ac ireturn\n")))))

abbrev pub last_index_of_3 : List ℕ
last_index_of_3 =
    codes "method lastIndexOf(Ljava/lang/String;)I flags 0001 stack 3 locals 2\n00000 2a aload_0\n"
    ++ (codes "00001 2b aload_1\n00002 2a aload_0\n00003 b60028 invokevirtual java/lang/String.length:()I\n"
    ++ codes "00006 b60044 invokevirtual java/lang/String.lastIndexOf:(Ljava/lang/String;I)I\n00009 ac ireturn\n")

abbrev pub last_index_of_4 : List ℕ
last_index_of_4 =
    flat_map (λ text. text)
    (codes "method lastIndexOf(Ljava/lang/String;I)I flags 0001 stack 5 locals 6\n00000 2b aload_1\n"
    ∷ codes "00001 b60028 invokevirtual java/lang/String.length:()I\n00004 3e istore_3\n00005 2a aload_0\n"
    ∷ codes "00006 b60028 invokevirtual java/lang/String.length:()I\n00009 1d iload_3\n00010 64 isub\n"
    ∷ codes "00011 3604 istore 4\n00013 1c iload_2\n00014 1504 iload 4\n00016 a20007 if_icmpge 23\n00019 1c iload_2\n"
    ∷ codes "00020 a70005 goto 25\n00023 1504 iload 4\n00025 3605 istore 5\n00027 1505 iload 5\n"
    ∷ codes "00029 9b0018 iflt 53\n00032 2a aload_0\n00033 1505 iload 5\n00035 2b aload_1\n00036 03 iconst_0\n"
    ∷ codes "00037 1d iload_3\n00038 b6003b invokevirtual java/lang/String.regionMatches:(ILjava/lang/String;II)Z\n"
    ∷ codes "00041 990006 ifeq 47\n00044 1505 iload 5\n00046 ac ireturn\n00047 8405ff iinc 5 -1\n"
    ∷ codes "00050 a7ffe9 goto 27\n00053 02 iconst_m1\n00054 ac ireturn\n"
    ∷ [])

abbrev pub starts_with : List ℕ
starts_with =
    codes "method startsWith(Ljava/lang/String;)Z flags 0001 stack 5 locals 2\n00000 2a aload_0\n"
    ++ (codes "00001 03 iconst_0\n00002 2b aload_1\n00003 03 iconst_0\n00004 2b aload_1\n"
    ++ (codes "00005 b60028 invokevirtual java/lang/String.length:()I\n"
    ++ codes "00008 b6003b invokevirtual java/lang/String.regionMatches:(ILjava/lang/String;II)Z\n00011 ac ireturn\n"))

abbrev pub starts_with_2 : List ℕ
starts_with_2 =
    codes "method startsWith(Ljava/lang/String;I)Z flags 0001 stack 5 locals 3\n00000 2a aload_0\n"
    ++ (codes "00001 1c iload_2\n00002 2b aload_1\n00003 03 iconst_0\n00004 2b aload_1\n"
    ++ (codes "00005 b60028 invokevirtual java/lang/String.length:()I\n"
    ++ codes "00008 b6003b invokevirtual java/lang/String.regionMatches:(ILjava/lang/String;II)Z\n00011 ac ireturn\n"))

abbrev pub ends_with : List ℕ
ends_with =
    codes "method endsWith(Ljava/lang/String;)Z flags 0001 stack 5 locals 2\n00000 2a aload_0\n00001 2a aload_0\n"
    ++ (codes "00002 b60028 invokevirtual java/lang/String.length:()I\n00005 2b aload_1\n"
    ++ (codes "00006 b60028 invokevirtual java/lang/String.length:()I\n00009 64 isub\n00010 2b aload_1\n"
    ++ (codes "00011 03 iconst_0\n00012 2b aload_1\n00013 b60028 invokevirtual java/lang/String.length:()I\n"
    ++ codes "00016 b6003b invokevirtual java/lang/String.regionMatches:(ILjava/lang/String;II)Z\n00019 ac ireturn\n")))

abbrev pub contains : List ℕ
contains =
    codes "method contains(Ljava/lang/CharSequence;)Z flags 0001 stack 3 locals 2\n00000 2a aload_0\n"
    ++ (codes "00001 2b aload_1\n"
    ++ (codes "00002 b900170100 invokeinterface java/lang/CharSequence.toString:()Ljava/lang/String; 1\n"
    ++ (codes "00007 03 iconst_0\n00008 b60037 invokevirtual java/lang/String.indexOf:(Ljava/lang/String;I)I\n"
    ++ codes "00011 9b0007 iflt 18\n00014 04 iconst_1\n00015 a70004 goto 19\n00018 03 iconst_0\n00019 ac ireturn\n")))

abbrev pub content_equals : List ℕ
content_equals =
    codes "method contentEquals(Ljava/lang/CharSequence;)Z flags 0001 stack 2 locals 2\n00000 2a aload_0\n"
    ++ (codes "00001 2b aload_1\n"
    ++ (codes "00002 b900170100 invokeinterface java/lang/CharSequence.toString:()Ljava/lang/String; 1\n"
    ++ codes "00007 b60048 invokevirtual java/lang/String.equals:(Ljava/lang/Object;)Z\n00010 ac ireturn\n"))

abbrev pub trim : List ℕ
trim =
    flat_map (λ text. text)
    (codes "method trim()Ljava/lang/String; flags 0001 stack 3 locals 3\n00000 03 iconst_0\n00001 3c istore_1\n"
    ∷ codes "00002 2a aload_0\n00003 b60028 invokevirtual java/lang/String.length:()I\n00006 3d istore_2\n"
    ∷ codes "00007 1b iload_1\n00008 1c iload_2\n00009 a20013 if_icmpge 28\n00012 2a aload_0\n00013 1b iload_1\n"
    ∷ codes "00014 b60042 invokevirtual java/lang/String.charAt:(I)C\n00017 1020 bipush 32\n"
    ∷ codes "00019 a30009 if_icmpgt 28\n00022 840101 iinc 1 1\n00025 a7ffee goto 7\n00028 1b iload_1\n"
    ∷ codes "00029 1c iload_2\n00030 a20015 if_icmpge 51\n00033 2a aload_0\n00034 1c iload_2\n00035 04 iconst_1\n"
    ∷ codes "00036 64 isub\n00037 b60042 invokevirtual java/lang/String.charAt:(I)C\n00040 1020 bipush 32\n"
    ∷ codes "00042 a30009 if_icmpgt 51\n00045 8402ff iinc 2 -1\n00048 a7ffec goto 28\n00051 2a aload_0\n"
    ∷ codes "00052 1b iload_1\n00053 1c iload_2\n"
    ∷ codes "00054 b6002c invokevirtual java/lang/String.substring:(II)Ljava/lang/String;\n00057 b0 areturn\n"
    ∷ [])

abbrev pub to_char_array : List ℕ
to_char_array =
    codes "method toCharArray()[C flags 0001 stack 5 locals 2\n00000 2a aload_0\n"
    ++ (codes "00001 b60028 invokevirtual java/lang/String.length:()I\n00004 bc05 newarray char\n00006 4c astore_1\n"
    ++ (codes "00007 2a aload_0\n00008 03 iconst_0\n00009 2b aload_1\n00010 be arraylength\n00011 2b aload_1\n"
    ++ (codes "00012 03 iconst_0\n00013 b6004c invokevirtual java/lang/String.getChars:(II[CI)V\n00016 2b aload_1\n"
    ++ codes "00017 b0 areturn\n")))

abbrev pub replace : List ℕ
replace =
    flat_map (λ text. text)
    (codes "method replace(CC)Ljava/lang/String; flags 0001 stack 5 locals 5\n00000 1b iload_1\n00001 1c iload_2\n"
    ∷ codes "00002 9f000c if_icmpeq 14\n00005 2a aload_0\n00006 1b iload_1\n00007 03 iconst_0\n"
    ∷ codes "00008 b60034 invokevirtual java/lang/String.indexOf:(II)I\n00011 9c0005 ifge 16\n00014 2a aload_0\n"
    ∷ codes "00015 b0 areturn\n00016 2a aload_0\n00017 b60050 invokevirtual java/lang/String.toCharArray:()[C\n"
    ∷ codes "00020 4e astore_3\n00021 03 iconst_0\n00022 3604 istore 4\n00024 1504 iload 4\n00026 2d aload_3\n"
    ∷ codes "00027 be arraylength\n00028 a20016 if_icmpge 50\n00031 2d aload_3\n00032 1504 iload 4\n00034 34 caload\n"
    ∷ codes "00035 1b iload_1\n00036 a00008 if_icmpne 44\n00039 2d aload_3\n00040 1504 iload 4\n00042 1c iload_2\n"
    ∷ codes "00043 55 castore\n00044 840401 iinc 4 1\n00047 a7ffe9 goto 24\n00050 bb0002 new java/lang/String\n"
    ∷ codes "00053 59 dup\n00054 2d aload_3\n00055 03 iconst_0\n00056 2d aload_3\n00057 be arraylength\n"
    ∷ codes "00058 b70012 invokespecial java/lang/String.<init>:([CII)V\n00061 b0 areturn\n"
    ∷ [])

abbrev pub replace_2 : List ℕ
replace_2 =
    flat_map (λ text. text)
    (codes "method replace(Ljava/lang/CharSequence;Ljava/lang/CharSequence;)Ljava/lang/String; flags 0001 stack 4 locals 9\n"
    ∷ codes "00000 2b aload_1\n"
    ∷ codes "00001 b900170100 invokeinterface java/lang/CharSequence.toString:()Ljava/lang/String; 1\n"
    ∷ codes "00006 4e astore_3\n00007 2c aload_2\n"
    ∷ codes "00008 b900170100 invokeinterface java/lang/CharSequence.toString:()Ljava/lang/String; 1\n"
    ∷ codes "00013 3a04 astore 4\n00015 2a aload_0\n00016 2d aload_3\n00017 03 iconst_0\n"
    ∷ codes "00018 b60037 invokevirtual java/lang/String.indexOf:(Ljava/lang/String;I)I\n00021 3605 istore 5\n"
    ∷ codes "00023 1505 iload 5\n00025 9c0005 ifge 30\n00028 2a aload_0\n00029 b0 areturn\n"
    ∷ codes "00030 bb0019 new java/lang/StringBuilder\n00033 59 dup\n"
    ∷ codes "00034 b7001c invokespecial java/lang/StringBuilder.<init>:()V\n00037 3a06 astore 6\n00039 03 iconst_0\n"
    ∷ codes "00040 3607 istore 7\n00042 2d aload_3\n00043 b60054 invokevirtual java/lang/String.isEmpty:()Z\n"
    ∷ codes "00046 990007 ifeq 53\n00049 04 iconst_1\n00050 a70007 goto 57\n00053 2d aload_3\n"
    ∷ codes "00054 b60028 invokevirtual java/lang/String.length:()I\n00057 3608 istore 8\n00059 1505 iload 5\n"
    ∷ codes "00061 9b003e iflt 123\n00064 1906 aload 6\n00066 2a aload_0\n00067 1507 iload 7\n00069 1505 iload 5\n"
    ∷ codes "00071 b6002c invokevirtual java/lang/String.substring:(II)Ljava/lang/String;\n"
    ∷ codes "00074 b60020 invokevirtual java/lang/StringBuilder.append:(Ljava/lang/String;)Ljava/lang/StringBuilder;\n"
    ∷ codes "00077 1904 aload 4\n"
    ∷ codes "00079 b60020 invokevirtual java/lang/StringBuilder.append:(Ljava/lang/String;)Ljava/lang/StringBuilder;\n"
    ∷ codes "00082 57 pop\n00083 1505 iload 5\n00085 2d aload_3\n"
    ∷ codes "00086 b60028 invokevirtual java/lang/String.length:()I\n00089 60 iadd\n00090 3607 istore 7\n"
    ∷ codes "00092 1505 iload 5\n00094 1508 iload 8\n00096 60 iadd\n00097 2a aload_0\n"
    ∷ codes "00098 b60028 invokevirtual java/lang/String.length:()I\n00101 a40007 if_icmple 108\n00104 02 iconst_m1\n"
    ∷ codes "00105 a7000d goto 118\n00108 2a aload_0\n00109 2d aload_3\n00110 1505 iload 5\n00112 1508 iload 8\n"
    ∷ codes "00114 60 iadd\n00115 b60037 invokevirtual java/lang/String.indexOf:(Ljava/lang/String;I)I\n"
    ∷ codes "00118 3605 istore 5\n00120 a7ffc3 goto 59\n00123 1906 aload 6\n00125 2a aload_0\n00126 1507 iload 7\n"
    ∷ codes "00128 2a aload_0\n00129 b60028 invokevirtual java/lang/String.length:()I\n"
    ∷ codes "00132 b6002c invokevirtual java/lang/String.substring:(II)Ljava/lang/String;\n"
    ∷ codes "00135 b60020 invokevirtual java/lang/StringBuilder.append:(Ljava/lang/String;)Ljava/lang/StringBuilder;\n"
    ∷ codes "00138 b60024 invokevirtual java/lang/StringBuilder.toString:()Ljava/lang/String;\n00141 b0 areturn\n"
    ∷ [])

abbrev pub to_lower_case : List ℕ
to_lower_case =
    flat_map (λ text. text)
    (codes "method toLowerCase()Ljava/lang/String; flags 0001 stack 5 locals 3\n00000 2a aload_0\n"
    ∷ codes "00001 b60050 invokevirtual java/lang/String.toCharArray:()[C\n00004 4c astore_1\n00005 03 iconst_0\n"
    ∷ codes "00006 3d istore_2\n00007 1c iload_2\n00008 2b aload_1\n00009 be arraylength\n00010 a20012 if_icmpge 28\n"
    ∷ codes "00013 2b aload_1\n00014 1c iload_2\n00015 2b aload_1\n00016 1c iload_2\n00017 34 caload\n"
    ∷ codes "00018 b80058 invokestatic java/lang/String.lower:(C)C\n00021 55 castore\n00022 840201 iinc 2 1\n"
    ∷ codes "00025 a7ffee goto 7\n00028 bb0002 new java/lang/String\n00031 59 dup\n00032 2b aload_1\n"
    ∷ codes "00033 03 iconst_0\n00034 2b aload_1\n00035 be arraylength\n"
    ∷ codes "00036 b70012 invokespecial java/lang/String.<init>:([CII)V\n00039 4d astore_2\n00040 2a aload_0\n"
    ∷ codes "00041 2c aload_2\n00042 b60048 invokevirtual java/lang/String.equals:(Ljava/lang/Object;)Z\n"
    ∷ codes "00045 990007 ifeq 52\n00048 2a aload_0\n00049 a70004 goto 53\n00052 2c aload_2\n00053 b0 areturn\n"
    ∷ [])

abbrev pub to_upper_case : List ℕ
to_upper_case =
    flat_map (λ text. text)
    (codes "method toUpperCase()Ljava/lang/String; flags 0001 stack 5 locals 4\n00000 2a aload_0\n"
    ∷ codes "00001 b60050 invokevirtual java/lang/String.toCharArray:()[C\n00004 4c astore_1\n00005 03 iconst_0\n"
    ∷ codes "00006 3d istore_2\n00007 1c iload_2\n00008 2b aload_1\n00009 be arraylength\n00010 a20021 if_icmpge 43\n"
    ∷ codes "00013 2b aload_1\n00014 1c iload_2\n00015 34 caload\n00016 3e istore_3\n00017 1d iload_3\n"
    ∷ codes "00018 1061 bipush 97\n00020 a10011 if_icmplt 37\n00023 1d iload_3\n00024 107a bipush 122\n"
    ∷ codes "00026 a3000b if_icmpgt 37\n00029 2b aload_1\n00030 1c iload_2\n00031 1d iload_3\n00032 1020 bipush 32\n"
    ∷ codes "00034 64 isub\n00035 92 i2c\n00036 55 castore\n00037 840201 iinc 2 1\n00040 a7ffdf goto 7\n"
    ∷ codes "00043 bb0002 new java/lang/String\n00046 59 dup\n00047 2b aload_1\n00048 03 iconst_0\n00049 2b aload_1\n"
    ∷ codes "00050 be arraylength\n00051 b70012 invokespecial java/lang/String.<init>:([CII)V\n00054 4d astore_2\n"
    ∷ codes "00055 2a aload_0\n00056 2c aload_2\n"
    ∷ codes "00057 b60048 invokevirtual java/lang/String.equals:(Ljava/lang/Object;)Z\n00060 990007 ifeq 67\n"
    ∷ codes "00063 2a aload_0\n00064 a70004 goto 68\n00067 2c aload_2\n00068 b0 areturn\n"
    ∷ [])

abbrev pub equals_ignore_case : List ℕ
equals_ignore_case =
    codes "method equalsIgnoreCase(Ljava/lang/String;)Z flags 0001 stack 2 locals 2\n00000 2b aload_1\n"
    ++ (codes "00001 c6001a ifnull 27\n00004 2a aload_0\n00005 b60028 invokevirtual java/lang/String.length:()I\n"
    ++ (codes "00008 2b aload_1\n00009 b60028 invokevirtual java/lang/String.length:()I\n00012 a0000f if_icmpne 27\n"
    ++ (codes "00015 2a aload_0\n00016 2b aload_1\n"
    ++ (codes "00017 b6005b invokevirtual java/lang/String.compareToIgnoreCase:(Ljava/lang/String;)I\n"
    ++ codes "00020 9a0007 ifne 27\n00023 04 iconst_1\n00024 a70004 goto 28\n00027 03 iconst_0\n00028 ac ireturn\n"))))

abbrev pub compare_to_ignore_case : List ℕ
compare_to_ignore_case =
    flat_map (λ text. text)
    (codes "method compareToIgnoreCase(Ljava/lang/String;)I flags 0001 stack 3 locals 5\n00000 2a aload_0\n"
    ∷ codes "00001 b60028 invokevirtual java/lang/String.length:()I\n00004 2b aload_1\n"
    ∷ codes "00005 b60028 invokevirtual java/lang/String.length:()I\n00008 a2000a if_icmpge 18\n00011 2a aload_0\n"
    ∷ codes "00012 b60028 invokevirtual java/lang/String.length:()I\n00015 a70007 goto 22\n00018 2b aload_1\n"
    ∷ codes "00019 b60028 invokevirtual java/lang/String.length:()I\n00022 3d istore_2\n00023 03 iconst_0\n"
    ∷ codes "00024 3e istore_3\n00025 1d iload_3\n00026 1c iload_2\n00027 a20024 if_icmpge 63\n00030 2a aload_0\n"
    ∷ codes "00031 1d iload_3\n00032 b60042 invokevirtual java/lang/String.charAt:(I)C\n"
    ∷ codes "00035 b80058 invokestatic java/lang/String.lower:(C)C\n00038 2b aload_1\n00039 1d iload_3\n"
    ∷ codes "00040 b60042 invokevirtual java/lang/String.charAt:(I)C\n"
    ∷ codes "00043 b80058 invokestatic java/lang/String.lower:(C)C\n00046 64 isub\n00047 3604 istore 4\n"
    ∷ codes "00049 1504 iload 4\n00051 990006 ifeq 57\n00054 1504 iload 4\n00056 ac ireturn\n00057 840301 iinc 3 1\n"
    ∷ codes "00060 a7ffdd goto 25\n00063 2a aload_0\n00064 b60028 invokevirtual java/lang/String.length:()I\n"
    ∷ codes "00067 2b aload_1\n00068 b60028 invokevirtual java/lang/String.length:()I\n00071 64 isub\n"
    ∷ codes "00072 ac ireturn\n"
    ∷ [])

abbrev pub lower : List ℕ
lower =
    codes "method lower(C)C flags 000a stack 2 locals 1\n00000 1a iload_0\n00001 1041 bipush 65\n"
    ++ (codes "00003 a10011 if_icmplt 20\n00006 1a iload_0\n00007 105a bipush 90\n00009 a3000b if_icmpgt 20\n"
    ++ (codes "00012 1a iload_0\n00013 1020 bipush 32\n00015 60 iadd\n00016 92 i2c\n00017 a70004 goto 21\n"
    ++ codes "00020 1a iload_0\n00021 ac ireturn\n"))

abbrev pub methods_with_code : List ℕ
methods_with_code =
    flat_map (λ text. text)
    (constructor ∷ value_of ∷ value_of_2 ∷ value_of_3 ∷ value_of_4 ∷ copy_value_of ∷ copy_value_of_2 ∷ join ∷ is_empty
    ∷ to_string ∷ substring ∷ sub_sequence ∷ compare_to ∷ index_of ∷ index_of_2 ∷ index_of_3 ∷ last_index_of
    ∷ last_index_of_2 ∷ last_index_of_3 ∷ last_index_of_4 ∷ starts_with ∷ starts_with_2 ∷ ends_with ∷ contains
    ∷ content_equals ∷ trim ∷ to_char_array ∷ replace ∷ replace_2 ∷ to_lower_case ∷ to_upper_case ∷ equals_ignore_case
    ∷ compare_to_ignore_case ∷ lower ∷ [])
