-- The class java/lang/System (own).
-- Made by `tools/build-built-in` of the class files of builtin/classes. Not to be edited.
use Rattle.std.specs.Prelude.{ℕ, List, [], ◌∷◌, Some, codes}
use Rattle.model.specs.Tree.{Entry, Utf8, Class, String, Method, NameAndType, FileTree}
use Rattle.model.specs.BuiltInForm.{Declared, declared, field, Coded, coded, tree_of, final_class, static_native_method}

-- System.lineSeparator()Ljava/lang/String;: 0 ldc #6, 2 areturn
abbrev pub system_line_separator_code : List ℕ
system_line_separator_code =
    0x12 ∷ 6 ∷ 0xb0 ∷ []

-- System.arraycopy(Ljava/lang/Object;ILjava/lang/Object;II)V: 0 aload_0, 1 ifnull 8, 4 aload_2, 5 ifnonnull 16, 8 new
-- NullPointerException, 11 dup, 12 invokespecial NullPointerException.<init>, 15 athrow, 16 iconst_0, 17 istore 5, 19
-- iload 4, 21 istore 6, 23 iconst_1, 24 istore 7, 26 aload_0, 27 aload_2, 28 if_acmpne 48, 31 iload_1, 32 iload_3, 33
-- if_icmpge 48, 36 iload 4, 38 iconst_1, 39 isub, 40 istore 5, 42 iconst_m1, 43 istore 6, 45 iconst_m1, 46 istore 7, 48
-- aload_0, 49 instanceof [I, 52 ifeq 121, 55 aload_2, 56 instanceof [I, 59 ifeq 121, 62 aload_0, 63 checkcast [I, 66
-- astore 8, 68 aload_2, 69 checkcast [I, 72 astore 9, 74 aload 8, 76 arraylength, 77 iload_1, 78 aload 9, 80
-- arraylength, 81 iload_3, 82 iload 4, 84 invokestatic check, 87 iload 5, 89 iload 6, 91 if_icmpeq 118, 94 aload 9, 96
-- iload_3, 97 iload 5, 99 iadd, 100 aload 8, 102 iload_1, 103 iload 5, 105 iadd, 106 iaload, 107 iastore, 108 iload 5,
-- 110 iload 7, 112 iadd, 113 istore 5, 115 goto 87, 118 goto 494, 121 aload_0, 122 instanceof [C, 125 ifeq 194, 128
-- aload_2, 129 instanceof [C, 132 ifeq 194, 135 aload_0, 136 checkcast [C, 139 astore 8, 141 aload_2, 142 checkcast [C,
-- 145 astore 9, 147 aload 8, 149 arraylength, 150 iload_1, 151 aload 9, 153 arraylength, 154 iload_3, 155 iload 4, 157
-- invokestatic check, 160 iload 5, 162 iload 6, 164 if_icmpeq 191, 167 aload 9, 169 iload_3, 170 iload 5, 172 iadd, 173
-- aload 8, 175 iload_1, 176 iload 5, 178 iadd, 179 caload, 180 castore, 181 iload 5, 183 iload 7, 185 iadd, 186 istore
-- 5, 188 goto 160, 191 goto 494, 194 aload_0, 195 instanceof [B, 198 ifeq 267, 201 aload_2, 202 instanceof [B, 205 ifeq
-- 267, 208 aload_0, 209 checkcast [B, 212 astore 8, 214 aload_2, 215 checkcast [B, 218 astore 9, 220 aload 8, 222
-- arraylength, 223 iload_1, 224 aload 9, 226 arraylength, 227 iload_3, 228 iload 4, 230 invokestatic check, 233 iload
-- 5, 235 iload 6, 237 if_icmpeq 264, 240 aload 9, 242 iload_3, 243 iload 5, 245 iadd, 246 aload 8, 248 iload_1, 249
-- iload 5, 251 iadd, 252 baload, 253 bastore, 254 iload 5, 256 iload 7, 258 iadd, 259 istore 5, 261 goto 233, 264 goto
-- 494, 267 aload_0, 268 instanceof [Z, 271 ifeq 340, 274 aload_2, 275 instanceof [Z, 278 ifeq 340, 281 aload_0, 282
-- checkcast [Z, 285 astore 8, 287 aload_2, 288 checkcast [Z, 291 astore 9, 293 aload 8, 295 arraylength, 296 iload_1,
-- 297 aload 9, 299 arraylength, 300 iload_3, 301 iload 4, 303 invokestatic check, 306 iload 5, 308 iload 6, 310
-- if_icmpeq 337, 313 aload 9, 315 iload_3, 316 iload 5, 318 iadd, 319 aload 8, 321 iload_1, 322 iload 5, 324 iadd, 325
-- baload, 326 bastore, 327 iload 5, 329 iload 7, 331 iadd, 332 istore 5, 334 goto 306, 337 goto 494, 340 aload_0, 341
-- instanceof [S, 344 ifeq 413, 347 aload_2, 348 instanceof [S, 351 ifeq 413, 354 aload_0, 355 checkcast [S, 358 astore
-- 8, 360 aload_2, 361 checkcast [S, 364 astore 9, 366 aload 8, 368 arraylength, 369 iload_1, 370 aload 9, 372
-- arraylength, 373 iload_3, 374 iload 4, 376 invokestatic check, 379 iload 5, 381 iload 6, 383 if_icmpeq 410, 386 aload
-- 9, 388 iload_3, 389 iload 5, 391 iadd, 392 aload 8, 394 iload_1, 395 iload 5, 397 iadd, 398 saload, 399 sastore, 400
-- iload 5, 402 iload 7, 404 iadd, 405 istore 5, 407 goto 379, 410 goto 494, 413 aload_0, 414 instanceof Object;, 417
-- ifeq 486, 420 aload_2, 421 instanceof Object;, 424 ifeq 486, 427 aload_0, 428 checkcast Object;, 431 astore 8, 433
-- aload_2, 434 checkcast Object;, 437 astore 9, 439 aload 8, 441 arraylength, 442 iload_1, 443 aload 9, 445
-- arraylength, 446 iload_3, 447 iload 4, 449 invokestatic check, 452 iload 5, 454 iload 6, 456 if_icmpeq 483, 459 aload
-- 9, 461 iload_3, 462 iload 5, 464 iadd, 465 aload 8, 467 iload_1, 468 iload 5, 470 iadd, 471 aaload, 472 aastore, 473
-- iload 5, 475 iload 7, 477 iadd, 478 istore 5, 480 goto 452, 483 goto 494, 486 new ArrayStoreException, 489 dup, 490
-- invokespecial ArrayStoreException.<init>, 493 athrow, 494 return
abbrev pub system_arraycopy_code : List ℕ
system_arraycopy_code =
    0x2a ∷ 0xc6 ∷ 0 ∷ 7 ∷ 0x2c ∷ 0xc7 ∷ 0 ∷ 11 ∷ 0xbb ∷ 0 ∷ 8 ∷ 0x59 ∷ 0xb7 ∷ 0 ∷ 12 ∷ 0xbf ∷ 0x03 ∷ 0x36 ∷ 5 ∷ 0x15 ∷ 4
    ∷ 0x36 ∷ 6 ∷ 0x04 ∷ 0x36 ∷ 7 ∷ 0x2a ∷ 0x2c ∷ 0xa6 ∷ 0 ∷ 20 ∷ 0x1b ∷ 0x1d ∷ 0xa2 ∷ 0 ∷ 15 ∷ 0x15 ∷ 4 ∷ 0x04 ∷ 0x64
    ∷ 0x36 ∷ 5 ∷ 0x02 ∷ 0x36 ∷ 6 ∷ 0x02 ∷ 0x36 ∷ 7 ∷ 0x2a ∷ 0xc1 ∷ 0 ∷ 14 ∷ 0x99 ∷ 0 ∷ 69 ∷ 0x2c ∷ 0xc1 ∷ 0 ∷ 14 ∷ 0x99
    ∷ 0 ∷ 62 ∷ 0x2a ∷ 0xc0 ∷ 0 ∷ 14 ∷ 0x3a ∷ 8 ∷ 0x2c ∷ 0xc0 ∷ 0 ∷ 14 ∷ 0x3a ∷ 9 ∷ 0x19 ∷ 8 ∷ 0xbe ∷ 0x1b ∷ 0x19 ∷ 9
    ∷ 0xbe ∷ 0x1d ∷ 0x15 ∷ 4 ∷ 0xb8 ∷ 0 ∷ 18 ∷ 0x15 ∷ 5 ∷ 0x15 ∷ 6 ∷ 0x9f ∷ 0 ∷ 27 ∷ 0x19 ∷ 9 ∷ 0x1d ∷ 0x15 ∷ 5 ∷ 0x60
    ∷ 0x19 ∷ 8 ∷ 0x1b ∷ 0x15 ∷ 5 ∷ 0x60 ∷ 0x2e ∷ 0x4f ∷ 0x15 ∷ 5 ∷ 0x15 ∷ 7 ∷ 0x60 ∷ 0x36 ∷ 5 ∷ 0xa7 ∷ 255 ∷ 228 ∷ 0xa7
    ∷ 1 ∷ 120 ∷ 0x2a ∷ 0xc1 ∷ 0 ∷ 20 ∷ 0x99 ∷ 0 ∷ 69 ∷ 0x2c ∷ 0xc1 ∷ 0 ∷ 20 ∷ 0x99 ∷ 0 ∷ 62 ∷ 0x2a ∷ 0xc0 ∷ 0 ∷ 20
    ∷ 0x3a ∷ 8 ∷ 0x2c ∷ 0xc0 ∷ 0 ∷ 20 ∷ 0x3a ∷ 9 ∷ 0x19 ∷ 8 ∷ 0xbe ∷ 0x1b ∷ 0x19 ∷ 9 ∷ 0xbe ∷ 0x1d ∷ 0x15 ∷ 4 ∷ 0xb8 ∷ 0
    ∷ 18 ∷ 0x15 ∷ 5 ∷ 0x15 ∷ 6 ∷ 0x9f ∷ 0 ∷ 27 ∷ 0x19 ∷ 9 ∷ 0x1d ∷ 0x15 ∷ 5 ∷ 0x60 ∷ 0x19 ∷ 8 ∷ 0x1b ∷ 0x15 ∷ 5 ∷ 0x60
    ∷ 0x34 ∷ 0x55 ∷ 0x15 ∷ 5 ∷ 0x15 ∷ 7 ∷ 0x60 ∷ 0x36 ∷ 5 ∷ 0xa7 ∷ 255 ∷ 228 ∷ 0xa7 ∷ 1 ∷ 47 ∷ 0x2a ∷ 0xc1 ∷ 0 ∷ 22
    ∷ 0x99 ∷ 0 ∷ 69 ∷ 0x2c ∷ 0xc1 ∷ 0 ∷ 22 ∷ 0x99 ∷ 0 ∷ 62 ∷ 0x2a ∷ 0xc0 ∷ 0 ∷ 22 ∷ 0x3a ∷ 8 ∷ 0x2c ∷ 0xc0 ∷ 0 ∷ 22
    ∷ 0x3a ∷ 9 ∷ 0x19 ∷ 8 ∷ 0xbe ∷ 0x1b ∷ 0x19 ∷ 9 ∷ 0xbe ∷ 0x1d ∷ 0x15 ∷ 4 ∷ 0xb8 ∷ 0 ∷ 18 ∷ 0x15 ∷ 5 ∷ 0x15 ∷ 6 ∷ 0x9f
    ∷ 0 ∷ 27 ∷ 0x19 ∷ 9 ∷ 0x1d ∷ 0x15 ∷ 5 ∷ 0x60 ∷ 0x19 ∷ 8 ∷ 0x1b ∷ 0x15 ∷ 5 ∷ 0x60 ∷ 0x33 ∷ 0x54 ∷ 0x15 ∷ 5 ∷ 0x15 ∷ 7
    ∷ 0x60 ∷ 0x36 ∷ 5 ∷ 0xa7 ∷ 255 ∷ 228 ∷ 0xa7 ∷ 0 ∷ 230 ∷ 0x2a ∷ 0xc1 ∷ 0 ∷ 24 ∷ 0x99 ∷ 0 ∷ 69 ∷ 0x2c ∷ 0xc1 ∷ 0 ∷ 24
    ∷ 0x99 ∷ 0 ∷ 62 ∷ 0x2a ∷ 0xc0 ∷ 0 ∷ 24 ∷ 0x3a ∷ 8 ∷ 0x2c ∷ 0xc0 ∷ 0 ∷ 24 ∷ 0x3a ∷ 9 ∷ 0x19 ∷ 8 ∷ 0xbe ∷ 0x1b ∷ 0x19
    ∷ 9 ∷ 0xbe ∷ 0x1d ∷ 0x15 ∷ 4 ∷ 0xb8 ∷ 0 ∷ 18 ∷ 0x15 ∷ 5 ∷ 0x15 ∷ 6 ∷ 0x9f ∷ 0 ∷ 27 ∷ 0x19 ∷ 9 ∷ 0x1d ∷ 0x15 ∷ 5
    ∷ 0x60 ∷ 0x19 ∷ 8 ∷ 0x1b ∷ 0x15 ∷ 5 ∷ 0x60 ∷ 0x33 ∷ 0x54 ∷ 0x15 ∷ 5 ∷ 0x15 ∷ 7 ∷ 0x60 ∷ 0x36 ∷ 5 ∷ 0xa7 ∷ 255 ∷ 228
    ∷ 0xa7 ∷ 0 ∷ 157 ∷ 0x2a ∷ 0xc1 ∷ 0 ∷ 26 ∷ 0x99 ∷ 0 ∷ 69 ∷ 0x2c ∷ 0xc1 ∷ 0 ∷ 26 ∷ 0x99 ∷ 0 ∷ 62 ∷ 0x2a ∷ 0xc0 ∷ 0
    ∷ 26 ∷ 0x3a ∷ 8 ∷ 0x2c ∷ 0xc0 ∷ 0 ∷ 26 ∷ 0x3a ∷ 9 ∷ 0x19 ∷ 8 ∷ 0xbe ∷ 0x1b ∷ 0x19 ∷ 9 ∷ 0xbe ∷ 0x1d ∷ 0x15 ∷ 4
    ∷ 0xb8 ∷ 0 ∷ 18 ∷ 0x15 ∷ 5 ∷ 0x15 ∷ 6 ∷ 0x9f ∷ 0 ∷ 27 ∷ 0x19 ∷ 9 ∷ 0x1d ∷ 0x15 ∷ 5 ∷ 0x60 ∷ 0x19 ∷ 8 ∷ 0x1b ∷ 0x15
    ∷ 5 ∷ 0x60 ∷ 0x35 ∷ 0x56 ∷ 0x15 ∷ 5 ∷ 0x15 ∷ 7 ∷ 0x60 ∷ 0x36 ∷ 5 ∷ 0xa7 ∷ 255 ∷ 228 ∷ 0xa7 ∷ 0 ∷ 84 ∷ 0x2a ∷ 0xc1
    ∷ 0 ∷ 28 ∷ 0x99 ∷ 0 ∷ 69 ∷ 0x2c ∷ 0xc1 ∷ 0 ∷ 28 ∷ 0x99 ∷ 0 ∷ 62 ∷ 0x2a ∷ 0xc0 ∷ 0 ∷ 28 ∷ 0x3a ∷ 8 ∷ 0x2c ∷ 0xc0 ∷ 0
    ∷ 28 ∷ 0x3a ∷ 9 ∷ 0x19 ∷ 8 ∷ 0xbe ∷ 0x1b ∷ 0x19 ∷ 9 ∷ 0xbe ∷ 0x1d ∷ 0x15 ∷ 4 ∷ 0xb8 ∷ 0 ∷ 18 ∷ 0x15 ∷ 5 ∷ 0x15 ∷ 6
    ∷ 0x9f ∷ 0 ∷ 27 ∷ 0x19 ∷ 9 ∷ 0x1d ∷ 0x15 ∷ 5 ∷ 0x60 ∷ 0x19 ∷ 8 ∷ 0x1b ∷ 0x15 ∷ 5 ∷ 0x60 ∷ 0x32 ∷ 0x53 ∷ 0x15 ∷ 5
    ∷ 0x15 ∷ 7 ∷ 0x60 ∷ 0x36 ∷ 5 ∷ 0xa7 ∷ 255 ∷ 228 ∷ 0xa7 ∷ 0 ∷ 11 ∷ 0xbb ∷ 0 ∷ 30 ∷ 0x59 ∷ 0xb7 ∷ 0 ∷ 31 ∷ 0xbf ∷ 0xb1
    ∷ []

-- System.check(IIIII)V: 0 iload_1, 1 iflt 29, 4 iload_3, 5 iflt 29, 8 iload 4, 10 iflt 29, 13 iload_1, 14 iload_0, 15
-- iload 4, 17 isub, 18 if_icmpgt 29, 21 iload_3, 22 iload_2, 23 iload 4, 25 isub, 26 if_icmple 37, 29 new
-- ArrayIndexOutOfBoundsException, 32 dup, 33 invokespecial ArrayIndexOutOfBoundsException.<init>, 36 athrow, 37 return
abbrev pub system_check_code : List ℕ
system_check_code =
    0x1b ∷ 0x9b ∷ 0 ∷ 28 ∷ 0x1d ∷ 0x9b ∷ 0 ∷ 24 ∷ 0x15 ∷ 4 ∷ 0x9b ∷ 0 ∷ 19 ∷ 0x1b ∷ 0x1a ∷ 0x15 ∷ 4 ∷ 0x64 ∷ 0xa3 ∷ 0
    ∷ 11 ∷ 0x1d ∷ 0x1c ∷ 0x15 ∷ 4 ∷ 0x64 ∷ 0xa4 ∷ 0 ∷ 11 ∷ 0xbb ∷ 0 ∷ 33 ∷ 0x59 ∷ 0xb7 ∷ 0 ∷ 34 ∷ 0xbf ∷ 0xb1 ∷ []

abbrev pub system_coded : List Coded
system_coded =
    coded 0x0009 38 39 1 0 system_line_separator_code
    ∷ coded 0x0009 40 41 5 10 system_arraycopy_code
    ∷ coded 0x000a 15 16 3 5 system_check_code
    ∷ []

abbrev pub system_methods : List Declared
system_methods =
    declared static_native_method (codes "identityHashCode") (codes "(Ljava/lang/Object;)I")
    ∷ []

abbrev pub system_operands : List Entry
system_operands =
    Utf8 (codes "\n") ∷ String 5 ∷ Utf8 (codes "java/lang/NullPointerException") ∷ Class 7 ∷ Utf8 (codes "<init>")
    ∷ Utf8 (codes "()V") ∷ NameAndType 9 10 ∷ Method 8 11 ∷ Utf8 (codes "[I") ∷ Class 13 ∷ Utf8 (codes "check")
    ∷ Utf8 (codes "(IIIII)V") ∷ NameAndType 15 16 ∷ Method 2 17 ∷ Utf8 (codes "[C") ∷ Class 19 ∷ Utf8 (codes "[B")
    ∷ Class 21 ∷ Utf8 (codes "[Z") ∷ Class 23 ∷ Utf8 (codes "[S") ∷ Class 25 ∷ Utf8 (codes "[Ljava/lang/Object;")
    ∷ Class 27 ∷ Utf8 (codes "java/lang/ArrayStoreException") ∷ Class 29 ∷ Method 30 11
    ∷ Utf8 (codes "java/lang/ArrayIndexOutOfBoundsException") ∷ Class 32 ∷ Method 33 11 ∷ Utf8 (codes "out")
    ∷ Utf8 (codes "Ljava/io/PrintStream;") ∷ Utf8 (codes "err") ∷ Utf8 (codes "lineSeparator")
    ∷ Utf8 (codes "()Ljava/lang/String;") ∷ Utf8 (codes "arraycopy")
    ∷ Utf8 (codes "(Ljava/lang/Object;ILjava/lang/Object;II)V") ∷ Utf8 (codes "Code") ∷ []

abbrev pub system_class : FileTree
system_class =
    tree_of (record {
      flags = final_class;
      name = codes "java/lang/System";
      superclass = Some (codes "java/lang/Object");
      interfaces = [];
      operands = system_operands;
      fields = field 0x0019 35 36 ∷ field 0x0019 37 36 ∷ [];
      coded = system_coded;
      natives = system_methods;
    })
