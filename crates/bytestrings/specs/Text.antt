-- Bytes as they are written in documents 01 and 02: a character stands for its ASCII byte, a string for its bytes.
use Rattle.std.specs.Prelude.{ℕ, List, [], ◌∷◌}
use Prim.Native.Char.{Char, code}
use Prim.Native.String.{String, [] as empty, ◌∷◌ as ◌then◌}

-- the byte of a character
abbrev pub char : Char → ℕ
char c = code c

-- the bytes of a string
abbrev pub text : String → List ℕ
text empty = []
text (c then s) = code c ∷ text s

-- the control bytes that 01 names: a tab; "byte 10", a newline; "CR"
abbrev pub tab : ℕ
tab = 9

abbrev pub newline : ℕ
newline = 10

abbrev pub carriage_return : ℕ
carriage_return = 13
