-- Document 01, "When a question is turned away": the limits, each named once, in the table's order. A condition is "over" its limit: "a line of 2,048 bytes is read, 2,049 refused".
use Rattle.std.specs.Prelude.{ℕ}

-- "path .. over 4,096 bytes"
abbrev pub path_limit : ℕ
path_limit = 4096

-- "over 64 files"
abbrev pub files_limit : ℕ
files_limit = 64

-- "rule bytes over 65,536"
abbrev pub rules_limit : ℕ
rules_limit = 65536

-- "a line over 2,048 bytes"
abbrev pub line_limit : ℕ
line_limit = 2048

-- "attribute asked for is .. over 255 bytes"
abbrev pub name_limit : ℕ
name_limit = 255

-- "pattern over 2,048 bytes"
abbrev pub pattern_limit : ℕ
pattern_limit = 2048

-- "text over 4,096"
abbrev pub text_limit : ℕ
text_limit = 4096

-- "flags number above 3"
abbrev pub flags_limit : ℕ
flags_limit = 3
