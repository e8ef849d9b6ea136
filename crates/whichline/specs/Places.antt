-- Where writing into a buffer stops: how far it is filled after what was put.
use Rattle.std.specs.Prelude.{ℕ, ◌+◌, ◌≤◌, max, ◌≡◌, Bool, true, cond, not, ◌&&◌, ◌||◌, List, [], ◌∷◌, eqb, ltb, leb, length, Option, Some, None, Ok, Err}
use Rattle.bytestrings.specs.Text.{char, tab, newline, carriage_return}
use Rattle.bytestrings.specs.Bytes.{first_is}
use Rattle.io.specs.Digits.{IsDigitCount}
use Rattle.refusals.specs.Numbers.{number_of}
use Rattle.answers.specs.Complete.{IgnoreAnswer, AttributeAnswer}
use Rattle.whichline.specs.Filled.{Filled}
use Rattle.whichline.specs.declared.listing.Entry.{Entry}

-- n bytes more are put: after them, or where it was if they do not fit
unfoldable pub after : Filled → ℕ → Filled
after out n = record { room = out.room; at = cond (leb (out.at + n) out.room) (out.at + n) out.at }

-- where what was put depends on the outside: not before the place, and not past the buffer
abbrev pub Onward : Filled → Filled → Type 0
Onward out r = (r.room ≡ out.room) × (out.at ≤ r.at) × (r.at ≤ max out.at out.room)

-- a number's decimal digits are put
abbrev pub AfterNumber : Filled → ℕ → Filled → Type 0
AfterNumber out n r = (digits : ℕ) × IsDigitCount 10 1 n digits × (r ≡ after out digits)

-- a byte that is no character of text
unfoldable pub control : ℕ → Bool
control b = ltb b 32 || eqb b 127

-- the letter that stands for a byte after a `\`, as in C
unfoldable pub letter_of : ℕ → Option ℕ
letter_of b =
    cond (eqb b 7) (Some (char "a"))
    (cond (eqb b 8) (Some (char "b"))
    (cond (eqb b tab) (Some (char "t"))
    (cond (eqb b newline) (Some (char "n"))
    (cond (eqb b 11) (Some (char "v"))
    (cond (eqb b 12) (Some (char "f"))
    (cond (eqb b carriage_return) (Some (char "r"))
    (cond (eqb b (char "\"")) (Some (char "\""))
    (cond (eqb b (char "\\")) (Some (char "\\")) None))))))))

-- a byte between quotes is put: a letter after a `\`, three octal digits after it, or itself
abbrev pub after_quoted_by : Option ℕ → Filled → ℕ → Filled
after_quoted_by (Some l) out b = after (after out 1) 1
after_quoted_by None out b = after out (cond (control b) 4 1)

unfoldable pub after_quoted : Filled → ℕ → Filled
after_quoted out b = after_quoted_by (letter_of b) out b

-- one after the other
abbrev pub after_bytes : Filled → List ℕ → Filled
after_bytes out [] = out
after_bytes out (b ∷ s) = after_bytes (after_quoted out b) s

-- no byte is a control byte
abbrev pub is_text : List ℕ → Bool
is_text [] = true
is_text (b ∷ s) = not (control b) && is_text s

-- a field is written as it is
unfoldable pub plain : List ℕ → Bool
plain s = not (first_is (char "\"") s) && is_text s

-- a field is put: as it is, or between quotes
unfoldable pub after_field : Filled → List ℕ → Filled
after_field out s = cond (plain s) (after out (length s)) (after (after_bytes (after out 1) s) 1)

-- a path is put as the listing has it: of a line that is too long, its front and three dots
abbrev pub after_entry : Filled → Entry → Filled
after_entry out entry = cond entry.cut (after (after_field out entry.line.now) 3) (after_field out entry.line.now)

-- how many bytes the words of a refusal have
unfoldable pub reason_length : ℕ → ℕ
reason_length n =
    cond (eqb n 1) 166 (cond (eqb n 2) 39 (cond (eqb n 3) 61 (cond (eqb n 4) 36 (cond (eqb n 5) 56 (cond (eqb n 6) 116 13)))))

-- a refusal is put: `refused `, its number, `: ` and its words
abbrev pub AfterRefusal : Filled → ℕ → Filled → Type 0
AfterRefusal out n r =
    (number : Filled) × AfterNumber (after out 8) n number × (r ≡ after (after number 2) (reason_length n))

-- an answer of the ignore question is put; the rule file that a decision names is an argument, which comes from the outside
abbrev pub AfterIgnore : Filled → IgnoreAnswer → Filled → Type 0
AfterIgnore out (Ok None) r = r ≡ after out 7
AfterIgnore out (Ok (Some decided)) r = Onward out r
AfterIgnore out (Err refusal) r = AfterRefusal out (number_of refusal) r

-- the same for the attribute question
abbrev pub AfterAttribute : Filled → AttributeAnswer → Filled → Type 0
AfterAttribute out (Ok None) r = r ≡ after out 7
AfterAttribute out (Ok (Some decided)) r = Onward out r
AfterAttribute out (Err refusal) r = AfterRefusal out (number_of refusal) r
