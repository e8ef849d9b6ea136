-- The bytes that a field of a row writes: each by itself, or by `%HH`, an escape with its two hexadecimal digits.
use Rattle.std.specs.Prelude.{ℕ, ◌+◌, ◌-◌, ◌*◌, cond, ◌&&◌, Option, None, Some, List, [], ◌∷◌, ◌++◌, length, eqb, leb}
use Rattle.bytestrings.specs.Text.{char}

-- the value of a hexadecimal digit
unfoldable pub hex_value : ℕ → Option ℕ
hex_value b =
    cond (leb (char "0") b && leb b (char "9")) (Some (b - char "0"))
    (cond (leb (char "a") b && leb b (char "f")) (Some (b - char "a" + 10)) None)

-- the byte that two digits of these values write
abbrev pub byte_of : Option ℕ → Option ℕ → Option ℕ
byte_of None low = None
byte_of (Some high) None = None
byte_of (Some high) (Some low) = Some (high * 16 + low)

unfoldable pub hex_byte : ℕ → ℕ → Option ℕ
hex_byte high low = byte_of (hex_value high) (hex_value low)

-- a byte, if there is one, and what stands behind it
abbrev pub before : Option ℕ → List ℕ → Option (ℕ × List ℕ)
before None rest = None
before (Some b) rest = Some (b, rest)

-- the byte that the first bytes of a field write, and what stands behind them; none where an escape is broken or cut off
unfoldable pub first_byte : List ℕ → Option (ℕ × List ℕ)
first_byte [] = None
first_byte (b ∷ []) = cond (eqb b (char "%")) None (Some (b, []))
first_byte (b ∷ c ∷ []) = cond (eqb b (char "%")) None (Some (b, c ∷ []))
first_byte (b ∷ c ∷ d ∷ s) = cond (eqb b (char "%")) (before (hex_byte c d) s) (Some (b, c ∷ d ∷ s))

-- more bytes behind one, if there is one
abbrev pub with_byte : Option ℕ → (ℕ → Option (List ℕ)) → Option (List ℕ)
with_byte None more = None
with_byte (Some b) more = more b

-- the bytes that a field writes, behind some that are written
abbrev pub decoded_behind : List ℕ → List ℕ → Option (List ℕ)
decoded_behind done [] = Some done
decoded_behind done (b ∷ []) = cond (eqb b (char "%")) None (Some (done ++ b ∷ []))
decoded_behind done (b ∷ c ∷ []) = cond (eqb b (char "%")) None (decoded_behind (done ++ b ∷ []) (c ∷ []))
decoded_behind done (b ∷ c ∷ d ∷ s) =
    cond (eqb b (char "%")) (with_byte (hex_byte c d) (λ x. decoded_behind (done ++ x ∷ []) s)) (decoded_behind (done ++ b ∷ []) (c ∷ d ∷ s))

-- the bytes that a field writes; none where an escape is broken or cut off
unfoldable pub decoded : List ℕ → Option (List ℕ)
decoded field = decoded_behind [] field

-- the same where they are no more than there is room for; else none
abbrev pub within : ℕ → Option (List ℕ) → Option (List ℕ)
within room None = None
within room (Some bytes) = cond (leb (length bytes) room) (Some bytes) None

unfoldable pub decoded_within : ℕ → List ℕ → Option (List ℕ)
decoded_within room field = within room (decoded field)
