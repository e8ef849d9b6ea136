-- Document 01, "Patterns": "one of the twelve names .. over ASCII as in the POSIX locale".
use Rattle.std.specs.Prelude.{ℕ, Bool, false, ◌||◌, List, [], ◌∷◌, map, get_or, Option}
use Rattle.std.specs.List.{position}
use Rattle.bytestrings.specs.Bytes.{in_range, same_bytes}
use Rattle.bytestrings.specs.Text.{char, text, tab, carriage_return}

-- the twelve names, in the paper's order, each with the ranges of bytes that it lists, by their first and last byte
unfoldable pub table : List (List ℕ × List (ℕ × ℕ))
table =
    (text "alnum", (char "0", char "9") ∷ (char "A", char "Z") ∷ (char "a", char "z") ∷ [])
    ∷ (text "alpha", (char "A", char "Z") ∷ (char "a", char "z") ∷ [])
    ∷ (text "blank", (tab, tab) ∷ (char " ", char " ") ∷ [])
    ∷ (text "cntrl", (0, 31) ∷ (127, 127) ∷ [])
    ∷ (text "digit", (char "0", char "9") ∷ [])
    ∷ (text "graph", (char "!", char "~") ∷ [])
    ∷ (text "lower", (char "a", char "z") ∷ [])
    ∷ (text "print", (char " ", char "~") ∷ [])
    ∷ (text "punct", (char "!", char "/") ∷ (char ":", char "@") ∷ (char "[", char "`") ∷ (char "{", char "~") ∷ [])
    ∷ (text "space", (tab, carriage_return) ∷ (char " ", char " ") ∷ [])  -- 11 and 12 too, which git lacks
    ∷ (text "upper", (char "A", char "Z") ∷ [])
    ∷ (text "xdigit", (char "0", char "9") ∷ (char "A", char "F") ∷ (char "a", char "f") ∷ [])
    ∷ []

-- the names
unfoldable pub names : List (List ℕ)
names = map (λ row. row.0) table

-- the ranges of each
unfoldable pub spans : List (List (ℕ × ℕ))
spans = map (λ row. row.1) table

-- x lies in one of the ranges
abbrev pub in_spans : List (ℕ × ℕ) → ℕ → Bool
in_spans [] x = false
in_spans (s ∷ ss) x = in_range s.0 s.1 x || in_spans ss x

-- the k-th name lists the byte x; there is no name from 12 on
unfoldable pub named : ℕ → ℕ → Bool
named k x = in_spans (get_or spans k []) x

-- which of the twelve it is; none: "a name outside the twelve, the empty name too"
unfoldable pub which_name : List ℕ → Option ℕ
which_name name = position (λ known. same_bytes known name) names
