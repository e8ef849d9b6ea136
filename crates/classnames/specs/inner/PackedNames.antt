-- How the code holds the names, packed into one number each.
use Rattle.std.specs.Prelude.{ℕ, Bool, ◌+◌, ◌*◌, ◌||◌, List, [], ◌∷◌, eqb, length}

-- the bytes packed into one number, the first lowest, and a 1 above the last
unfoldable pub packed : List ℕ → ℕ
packed [] = 1
packed (x ∷ s) = packed s * 256 + x

-- the twelve names so
abbrev pub packed_names : List ℕ
packed_names =
    0x01_6d_75_6e_6c_61  -- alnum
    ∷ 0x01_61_68_70_6c_61  -- alpha
    ∷ 0x01_6b_6e_61_6c_62  -- blank
    ∷ 0x01_6c_72_74_6e_63  -- cntrl
    ∷ 0x01_74_69_67_69_64  -- digit
    ∷ 0x01_68_70_61_72_67  -- graph
    ∷ 0x01_72_65_77_6f_6c  -- lower
    ∷ 0x01_74_6e_69_72_70  -- print
    ∷ 0x01_74_63_6e_75_70  -- punct
    ∷ 0x01_65_63_61_70_73  -- space
    ∷ 0x01_72_65_70_70_75  -- upper
    ∷ 0x01_74_69_67_69_64_78  -- xdigit
    ∷ []

-- five or six bytes, as each of the names has
unfoldable pub may_be_name : List ℕ → Bool
may_be_name s = eqb (length s) 5 || eqb (length s) 6
