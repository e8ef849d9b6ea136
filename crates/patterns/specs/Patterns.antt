-- Document 01, "Patterns": "A pattern is read left to right into items".
use Rattle.std.specs.Prelude.{ℕ, zero, suc, pred, Bool, true, cond, ◌&&◌, ◌||◌, List, [], ◌∷◌, eqb, leb, drop, Option, None, Some}
use Rattle.bytestrings.specs.Text.{char}
use Rattle.bytestrings.specs.Bytes.{first_is}
use Rattle.classes.specs.Members.{Class, read_class}

-- How far a star run reaches in path mode: within a component; or it *crosses*, 01's term; or it crosses and an unescaped `/` follows.
pub data Reach : Type 0 where
  within : Reach
  crossing : Reach
  crossing_slash : Reach

-- an *item*, 01's term: a literal byte, `?`, a class, or a star run
pub data Item : Type 0 where
  literal : ℕ → Item
  any_byte : Item
  one_of : Class → Item
  run : Reach → Item

-- what stands at the start of a pattern: the pattern is *broken* here, 01's term, or an item and the number of bytes that it is written with
pub data First : Type 0 where
  broken : First
  item : Item → ℕ → First

-- "A star run is a longest row of `*`": its length
unfoldable pub stars : List ℕ → ℕ
stars [] = 0
stars (x ∷ p) = cond (eqb x (char "*")) (suc (stars p)) 0

-- an unescaped `/` is next
unfoldable pub starts_slash : List ℕ → Bool
starts_slash p = first_is (char "/") p

-- "followed by the end, `/` or `\/`"
unfoldable pub component_ends : List ℕ → Bool
component_ends [] = true
component_ends (x ∷ p) = eqb x (char "/") || eqb x (char "\\") && starts_slash p

-- "starts the pattern or follows a byte `/`, and is followed by the end, `/` or `\/`. Then it *crosses*". Where 01 has "exactly two stars" and "Three
-- or more stars count as one star", 02's R-2 has "any run of two or more as it treats two".
-- `after`: the run starts the pattern, or follows a byte `/`; n: how many stars; p: what follows them
unfoldable pub crosses : Bool → ℕ → List ℕ → Bool
crosses after n p = after && (leb 2 n && component_ends p)

-- how far a run of n stars reaches, with p after it; a case of its own is "A crossing run followed by an unescaped `/`"
unfoldable pub reach_of : Bool → ℕ → List ℕ → Reach
reach_of after n p = cond (crosses after n p) (cond (starts_slash p) crossing_slash crossing) within

-- the run at the start of a pattern
unfoldable pub read_run : Bool → List ℕ → First
read_run after p = item (run (reach_of after (stars p) (drop (stars p) p))) (stars p)

-- "`\x` is the literal x. A `\` at the end makes the pattern broken."
abbrev pub read_escaped : List ℕ → First
read_escaped [] = broken
read_escaped (y ∷ p) = item (literal y) 2

-- the item that a `[` begins, by the class after it
unfoldable pub read_bracket : Option Class → First
read_bracket None = broken
read_bracket (Some c) = item (one_of c) (suc c.size)

-- the item whose first byte is x, with p after that byte. "Any other byte is literal."
unfoldable pub read_item : Bool → ℕ → List ℕ → First
read_item after x p =
    cond (eqb x (char "\\")) (read_escaped p)
    (cond (eqb x (char "?")) (item any_byte 1)
    (cond (eqb x (char "*")) (read_run after (x ∷ p))
    (cond (eqb x (char "[")) (read_bracket (read_class p))
    (item (literal x) 1))))

-- one item more; a broken rest stays broken
abbrev pub and_item : Item → Option (List Item) → Option (List Item)
and_item it None = None
and_item it (Some its) = Some (it ∷ its)

-- the first item and then the items after its n bytes, of which the first byte is passed already
abbrev pub items_after : First → (ℕ → Option (List Item)) → Option (List Item)
items_after broken rest = None
items_after (item it n) rest = and_item it (rest (pred n))

-- the items of a pattern of which the first k bytes belong to an item that was read; none: "broken".
-- `after`: the pattern starts here, or the byte before is `/`
unfoldable pub items_from : List ℕ → ℕ → Bool → Option (List Item)
items_from [] k after = Some []
items_from (x ∷ p) zero after = items_after (read_item after x p) (λ n. items_from p n (eqb x (char "/")))
items_from (x ∷ p) (suc k) after = items_from p k (eqb x (char "/"))

-- the items of a whole pattern
abbrev pub items : List ℕ → Option (List Item)
items p = items_from p 0 true
