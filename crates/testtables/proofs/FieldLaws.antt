-- A field is decoded one byte after the other.
use Rattle.std.proofs.Common.{ℕ, Bool, true, false, cond, ◌≡◌, refl, ap, ◌∙◌, List, [], ◌∷◌, ◌++◌, Option, None, Some, eqb, length, ◌<◌, arith}
use Rattle.bytestrings.specs.Text.{char}
use lib.ListN.{length-append}
use Rattle.std.proofs.lemmas.Bool.{lt-leb}
use Rattle.testtables.specs.Fields.{hex_byte, first_byte, before, with_byte, decoded_behind, decoded, within, decoded_within}

-- the fact about the byte at the front and what stands behind it
abbrev Goes : List ℕ → List ℕ → ℕ → List ℕ → Type 0
Goes done field x rest = (decoded_behind done field ≡ decoded_behind (done ++ x ∷ []) rest) × (length rest < length field)

-- where the first bytes write none, the field writes none
pub stopped : (done field : List ℕ) → 0 < length field → first_byte field ≡ None → decoded_behind done field ≡ None
unfolding first_byte
stopped done [] h e = absurd (omega arith)
stopped done (b ∷ []) h e = go (eqb b (char "%")) e
  where
    go : (t : Bool) → cond {A = Option (ℕ × List ℕ)} t None (Some (b, [])) ≡ None → cond t None (Some (done ++ b ∷ [])) ≡ None
    go true e = refl
    go false e = cc
stopped done (b ∷ c ∷ []) h e = go (eqb b (char "%")) e
  where
    go : (t : Bool) → cond {A = Option (ℕ × List ℕ)} t None (Some (b, c ∷ [])) ≡ None → cond t None (decoded_behind (done ++ b ∷ []) (c ∷ [])) ≡ None
    go true e = refl
    go false e = cc
stopped done (b ∷ c ∷ d ∷ s) h e = go (eqb b (char "%")) (hex_byte c d) e
  where
    go : (t : Bool) (v : Option ℕ) → cond {A = Option (ℕ × List ℕ)} t (before v s) (Some (b, c ∷ d ∷ s)) ≡ None
        → cond t (with_byte v (λ y. decoded_behind (done ++ y ∷ []) s)) (decoded_behind (done ++ b ∷ []) (c ∷ d ∷ s)) ≡ None
    go true None e = refl
    go true (Some y) e = cc
    go false v e = cc

abbrev one : ℕ → List ℕ → Option (ℕ × List ℕ)
one b s = Some (b, s)

byte_in : Option (ℕ × List ℕ) → ℕ
byte_in None = 0
byte_in (Some p) = p.0

rest_in : Option (ℕ × List ℕ) → List ℕ
rest_in None = []
rest_in (Some p) = p.1

module _ (done : List ℕ) (x : ℕ) (rest : List ℕ) where
  same : (b : ℕ) (s field : List ℕ) → decoded_behind done field ≡ decoded_behind (done ++ b ∷ []) s → length s < length field
      → one b s ≡ one x rest → Goes done field x rest
  unfolding byte_in rest_in
  same b s field e h f = let p : b ≡ x = ap byte_in f in let q : s ≡ rest = ap rest_in f in rw (← p, ← q) (e, h)

-- where they write one, the rest writes on behind it, and is shorter
goes : (done field : List ℕ) (x : ℕ) (rest : List ℕ) → first_byte field ≡ Some (x, rest) → Goes done field x rest
unfolding first_byte
goes done [] x rest e = cc
goes done (b ∷ []) x rest e = go (eqb b (char "%")) refl e
  where
    go : (t : Bool) → eqb b (char "%") ≡ t → cond t None (one b []) ≡ one x rest → Goes done (b ∷ []) x rest
    go true h e = cc
    go false h e = same done x rest b [] (b ∷ []) (rw h refl) (omega arith) e
goes done (b ∷ c ∷ []) x rest e = go (eqb b (char "%")) refl e
  where
    go : (t : Bool) → eqb b (char "%") ≡ t → cond t None (one b (c ∷ [])) ≡ one x rest → Goes done (b ∷ c ∷ []) x rest
    go true h e = cc
    go false h e = same done x rest b (c ∷ []) (b ∷ c ∷ []) (rw h refl) (omega arith) e
goes done (b ∷ c ∷ d ∷ s) x rest e = go (eqb b (char "%")) (hex_byte c d) refl refl e
  where
    go : (t : Bool) (v : Option ℕ) → eqb b (char "%") ≡ t → hex_byte c d ≡ v → cond t (before v s) (one b (c ∷ d ∷ s)) ≡ one x rest → Goes done (b ∷ c ∷ d ∷ s) x rest
    go true None h k e = cc
    go true (Some y) h k e = same done x rest y s (b ∷ c ∷ d ∷ s) (rw (h, k) refl) (omega arith) e
    go false v h k e = same done x rest b (c ∷ d ∷ s) (b ∷ c ∷ d ∷ s) (rw h refl) (omega arith) e

pub one_more : (done field : List ℕ) (x : ℕ) (rest : List ℕ) → first_byte field ≡ Some (x, rest) → decoded_behind done field ≡ decoded_behind (done ++ x ∷ []) rest
one_more done field x rest e = (goes done field x rest e).0

pub shorter : (field : List ℕ) (x : ℕ) (rest : List ℕ) → first_byte field ≡ Some (x, rest) → length rest < length field
shorter field x rest e = (goes [] field x rest e).1

-- a field that writes nothing
pub within_none : (room : ℕ) (field : List ℕ) → decoded field ≡ None → decoded_within room field ≡ None
unfolding decoded_within
within_none room field e = ap (within room) e

-- what has more bytes behind it than there is room for stays so
over : (room : ℕ) (done : List ℕ) → room < length done → within room (Some done) ≡ None
over room done h = ap (λ (t : Bool). cond t (Some done) None) (lt-leb (length done) room h)

more : (room x : ℕ) (done : List ℕ) → room < length done → room < length (done ++ x ∷ [])
more room x done h = rw (length-append done (x ∷ [])) (omega arith)

too_long : (room : ℕ) (done field : List ℕ) → room < length done → within room (decoded_behind done field) ≡ None
too_long room done [] h = over room done h
too_long room done (b ∷ []) h = go (eqb b (char "%")) (over room (done ++ b ∷ []) (more room b done h))
  where
    go : (t : Bool) → within room (Some (done ++ b ∷ [])) ≡ None → within room (cond t None (Some (done ++ b ∷ []))) ≡ None
    go true k = refl
    go false k = k
too_long room done (b ∷ c ∷ []) h = go (eqb b (char "%")) (too_long room (done ++ b ∷ []) (c ∷ []) (more room b done h))
  where
    go : (t : Bool) → within room (decoded_behind (done ++ b ∷ []) (c ∷ [])) ≡ None → within room (cond t None (decoded_behind (done ++ b ∷ []) (c ∷ []))) ≡ None
    go true k = refl
    go false k = k
too_long room done (b ∷ c ∷ d ∷ s) h =
    go (eqb b (char "%")) (hex_byte c d) (λ y. too_long room (done ++ y ∷ []) s (more room y done h)) (too_long room (done ++ b ∷ []) (c ∷ d ∷ s) (more room b done h))
  where
    go : (t : Bool) (v : Option ℕ) → ((y : ℕ) → within room (decoded_behind (done ++ y ∷ []) s) ≡ None)
        → within room (decoded_behind (done ++ b ∷ []) (c ∷ d ∷ s)) ≡ None
        → within room (cond t (with_byte v (λ y. decoded_behind (done ++ y ∷ []) s)) (decoded_behind (done ++ b ∷ []) (c ∷ d ∷ s))) ≡ None
    go true None g k = refl
    go true (Some y) g k = g y
    go false v g k = k

pub full : (room : ℕ) (field done rest : List ℕ) (x : ℕ) (behind : List ℕ) → decoded_behind [] field ≡ decoded_behind done rest
    → first_byte rest ≡ Some (x, behind) → length done ≡ room → decoded_within room field ≡ None
unfolding decoded_within decoded
full room field done rest x behind e f l =
    ap (within room) (e ∙ one_more done rest x behind f) ∙ too_long room (done ++ x ∷ []) behind (rw (length-append done (x ∷ [])) (omega arith))
