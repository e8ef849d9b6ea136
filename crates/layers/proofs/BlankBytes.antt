-- Overwriting the bytes of one file: each byte stays or becomes a space.
use Prim.Native.Nat.{ℕ, suc, ◌+◌}
use mathlib.Core.Path.{◌≡◌, refl, sym, ap, subst, ◌∙◌}
use mathlib.Core.Logic.{◌⊎◌, inl, inr, ⊎_elim}
use mathlib.Core.Bool.{Bool, true, false, ◌&&◌, and-false}
use mathlib.Core.List.Memᴰ
use mathlib.Core.List.{List, [], ◌∷◌, ◌++◌, Memᴰ}
use native.Mathlib.Omega.{arith}
use lib.Dec.{eqb}
use lib.ListN.{length, take, drop, length-append, take-append-drop}
use Rattle.bytestrings.specs.Text.{char, newline}
use Rattle.rulefiles.specs.RuleFiles.{has_bom, bom_length}
use Rattle.bytestrings.specs.Bytes.{is_empty}
use Rattle.layers.specs.Blanking.{overwritten, blanked_file}

pub member-take : (n : ℕ) (s : List ℕ) (x : ℕ) → Memᴰ x (take n s) → Memᴰ x s
member-take n s x m = subst (Memᴰ x) (take-append-drop n s) (Memᴰ.append_left (drop n s) m)

pub member-drop : (n : ℕ) (s : List ℕ) (x : ℕ) → Memᴰ x (drop n s) → Memᴰ x s
member-drop n s x m = subst (Memᴰ x) (take-append-drop n s) (Memᴰ.append_right (take n s) m)

module _ (chosen : ℕ → Bool) where
  -- the first byte, and the rest from some line on
  first_byte : (n b : ℕ) (s : List ℕ) → (x : ℕ) × (k : ℕ) × (overwritten chosen n (b ∷ s) ≡ x ∷ overwritten chosen k s) × ((x ≡ b) ⊎ (x ≡ char " "))
  unfolding overwritten
  first_byte n b s = go (eqb b newline) (chosen n) refl refl
    where
      go : (t c : Bool) → eqb b newline ≡ t → chosen n ≡ c → (x : ℕ) × (k : ℕ) × (overwritten chosen n (b ∷ s) ≡ x ∷ overwritten chosen k s) × ((x ≡ b) ⊎ (x ≡ char " "))
      go true c e f = (b, suc n, rw e, inl refl)
      go false true e f = (char " ", n, rw (e, f), inr refl)
      go false false e f = (b, n, rw (e, f), inl refl)

  pub length-overwritten : (n : ℕ) (s : List ℕ) → length (overwritten chosen n s) ≡ length s
  unfolding overwritten
  length-overwritten n [] = refl
  length-overwritten n (b ∷ s) = let f = first_byte n b s in ap length f.2 ∙ ap suc (length-overwritten f.1 s)

  pub zero_overwritten : (n : ℕ) (s : List ℕ) → Memᴰ 0 (overwritten chosen n s) → Memᴰ 0 s
  unfolding overwritten
  zero_overwritten n [] m = m
  zero_overwritten n (b ∷ s) m =
      let f = first_byte n b s in
      ⊎_elim (λ e. Memᴰ.head (⊎_elim (λ a. e ∙ a) (λ a. absurd (omega (arith, e, a))) f.3)) (λ r. Memᴰ.tail (zero_overwritten f.1 s r))
      (Memᴰ.cases_cons (rw f.2 at m))

  -- no BOM arises
  bom-from : (a b c x y z : ℕ) → (x ≡ a) ⊎ (x ≡ char " ") → (y ≡ b) ⊎ (y ≡ char " ") → (z ≡ c) ⊎ (z ≡ char " ")
      → eqb a 0xEF && (eqb b 0xBB && eqb c 0xBF) ≡ false → eqb x 0xEF && (eqb y 0xBB && eqb z 0xBF) ≡ false
  bom-from a b c x y z (inr e) q r h = rw e
  bom-from a b c x y z (inl p) (inr e) r h = rw (e, and-false)
  bom-from a b c x y z (inl p) (inl q) (inr e) h = rw (e, and-false, and-false)
  bom-from a b c x y z (inl p) (inl q) (inl r) h = rw (p, q, r) h

  pub bom-overwritten : (n : ℕ) (s : List ℕ) → has_bom s ≡ false → has_bom (overwritten chosen n s) ≡ false
  unfolding overwritten
  bom-overwritten n [] h = refl
  bom-overwritten n (a ∷ []) h = let f = first_byte n a [] in ap has_bom f.2
  bom-overwritten n (a ∷ b ∷ []) h =
      let f = first_byte n a (b ∷ []) in
      let g = first_byte f.1 b [] in
      ap has_bom (f.2 ∙ ap {B = List ℕ} (λ (r : List ℕ). f.0 ∷ r) g.2)
  bom-overwritten n (a ∷ b ∷ c ∷ s) h =
      let f = first_byte n a (b ∷ c ∷ s) in
      let g = first_byte f.1 b (c ∷ s) in
      let k = first_byte g.1 c s in
      ap has_bom (f.2 ∙ ap {B = List ℕ} (λ (r : List ℕ). f.0 ∷ r) (g.2 ∙ ap {B = List ℕ} (λ (r : List ℕ). g.0 ∷ r) k.2))
      ∙ bom-from a b c f.0 g.0 k.0 f.3 g.3 k.3 h

  -- the file's bytes: with its BOM, or behind it
  module _ (bom : Bool) where
    pub with_or_behind : (s : List ℕ)
        → ((is_empty (drop (bom_length s) s) ≡ false) × (blanked_file chosen bom s ≡ overwritten chosen 1 s))
        ⊎ (blanked_file chosen bom s ≡ take (bom_length s) s ++ overwritten chosen 1 (drop (bom_length s) s))
    unfolding blanked_file
    with_or_behind s = go bom (is_empty (drop (bom_length s) s)) refl refl
      where
        go : (b e : Bool) → bom ≡ b → is_empty (drop (bom_length s) s) ≡ e
            → ((is_empty (drop (bom_length s) s) ≡ false) × (blanked_file chosen bom s ≡ overwritten chosen 1 s))
            ⊎ (blanked_file chosen bom s ≡ take (bom_length s) s ++ overwritten chosen 1 (drop (bom_length s) s))
        go true false p q = inl (q, rw (p, q))
        go true true p q = inr (rw (p, q))
        go false e p q = inr (rw p)

    pub length-blanked : (s : List ℕ) → length (blanked_file chosen bom s) ≡ length s
    length-blanked s =
        ⊎_elim (λ w. ap length w.1 ∙ length-overwritten 1 s)
        (λ e.
        ap length e ∙ length-append (take (bom_length s) s) (overwritten chosen 1 (drop (bom_length s) s))
        ∙ ap (λ (n : ℕ). length (take (bom_length s) s) + n) (length-overwritten 1 (drop (bom_length s) s))
        ∙ sym (length-append (take (bom_length s) s) (drop (bom_length s) s))
        ∙ ap length (take-append-drop (bom_length s) s)) (with_or_behind s)

    pub zero_blanked : (s : List ℕ) → Memᴰ 0 (blanked_file chosen bom s) → Memᴰ 0 s
    zero_blanked s m =
        ⊎_elim (λ w. zero_overwritten 1 s (rw w.1 at m))
        (λ e.
        ⊎_elim (λ a. member-take (bom_length s) s 0 a) (λ a. member-drop (bom_length s) s 0 (zero_overwritten 1 (drop (bom_length s) s) a))
        (Memᴰ.append_cases (take (bom_length s) s) (rw e at m))) (with_or_behind s)
