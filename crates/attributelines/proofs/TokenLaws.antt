-- A line's tokens, found one after another.
use Prim.Native.Nat.{ℕ, suc, ◌+◌, ◌-◌, ◌<◌, ◌≤◌}
use native.Mathlib.Omega.{arith}
use native.Mathlib.Numerals.{add-one}
use native.Mathlib.Nat.{add-zero, add-suc, suc-add}
use mathlib.Core.Path.{◌≡◌, refl, sym, ap, ◌∙◌}
use mathlib.Core.Logic.{◌⊎◌, inl, inr, ⊎_elim}
use mathlib.Core.Bool.{Bool, true, false, not, cond, false≢true}
use mathlib.Core.List.{List, [], ◌∷◌}
use lib.ListN.{length, take, drop, get_or, length-drop, drop_of_length-le}
use lib.Seq.{drop-drop, get_or-drop}
use borrow.Author.Tests.{not-true}
use Rattle.attributelines.specs.AttributeLines.{is_blank, starts_token, Token, widened, tokens}
use Rattle.std.specs.List.{position_or_len}
use Rattle.std.proofs.lemmas.List.Recursion.{is_position_or_len}
use Rattle.std.proofs.lemmas.List.Sums.{position_or_len_is}
use Rattle.std.proofs.Common.{one-add}
use Rattle.bytestrings.specs.Bytes.{length_until}
use Rattle.bytestrings.proofs.UntilLaws.{until_within}
use Rattle.attributelines.specs.inner.Scan.{blank_length, token_length, IsNextToken}

-- after the blanks stands no blank
blanks_after : (s : List ℕ) → (drop (blank_length s) s ≡ []) ⊎ (starts_token (drop (blank_length s) s) ≡ true)
blanks_after [] = inl refl
blanks_after (b ∷ s) = go (is_blank b) refl (blanks_after s)
  where
    go : (c : Bool) → is_blank b ≡ c → (drop (blank_length s) s ≡ []) ⊎ (starts_token (drop (blank_length s) s) ≡ true)
        → (drop (cond (not c) 0 (suc (blank_length s))) (b ∷ s) ≡ []) ⊎ (starts_token (drop (cond (not c) 0 (suc (blank_length s))) (b ∷ s)) ≡ true)
    go true e w = w
    go false e w = inr (rw e)

-- blanks are no tokens
tokens_blanks : (at : ℕ) (s : List ℕ) → tokens at s ≡ tokens (at + blank_length s) (drop (blank_length s) s)
unfolding tokens
tokens_blanks at [] = refl
tokens_blanks at (b ∷ s) = go (is_blank b) refl (tokens_blanks (suc at) s)
  where
    go : (c : Bool) → is_blank b ≡ c → tokens (suc at) s ≡ tokens (suc at + blank_length s) (drop (blank_length s) s)
        → tokens at (b ∷ s) ≡ tokens (at + cond (not c) 0 (suc (blank_length s))) (drop (cond (not c) 0 (suc (blank_length s))) (b ∷ s))
    go true e q = rw e (q ∙ ap (λ (n : ℕ). tokens n (drop (blank_length s) s)) (suc-add at (blank_length s) ∙ sym (add-suc at (blank_length s))))
    go false e q = ap (λ (n : ℕ). tokens n (b ∷ s)) (sym (add-zero at))

-- the token that a byte opens
widen_first : (at b n : ℕ) (t : List ℕ) (ps : List Token) → tokens (suc at) t ≡ record { start = suc at; bytes = take n t } ∷ tokens (suc at + n) (drop n t)
    → widened at b (tokens (suc at) t) ≡ record { start = at; bytes = take (suc n) (b ∷ t) } ∷ tokens (at + suc n) (drop (suc n) (b ∷ t))
widen_first at b n t ps q =
    ap (widened at b) q
    ∙ ap (λ (k : ℕ). record { start = at; bytes = b ∷ take n t } ∷ tokens k (drop n t)) (suc-add at n ∙ sym (add-suc at n))

tokens_first : (at b : ℕ) (s : List ℕ) → is_blank b ≡ false
    → tokens at (b ∷ s) ≡ record { start = at; bytes = take (token_length (b ∷ s)) (b ∷ s) } ∷ tokens (at + token_length (b ∷ s)) (drop (token_length (b ∷ s)) (b ∷ s))
unfolding tokens
tokens_first at b [] e = rw e
tokens_first at b (c ∷ s) e = rw e (go (is_blank c) refl (tokens_first (suc at) c s))
  where
    go : (t : Bool) → is_blank c ≡ t
        → (is_blank c ≡ false
        → tokens (suc at) (c ∷ s) ≡ record { start = suc at; bytes = take (token_length (c ∷ s)) (c ∷ s) } ∷ tokens (suc at + token_length (c ∷ s)) (drop (token_length (c ∷ s)) (c ∷ s)))
        → cond (not t) (widened at b (tokens (suc at) (c ∷ s))) (record { start = at; bytes = b ∷ [] } ∷ tokens (suc at) (c ∷ s))
        ≡ record { start = at; bytes = b ∷ take (token_length (c ∷ s)) (c ∷ s) } ∷ tokens (at + suc (token_length (c ∷ s))) (drop (token_length (c ∷ s)) (c ∷ s))
    go true q ih =
        let z : token_length (c ∷ s) ≡ 0 = rw q in
        ap (λ (k : ℕ). record { start = at; bytes = b ∷ [] } ∷ tokens k (c ∷ s)) (sym (add-one at))
        ∙ ap (λ (n : ℕ). record { start = at; bytes = b ∷ take n (c ∷ s) } ∷ tokens (at + suc n) (drop n (c ∷ s))) (sym z)
    go false q ih = widen_first at b (token_length (c ∷ s)) (c ∷ s) [] (ih q)

opened : (at : ℕ) (d : List ℕ) → starts_token d ≡ true → tokens at d ≡ record { start = at; bytes = take (token_length d) d } ∷ tokens (at + token_length d) (drop (token_length d) d)
opened at [] e = absurd (false≢true e)
opened at (b ∷ s) e = tokens_first at b s (not-true (is_blank b) e)

tokens_none : (at : ℕ) → tokens at [] ≡ []
unfolding tokens
tokens_none at = refl

left : (s : List ℕ) (i : ℕ) → i < length s → drop i s ≡ [] → ⊥
left s i h q = let e : length (drop i s) ≡ 0 = ap length q in omega (arith, length-drop i s)

-- no token more
pub tokens_end : (s : List ℕ) (i start : ℕ) → start ≡ i + blank_length (drop i s) → length s ≤ start → tokens i (drop i s) ≡ []
tokens_end s i start e h =
    tokens_blanks i (drop i s)
    ∙ ap (tokens (i + blank_length (drop i s))) (drop-drop (blank_length (drop i s)) i s ∙ ap (λ (n : ℕ). drop n s) (sym e) ∙ drop_of_length-le s {i = start} h)
    ∙ tokens_none (i + blank_length (drop i s))

-- the next token, and the tokens after it
pub tokens_next : (s : List ℕ) (i start end : ℕ) → start ≡ i + blank_length (drop i s) → start < length s → end ≡ start + token_length (drop start s)
    → tokens i (drop i s) ≡ record { start = start; bytes = take (end - start) (drop start s) } ∷ tokens end (drop end s)
tokens_next s i start end e h w =
    let d : List ℕ = drop i s in
    let k : ℕ = blank_length d in
    let f : drop k d ≡ drop start s = drop-drop k i s ∙ ap (λ (n : ℕ). drop n s) (sym e) in
    let o : starts_token (drop start s) ≡ true = ⊎_elim (λ q. absurd (left s start h (sym f ∙ q))) (λ q. ap starts_token (sym f) ∙ q) (blanks_after d) in
    let m : end - start ≡ token_length (drop start s) = omega arith in
    tokens_blanks i d ∙ rw (f, sym e) (opened start (drop start s) o ∙ rw (m, drop-drop (token_length (drop start s)) start s, sym w))

-- a token has a byte
long : (d : List ℕ) → starts_token d ≡ true → 0 < token_length d
long [] e = absurd (false≢true e)
long (b ∷ s) e = go (is_blank b) e
  where
    go : (c : Bool) → not c ≡ true → 0 < cond c 0 (suc (token_length s))
    go true h = absurd (false≢true h)
    go false h = omega arith

pub token_long : (s : List ℕ) (i start end : ℕ) → start ≡ i + blank_length (drop i s) → start < length s → end ≡ start + token_length (drop start s) → start < end
token_long s i start end e h w =
    let k : ℕ = blank_length (drop i s) in
    let f : drop k (drop i s) ≡ drop start s = drop-drop k i s ∙ ap (λ (n : ℕ). drop n s) (sym e) in
    let o : starts_token (drop start s) ≡ true = ⊎_elim (λ q. absurd (left s start h (sym f ∙ q))) (λ q. ap starts_token (sym f) ∙ q) (blanks_after (drop i s)) in
    let l : 0 < token_length (drop start s) = long (drop start s) o in
    omega arith

-- the place that a search from a place on finds
pub found_place : (p : ℕ → Bool) (s : List ℕ) (at r : ℕ) → at ≤ r → r ≤ length s → ((j : ℕ) → j < r → at ≤ j → p (get_or s j 0) ≡ false) → (r < length s → p (get_or s r 0) ≡ true)
    → r ≡ at + length_until p (drop at s)
found_place p s at r l w passed found =
    let e = is_position_or_len (length_until p) p refl (λ x xs. ap (cond (p x) 0) (sym (one-add (length_until p xs)))) (drop at s) in
    let h : position_or_len p (drop at s) ≡ r - at =
    position_or_len_is p (drop at s) (r - at) 0 (simp length-drop (omega arith))
    (λ k b. rw (get_or-drop at s k 0) (passed (at + k) (omega arith) (omega arith)))
    (λ b. let m : at + (r - at) ≡ r = omega arith in rw (get_or-drop at s (r - at) 0, m) (found (omega (arith, b, length-drop at s)))) in
    omega (arith, e, h)

-- the next token, by what the two searches give
module _ (s : List ℕ) (at start : ℕ) (w : start ≡ at + blank_length (drop at s)) where
  pub token_some : (end : ℕ) → at ≤ start → start < length s → end ≡ start + token_length (drop start s) → IsNextToken s at start end
  token_some end l h e =
      record { later = l; starts = w; long = token_long s at start end w h e; ends = e; within = (until_within is_blank s start end (omega arith) e).1 }
