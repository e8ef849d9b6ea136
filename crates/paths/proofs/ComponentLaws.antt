-- A path has an empty, `.` or `..` component exactly where the scan finds one, and an empty one exactly where a `/` is misplaced.
use mathlib.Core.Path.{◌≡◌, refl, sym, ap, subst, ◌∙◌}
use mathlib.Core.Logic.{◌⊎◌, inl, inr, ⊎_elim, ◌↔◌}
use mathlib.Core.Bool.{Bool, true, false, cond, ◌||◌, ◌&&◌, or-true, false≢true}
use mathlib.Core.List.{List, [], ◌∷◌, ◌++◌, append-nil, append_assoc}
use Prim.Native.Nat.{ℕ, suc, ◌+◌, ◌<◌, ◌≤◌}
use native.Mathlib.Omega.{arith}
use lib.Dec.{eqb, leb}
use lib.ListN.{length, drop}
use borrow.Author.Tests.{eqb-true, leb-true}
use Rattle.std.proofs.lemmas.Bool.{or_cases, and_parts}
use Rattle.bytestrings.specs.Text.{char, text}
use Rattle.refusals.specs.Limits.{path_limit}
use Rattle.refusals.specs.Refusals.{HoldsZero}
use Rattle.paths.specs.Paths.{SlashMisplaced, Starts, Ends, Component, DotComponent, ControlByte, HoldsControl, BadPath}
use Rattle.paths.specs.inner.Scans.{ends_here, dots_here, bad_here, bad_later}
use Rattle.std.specs.Char.{is_ascii_control}
use Rattle.std.specs.List.{list_any}
use Rattle.std.specs.Prelude.{Option, Some, None, position}
use Rattle.std.proofs.lemmas.List.Quantifiers.{position-Some}
use Rattle.bytestrings.proofs.SliceLaws.{from, from-drop}
use Rattle.bytestrings.proofs.UntilLaws.{until_position, until_no_position}
use Rattle.bytestrings.specs.Bytes.{length_until}
use native.Mathlib.Numerals.{add-one}
use Rattle.bytestrings.proofs.AnyLaws.{any_found}
use Rattle.bytestrings.proofs.BoolLaws.{yes_iff, no_iff, not_if_false}

-- a byte that the test takes is a control byte
control_test : (b : ℕ) → (is_ascii_control b ≡ true) ↔ ControlByte b
control_test b = (
  λ e. ⊎_elim (λ h. inl (omega (arith, leb-true b 31 (and_parts (leb 0 b) (leb b 31) h).1)))
      (λ h. let p = and_parts (leb 127 b) (leb b 127) h in inr (omega (arith, leb-true 127 b p.0, leb-true b 127 p.1)))
      (or_cases (leb 0 b && leb b 31) (leb 127 b && leb b 127) e),
  λ h. ⊎_elim (λ l. grind (arith, l)) (λ q. grind (arith, q)) h,
)

-- byte 0 is one of the control bytes
zero_control : (s : List ℕ) → HoldsZero s → HoldsControl s
zero_control s z = (0, z, inl (omega arith))

-- From the scan to the components.

-- empty, `.` or `..`
abbrev Bad : List ℕ → Type 0
Bad c = (c ≡ []) ⊎ ((c ≡ text ".") ⊎ (c ≡ text ".."))

-- these bytes begin with a bad component
record Begins (s : List ℕ) : Type 0 where
  bytes : List ℕ
  after : List ℕ
  bad : Bad bytes
  stands : s ≡ bytes ++ after
  ends : Ends after

ends_true : (s : List ℕ) → ends_here s ≡ true → Ends s
unfolding ends_here
ends_true [] e = inl refl
ends_true (b ∷ s) e = inr (s, ap (λ (x : ℕ). x ∷ s) (eqb-true b (char "/") e))

begins_dots : (s : List ℕ) → dots_here s ≡ true → Begins (char "." ∷ s)
unfolding dots_here
begins_dots [] e = record { bytes = text "."; after = []; bad = inr (inl refl); stands = refl; ends = inl refl }
begins_dots (b ∷ s) e =
    ⊎_elim (λ h. record { bytes = text "."; after = b ∷ s; bad = inr (inl refl); stands = refl; ends = inr (s, ap (λ (x : ℕ). x ∷ s) (eqb-true b (char "/") h)) })
    (λ h. let p = and_parts (eqb b (char ".")) (ends_here s) h in
    record { bytes = text ".."; after = s; bad = inr (inr refl); stands = ap (λ (x : ℕ). char "." ∷ x ∷ s) (eqb-true b (char ".") p.0); ends = ends_true s p.1 })
    (or_cases (eqb b (char "/")) (eqb b (char ".") && ends_here s) e)

begins : (s : List ℕ) → bad_here s ≡ true → Begins s
unfolding bad_here
begins [] e = record { bytes = []; after = []; bad = inl refl; stands = refl; ends = inl refl }
begins (b ∷ s) e =
    ⊎_elim (λ h. record { bytes = []; after = b ∷ s; bad = inl refl; stands = refl; ends = inr (s, ap (λ (x : ℕ). x ∷ s) (eqb-true b (char "/") h)) })
    (λ h. let p = and_parts (eqb b (char ".")) (dots_here s) h in subst (λ (x : ℕ). Begins (x ∷ s)) (sym (eqb-true b (char ".") p.0)) (begins_dots s p.1))
    (or_cases (eqb b (char "/")) (eqb b (char ".") && dots_here s) e)

-- an empty component, by what stands before and after it
misplaced : (s before after : List ℕ) → s ≡ before ++ after → Starts before → Ends after → (s ≡ []) ⊎ SlashMisplaced s
misplaced s b a e (inl p) (inl q) = inl (e ∙ ap (λ (x : List ℕ). x ++ a) p ∙ q)
misplaced s b a e (inl p) (inr q) = inr (inl (q.0, e ∙ ap (λ (x : List ℕ). x ++ a) p ∙ q.1))
misplaced s b a e (inr p) (inl q) = inr (inr (inl (p.0, e ∙ ap (λ (x : List ℕ). b ++ x) q ∙ append-nil b ∙ p.1)))
misplaced s b a e (inr p) (inr q) =
    inr (inr (inr (p.0, q.0, e ∙ ap (λ (x : List ℕ). x ++ a) p.1 ∙ ap (λ (x : List ℕ). p.0 ++ text "/" ++ x) q.1 ∙ append_assoc p.0 (text "/") (char "/" ∷ q.0))))

-- a bad component is one of the path's faults
fault : (s before : List ℕ) → Starts before → Begins s → BadPath (before ++ s)
unfolding BadPath
fault s before w g =
    let e : before ++ s ≡ before ++ g.bytes ++ g.after = ap (λ (x : List ℕ). before ++ x) g.stands ∙ sym (append_assoc before g.bytes g.after) in
    ⊎_elim
    (λ h. ⊎_elim (λ x. inl x) (λ x. inr (inr (inr (inl x)))) (misplaced (before ++ s)
    before g.after (e ∙ ap (λ (x : List ℕ). before ++ x ++ g.after) h ∙ ap (λ (x : List ℕ). x ++ g.after) (append-nil before)) w g.ends))
    (λ h. inr (inr (inr (inr (inl (⊎_elim (λ k. inl (dotted e k)) (λ k. inr (dotted e k)) h))))))
    g.bad
  where
    dotted : {c : List ℕ} → before ++ s ≡ before ++ g.bytes ++ g.after → g.bytes ≡ c → Component (before ++ s) c
    dotted e k = record { before = before; after = g.after; stands = e ∙ ap (λ (x : List ℕ). before ++ x ++ g.after) k; starts = w; ends = g.ends }

bad_start : (s : List ℕ) → bad_here s ≡ true → BadPath s
bad_start s e = fault s [] (inl refl) (begins s e)

later : (before s : List ℕ) → bad_later s ≡ true → BadPath (before ++ s)
later before [] e = absurd (false≢true e)
later before (b ∷ s) e =
    ⊎_elim
    (λ h. let p = and_parts (eqb b (char "/")) (bad_here s) h in
    subst BadPath (append_assoc before (b ∷ []) s) (fault s (before ++ b ∷ []) (inr (before, ap (λ (x : ℕ). before ++ x ∷ []) (eqb-true b (char "/") p.0))) (begins s p.1)))
    (λ h. subst BadPath (append_assoc before (b ∷ []) s) (later (before ++ b ∷ []) s h))
    (or_cases (eqb b (char "/") && bad_here s) (bad_later s) e)

bad_later_lem : (s : List ℕ) → bad_later s ≡ true → BadPath s
bad_later_lem s e = later [] s e

-- From the faults to the scan.

dots_end : (d : List ℕ) → ends_here d ≡ true → dots_here d ≡ true
unfolding ends_here dots_here
dots_end [] e = refl
dots_end (b ∷ d) e = rw e

ends_found : (s : List ℕ) → Ends s → ends_here s ≡ true
unfolding ends_here
ends_found s (inl e) = rw e
ends_found s (inr e) = rw e.1

later-found : (front s : List ℕ) → bad_here s ≡ true → bad_later (front ++ char "/" ∷ s) ≡ true
later-found [] s e = rw e
later-found (b ∷ front) s e = rw (later-found front s e) (or-true (eqb b (char "/") && bad_here (front ++ char "/" ∷ s)))

abbrev Seen : List ℕ → Type 0
Seen s = (bad_here s ≡ true) ⊎ (bad_later s ≡ true)

slash_found : (s : List ℕ) → SlashMisplaced s → Seen s
unfolding bad_here
slash_found s (inl h) = inl (rw h.1)
slash_found s (inr (inl h)) = inr (rw h.1 (later-found h.0 [] refl))
slash_found s (inr (inr h)) = inr (rw h.2 (later-found h.0 (char "/" ∷ h.1) refl))

component-found : (s c : List ℕ) → ((after : List ℕ) → Ends after → bad_here (c ++ after) ≡ true) → Component s c → Seen s
component-found s c bad k = go k.starts
  where
    go : Starts k.before → Seen s
    go (inl e) = inl (rw (k.stands, e) (bad k.after k.ends))
    go (inr e) =
        inr (rw (k.stands, e.1, append_assoc e.0 (text "/") c, append_assoc e.0 (char "/" ∷ c) k.after) (later-found e.0 (c ++ k.after) (bad k.after k.ends)))

dots_found : (s : List ℕ) → DotComponent s → Seen s
unfolding bad_here dots_here
dots_found s (inl k) = component-found s (text ".") (λ after h. dots_end after (ends_found after h)) k
dots_found s (inr k) = component-found s (text "..") (λ after h. ends_found after h) k

good_path : (s : List ℕ) → length s ≤ path_limit → (HoldsControl s → ⊥) → bad_here s ≡ false → bad_later s ≡ false → BadPath s → ⊥
unfolding BadPath bad_here
good_path s l c h k b =
    ⊎_elim (λ e. false≢true (sym h ∙ rw e refl))
    (λ b. ⊎_elim (λ o. absurd (omega arith)) (λ b. ⊎_elim (λ z. c (zero_control s z)) (λ b. ⊎_elim (λ m. seen (slash_found s m)) (λ b. ⊎_elim (λ d. seen (dots_found s d)) c b) b) b) b)
    b
  where
    seen : Seen s → ⊥
    seen (inl e) = false≢true (sym h ∙ e)
    seen (inr e) = false≢true (sym k ∙ e)

-- A path, by the tests in their order.
module _ (s : List ℕ) where
  pub path_long : path_limit < length s → (true ≡ true) ↔ BadPath s
  unfolding BadPath
  path_long h = yes_iff (inr (inl h))

  pub path_start : (r : Bool) → r ≡ bad_here s → r ≡ true → (r ≡ true) ↔ BadPath s
  path_start r d e = (λ h. bad_start s (sym d ∙ h), λ b. e)

  module _ (c : Bool) (d : c ≡ list_any is_ascii_control s) where
    held : (c ≡ true) ↔ HoldsControl s
    held = any_found is_ascii_control ControlByte control_test s c d

    pub path_control : c ≡ true → (true ≡ true) ↔ BadPath s
    unfolding BadPath
    path_control e = yes_iff (inr (inr (inr (inr (inr (held.0 e))))))

    pub path_rest : length s ≤ path_limit → c ≡ false → (h : Bool) → h ≡ bad_here s → h ≡ false → (r : Bool) → r ≡ bad_later s → (r ≡ true) ↔ BadPath s
    path_rest l f h g e true k = yes_iff (bad_later_lem s (sym k))
    path_rest l f h g e false k = no_iff (good_path s l (not_if_false held f) (sym g ∙ e) (sym k))

-- The bytes from one slash to the next.
abbrev pub is_slash : ℕ → Bool
is_slash b = eqb b (char "/")

later_until : (s : List ℕ) → length_until is_slash s < length s
    → bad_later s ≡ (bad_here (drop (suc (length_until is_slash s)) s) || bad_later (drop (suc (length_until is_slash s)) s))
later_until [] l = absurd (omega arith)
later_until (b ∷ s) l = go (is_slash b) l (later_until s)
  where
    go : (t : Bool) → cond t 0 (suc (length_until is_slash s)) < suc (length s)
        → (length_until is_slash s < length s → bad_later s ≡ (bad_here (drop (suc (length_until is_slash s)) s) || bad_later (drop (suc (length_until is_slash s)) s)))
        → (t && bad_here s || bad_later s) ≡ (bad_here (drop (cond t 0 (suc (length_until is_slash s))) s) || bad_later (drop (cond t 0 (suc (length_until is_slash s))) s))
    go true h f = refl
    go false h f = f (omega arith)

later_none : (s : List ℕ) → length s ≤ length_until is_slash s → bad_later s ≡ false
later_none [] l = refl
later_none (b ∷ s) l = go (is_slash b) l (later_none s)
  where
    go : (t : Bool) → suc (length s) ≤ cond t 0 (suc (length_until is_slash s)) → (length s ≤ length_until is_slash s → bad_later s ≡ false)
        → (t && bad_here s || bad_later s) ≡ false
    go true h f = absurd (omega arith)
    go false h f = f (omega arith)

module _ (s : List ℕ) (r : Option ℕ) (d : r ≡ position is_slash s) where
  pub slash_within : (n : ℕ) → r ≡ Some n → n < length s
  slash_within n e = (position-Some is_slash s n 0 (sym d ∙ e)).0

  pub after_slash : (n : ℕ) → r ≡ Some n → bad_later s ≡ (bad_here (from (n + 1) s) || bad_later (from (n + 1) s))
  after_slash n e =
      let u = until_position is_slash s n (sym d ∙ e) in
      let l = slash_within n e in
      later_until s (omega arith) ∙ rw (u, add-one n, from-drop (suc n) s)

  pub slash_bad : (n : ℕ) → r ≡ Some n → (h : Bool) → h ≡ bad_here (from (n + 1) s) → h ≡ true → bad_later s ≡ true
  slash_bad n e h g t = after_slash n e ∙ rw (sym g ∙ t)

  pub no_slash : r ≡ None → bad_later s ≡ false
  no_slash e = let u = until_no_position is_slash s (sym d ∙ e) in later_none s (omega arith)
