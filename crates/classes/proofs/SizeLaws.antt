-- How many bytes a member and the members of a class are written with.
use mathlib.Core.Path.{◌≡◌, refl}
use mathlib.Core.Bool.{Bool, true, false, cond, not, ◌&&◌}
use mathlib.Core.List.{List, [], ◌∷◌}
use Rattle.std.proofs.lemmas.Bool.{and_parts}
use Rattle.std.specs.Prelude.{Option, None, Some}
use Prim.Native.Nat.{ℕ, zero, suc, ◌+◌, ◌-◌, ◌≤◌}
use native.Mathlib.Omega.{arith}
use lib.Dec.{eqb, leb}
use lib.ListN.{length, get_or}
use borrow.Author.Tests.{eqb-true, leb-false}
use Rattle.bytestrings.specs.Text.{char}
use Rattle.classnames.specs.Names.{which_name}
use Rattle.classes.specs.Members.{Member, Step, close, broken, member, escaped_end, range_end, single, escaped_member, until_close, no_name, name_of, name_step, name_at, bracket_at}
use Rattle.classes.specs.Members.{next_member, Members, longer, and_member, members_after, members}

-- what stands next in q: a member is written with at least one byte and at most those of q, and the closing `]` is the first byte
abbrev pub Within : List ℕ → Step → Type 0
Within q close = get_or q 0 0 ≡ char "]"
Within q broken = Unit {0}
Within q (member m n) = (1 ≤ n) × (n ≤ length q)

module _ (q : List ℕ) where
  cond_within : (t : Bool) (r s : Step) → (t ≡ true → Within q r) → (t ≡ false → Within q s) → Within q (cond t r s)
  cond_within true r s f g = f refl
  cond_within false r s f g = g refl

  escaped_end-within : (b n : ℕ) (p : List ℕ) → n + length p + 2 ≤ length q → Within q (escaped_end b n p)
  escaped_end-within b n [] h = tt
  escaped_end-within b n (y ∷ p) h = omega arith

  range_end-within : (b n : ℕ) (p : List ℕ) → 1 ≤ n → n + length p + 1 ≤ length q → Within q (range_end b n p)
  range_end-within b n [] l h = omega arith
  range_end-within b n (y ∷ p) l h =
      cond_within (eqb y (char "]")) _ _ (λ e. omega arith)
      (λ e. cond_within (eqb y (char "\\")) _ _ (λ f. escaped_end-within b n p (omega arith)) (λ f. omega arith))

  single-within : (b n : ℕ) (p : List ℕ) → 1 ≤ n → n + length p ≤ length q → Within q (single b n p)
  unfolding single
  single-within b n [] l h = omega arith
  single-within b n (y ∷ p) l h = cond_within (eqb y (char "-")) _ _ (λ e. range_end-within b n p l (omega arith)) (λ e. omega arith)

  escaped_within : (p : List ℕ) → length p + 1 ≤ length q → Within q (escaped_member p)
  escaped_within [] h = tt
  escaped_within (y ∷ p) h = single-within y 2 p (omega arith) (omega arith)

  step_within : (n : ℕ) (o : Option ℕ) → 1 ≤ n → n ≤ length q → Within q (name_step n o)
  step_within n None l h = tt
  step_within n (Some k) l h = (l, h)

  name-within : (p : List ℕ) → length p + 2 ≤ length q → Within q (name_at p)
  unfolding name_at
  name-within p h =
      cond_within (leb (length p) (until_close p)) _ _ (λ e. tt)
      (λ e. let l = leb-false (length p) (until_close p) e in cond_within (no_name p) _ _ (λ f. omega arith)
      (λ f. step_within (until_close p + 3) (which_name (name_of p)) (omega arith) (omega arith)))

bracket_within : (x : ℕ) (q : List ℕ) → Within (x ∷ q) (bracket_at q)
unfolding bracket_at
bracket_within x [] = omega arith
bracket_within x (y ∷ q) =
    cond_within (x ∷ y ∷ q) (eqb y (char ":")) _ _ (λ e. name-within (x ∷ y ∷ q) q (omega arith)) (λ e. single-within (x ∷ y ∷ q) (char "[") 1 (y ∷ q) (omega arith) (omega arith))

pub next_within : (first : Bool) (q : List ℕ) → Within q (next_member first q)
unfolding next_member
next_within first [] = tt
next_within first (x ∷ q) =
    cond_within (x ∷ q) (eqb x (char "]") && not first) _ _ (λ e. eqb-true x (char "]") (and_parts _ _ e).0)
    (λ e. cond_within (x ∷ q) (eqb x (char "\\")) _ _ (λ f. escaped_within (x ∷ q) q (omega arith))
    (λ f. cond_within (x ∷ q) (eqb x (char "[")) _ _ (λ g. bracket_within x q) (λ g. single-within (x ∷ q) x 1 q (omega arith) (omega arith))))

-- n bytes of q, the last a `]`
abbrev pub Ends : List ℕ → ℕ → Type 0
Ends q n = (1 ≤ n) × (n ≤ length q) × (get_or q (n - 1) 0 ≡ char "]")

pub ends_more : (x : ℕ) (q : List ℕ) (n : ℕ) → Ends q n → Ends (x ∷ q) (suc n)
ends_more x q zero h = absurd (omega arith)
ends_more x q (suc n) h =
    let e : suc (suc n) - 1 ≡ suc n = omega arith in
    let f : suc n - 1 ≡ n = omega arith in
    (omega arith, omega arith, rw e (rw f at h.2))

-- members that were read end in a `]`
abbrev pub Ended : List ℕ → Option Members → Type 0
Ended q None = Unit {0}
Ended q (Some r) = Ends q r.size

longer-ended : (x : ℕ) (q : List ℕ) (o : Option Members) → Ended q o → Ended (x ∷ q) (longer o)
longer-ended x q None h = tt
longer-ended x q (Some r) h = ends_more x q r.size h

and_ended : (x : ℕ) (q : List ℕ) (b : Member) (o : Option Members) → Ended q o → Ended (x ∷ q) (and_member b o)
and_ended x q b None h = tt
and_ended x q b (Some r) h = ends_more x q r.size h

after-ended : (x : ℕ) (q : List ℕ) (s : Step) (rest : ℕ → Option Members) → Within (x ∷ q) s → ((n : ℕ) → Ended q (rest n)) → Ended (x ∷ q) (members_after s rest)
after-ended x q close rest e h = (omega arith, omega arith, e)
after-ended x q broken rest e h = tt
after-ended x q (member m n) rest e h = and_ended x q m (rest _) (h _)

pub members-ended : (q : List ℕ) (k : ℕ) (first : Bool) → Ended q (members q k first)
unfolding members
members-ended [] k first = tt
members-ended (x ∷ q) zero first = after-ended x q (next_member first (x ∷ q)) (λ n. members q n false) (next_within first (x ∷ q)) (λ n. members-ended q n false)
members-ended (x ∷ q) (suc k) first = longer-ended x q (members q k first) (members-ended q k first)
