-- The effect of a line's mentions, read one after another; and the line as a whole.
use Prim.Native.Nat.{ℕ, ◌-◌}
use native.Mathlib.Omega.{arith}
use mathlib.Core.Path.{◌≡◌, refl, sym, ap, ◌∙◌}
use mathlib.Core.Bool.{Bool, true, false, cond}
use mathlib.Core.List.{List, [], ◌∷◌}
use Rattle.std.specs.Prelude.{Option, None, Some}
use lib.ListN.{take, drop}
use Rattle.rulefiles.specs.Decisions.{override}
use Rattle.rulefiles.proofs.DecisionLaws.{override_assoc, override_none}
use Rattle.attributenames.specs.Names.{good_name}
use Rattle.entries.specs.Entries.{pattern_matches, Subject}
use Rattle.bytestrings.specs.Bytes.{same_bytes}
use Rattle.attributelines.specs.AttributeLines.{Token, Mention, mention, state_for, good_names, last_mention, tokens, pattern_dropped, rule_state, line_state}
use Rattle.attributelines.specs.inner.Scan.{mentions_state, IsNextToken}
use Rattle.attributelines.specs.declared.State.{State}
use Rattle.attributelines.proofs.TokenLaws.{tokens_next}

-- the effect before, overridden by that of these mentions; none if one of them has a bad name
unfoldable pub pending : List ℕ → Option State → List Token → Option State
pending attribute before ws = cond (good_names ws) (override before (last_mention attribute ws)) None

module _ (attribute : List ℕ) where
  pub pending_begin : (ws : List Token) → mentions_state attribute ws ≡ pending attribute None ws
  unfolding mentions_state pending
  pending_begin ws = ap (λ (o : Option State). cond (good_names ws) o None) (sym (override_none (last_mention attribute ws)))

  pub pending_end : (before : Option State) → pending attribute before [] ≡ before
  unfolding pending
  pending_end before = refl

  module _ (before : Option State) (w : Token) (ws : List Token) where
    abbrev named : Mention
    named = mention w.start w.bytes

    pub pending_bad : good_name named.name ≡ false → pending attribute before (w ∷ ws) ≡ None
    unfolding pending
    pending_bad e = rw e

    pub pending-named : good_name named.name ≡ true → same_bytes named.name attribute ≡ true → pending attribute before (w ∷ ws) ≡ pending attribute (Some named.state) ws
    unfolding pending state_for
    pending-named g e = rw (g, e) (ap (λ (o : Option State). cond (good_names ws) o None) (sym (override_assoc before (Some named.state) (last_mention attribute ws))))

    pub pending_other : good_name named.name ≡ true → same_bytes named.name attribute ≡ false → pending attribute before (w ∷ ws) ≡ pending attribute before ws
    unfolding pending state_for
    pending_other g e = rw (g, e) (ap (λ (o : Option State). cond (good_names ws) o None) (sym (override_assoc before None (last_mention attribute ws))))

-- one turn, at the next token
module _ (attribute s : List ℕ) (i start end : ℕ) (t : IsNextToken s i start end) where
  abbrev pub token : Token
  token = record { start = start; bytes = take (end - start) (drop start s) }

  pub cut : tokens i (drop i s) ≡ token ∷ tokens end (drop end s)
  cut = tokens_next s i start end t.starts (omega (arith, t.long, t.within)) t.ends

  module _ (before : Option State) (name : List ℕ) (n : name ≡ (mention start (take (end - start) (drop start s))).name) (good : Bool) (g : good ≡ good_name name) where
    pub turn_bad : good ≡ false → pending attribute before (tokens i (drop i s)) ≡ None
    turn_bad b = ap (pending attribute before) cut ∙ pending_bad attribute before token (tokens end (drop end s)) (ap good_name (sym n) ∙ sym g ∙ b)

    module _ (b : good ≡ true) (alike : Bool) (a : alike ≡ same_bytes name attribute) where
      pub turn_named : (state : State) → alike ≡ true → state ≡ (mention start (take (end - start) (drop start s))).state
          → pending attribute before (tokens i (drop i s)) ≡ pending attribute (Some state) (tokens end (drop end s))
      turn_named state t q =
          ap (pending attribute before) cut
          ∙ pending-named attribute before token (tokens end (drop end s)) (ap good_name (sym n) ∙ sym g ∙ b) (ap (λ (x : List ℕ). same_bytes x attribute) (sym n) ∙ sym a ∙ t)
          ∙ ap (λ (x : State). pending attribute (Some x) (tokens end (drop end s))) (sym q)

      pub turn_other : alike ≡ false → pending attribute before (tokens i (drop i s)) ≡ pending attribute before (tokens end (drop end s))
      turn_other t =
          ap (pending attribute before) cut
          ∙ pending_other attribute before token (tokens end (drop end s)) (ap good_name (sym n) ∙ sym g ∙ b) (ap (λ (x : List ℕ). same_bytes x attribute) (sym n) ∙ sym a ∙ t)

-- the whole line: no tokens, a dropped pattern, one that does not match, one that does
module _ (subject : Subject) (attribute : List ℕ) (at : ℕ) (bytes : List ℕ) where
  pub line_empty : tokens at bytes ≡ [] → None ≡ line_state subject attribute at bytes
  unfolding line_state
  line_empty e = rw e

  pub line_dropped : (p : Token) (ws : List Token) → tokens at bytes ≡ p ∷ ws → pattern_dropped p.bytes ≡ true → None ≡ line_state subject attribute at bytes
  unfolding line_state rule_state
  line_dropped p ws e d = rw (e, d)

  either_none : (b : Bool) → ◌≡◌ {A = Option State} None (cond b None None)
  either_none true = refl
  either_none false = refl

  pub line_other : (p : Token) (ws : List Token) → tokens at bytes ≡ p ∷ ws → pattern_dropped p.bytes ≡ false → pattern_matches subject p.bytes ≡ false
      → None ≡ line_state subject attribute at bytes
  unfolding line_state rule_state
  line_other p ws e d m = rw (e, d, m) (either_none (good_names ws))

  pub line-matched : (p : Token) (ws : List Token) (o : Option State) → tokens at bytes ≡ p ∷ ws → pattern_dropped p.bytes ≡ false → pattern_matches subject p.bytes ≡ true
      → o ≡ mentions_state attribute ws → o ≡ line_state subject attribute at bytes
  unfolding line_state rule_state mentions_state
  line-matched p ws o e d m q = rw (e, d, m) q
