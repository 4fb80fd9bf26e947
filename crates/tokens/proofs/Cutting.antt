-- How the first token is cut off a text, as the code does it. Assumes nothing.
use mathlib.Core.Path.{◌≡◌, refl, sym, ap, ◌∙◌}
use mathlib.Core.Bool.{Bool, true, false, ◌&&◌}
use mathlib.Core.List.{List, [], ◌∷◌}
use Prim.Native.Nat.{ℕ, suc, ◌+◌, ◌≤◌, ◌<◌}
use native.Mathlib.Omega.{arith}
use lib.Dec.{eqb}
use lib.ListN.{length, take, drop, length-drop, drop_of_length-le}
use borrow.Author.Tests.{eq-eqb, ne_eqb}
use Rattle.lists.specs.Bytes.{all, any, span, after_last}
use Rattle.lists.specs.Classes.{prepunctuation_marks, whitespace, non_whitespace, prepunctuation_mark, non_postpunctuation}
use Rattle.lists.proofs.Scan.{span_le, all_span, span_within, span_take_while, span_short, one_of_all}
use Rattle.tokens.specs.Tokens.{name_size, cut, tokens}
use Rattle.tokens.proofs.Forward.{tokens_none, tokens_more}

-- nothing follows the bytes at the front that pass p exactly if all bytes do
rest_empty : (p : ℕ → Bool) (s : List ℕ) → eqb (length (drop (span p s) s)) 0 ≡ all p s
rest_empty p s = go (all p s) refl
  where
    go : (t : Bool) → all p s ≡ t → eqb (length (drop (span p s) s)) 0 ≡ t
    go true e = eq-eqb _ _ (simp length-drop (omega (arith, all_span p s e)))
    go false e = ne_eqb _ _ (λ z. let k = simp length-drop at z in omega (arith, span_short p s e))

-- a run, of which m bytes are leading marks and `named` is what follows them; `ends` says that the text ends with it
module _ (white run named : List ℕ) (ends : Bool) (m : ℕ) (em : m ≡ span prepunctuation_mark run) (en : named ≡ drop m run) where
  test_eq : (ends && eqb (length named) 0) ≡ (ends && all prepunctuation_mark run)
  test_eq = rw (en, em) (ap (λ (t : Bool). ends && t) (rest_empty prepunctuation_mark run))

  -- the text ends with the run, and nothing follows the marks
  pub cut_marks : (ends && eqb (length named) 0) ≡ true → length named ≡ 0
      → record { whitespace = white; prepunctuation = named; name = run; punctuation = named } ≡ cut white run ends
  unfolding cut
  cut_marks h z =
      let e : (ends && all prepunctuation_mark run) ≡ true = sym test_eq ∙ h in
      let d : named ≡ [] = sym (ap (λ (k : ℕ). drop k named) z) ∙ drop_of_length-le named {i = length named} (omega arith) in
      rw (e, d)

  -- any other run
  pub cut_peeled : (ends && eqb (length named) 0) ≡ false
      → record { whitespace = white; prepunctuation = take m run; name = take (name_size named) named; punctuation = drop (name_size named) named }
      ≡ cut white run ends
  unfolding cut
  cut_peeled h = let e : (ends && all prepunctuation_mark run) ≡ false = sym test_eq ∙ h in rw (e, en, em)

-- the length of the name, as the code finds it: the first byte, and the others up to the last one that is no trailing mark
pub name_size_lem : (s : List ℕ) → 0 < length s → name_size s ≡ suc (after_last non_postpunctuation (drop 1 s))
name_size_lem [] h = absurd (omega arith)
name_size_lem (b ∷ s) h = refl

-- leading marks are no whitespace
marks_non_whitespace : (b : ℕ) → prepunctuation_mark b ≡ true → non_whitespace b ≡ true
unfolding all any
marks_non_whitespace = one_of_all non_whitespace prepunctuation_marks refl

-- q bytes of whitespace stand at the front of s, and x follows them
module _ (s x : List ℕ) (q : ℕ) (eq : q ≡ span whitespace s) (ex : x ≡ drop q s) where
  x_empty : eqb (length x) 0 ≡ all whitespace s
  x_empty = rw (ex, eq) (rest_empty whitespace s)

  -- if nothing follows, no token is left
  pub none_left : eqb (length x) 0 ≡ true → tokens s ≡ []
  none_left h = tokens_none s (sym x_empty ∙ h)

  -- x starts with m leading marks, y follows them, and r bytes more of the run
  module _ (y : List ℕ) (m r : ℕ) (em : m ≡ span prepunctuation_mark x) (ey : y ≡ drop m x) (er : r ≡ span non_whitespace y) where
    run_size : m + r ≡ span non_whitespace x
    run_size = rw (er, ey, em) (sym (span_within prepunctuation_mark non_whitespace marks_non_whitespace x))

    -- the run is within the text
    pub run_within : m + r ≤ length x
    run_within = rw run_size (span_le non_whitespace x)

    -- it starts with m leading marks
    pub run_marks : m ≡ span prepunctuation_mark (take (m + r) x)
    run_marks =
        em ∙ sym (ap (λ (k : ℕ). span prepunctuation_mark (take k x)) run_size
        ∙ span_take_while prepunctuation_mark non_whitespace marks_non_whitespace x)

    -- the first token is that run, cut, and the others are in what follows it
    pub token_first : eqb (length x) 0 ≡ false
        → tokens s ≡ cut (take q s) (take (m + r) x) (eqb (length (drop (m + r) x)) 0) ∷ tokens (drop (m + r) x)
    token_first h = rw (run_size, ex, eq) (tokens_more s (sym x_empty ∙ h))
