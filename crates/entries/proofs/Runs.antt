-- If no run of bytes without whitespace is longer than 4,096, no name is long. Assumes nothing.
use mathlib.Core.Path.{◌≡◌, sym, ap, ◌∙◌}
use mathlib.Core.Bool.{Bool, true, false, not}
use mathlib.Core.Logic.{⊎_elim}
use mathlib.Core.List.{List, [], ◌∷◌}
use Prim.Native.Nat.{ℕ, zero, suc, ◌+◌, ◌-◌, ◌≤◌, ◌<◌}
use native.Mathlib.Omega.{arith}
use lib.ListN.{length, take, drop, get_or, length-take, length-drop}
use lib.Seq.{get_or-drop, get_or-take, drop-drop}
use borrow.Author.Tests.{le-ltb}
use Rattle.lists.specs.Bytes.{any, span, after_last}
use Rattle.lists.specs.Classes.{whitespace, non_whitespace}
use Rattle.lists.proofs.Recursion.{cond_elim}
use Rattle.lists.proofs.Scan.{span_le, last_le, last_passes}
use Rattle.lists.proofs.Sets.{le_or_lt}
use Rattle.tokens.specs.Tokens.{first_token, tokens}
use Rattle.tokens.proofs.Forward.{first_size, tokens_none, tokens_more, tokens_induct, first_size_lem, size_parts, after_run_drop}
use Rattle.tokens.proofs.Walks.{first_white}
use Rattle.call_spec.specs.Sheet.{entries}
use Rattle.call_spec.specs.Calls.{name_limit, any_long}
use Rattle.entries.proofs.Names.{long_names, long_names_lem}

-- a scan stops at a byte that fails
span_stops : (p : ℕ → Bool) (s : List ℕ) (j : ℕ) → j < length s → p (get_or s j 0) ≡ false → span p s ≤ j
unfolding span
span_stops p [] j h e = absurd (omega arith)
span_stops p (b ∷ s) zero h e = rw e (omega arith)
span_stops p (b ∷ s) (suc j) h e = cond_elim (λ (n : ℕ). n ≤ suc j) (p b) (λ t. omega (arith, span_stops p s j (omega arith) e)) (λ t. omega arith)

-- from i on stand more bytes than a name may have, and none of them is whitespace
abbrev pub LongRun : List ℕ → ℕ → Type 0
LongRun s i = name_limit < span non_whitespace (drop i s)

-- a long name would make a long run
no_long_name : (s : List ℕ) → ((i : ℕ) → LongRun s i → ⊥) → long_names (tokens s) ≡ false
unfolding any
no_long_name =
    tokens_induct (λ (s : List ℕ). ((i : ℕ) → LongRun s i → ⊥) → long_names (tokens s) ≡ false)
    (λ s e f. rw (tokens_none s e))
    (λ s e i f.
    let h : length (first_token s).name ≤ name_limit =
    ⊎_elim (λ (k : length (first_token s).name ≤ name_limit). k)
    (λ (k : name_limit < length (first_token s).name). absurd
    (f (span whitespace s) (omega (arith, first_size_lem s, size_parts (first_token s), first_white s))))
    (le_or_lt (length (first_token s).name) name_limit) in
    rw (tokens_more s e, le-ltb name_limit (length (first_token s).name) h)
    (i (λ j r. f (first_size s + j) (rw (after_run_drop s, drop-drop j (first_size s) s) at r))))

-- no run is long
abbrev pub NoLongRun : List ℕ → Type 0
NoLongRun s = (i : ℕ) → LongRun s i → ⊥

-- l is the first 4,097 bytes of s, and its last whitespace ends after k bytes; k is 0 if there is none
module _ (s l : List ℕ) (k : ℕ) (el : l ≡ take (suc name_limit) s) (ek : k ≡ after_last whitespace l) where
  -- that is within the text
  pub end_within : (k ≤ suc name_limit) × (k ≤ length s)
  end_within = let m = last_le whitespace l in let n = ap length el ∙ length-take (suc name_limit) s in (omega arith, omega arith)

  -- if there is such whitespace, a long run starts after it
  pub no_run_before : (k ≡ 0 → ⊥) → NoLongRun (drop k s) → NoLongRun s
  no_run_before z f i r =
      let w : whitespace (get_or l (k - 1) 0) ≡ true = last_passes whitespace l (k - 1) (omega arith) in
      let b = end_within in
      ⊎_elim (λ (h : k ≤ i). let e : k + (i - k) ≡ i = omega arith in f (i - k) (rw (drop-drop (i - k) k s, e) r)) (λ (h : i < k).
      let j : ℕ = k - 1 - i in
      let e : get_or l (k - 1) 0 ≡ get_or (drop i s) j 0 =
      ap (λ (x : List ℕ). get_or x (k - 1) 0) el ∙ get_or-take (suc name_limit) s (k - 1) 0 (omega (arith, b.0))
      ∙ ap (λ (m : ℕ). get_or s m 0) (omega arith) ∙ sym (get_or-drop i s j 0) in
      let n = span_stops non_whitespace (drop i s) j (omega (arith, length-drop i s, b.1)) (ap non_whitespace (sym e) ∙ ap not w) in
      omega (arith, b.0)) (le_or_lt k i)

-- a text too short for a long run has none
pub no_run_short : (s : List ℕ) → length s ≤ name_limit → NoLongRun s
no_run_short s h i r = omega (arith, span_le non_whitespace (drop i s), length-drop i s)

-- if no run is long, no name is
pub no_long_entry : (s : List ℕ) → NoLongRun s → any_long (entries s) ≡ false
no_long_entry s f = sym (long_names_lem s) ∙ no_long_name s f
