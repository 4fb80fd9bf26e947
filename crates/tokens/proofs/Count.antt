-- Tokens counted byte by byte: a token starts at each byte that is no whitespace and has whitespace or nothing before it.
-- Assumes nothing.
use mathlib.Core.Path.{◌≡◌, refl, ap, ◌∙◌}
use mathlib.Core.Bool.{Bool, true, false, cond, not, ◌&&◌}
use mathlib.Core.List.{List, [], ◌∷◌}
use Prim.Native.Nat.{ℕ, suc, ◌+◌, ◌*◌, ◌≤◌, ◌<◌}
use native.Mathlib.Numerals.{add-one}
use native.Mathlib.Omega.{arith}
use lib.ListN.{length, drop, get_or, drop_of_length-le}
use lib.Seq.{drop-cons, drop-length}
use Rattle.std.specs.Int.{from_bool}
use Rattle.lists.specs.Bytes.{all, span, drop_while}
use Rattle.lists.specs.Classes.{whitespace, non_whitespace}
use Rattle.lists.proofs.Scan.{all_span, span_short, span_fails}
use Rattle.tokens.specs.Tokens.{after_whitespace, after_run, tokens}
use Rattle.tokens.proofs.Forward.{tokens_none, tokens_more, tokens_induct}

-- how many runs start in a text; `white` says that whitespace or nothing stands before it
unfoldable pub run_starts : Bool → List ℕ → ℕ
run_starts white [] = 0
run_starts white (b ∷ s) = from_bool (white && not (whitespace b)) + run_starts (whitespace b) s

runs_white : (s : List ℕ) → run_starts true s ≡ run_starts true (after_whitespace s)
unfolding run_starts span
runs_white [] = refl
runs_white (b ∷ s) = go (whitespace b) refl (runs_white s)
  where
    go : (t : Bool) → whitespace b ≡ t → run_starts true s ≡ run_starts true (after_whitespace s)
        → run_starts true (b ∷ s) ≡ run_starts true (drop (cond t (suc (span whitespace s)) 0) (b ∷ s))
    go true e i = rw e (omega (arith, i))
    go false e i = refl

runs_run : (s : List ℕ) → run_starts false s ≡ run_starts true (drop_while non_whitespace s)
unfolding run_starts span
runs_run [] = refl
runs_run (b ∷ s) = go (whitespace b) refl (runs_run s)
  where
    go : (t : Bool) → whitespace b ≡ t → run_starts false s ≡ run_starts true (drop_while non_whitespace s)
        → run_starts false (b ∷ s) ≡ run_starts true (drop (cond (not t) (suc (span non_whitespace s)) 0) (b ∷ s))
    go true e i = rw e
    go false e i = rw e (omega (arith, i))

-- a run starts with c
runs_first : (c : ℕ) (d : List ℕ) → whitespace c ≡ false → run_starts true (c ∷ d) ≡ suc (run_starts true (drop_while non_whitespace (c ∷ d)))
unfolding run_starts span
runs_first c d e = rw e (omega (arith, runs_run d))

runs_more : (s : List ℕ) → all whitespace s ≡ false → run_starts true s ≡ suc (run_starts true (after_run s))
runs_more s h =
    let n : span whitespace s < length s = span_short whitespace s h in
    let e = drop-cons s (span whitespace s) 0 n in
    let f = runs_first (get_or s (span whitespace s) 0) (drop (suc (span whitespace s)) s) (span_fails whitespace s n) in
    runs_white s ∙ (rw (← e) at f)

runs_none : (s : List ℕ) → all whitespace s ≡ true → run_starts true s ≡ 0
unfolding run_starts
runs_none s h = runs_white s ∙ ap (λ (k : ℕ). run_starts true (drop k s)) (all_span whitespace s h) ∙ ap (run_starts true) (drop-length s)

-- a text has as many tokens as starts of runs
pub runs_tokens : (s : List ℕ) → run_starts true s ≡ length (tokens s)
runs_tokens =
    tokens_induct (λ (s : List ℕ). run_starts true s ≡ length (tokens s))
    (λ s e. runs_none s e ∙ rw (tokens_none s e))
    (λ s e i. runs_more s e ∙ ap suc i ∙ rw (tokens_more s e))

-- one step of the loop: n is the count so far
pub runs_on : (white : Bool) (s : List ℕ) (i n : ℕ) → i < length s
    → n + run_starts white (drop i s) ≡ (n + from_bool (white && not (whitespace (get_or s i 0)))) + run_starts (whitespace (get_or s i 0)) (drop (i + 1) s)
unfolding run_starts
runs_on white s i n h = rw (add-one, drop-cons s i 0) (omega arith)

-- at most one more is counted
pub one_more : (b : Bool) → from_bool b ≤ 1
one_more true = omega arith
one_more false = omega arith

-- at the end nothing more is counted
pub runs_end : (white : Bool) (s : List ℕ) (i n : ℕ) → length s ≤ i → n + run_starts white (drop i s) ≡ n
unfolding run_starts
runs_end white s i n h = rw (drop_of_length-le s {i = i} h) (omega arith)

-- at most every second byte starts a run
runs_bound : (s : List ℕ) → (2 * run_starts true s ≤ length s + 1) × (2 * run_starts false s ≤ length s)
unfolding run_starts
runs_bound [] = (omega arith, omega arith)
runs_bound (b ∷ s) = go (whitespace b) (runs_bound s)
  where
    go : (t : Bool) → (2 * run_starts true s ≤ length s + 1) × (2 * run_starts false s ≤ length s)
        → (2 * (from_bool (true && not t) + run_starts t s) ≤ suc (length s) + 1) × (2 * (from_bool (false && not t) + run_starts t s) ≤ suc (length s))
    go true i = (omega arith, omega arith)
    go false i = (omega arith, omega arith)

-- so a text of n bytes has at most (n + 1) / 2 tokens
pub tokens_bound : (s : List ℕ) → 2 * length (tokens s) ≤ length s + 1
tokens_bound s = omega (arith, runs_tokens s, (runs_bound s).0)
