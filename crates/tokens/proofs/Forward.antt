-- The tokens of a text from its front; a token's parts, joined, are the bytes that it takes. Assumes nothing.
use mathlib.Core.Path.{◌≡◌, refl, sym, ap, ap₂, ◌∙◌}
use mathlib.Core.Bool.{Bool, true, false, cond, ◌&&◌}
use mathlib.Core.List.{List, [], ◌∷◌, ◌++◌, append-nil, flatten}
use Prim.Native.Nat.{ℕ, zero, suc, ◌+◌, ◌-◌, ◌≤◌, ◌<◌}
use native.Mathlib.Nat.{add-zero}
use native.Mathlib.Omega.{arith}
use lib.Dec.{eqb}
use lib.ListN.{length, take, drop, get_or, length-append, length-drop, take-append-drop}
use lib.Seq.{get_or-drop, drop-drop, take-add, length-take-le}
use borrow.Author.Tests.{not-false}
use Rattle.lists.specs.Bytes.{all, span, take_while, drop_while}
use Rattle.lists.specs.Classes.{whitespace, non_whitespace, prepunctuation_mark}
use Rattle.lists.proofs.Recursion.{Local, recur_eq, cond_cong}
use Rattle.lists.proofs.Scan.{span_le, span_short, span_fails, span_some}
use Rattle.tokens.specs.Tokens.{Token, peel, name_size, cut, after_whitespace, after_run, first_token, tokens_step, tokens, token_parts}
use Rattle.tokens.specs.Table.{token_size}

-- a run follows the whitespace if the text is not whitespace alone
pub run_some : (s : List ℕ) → all whitespace s ≡ false → 0 < span non_whitespace (after_whitespace s)
run_some s h =
    let n : span whitespace s < length s = span_short whitespace s h in
    let g : get_or (after_whitespace s) 0 0 ≡ get_or s (span whitespace s) 0 = get_or-drop (span whitespace s) s 0 0
    ∙ ap (λ (k : ℕ). get_or s k 0) (add-zero (span whitespace s)) in
    let f : whitespace (get_or (after_whitespace s) 0 0) ≡ false = ap whitespace g ∙ span_fails whitespace s n in
    span_some non_whitespace (after_whitespace s) (simp length-drop (omega arith)) (rw f)

-- what follows the first token is then shorter
pub after_run_less : (s : List ℕ) → all whitespace s ≡ false → length (after_run s) < length s
after_run_less s h =
    let n : span whitespace s < length s = span_short whitespace s h in
    let r = run_some s h in
    simp length-drop (omega arith)

-- a run is followed by whitespace or by nothing
pub run_stops : (s : List ℕ) → 0 < length (after_run s) → 0 < span whitespace (after_run s)
run_stops s h =
    let x : List ℕ = after_whitespace s in
    let k : ℕ = span non_whitespace x in
    let n : k < length x = omega (arith, length-drop k x) in
    let f : whitespace (get_or (after_run s) 0 0) ≡ true =
    ap whitespace (get_or-drop k x 0 0 ∙ ap (λ (j : ℕ). get_or x j 0) (add-zero k))
    ∙ not-false (whitespace (get_or x k 0)) (span_fails non_whitespace x n) in
    span_some whitespace (after_run s) h f

tokens_local : Local tokens_step
unfolding tokens_step
tokens_local f g s h = cond_cong (all whitespace s) (λ e. refl) (λ n. ap (λ (ts : List Token). first_token s ∷ ts) (h (after_run s) (after_run_less s n)))

tokens_eq : (s : List ℕ) → tokens s ≡ tokens_step tokens s
unfolding tokens
tokens_eq s = recur_eq [] tokens_step tokens_local s

-- a text of whitespace alone has no tokens
pub tokens_none : (s : List ℕ) → all whitespace s ≡ true → tokens s ≡ []
unfolding tokens_step
tokens_none s h = tokens_eq s ∙ rw h

-- the first token, and those of what follows it
pub tokens_more : (s : List ℕ) → all whitespace s ≡ false → tokens s ≡ first_token s ∷ tokens (after_run s)
unfolding tokens_step
tokens_more s h = tokens_eq s ∙ rw h

-- a token's parts, joined, are its whitespace and its run
pub cut_joined : (white run : List ℕ) (ends : Bool) → flatten (token_parts (cut white run ends)) ≡ white ++ run
unfolding cut flatten
cut_joined white run ends = go (ends && all prepunctuation_mark run)
  where
    rest : List ℕ
    rest = drop_while prepunctuation_mark run

    go : (t : Bool) → flatten (token_parts
        (cond t (record { whitespace = white; prepunctuation = []; name = run; punctuation = [] }) (peel white run))) ≡ white ++ run
    go true = ap (λ (r : List ℕ). white ++ r) (append-nil run)
    go false =
        ap (λ (r : List ℕ). white ++ (take_while prepunctuation_mark run ++ (take (name_size rest) rest ++ r))) (append-nil (drop (name_size rest) rest))
        ∙ ap (λ (r : List ℕ). white ++ (take_while prepunctuation_mark run ++ r)) (take-append-drop (name_size rest) rest)
        ∙ ap (λ (r : List ℕ). white ++ r) (take-append-drop (span prepunctuation_mark run) run)

-- the length of a token is the sum of its parts' lengths
pub size_parts : (t : Token) → length (flatten (token_parts t)) ≡ length t.whitespace + (length t.prepunctuation + (length t.name + length t.punctuation))
unfolding flatten
size_parts t = simp (length-append, append-nil) refl

-- how many bytes the first token takes
abbrev pub first_size : List ℕ → ℕ
first_size s = span whitespace s + span non_whitespace (after_whitespace s)

-- what follows the first token starts after these bytes
pub after_run_drop : (s : List ℕ) → after_run s ≡ drop (first_size s) s
after_run_drop s = drop-drop (span non_whitespace (after_whitespace s)) (span whitespace s) s

-- the first token's parts, joined, are these bytes
pub first_take : (s : List ℕ) → flatten (token_parts (first_token s)) ≡ take (first_size s) s
first_take s =
    cut_joined (take_while whitespace s) (take_while non_whitespace (after_whitespace s)) (eqb (length (after_run s)) 0)
    ∙ sym (take-add (span whitespace s) (span non_whitespace (after_whitespace s)) s)

-- so this is the first token's size
pub first_size_lem : (s : List ℕ) → token_size (first_token s) ≡ first_size s
first_size_lem s =
    let a = span_le whitespace s in
    let b : span non_whitespace (after_whitespace s) ≤ length s - span whitespace s = rw length-drop at (span_le non_whitespace (after_whitespace s)) in
    ap length (first_take s) ∙ length-take-le (first_size s) s (omega arith)

-- the text is its first token's parts and what follows them
pub first_joined : (s : List ℕ) → flatten (token_parts (first_token s)) ++ after_run s ≡ s
first_joined s = ap₂ (λ (x y : List ℕ). x ++ y) (first_take s) (after_run_drop s) ∙ take-append-drop (first_size s) s

-- the whitespace before a run does not change how the run is cut
pub cut_white : (w run : List ℕ) (ends : Bool)
    → cut w run ends
    ≡ record { whitespace = w; prepunctuation = (cut [] run ends).prepunctuation; name = (cut [] run ends).name; punctuation = (cut [] run ends).punctuation }
unfolding cut
cut_white w run ends = go (ends && all prepunctuation_mark run)
  where
    x : List ℕ → Bool → Token
    x w t = cond t (record { whitespace = w; prepunctuation = []; name = run; punctuation = [] }) (peel w run)

    go : (t : Bool) → x w t ≡ record { whitespace = w; prepunctuation = (x [] t).prepunctuation; name = (x [] t).name; punctuation = (x [] t).punctuation }
    go true = refl
    go false = refl

-- induction along the tokens
pub tokens_induct : (P : List ℕ → Type 0) → ((s : List ℕ) → all whitespace s ≡ true → P s)
    → ((s : List ℕ) → all whitespace s ≡ false → P (after_run s) → P s) → (s : List ℕ) → P s
tokens_induct P none more s = at (suc (length s)) s (omega arith)
  where
    go : (n : ℕ) (s : List ℕ) → length s < suc n → ((r : List ℕ) → length r < n → P r) → (t : Bool) → all whitespace s ≡ t → P s
    go n s l i true e = none s e
    go n s l i false e = let k = after_run_less s e in more s e (i (after_run s) (omega arith))

    at : (n : ℕ) (s : List ℕ) → length s < n → P s
    at zero s l = absurd (omega arith)
    at (suc n) s l = go n s l (at n) (all whitespace s) refl
