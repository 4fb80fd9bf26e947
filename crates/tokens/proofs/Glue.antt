-- The tokens of two texts, one after the other, with whitespace between them. Assumes nothing.
use mathlib.Core.Path.{◌≡◌, refl, sym, ap, ap₂, ◌∙◌}
use mathlib.Core.Bool.{Bool, true, false, not, ◌&&◌}
use mathlib.Core.List.{List, [], ◌∷◌, ◌++◌}
use Prim.Native.Nat.{ℕ, suc, ◌+◌, ◌<◌}
use native.Mathlib.Nat.{add-zero}
use native.Mathlib.Omega.{arith}
use lib.Dec.{eqb}
use lib.ListN.{length, drop, length-append, length-drop, drop_of_length-le}
use lib.Seq.{length-take-le, take_all, take-append-le, drop-append-le, take-append-add, drop-append-add, drop-drop}
use borrow.Author.Tests.{eqb-true, eqb-false, ne_eqb, not-true}
use Rattle.lists.specs.Bytes.{all, span, take_while, drop_while, after_last}
use Rattle.lists.specs.Classes.{whitespace, non_whitespace, prepunctuation_mark}
use Rattle.lists.proofs.Scan.{all_append, span_le, span_all, span_append, span_before, last_none, last_span, last_drop}
use Rattle.tokens.specs.Tokens.{Token, cut, after_whitespace, after_run, first_token, tokens}
use Rattle.tokens.proofs.Forward.{first_size, after_run_drop, cut_white, run_some, run_stops, tokens_none, tokens_more, tokens_induct}
use Rattle.tokens.proofs.Joined.{last_white, last_first}

-- a text's trailing whitespace, which is in none of its tokens
abbrev pub trailing_whitespace : List ℕ → List ℕ
trailing_whitespace s = drop (after_last non_whitespace s) s

-- the tokens, with the bytes w in front of the first one's whitespace
unfoldable pub widen : List ℕ → List Token → List Token
widen w [] = []
widen w (t ∷ ts) =
    record { whitespace = w ++ t.whitespace; prepunctuation = t.prepunctuation; name = t.name; punctuation = t.punctuation } ∷ ts

-- the run at the end of a text; empty if the text ends in whitespace
abbrev pub last_run : List ℕ → List ℕ
last_run s = drop (after_last whitespace s) s

-- the text ends in a run wholly of leading marks. Its last token is cut differently if whitespace follows
unfoldable pub ends_in_prepunctuation : List ℕ → Bool
ends_in_prepunctuation s = not (eqb (length (last_run s)) 0) && all prepunctuation_mark (last_run s)

-- a run that is not wholly of leading marks is cut in the same way, whether the text ends there or not
pub cut_alike : (white run : List ℕ) → all prepunctuation_mark run ≡ false → cut white run true ≡ cut white run false
unfolding cut
cut_alike white run h = rw h

-- more whitespace before a run
cut_widen : (w white run : List ℕ) (ends : Bool) (ts : List Token) → cut (w ++ white) run ends ∷ ts ≡ widen w (cut white run ends ∷ ts)
unfolding widen
cut_widen w white run ends ts = ap (λ (t : Token). t ∷ ts) (cut_white (w ++ white) run ends) ∙ sym (ap (λ (t : Token). widen w (t ∷ ts)) (cut_white white run ends))

-- whitespace before a text goes to its first token
pub tokens_white : (w s : List ℕ) → all whitespace w ≡ true → tokens (w ++ s) ≡ widen w (tokens s)
unfolding widen
tokens_white w s h = go (all whitespace s) refl
  where
    a : all whitespace (w ++ s) ≡ all whitespace s
    a = all_append whitespace w s ∙ rw h

    n : span whitespace (w ++ s) ≡ length w + span whitespace s
    n = span_append whitespace w s ∙ rw h

    l : take_while whitespace (w ++ s) ≡ w ++ take_while whitespace s
    l = rw n (take-append-add w s (span whitespace s))

    d : after_whitespace (w ++ s) ≡ after_whitespace s
    d = rw n (drop-append-add w s (span whitespace s))

    first : List ℕ → List ℕ → List Token
    first white t = cut white (take_while non_whitespace t) (eqb (length (drop_while non_whitespace t)) 0) ∷ tokens (drop_while non_whitespace t)

    go : (t : Bool) → all whitespace s ≡ t → tokens (w ++ s) ≡ widen w (tokens s)
    go true e = tokens_none (w ++ s) (a ∙ e) ∙ rw (tokens_none s e)
    go false e =
        tokens_more (w ++ s) (a ∙ e)
        ∙ ap₂ first l d
        ∙ cut_widen w (take_while whitespace s) (take_while non_whitespace (after_whitespace s)) (eqb (length (after_run s)) 0) (tokens (after_run s))
        ∙ ap (widen w) (sym (tokens_more s e))

-- the first token of a text with whitespace after it
tokens_front : (a : List ℕ) (c : ℕ) (y : List ℕ) → whitespace c ≡ true → all whitespace a ≡ false
    → tokens (a ++ c ∷ y) ≡ cut (take_while whitespace a) (take_while non_whitespace (after_whitespace a)) false ∷ tokens (after_run a ++ c ∷ y)
tokens_front a c y w h =
    let z : List ℕ = c ∷ y in
    let x : List ℕ = after_whitespace a in
    let n : span whitespace (a ++ z) ≡ span whitespace a = span_append whitespace a z ∙ rw h in
    let l : take_while whitespace (a ++ z) ≡ take_while whitespace a = rw n (take-append-le (span whitespace a) a z (span_le whitespace a)) in
    let d : after_whitespace (a ++ z) ≡ x ++ z = rw n (drop-append-le (span whitespace a) a z (span_le whitespace a)) in
    let m : span non_whitespace (x ++ z) ≡ span non_whitespace x = span_before non_whitespace x c y (rw w) in
    let r : take_while non_whitespace (x ++ z) ≡ take_while non_whitespace x = rw m (take-append-le (span non_whitespace x) x z (span_le non_whitespace x)) in
    let f : drop_while non_whitespace (x ++ z) ≡ after_run a ++ z = rw m (drop-append-le (span non_whitespace x) x z (span_le non_whitespace x)) in
    let g : eqb (length (after_run a ++ z)) 0 ≡ false = rw (length-append (after_run a) z) (ne_eqb (length (after_run a) + suc (length y)) 0 (omega arith)) in
    tokens_more (a ++ z) (all_append whitespace a z ∙ rw h) ∙ rw (l, d, r, f, g)

-- what follows the last byte that passes p is the same after the first token is taken off
tail_alike : (p : ℕ → Bool) (s : List ℕ) → after_last p s ≡ first_size s + after_last p (after_run s)
    → drop (after_last p s) s ≡ drop (after_last p (after_run s)) (after_run s)
tail_alike p s e = rw e (sym (drop-drop (after_last p (after_run s)) (first_size s) s) ∙ ap (drop (after_last p (after_run s))) (sym (after_run_drop s)))

-- whitespace after whitespace
none_behind : (a : List ℕ) (c : ℕ) → whitespace c ≡ true → all whitespace a ≡ true → tokens (a ++ c ∷ []) ≡ []
unfolding all
none_behind a c w h = tokens_none (a ++ c ∷ []) (all_append whitespace a (c ∷ []) ∙ rw (h, w))

-- a text after another, with whitespace between them: the tokens of the first, as they are cut if whitespace follows, and then
-- those of the second, with the first one's trailing whitespace before them
pub tokens_glue : (a : List ℕ) (c : ℕ) (y : List ℕ) → whitespace c ≡ true
    → tokens (a ++ c ∷ y) ≡ tokens (a ++ c ∷ []) ++ widen (trailing_whitespace a) (tokens (c ∷ y))
tokens_glue a c y w =
    tokens_induct (λ a. tokens (a ++ c ∷ y) ≡ tokens (a ++ c ∷ []) ++ widen (trailing_whitespace a) (tokens (c ∷ y)))
    (λ a h. rw (last_white a h, none_behind a c w h) (tokens_white a (c ∷ y) h))
    (λ a h i. rw (tokens_front a c y w h, tokens_front a c [] w h, i, tail_alike non_whitespace a (last_first a h)))
    a

-- the whitespace that follows a run
run_closed : (s : List ℕ) → 0 < length (after_run s) → 0 < after_last whitespace (after_run s)
run_closed s h = omega (arith, last_span whitespace (after_run s), run_stops s h)

-- the first run is the last one if nothing follows it
last_run_lem : (s : List ℕ) → length (after_run s) ≡ 0 → last_run s ≡ take_while non_whitespace (after_whitespace s)
last_run_lem s h =
    let x : List ℕ = after_whitespace s in
    let t : take_while non_whitespace x ≡ x = take_all (span non_whitespace x) x (omega (arith, length-drop (span non_whitespace x) x)) in
    let z : after_last whitespace x ≡ 0 = last_none whitespace non_whitespace (λ b. not-true (whitespace b)) x (rw t at (span_all non_whitespace x)) in
    ap (λ (k : ℕ). drop k s) (last_span whitespace s ∙ ap (λ (k : ℕ). span whitespace s + k) z ∙ add-zero (span whitespace s)) ∙ sym t

-- if something follows the first run, the last run is in it
later_run : (s : List ℕ) → 0 < length (after_run s) → last_run s ≡ last_run (after_run s)
later_run s h =
    let d : after_run s ≡ drop (first_size s) s = after_run_drop s in
    let q : 0 < after_last whitespace (drop (first_size s) s) = rw d at (run_closed s h) in
    tail_alike whitespace s (last_drop whitespace s (first_size s) q ∙ ap (λ (t : List ℕ). first_size s + after_last whitespace t) (sym d))

-- if a text does not end in a run wholly of leading marks, whitespace after it leaves its tokens as they are
pub tokens_closed : (a : List ℕ) (c : ℕ) → whitespace c ≡ true → ends_in_prepunctuation a ≡ false → tokens (a ++ c ∷ []) ≡ tokens a
unfolding ends_in_prepunctuation all
tokens_closed a c w =
    tokens_induct (λ a. ends_in_prepunctuation a ≡ false → tokens (a ++ c ∷ []) ≡ tokens a)
    (λ a h o. none_behind a c w h ∙ sym (tokens_none a h))
    (λ a h i o. tokens_front a c [] w h ∙ go a h i o (eqb (length (after_run a)) 0) refl ∙ sym (tokens_more a h))
    a
  where
    go : (a : List ℕ) → all whitespace a ≡ false
        → (ends_in_prepunctuation (after_run a) ≡ false → tokens (after_run a ++ c ∷ []) ≡ tokens (after_run a)) → ends_in_prepunctuation a ≡ false
        → (e : Bool) → eqb (length (after_run a)) 0 ≡ e
        → cut (take_while whitespace a) (take_while non_whitespace (after_whitespace a)) false ∷ tokens (after_run a ++ c ∷ []) ≡ first_token a ∷ tokens
        (after_run a)
    go a h i o true e =
        let x : List ℕ = after_whitespace a in
        let k : ℕ = span non_whitespace x in
        let z : length (after_run a) ≡ 0 = eqb-true (length (after_run a)) 0 e in
        let d : after_run a ≡ [] = drop_of_length-le x {i = k} (omega (arith, length-drop k x)) in
        let n : eqb (length (take_while non_whitespace x)) 0 ≡ false = rw (length-take-le k x (span_le non_whitespace x)) (ne_eqb k 0 (omega (arith, run_some a h))) in
        let q : all prepunctuation_mark (take_while non_whitespace x) ≡ false = rw (last_run_lem a z, n) at o in
        rw (e, d, none_behind [] c w refl, tokens_none [] refl, cut_alike (take_while whitespace a) (take_while non_whitespace x) q)
    go a h i o false e =
        let l : last_run a ≡ last_run (after_run a) = later_run a (omega (arith, eqb-false (length (after_run a)) 0 e)) in
        rw (e, i (rw l at o))
