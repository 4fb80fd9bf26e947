-- The parts of every token of a text are as document 01 says. Assumes nothing.
use mathlib.Core.Path.{◌≡◌, refl, sym, ap, ◌∙◌}
use mathlib.Core.Bool.{Bool, true, false, cond, ◌&&◌, and-false, true≢false}
use mathlib.Core.List.{List, [], ◌∷◌, ◌++◌, append-nil, flatten}
use Prim.Native.Nat.{ℕ, zero, suc, ◌+◌, ◌-◌, ◌<◌}
use native.Mathlib.Omega.{arith}
use lib.Dec.{eqb}
use lib.ListN.{length, take, drop, get_or, length-append, take-append-drop}
use lib.Seq.{drop-cons, get_or-take, length-take-le, take-length, drop-length}
use borrow.Author.Tests.{eqb-true, eqb-false, eq-eqb, ne_eqb, not-true, not-false}
use Rattle.lists.specs.Bytes.{all, span, take_while, after_last}
use Rattle.lists.specs.Classes.{whitespace, non_whitespace, prepunctuation_mark, postpunctuation_mark, non_postpunctuation}
use Rattle.lists.proofs.Scan.{all_append, span_le, span_all, span_short, span_fails, all_span, last_le, last_rest, last_passes}
use Rattle.tokens.specs.Tokens.{Token, name_size, peel, cut, after_whitespace, after_run, first_token, tokens, token_parts}
use Rattle.tokens.specs.Peeled.{Peeled, AllPeeled, ends_in_run}
use Rattle.tokens.proofs.Forward.{run_some, run_stops, tokens_none, tokens_more, tokens_induct, first_size, first_size_lem, first_joined}
use Rattle.tokens.proofs.Walks.{first_white}
use Rattle.tokens.proofs.Joined.{last_white, last_first}

module _ (white : List ℕ) (w : all whitespace white ≡ true) where
  -- a run that is not wholly of leading marks: the leading marks, the first other byte b, and what follows b
  named_peeled : (ends : Bool) (pre : List ℕ) (b : ℕ) (r : List ℕ) → all prepunctuation_mark pre ≡ true → prepunctuation_mark b ≡ false
      → all non_whitespace (pre ++ b ∷ r) ≡ true
      → Peeled ends (record { whitespace = white; prepunctuation = pre; name = take (name_size (b ∷ r)) (b ∷ r); punctuation = drop (name_size (b ∷ r)) (b ∷ r) })
  unfolding all
  named_peeled ends pre b r m f n =
      let k : ℕ = after_last non_postpunctuation r in
      let l : length (take k r) ≡ k = length-take-le k r (last_le non_postpunctuation r) in
      let e : pre ++ (b ∷ take k r ++ drop k r) ≡ pre ++ b ∷ r = ap (λ (x : List ℕ). pre ++ b ∷ x) (take-append-drop k r) in
      let q : all prepunctuation_mark (pre ++ b ∷ r) ≡ false = all_append prepunctuation_mark pre (b ∷ r) ∙ rw (m, f) in
      record {
        white = w;
        run = (omega (arith, length-append pre (b ∷ take k r ++ drop k r)), rw e n);
        leading = m;
        trailing = last_rest non_postpunctuation postpunctuation_mark (λ c. not-false (postpunctuation_mark c)) r;
        marks = λ h. absurd (true≢false (sym h ∙ ap (all prepunctuation_mark) e ∙ q));
        first = λ h. (omega arith, f);
        last = λ h g. last_byte k refl (omega arith);
      }
    where
      last_byte : (k : ℕ) → k ≡ after_last non_postpunctuation r → 0 < k → postpunctuation_mark (get_or (b ∷ take k r) (suc (length (take k r)) - 1) 0) ≡ false
      last_byte zero e h = absurd (omega arith)
      last_byte (suc j) e h =
          let l : suc (length (take (suc j) r)) - 1 ≡ suc j = omega (arith, length-take-le (suc j) r (omega (arith, last_le non_postpunctuation r))) in
          rw (l, get_or-take (suc j) r j 0 (omega arith)) (not-true _ (last_passes non_postpunctuation r j (sym e)))

  -- a run that is wholly of leading marks
  whole_peeled : (ends : Bool) (run : List ℕ) → all prepunctuation_mark run ≡ true → 0 < length run → all non_whitespace run ≡ true
      → Peeled ends (record { whitespace = white; prepunctuation = cond ends [] run; name = cond ends run []; punctuation = [] })
  unfolding all
  whole_peeled ends run m l n =
      record {
        white = w;
        run = rw (e ends) (l, n);
        leading = leads ends;
        trailing = refl;
        marks = λ h. rw (e ends) (refl, refl);
        first = λ h. absurd (true≢false (sym m ∙ ap (all prepunctuation_mark) (sym (e ends)) ∙ h));
        last = λ h. absurd (true≢false (sym m ∙ ap (all prepunctuation_mark) (sym (e ends)) ∙ h));
      }
    where
      e : (t : Bool) → cond t [] run ++ (cond t run [] ++ []) ≡ run
      e true = append-nil run
      e false = append-nil run

      leads : (t : Bool) → all prepunctuation_mark (cond t [] run) ≡ true
      leads true = refl
      leads false = m

  -- any run, after it is cut
  cut_peeled : (run : List ℕ) (ends : Bool) → 0 < length run → all non_whitespace run ≡ true → Peeled ends (cut white run ends)
  unfolding cut
  cut_peeled run ends l n = go (all prepunctuation_mark run) refl ends
    where
      go : (m : Bool) → all prepunctuation_mark run ≡ m → (ends : Bool)
          → Peeled ends (cond (ends && m) (record { whitespace = white; prepunctuation = []; name = run; punctuation = [] }) (peel white run))
      go true e true = whole_peeled true run e l n
      go true e false = rw (all_span prepunctuation_mark run e, take-length, drop-length) (whole_peeled false run e l n)
      go false e ends =
          let k : ℕ = span prepunctuation_mark run in
          let h : k < length run = span_short prepunctuation_mark run e in
          let d : drop k run ≡ get_or run k 0 ∷ drop (suc k) run = drop-cons run k 0 h in
          let j : take k run ++ get_or run k 0 ∷ drop (suc k) run ≡ run = ap (λ (r : List ℕ). take k run ++ r) (sym d) ∙ take-append-drop k run in
          rw (and-false, d) (named_peeled ends (take k run) (get_or run k 0) (drop (suc k) run) (span_all prepunctuation_mark run)
          (span_fails prepunctuation_mark run h) (ap (all non_whitespace) j ∙ n))

-- the first token of a text
first_peeled : (s : List ℕ) → all whitespace s ≡ false → Peeled (eqb (length (after_run s)) 0) (first_token s)
first_peeled s h =
    let x : List ℕ = after_whitespace s in
    let l : length (take_while non_whitespace x) ≡ span non_whitespace x = length-take-le (span non_whitespace x) x (span_le non_whitespace x) in
    cut_peeled (take_while whitespace s) (span_all whitespace s) (take_while non_whitespace x) (eqb (length (after_run s)) 0)
    (omega (arith, run_some s h)) (span_all non_whitespace x)

-- a token before those of the text r
before_peeled : (t : Token) (r : List ℕ) → Peeled (eqb (length r) 0) t → (0 < length r → 0 < span whitespace r) → AllPeeled (ends_in_run r) (tokens r)
    → AllPeeled (ends_in_run r) (t ∷ tokens r)
before_peeled t r p f i = go (all whitespace r) refl
  where
    go : (b : Bool) → all whitespace r ≡ b → AllPeeled (ends_in_run r) (t ∷ tokens r)
    go true e = rw (tokens_none r e, last_white r e) p
    go false e =
        let h : span whitespace r < length r = span_short whitespace r e in
        let n : eqb (length r) 0 ≡ false = ne_eqb (length r) 0 (omega arith) in
        let j = rw (tokens_more r e) at i in
        rw (tokens_more r e) ((rw n at p), omega (arith, first_white r, f (omega arith)), j)

-- taking the first token off does not change how a text ends
ends_alike : (s : List ℕ) → all whitespace s ≡ false → ends_in_run s ≡ ends_in_run (after_run s)
ends_alike s h = go (ends_in_run (after_run s)) refl
  where
    r : List ℕ
    r = after_run s

    n : first_size s + length r ≡ length s
    n = ap (λ (k : ℕ). k + length r) (sym (first_size_lem s)) ∙ sym (length-append (flatten (token_parts (first_token s))) r) ∙ ap length (first_joined s)

    go : (t : Bool) → ends_in_run r ≡ t → ends_in_run s ≡ t
    go true e = eq-eqb (length s) (after_last non_whitespace s) (omega (arith, last_first s h, n, eqb-true (length r) (after_last non_whitespace r) e))
    go false e = ne_eqb (length s) (after_last non_whitespace s) (λ q. eqb-false (length r) (after_last non_whitespace r) e (omega (arith, last_first s h, n)))

-- "Each maximal run of other bytes is one token": the tokens of a text
pub tokens_peeled : (s : List ℕ) → AllPeeled (ends_in_run s) (tokens s)
tokens_peeled =
    tokens_induct (λ s. AllPeeled (ends_in_run s) (tokens s))
    (λ s h. rw (tokens_none s h) tt)
    (λ s h i. rw (tokens_more s h, ends_alike s h) (before_peeled (first_token s) (after_run s) (first_peeled s h) (run_stops s) i))
