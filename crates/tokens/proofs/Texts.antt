-- Each part of a token of an accepted text is an accepted text. Assumes nothing.
use mathlib.Core.Path.{◌≡◌, refl, sym, ap, ◌∙◌}
use mathlib.Core.Bool.{Bool, true, false, cond, ◌&&◌, and-eq-true_iff}
use mathlib.Core.List.{List, [], ◌∷◌, ◌++◌, flatten}
use Prim.Native.Nat.{ℕ, ◌+◌, ◌≤◌}
use native.Mathlib.Omega.{arith}
use lib.Dec.{eqb}
use lib.ListN.{length, take, drop, get_or, length-append, take-append-drop}
use borrow.Author.Tests.{not-false}
use Rattle.lists.specs.Bytes.{all, span, take_while, drop_while, Every}
use Rattle.lists.specs.Classes.{ascii, whitespace_bytes, prepunctuation_marks, postpunctuation_marks, whitespace, non_whitespace, prepunctuation_mark, postpunctuation_mark, non_postpunctuation}
use Rattle.lists.proofs.Bools.{or_false_both}
use Rattle.lists.proofs.Scan.{span_all, span_front, all_front, all_within, any_append, last_rest, one_of_all}
use Rattle.admit.specs.Utf8.{utf8}
use Rattle.admit.specs.Refusals.{control, has_control, text_refusal}
use Rattle.admit.proofs.Utf8.{utf8_run, utf8_all}
use Rattle.admit.proofs.Utf8Parts.{utf8_append}
use Rattle.admit.proofs.Calls.{text_valid, text_accepted}
use Rattle.tokens.specs.Tokens.{Token, peel, name_size, cut, after_whitespace, after_run, first_token, token_parts, tokens}
use Rattle.tokens.proofs.Forward.{tokens_none, tokens_more, first_joined, tokens_induct}

-- each part of a token has P
pub record Each (P : List ℕ → Type 0) (t : Token) : Type 0 where
  pub whitespace : P t.whitespace
  pub prepunctuation : P t.prepunctuation
  pub name : P t.name
  pub punctuation : P t.punctuation

-- whitespace is ASCII
whitespace_ascii : (b : ℕ) → whitespace b ≡ true → ascii b ≡ true
unfolding all
whitespace_ascii = one_of_all ascii whitespace_bytes refl

-- the trailing marks after the name are ASCII
trailing_ascii : (s : List ℕ) → all ascii (drop (name_size s) s) ≡ true
unfolding all
trailing_ascii [] = refl
trailing_ascii (c ∷ s) = last_rest non_postpunctuation ascii (λ b e. one_of_all ascii postpunctuation_marks refl b (not-false (postpunctuation_mark b) e)) s

-- both parts of a UTF-8 text that is cut before an ASCII byte are UTF-8
utf8_both : (x y : List ℕ) → ascii (get_or y 0 0) ≡ true → utf8 (x ++ y) ≡ true → (utf8 x ≡ true) × (utf8 y ≡ true)
utf8_both x y a h = (and-eq-true_iff (utf8 x) (utf8 y)).0 (sym (utf8_append x y a) ∙ h)

-- the bytes of an ASCII class at the front of a UTF-8 text, and what follows them, are UTF-8
drop_while_utf8 : (p : ℕ → Bool) → ((b : ℕ) → p b ≡ true → ascii b ≡ true) → (s : List ℕ) → utf8 s ≡ true → (utf8 (take_while p s) ≡ true)
    × (utf8 (drop_while p s) ≡ true)
drop_while_utf8 p f s h =
    let a = all_within p ascii f (take_while p s) (span_all p s) in
    (utf8_all (take_while p s) a, sym (utf8_run (span p s) s a) ∙ h)

abbrev IsUtf8 : List ℕ → Type 0
IsUtf8 s = utf8 s ≡ true

cut_utf8 : (white run : List ℕ) (ends : Bool) → IsUtf8 white → IsUtf8 run → Each IsUtf8 (cut white run ends)
unfolding cut all
cut_utf8 white run ends w r = go (ends && all prepunctuation_mark run)
  where
    rest : List ℕ
    rest = drop_while prepunctuation_mark run

    go : (t : Bool) → Each IsUtf8 (cond t (record { whitespace = white; prepunctuation = []; name = run; punctuation = [] }) (peel white run))
    go true = record { whitespace = w; prepunctuation = utf8_all [] refl; name = r; punctuation = utf8_all [] refl }
    go false =
        let k = drop_while_utf8 prepunctuation_mark (one_of_all ascii prepunctuation_marks refl) run r in
        let n = name_size rest in
        let l = utf8_both (take n rest) (drop n rest) (all_front ascii refl (drop n rest) (trailing_ascii rest)) (rw take-append-drop k.1) in
        record { whitespace = w; prepunctuation = k.0; name = l.0; punctuation = l.1 }

first_utf8 : (s : List ℕ) → IsUtf8 s → Each IsUtf8 (first_token s) × IsUtf8 (after_run s)
first_utf8 s h =
    let k = drop_while_utf8 whitespace whitespace_ascii s h in
    let run : List ℕ = take_while non_whitespace (after_whitespace s) in
    let a = span_front non_whitespace ascii refl (λ b e. whitespace_ascii b (not-false (whitespace b) e)) (after_whitespace s) in
    let l = utf8_both run (after_run s) a (rw take-append-drop k.1) in
    (cut_utf8 (take_while whitespace s) run (eqb (length (after_run s)) 0) k.0 l.0, l.1)

abbrev NoControl : List ℕ → Type 0
NoControl s = has_control s ≡ false

-- both parts of a text without control bytes are without them
no_control_both : (x y : List ℕ) → NoControl (x ++ y) → NoControl x × NoControl y
no_control_both x y h = or_false_both (has_control x) (has_control y) (sym (any_append control x y) ∙ h)

first_no_control : (s : List ℕ) → NoControl s → Each NoControl (first_token s) × NoControl (after_run s)
unfolding flatten
first_no_control s h =
    let t = first_token s in
    let all_parts = no_control_both (flatten (token_parts t)) (after_run s) (ap has_control (first_joined s) ∙ h) in
    let a = no_control_both t.whitespace (t.prepunctuation ++ (t.name ++ (t.punctuation ++ []))) all_parts.0 in
    let b = no_control_both t.prepunctuation (t.name ++ (t.punctuation ++ [])) a.1 in
    let c = no_control_both t.name (t.punctuation ++ []) b.1 in
    let d = no_control_both t.punctuation [] c.1 in
    (record { whitespace = a.0; prepunctuation = b.0; name = c.0; punctuation = d.0 }, all_parts.1)

abbrev pub AcceptedText : ℕ → List ℕ → Type 0
AcceptedText limit s = text_refusal limit s ≡ 0

-- the parts of the first token, and what follows it
first_accepted : (limit : ℕ) (s : List ℕ) → AcceptedText limit s → Each (AcceptedText limit) (first_token s) × AcceptedText limit (after_run s)
unfolding flatten
first_accepted limit s h =
    let k = text_valid limit s h in
    let t = first_token s in
    let u = first_utf8 s k.valid_utf8 in
    let v = first_no_control s k.no_control in
    let n : length t.whitespace + (length t.prepunctuation + (length t.name + (length t.punctuation + 0))) + length (after_run s) ≡ length s =
    simp length-append at (ap length (first_joined s)) in
    let part : (x : List ℕ) → length x ≤ length s → IsUtf8 x → NoControl x → AcceptedText limit x =
    λ x l u v. text_accepted limit x (record { within_limit = omega (arith, k.within_limit); valid_utf8 = u; no_control = v }) in (
      record {
        whitespace = part t.whitespace (omega arith) u.0.whitespace v.0.whitespace;
        prepunctuation = part t.prepunctuation (omega arith) u.0.prepunctuation v.0.prepunctuation;
        name = part t.name (omega arith) u.0.name v.0.name;
        punctuation = part t.punctuation (omega arith) u.0.punctuation v.0.punctuation;
      },
      part (after_run s) (omega arith) u.1 v.1,
    )

-- each part of each token of an accepted text is accepted
pub tokens_accepted : (limit : ℕ) (s : List ℕ) → AcceptedText limit s → Every (Each (AcceptedText limit)) (tokens s)
tokens_accepted limit =
    tokens_induct (λ (s : List ℕ). AcceptedText limit s → Every (Each (AcceptedText limit)) (tokens s))
    (λ s e h. rw (tokens_none s e) tt)
    (λ s e i h. let k = first_accepted limit s h in rw (tokens_more s e) (k.0, i k.1))
