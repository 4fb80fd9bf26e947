-- A text is UTF-8 exactly when it is the encoding of some Unicode scalar values, and that is what the library tests.
-- Assumes nothing.
use mathlib.Core.Path.{◌≡◌, refl, sym, ap, ap₂, ◌∙◌}
use mathlib.Core.Bool.{Bool, true, false, ◌&&◌, ◌||◌, and-eq-true_iff, and-false, false≢true}
use mathlib.Core.List.{List, [], ◌∷◌, ◌++◌, map, flatten}
use mathlib.Core.Logic.{inl, inr, ⊎_elim, ◌↔◌}
use Prim.Native.Nat.{ℕ, zero, suc, ◌+◌, ◌-◌, ◌*◌, ◌/◌, ◌≤◌, ◌<◌}
use native.Mathlib.Omega.{arith}
use lib.Dec.{eqb, leb, ltb}
use lib.ListN.{length, take, drop, get_or, length-append, length-drop, take-append-drop}
use lib.Seq.{drop-cons, take_all, take-append_seam, drop-append_seam}
use borrow.Author.Tests.{leb-true, leb-false, le-leb, lt-leb, eqb-true, eqb-false, ne_eqb, lt-ltb, le-ltb, ltb-true}
use lib.Utf8.{scalar, scalars, scalar_cases}
use Rattle.std.specs.Prelude.{Result, Ok, Err, MatchResult, is_ok}
use Rattle.std.specs.Char.{encode_utf8}
use Rattle.std.specs.Str.{encode_utf8_all, IsUtf8}
use Rattle.lists.specs.Bytes.{Every}
use Rattle.lists.specs.Classes.{ascii}
use Rattle.lists.proofs.Bools.{or_true_elim}
use Rattle.lists.proofs.Recursion.{cond_elim, recur_induct}
use Rattle.lists.proofs.Table.{upto, below}
use Rattle.admit.specs.Utf8.{in_range, utf8_tail, lead2, lead3, lead4, sequence_len, char_len, utf8_step, utf8, utf8_chars}
use Rattle.admit.specs.Scalars.{Scalar, low6, encode, text_of}
use Rattle.admit.proofs.Utf8.{utf8_end, utf8_char, chars_end, chars_char}
use Rattle.admit.proofs.Utf8Parts.{char_within}

-- ---- the tests of the table and the bounds that they stand for

-- a byte within the bounds passes
in_range_true : (lo hi b : ℕ) → (lo ≤ b) × (b ≤ hi) → in_range lo hi b ≡ true
in_range_true lo hi b h = rw (le-leb lo b h.0, le-leb b hi h.1)

and_elim : {P : Type 0} (p q : Bool) → (p ≡ true → q ≡ true → P) → (p && q) ≡ true → P
and_elim p q f h = let k = (and-eq-true_iff p q).0 h in f k.0 k.1

-- a byte that passes is within the bounds
pub bounds : (lo hi b : ℕ) → in_range lo hi b ≡ true → (lo ≤ b) × (b ≤ hi)
bounds lo hi b = and_elim (leb lo b) (leb b hi) (λ h k. (leb-true lo b h, leb-true b hi k))

-- ---- from a scalar value to its bytes

-- a byte of the bits 10 and six more is a tail byte
pub tail_true : (n : ℕ) → utf8_tail (low6 n) ≡ true
tail_true n = in_range_true 0x80 0xBF (low6 n) (omega arith)

-- a test that passes at n numbers from lo on passes at any one of them
test_from : (f : ℕ → Bool) (lo n : ℕ) → upto (λ k. f (lo + k)) n ≡ true → (w : ℕ) → (lo ≤ w) × (w < lo + n) → f w ≡ true
test_from f lo n t w h = let e : lo + (w - lo) ≡ w = omega arith in rw e at (below (λ k. f (lo + k)) n t (w - lo) (omega arith))

-- w is the value without its last six bits: 0x800 to 0xD7FF, 0xE000 to 0xFFFF
lead3_low : (w : ℕ) → (0x20 ≤ w) × (w < 0x360) → lead3 (0xE0 + w / 64) (low6 w) ≡ true
lead3_low = test_from (λ w. lead3 (0xE0 + w / 64) (low6 w)) 0x20 0x340 refl

lead3_high : (w : ℕ) → (0x380 ≤ w) × (w < 0x400) → lead3 (0xE0 + w / 64) (low6 w) ≡ true
lead3_high = test_from (λ w. lead3 (0xE0 + w / 64) (low6 w)) 0x380 0x80 refl

-- w is the value without its last twelve bits: 0x10000 to 0x10FFFF
lead4_true : (w : ℕ) → (0x10 ≤ w) × (w < 0x110) → lead4 (0xF0 + w / 64) (low6 w) ≡ true
lead4_true = test_from (λ w. lead4 (0xF0 + w / 64) (low6 w)) 0x10 0x100 refl

-- what holds of the bytes of c in each of the four rows holds of its encoding
pub encode_elim : (P : List ℕ → Type 0) (c : ℕ) → (c ≤ 0x7F → P (c ∷ [])) → ((0x80 ≤ c) × (c ≤ 0x7FF) → P ((0xC0 + c / 64) ∷ low6 c ∷ []))
    → ((0x800 ≤ c) × (c ≤ 0xFFFF) → P ((0xE0 + c / 4096) ∷ low6 (c / 64) ∷ low6 c ∷ []))
    → (0x10000 ≤ c → P ((0xF0 + c / 262144) ∷ low6 (c / 4096) ∷ low6 (c / 64) ∷ low6 c ∷ [])) → P (encode c)
unfolding encode
encode_elim P c one two three four =
    cond_elim P (leb c 0x7F) (λ h. one (leb-true c 0x7F h)) (λ l.
    cond_elim P (leb c 0x7FF) (λ h. two (leb-false c 0x7F l, leb-true c 0x7FF h)) (λ m.
    cond_elim P (leb c 0xFFFF) (λ h. three (leb-false c 0x7FF m, leb-true c 0xFFFF h)) (λ n. four (leb-false c 0xFFFF n))))

-- the encoding of a scalar value is a character of the table
char_encode : (c : ℕ) → Scalar c → (r : List ℕ) → char_len (encode c ++ r) ≡ length (encode c)
unfolding sequence_len
char_encode c s r =
    encode_elim (λ l. char_len (l ++ r) ≡ length l) c
    (λ h. rw (lt-ltb c 0x80 (omega arith)))
    (λ h. rw (le-ltb (0xC0 + c / 64) 0x80 (omega arith), in_range_true 0xC2 0xDF (0xC0 + c / 64) (omega arith), tail_true c))
    (λ h. simp (le-ltb (0xE0 + c / 4096) 0x80 (omega arith), lt-leb (0xE0 + c / 4096) 0xDF (omega arith), and-false, encoded_3 s h, tail_true c))
    (λ h.
    let a = 0xF0 + c / 262144 in
    simp (
      le-ltb a 0x80 (omega arith),
      lt-leb a 0xDF (omega arith),
      ne_eqb a 0xE0 (omega arith),
      lt-leb a 0xEC (omega arith),
      ne_eqb a 0xED (omega arith),
      lt-leb a 0xEF (omega arith),
      and-false,
      encoded_4 s h,
      tail_true (c / 64),
      tail_true c,
    ))
  where
    encoded_3 : Scalar c → (0x800 ≤ c) × (c ≤ 0xFFFF) → lead3 (0xE0 + c / 4096) (low6 (c / 64)) ≡ true
    encoded_3 s h =
        let e : c / 64 / 64 ≡ c / 4096 = omega arith in
        rw (← e) (⊎_elim (λ (k : c ≤ 0xD7FF). lead3_low (c / 64) (omega arith)) (λ (k : (0xE000 ≤ c) × (c ≤ 0x10FFFF)). lead3_high (c / 64) (omega arith)) s)

    encoded_4 : Scalar c → 0x10000 ≤ c → lead4 (0xF0 + c / 262144) (low6 (c / 4096)) ≡ true
    encoded_4 s h =
        let e : c / 4096 / 64 ≡ c / 262144 = omega arith in
        rw (← e) (lead4_true (c / 4096) (⊎_elim (λ (k : c ≤ 0xD7FF). omega arith) (λ (k : (0xE000 ≤ c) × (c ≤ 0x10FFFF)). omega arith) s))

encode_some : (c : ℕ) → 0 < length (encode c)
encode_some c = encode_elim (λ l. 0 < length l) c (λ h. omega arith) (λ h. omega arith) (λ h. omega arith) (λ h. omega arith)

-- ---- from bytes to the scalar value

-- the value that one to four bytes encode: what their leading bits 110, 1110, 11110 and 10 add is subtracted
abbrev scalar_value : List ℕ → ℕ
scalar_value [] = 0
scalar_value (a ∷ []) = a
scalar_value (a ∷ b ∷ []) = a * 64 + b - 0x3080
scalar_value (a ∷ b ∷ c ∷ []) = a * 4096 + b * 64 + c - 0xE2080
scalar_value (a ∷ b ∷ c ∷ d ∷ s) = a * 262144 + b * 4096 + c * 64 + d - 0x3C82080

scalar_value_encode : (c : ℕ) → scalar_value (encode c) ≡ c
scalar_value_encode c =
    let e : c / 64 / 64 ≡ c / 4096 = omega arith in
    let f : c / 4096 / 64 ≡ c / 262144 = omega arith in
    encode_elim (λ l. scalar_value l ≡ c) c (λ h. refl) (λ h. omega arith) (λ h. omega arith) (λ h. omega arith)

-- no two scalar values have the same bytes
pub encode_apart : (c d : ℕ) → encode c ≡ encode d → c ≡ d
encode_apart c d e = sym (scalar_value_encode c) ∙ ap scalar_value e ∙ scalar_value_encode d

-- the text is the encoding of a scalar value
abbrev Encoded : List ℕ → Type 0
Encoded l = (c : ℕ) × Scalar c × (encode c ≡ l)

-- the bounds of a tail byte
abbrev TailByte : ℕ → Type 0
TailByte b = (0x80 ≤ b) × (b ≤ 0xBF)

tail_byte : (b : ℕ) → utf8_tail b ≡ true → TailByte b
tail_byte = bounds 0x80 0xBF

-- the bytes of each row of the table are such an encoding
encoded_1 : (a : ℕ) → ascii a ≡ true → Encoded (a ∷ [])
unfolding encode
encoded_1 a h = (a, inl (omega (arith, ltb-true)), rw (le-leb a 0x7F (omega (arith, ltb-true))))

encoded_2 : (a b : ℕ) → (0xC2 ≤ a) × (a ≤ 0xDF) → TailByte b → Encoded (a ∷ b ∷ [])
unfolding encode
encoded_2 a b h k = (
  v,
  inl (omega arith),
  rw (lt-leb v 0x7F (omega arith), le-leb v 0x7FF (omega arith)) (ap₂ (λ (x y : ℕ). x ∷ y ∷ []) (omega arith) (omega arith)),
)
  where
    v : ℕ
    v = scalar_value (a ∷ b ∷ [])

-- each row of the table has two tests, and some row passes both
abbrev any_pair : Bool → List (Bool × Bool) → Bool
any_pair t [] = t
any_pair t ((p, q) ∷ rows) = any_pair (t || p && q) rows

pair_elim : {P : Type 0} (t : Bool) (rows : List (Bool × Bool)) → (t ≡ true → P) → Every (λ r. r.0 ≡ true → r.1 ≡ true → P) rows → any_pair t rows ≡ true → P
pair_elim t [] f g h = f h
pair_elim t ((p, q) ∷ rows) f g h = pair_elim (t || p && q) rows (or_true_elim t (p && q) f (and_elim p q g.0)) g.1 h

encoded_3 : (a b c : ℕ) → lead3 a b ≡ true → TailByte c → Encoded (a ∷ b ∷ c ∷ [])
unfolding encode
encoded_3 a b c h k =
    pair_elim false ((eqb a 0xE0, in_range 0xA0 0xBF b) ∷ (in_range 0xE1 0xEC a, utf8_tail b) ∷ (eqb a 0xED, in_range 0x80 0x9F b) ∷
    (in_range 0xEE 0xEF a, utf8_tail b) ∷ [])
    (λ e. absurd (false≢true e)) (
      λ x y. low (omega (arith, eqb-true, bounds 0xA0 0xBF b y)),
      (
        λ x y. low (omega (arith, bounds 0xE1 0xEC a x, bounds 0x80 0xBF b y)),
        (
          λ x y. low (omega (arith, eqb-true, bounds 0x80 0x9F b y)),
          (λ x y. high (omega (arith, bounds 0xEE 0xEF a x, bounds 0x80 0xBF b y)), tt),
        ),
      ),
    )
    h
  where
    v : ℕ
    v = scalar_value (a ∷ b ∷ c ∷ [])

    bytes : TailByte b × (0x800 ≤ v) × (v ≤ 0xFFFF) → encode v ≡ a ∷ b ∷ c ∷ []
    bytes l =
        rw (lt-leb v 0x7F (omega arith), lt-leb v 0x7FF (omega arith), le-leb v 0xFFFF (omega arith))
        (ap₂ ◌∷◌ (omega arith) (ap₂ (λ (x y : ℕ). x ∷ y ∷ []) (omega arith) (omega arith)))

    low : TailByte b × (0x800 ≤ v) × (v ≤ 0xD7FF) → Encoded (a ∷ b ∷ c ∷ [])
    low l = (v, inl (omega arith), bytes (omega arith))

    high : TailByte b × (0xE000 ≤ v) × (v ≤ 0xFFFF) → Encoded (a ∷ b ∷ c ∷ [])
    high l = (v, inr (omega arith), bytes (omega arith))

encoded_4 : (a b c d : ℕ) → lead4 a b ≡ true → TailByte c → TailByte d → Encoded (a ∷ b ∷ c ∷ d ∷ [])
unfolding encode
encoded_4 a b c d h k l =
    pair_elim false ((eqb a 0xF0, in_range 0x90 0xBF b) ∷ (in_range 0xF1 0xF3 a, utf8_tail b) ∷ (eqb a 0xF4, in_range 0x80 0x8F b) ∷ [])
    (λ e. absurd (false≢true e)) (
      λ x y. some (omega (arith, eqb-true, bounds 0x90 0xBF b y)),
      (
        λ x y. some (omega (arith, bounds 0xF1 0xF3 a x, bounds 0x80 0xBF b y)),
        (λ x y. some (omega (arith, eqb-true, bounds 0x80 0x8F b y)), tt),
      ),
    )
    h
  where
    v : ℕ
    v = scalar_value (a ∷ b ∷ c ∷ d ∷ [])

    some : TailByte b × (0x10000 ≤ v) × (v ≤ 0x10FFFF) → Encoded (a ∷ b ∷ c ∷ d ∷ [])
    some m = (
      v,
      inr (omega arith),
      rw (lt-leb v 0x7F (omega arith), lt-leb v 0x7FF (omega arith), lt-leb v 0xFFFF (omega arith))
          (ap₂ ◌∷◌ (omega arith) (ap₂ ◌∷◌ (omega arith) (ap₂ (λ (x y : ℕ). x ∷ y ∷ []) (omega arith) (omega arith)))),
    )

-- n bytes from the place i on, each read by itself
abbrev bytes_at : ℕ → ℕ → List ℕ → List ℕ
bytes_at i zero s = []
bytes_at i (suc n) s = get_or s i 0 ∷ bytes_at (suc i) n s

take_bytes_at : (i n : ℕ) (s : List ℕ) → i + n ≤ length s → take n (drop i s) ≡ bytes_at i n s
take_bytes_at i zero s h = refl
take_bytes_at i (suc n) s h = rw (drop-cons s i 0 (omega arith)) (ap (λ (l : List ℕ). get_or s i 0 ∷ l) (take_bytes_at (suc i) n s (omega arith)))

-- the character at the front is the encoding of a scalar value
char_scalar : (s : List ℕ) → char_len s ≤ length s → (char_len s ≡ 0 → ⊥) → Encoded (take (char_len s) s)
unfolding sequence_len
char_scalar s l z =
    rw (take_bytes_at 0 (char_len s) s (omega arith))
    (cond_elim P (ascii a) (λ h z. encoded_1 a h) (λ g.
    cond_elim P (lead2 a && utf8_tail b) (and_elim (lead2 a) (utf8_tail b) (λ h k z. encoded_2 a b (bounds 0xC2 0xDF a h) (tail_byte b k))) (λ g.
    cond_elim P (lead3 a b && utf8_tail c) (and_elim (lead3 a b) (utf8_tail c) (λ h k z. encoded_3 a b c h (tail_byte c k))) (λ g.
    cond_elim P (lead4 a b && utf8_tail c && utf8_tail d)
    (and_elim (lead4 a b && utf8_tail c) (utf8_tail d) (λ h k. and_elim (lead4 a b) (utf8_tail c) (λ m n z. encoded_4 a b c d m (tail_byte c n) (tail_byte d k)) h))
    (λ g z. absurd (z refl)))))
    z)
  where
    a : ℕ
    a = get_or s 0 0

    b : ℕ
    b = get_or s 1 0

    c : ℕ
    c = get_or s 2 0

    d : ℕ
    d = get_or s 3 0

    P : ℕ → Type 0
    P n = (n ≡ 0 → ⊥) → Encoded (bytes_at 0 n s)

-- ---- whole texts

-- the encoding of a scalar value, with another text after it
module _ (c : ℕ) (h : Scalar c) (r : List ℕ) where
  first : length (encode c) ≡ char_len (encode c ++ r)
  first = sym (char_encode c h r)

  some : (0 < length (encode c ++ r)) × (length (encode c) ≡ 0 → ⊥)
  some = let l = encode_some c in (simp length-append (omega arith), omega arith)

  utf8_more : utf8 (encode c ++ r) ≡ utf8 r
  utf8_more = utf8_char (encode c ++ r) _ first some.0 ∙ rw (ne_eqb _ 0 some.1, drop-append_seam)

  chars_more : utf8_chars (encode c ++ r) ≡ encode c ∷ utf8_chars r
  chars_more = chars_char (encode c ++ r) _ first some.0 ∙ rw (ne_eqb _ 0 some.1, drop-append_seam, take-append_seam)

-- so the text that encodes scalar values is UTF-8
text_utf8 : (cs : List ℕ) → Every Scalar cs → utf8 (text_of cs) ≡ true
unfolding flatten
text_utf8 [] h = utf8_end [] 0 (omega arith)
text_utf8 (c ∷ cs) h = utf8_more c h.0 (text_of cs) ∙ text_utf8 cs h.1

-- the characters of such a text are the encodings
pub text_chars : (cs : List ℕ) → Every Scalar cs → utf8_chars (text_of cs) ≡ map encode cs
unfolding flatten
text_chars [] h = chars_end
text_chars (c ∷ cs) h = chars_more c h.0 (text_of cs) ∙ ap (λ (l : List (List ℕ)). encode c ∷ l) (text_chars cs h.1)

-- the text encodes some scalar values. Every UTF-8 text does, character by character
abbrev EncodedText : List ℕ → Type 0
EncodedText s = (cs : List ℕ) × Every Scalar cs × (s ≡ text_of cs)

utf8_text : (s : List ℕ) → utf8 s ≡ true → EncodedText s
unfolding utf8 utf8_step flatten
utf8_text s = recur_induct (λ s t. t ≡ true → EncodedText s) false utf8_step (λ f s i.
    cond_elim (λ t. t ≡ true → EncodedText s) (eqb (length s) 0) (λ e h. ([], tt, sym (take_all 0 s (omega (arith, eqb-true))))) (λ n.
    cond_elim (λ t. t ≡ true → EncodedText s) (eqb (char_len s) 0) (λ e h. absurd (false≢true h)) (λ m.
    let l : 0 < length s = omega (arith, eqb-false (length s) 0 n) in
    let k : length (drop (char_len s) s) < length s = simp length-drop (omega (arith, eqb-false (char_len s) 0 m)) in
    more s (char_scalar s (char_within s l) (eqb-false (char_len s) 0 m)) (i (drop (char_len s) s) k)))) s
  where
    more : {A : Type 0} (s : List ℕ) → Encoded (take (char_len s) s) → (A → EncodedText (drop (char_len s) s)) → A → EncodedText s
    more s c f h = let r = f h in (c.0 ∷ r.0, (c.1, r.1), sym (take-append-drop (char_len s) s) ∙ ap₂ ◌++◌ (sym c.2) r.2)

-- a text is UTF-8 exactly when it encodes some scalar values
pub utf8_scalars : (s : List ℕ) → (utf8 s ≡ true) ↔ ((cs : List ℕ) × Every Scalar cs × (s ≡ text_of cs))
utf8_scalars s = (utf8_text s, λ t. rw t.2 (text_utf8 t.0 t.1))

-- the characters of a UTF-8 text, joined, are the text
pub utf8_chars_join : (s : List ℕ) → utf8 s ≡ true → flatten (utf8_chars s) ≡ s
utf8_chars_join s h = let t = utf8_text s h in rw t.2 (ap flatten (text_chars t.0 t.1))

-- ---- the library's words for the same

le_lt : (n k : ℕ) → leb n k ≡ ltb n (suc k)
le_lt n k = go (leb n k) refl
  where
    go : (t : Bool) → leb n k ≡ t → t ≡ ltb n (suc k)
    go true e = sym (lt-ltb n (suc k) (omega (arith, leb-true n k e)))
    go false e = sym (le-ltb n (suc k) (omega (arith, leb-false n k e)))

-- a scalar value is encoded in the same way
encode_is : (c : ℕ) → encode c ≡ encode_utf8 c
unfolding encode encode_utf8
encode_is c = rw (le_lt c 0x7F, le_lt c 0x7FF, le_lt c 0xFFFF)

-- the scalar values are the same
scalar_true : (c : ℕ) → Scalar c → scalar c ≡ true
scalar_true c = ⊎_elim (λ h. rw (lt-ltb c 0xD800 (omega arith)))
    (λ h. rw (le-ltb c 0xD800 (omega (arith, h.0)), le-leb 0xE000 c h.0, lt-ltb c 0x110000 (omega (arith, h.1))))

true_scalar : (c : ℕ) → scalar c ≡ true → Scalar c
true_scalar c h = ⊎_elim (λ k. inl (omega arith)) (λ k. inr (k.0, omega (arith, k.1))) (scalar_cases c h)

scalars_true : (cs : List ℕ) → Every Scalar cs → scalars cs ≡ true
scalars_true [] h = refl
scalars_true (c ∷ cs) h = rw (scalar_true c h.0) (scalars_true cs h.1)

true_scalars : (cs : List ℕ) → scalars cs ≡ true → Every Scalar cs
true_scalars [] h = tt
true_scalars (c ∷ cs) h = let k = (and-eq-true_iff (scalar c) (scalars cs)).0 h in (true_scalar c k.0, true_scalars cs k.1)

text_is : (cs : List ℕ) → encode_utf8_all cs ≡ text_of cs
unfolding flatten
text_is [] = refl
text_is (c ∷ cs) = rw (encode_is c, text_is cs)

-- a text that is UTF-8 is so in the library's words, and the other way round
pub utf8_library : (s : List ℕ) → (utf8 s ≡ true) ↔ IsUtf8 s
utf8_library s = (
  λ h. let t = utf8_text s h in (t.0, (scalars_true t.0 t.1, text_is t.0 ∙ sym t.2)),
  λ t. rw (sym t.1.1 ∙ text_is t.0) (text_utf8 t.0 (true_scalars t.0 t.1.0)),
)

-- so the library's test accepts a text exactly if it is UTF-8
pub utf8_tested : {T E : Type 0} (r : Result T E) (s : List ℕ) (P : T → Type 0) (Q : E → Type 0)
    → MatchResult r (λ t. P t × IsUtf8 s) (λ e. ¬ (IsUtf8 s) × Q e) → is_ok r ≡ utf8 s
utf8_tested (Ok t) s P Q h = sym ((utf8_library s).1 h.1)
utf8_tested (Err e) s P Q h = go (utf8 s) refl
  where
    go : (t : Bool) → utf8 s ≡ t → false ≡ t
    go true k = absurd (h.0 ((utf8_library s).0 k))
    go false k = refl
