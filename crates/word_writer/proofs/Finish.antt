-- What a run of words leaves in the buffers, and what a call that measures first answers. Assumes nothing.
use mathlib.Core.Path.{◌≡◌, refl, sym, ap, ◌∙◌}
use mathlib.Core.Bool.{Bool, true, false}
use mathlib.Core.Logic.{⊎_elim}
use mathlib.Core.List.{List, [], ◌∷◌, ◌++◌, flatten}
use Prim.Native.Nat.{ℕ, ◌+◌, ◌*◌, ◌≤◌, ◌<◌, min}
use native.Mathlib.Nat.{add-zero, zero-add}
use native.Mathlib.Omega.{arith}
use lib.Dec.{ltb}
use lib.ListN.{length, length-append}
use lib.Seq.{sets}
use borrow.Author.Tests.{ltb-false, le-ltb, lt-ltb}
use Rattle.lists.specs.Bytes.{overwrite}
use Rattle.lists.specs.LittleEndian.{le_bytes}
use Rattle.lists.proofs.Sets.{sets_append, sets_front, le_or_lt}
use Rattle.lists.proofs.Bools.{or_false_both}
use Rattle.std.specs.Prelude.{Result, Ok, Err, IsErrAnd}
use Rattle.admit.specs.Refusals.{Test, ◌when◌, text_limit, text_tests, text_refusal, answer_number, in_order}
use Rattle.admit.specs.declared.Refusal.{Refusal}
use Rattle.admit.specs.declared.Refusal.TheVariants.{BufferTooShort}
use Rattle.admit.proofs.Calls.{leaves_first, decides_next}
use Rattle.word_writer.specs.Writer.{usize_max, pair_of, pair_size, Written, written, unwritten, gap, after_gap, put_word, put_words, Says}
use Rattle.word_writer.specs.Words.{table_of, too_short_for, too_short, words_call, as_words, counts_at, words_tests}
use Rattle.word_writer.specs.declared.Writer.{Writer}
use Rattle.word_writer.specs.declared.WordCounts.{WordCounts}

-- two runs of words joined are put one after the other
pub put_words_append : (ws vs : List (List ℕ)) (s : Written) → put_words (ws ++ vs) s ≡ put_words vs (put_words ws s)
unfolding put_words
put_words_append [] vs s = refl
put_words_append (w ∷ ws) vs s = put_words_append ws vs (put_word w s)

-- the bytes of words with a gap before each, and the pairs of these words; `at` is the place of the first gap
unfoldable pub store_by : Bool → List (List ℕ) → List ℕ
store_by g [] = []
store_by g (w ∷ ws) = gap g ++ (w ++ store_by g ws)

unfoldable pub table_by : Bool → ℕ → List (List ℕ) → List ℕ
table_by g at [] = []
table_by g at (w ∷ ws) = pair_of (at + length (gap g)) (length w) ++ table_by g (at + length (gap g) + length w) ws

-- without gaps these are the bytes and pairs that a call gives
store_plain : (ws : List (List ℕ)) → store_by false ws ≡ flatten ws
unfolding store_by flatten
store_plain [] = refl
store_plain (w ∷ ws) = ap (λ (s : List ℕ). w ++ s) (store_plain ws)

table_plain : (at : ℕ) (ws : List (List ℕ)) → table_by false at ws ≡ table_of at ws
unfolding table_by table_of
table_plain at [] = refl
table_plain at (w ∷ ws) = rw (add-zero at) (ap (λ (t : List ℕ). pair_of at (length w) ++ t) (table_plain (at + length w) ws))

-- the place after a gap
gap_place : (g : Bool) (at : ℕ) → at ≤ usize_max → after_gap g at ≡ min (at + length (gap g)) usize_max
gap_place true at h = refl
gap_place false at h = omega arith

-- the place in the store moves on by the bytes of the words, whatever the buffers are
pub put_words_at : (ws : List (List ℕ)) (s : Written) → s.at ≤ usize_max → (put_words ws s).at ≡ min (s.at + length (store_by s.spaced ws)) usize_max
unfolding put_words put_word store_by
put_words_at [] s h = omega arith
put_words_at (w ∷ ws) s h =
    let g = gap_place s.spaced s.at h in
    let n = length-append (gap s.spaced) (w ++ store_by s.spaced ws) in
    let m = length-append w (store_by s.spaced ws) in
    put_words_at ws (put_word w s) (omega arith) ∙ omega arith

-- the place in the table moves on by the count of words, whatever the buffers are
pub put_words_words : (ws : List (List ℕ)) (s : Written) → s.words ≤ usize_max → (put_words ws s).words ≡ min (s.words + length ws) usize_max
unfolding put_words put_word
put_words_words [] s h = omega arith
put_words_words (w ∷ ws) s h = put_words_words ws (put_word w s) (omega arith) ∙ omega arith

-- the bytes of the words stand in the store and their pairs in the table, and the places are after them
abbrev pub written_words : List (List ℕ) → Written → Written
written_words ws s =
    record {
      store = sets s.store s.at (store_by s.spaced ws);
      table = sets s.table (pair_size * s.words) (table_by s.spaced s.at ws);
      at = s.at + length (store_by s.spaced ws);
      words = s.words + length ws;
      spaced = s.spaced;
    }

-- this is what putting words gives, if the places stay within the largest number
pub put_words_is : (ws : List (List ℕ)) (s : Written) → s.at + length (store_by s.spaced ws) ≤ usize_max → s.words + length ws ≤ usize_max
    → put_words ws s ≡ written_words ws s
unfolding put_words put_word store_by table_by pair_of le_bytes
put_words_is [] s h k = λ j. record { store = s.store; table = s.table; at = sym (add-zero s.at) j; words = sym (add-zero s.words) j; spaced = s.spaced }
put_words_is (w ∷ ws) s h k =
    let g = gap s.spaced in
    let b = store_by s.spaced ws in
    let n : length (g ++ (w ++ b)) ≡ length g + length (w ++ b) = length-append g (w ++ b) in
    let m : length (w ++ b) ≡ length w + length b = length-append w b in
    let p : after_gap s.spaced s.at ≡ s.at + length g = let q = gap_place s.spaced s.at (omega arith) in omega arith in
    let a : min (after_gap s.spaced s.at + length w) usize_max ≡ s.at + length g + length w = omega arith in
    let e : pair_size * min (s.words + 1) usize_max ≡ pair_size * s.words + pair_size = omega arith in
    let es : (written_words ws (put_word w s)).store ≡ (written_words (w ∷ ws) s).store =
    rw (a, p) (sym (sets_append s.store s.at g (w ++ b) ∙ sets_append (sets s.store s.at g) (s.at + length g) w b)) in
    let et : (written_words ws (put_word w s)).table ≡ (written_words (w ∷ ws) s).table =
    rw (a, p, e)
    (sym
    (sets_append s.table (pair_size * s.words) (pair_of (s.at + length g) (length w))
    (table_by s.spaced (s.at + length g + length w) ws))) in
    let ea : (written_words ws (put_word w s)).at ≡ (written_words (w ∷ ws) s).at = omega arith in
    let ew : (written_words ws (put_word w s)).words ≡ (written_words (w ∷ ws) s).words = omega arith in
    put_words_is ws (put_word w s) (omega arith) (omega arith) ∙ (λ j. record { store = es j; table = et j; at = ea j; words = ew j; spaced = s.spaced })

-- a table has the bytes of one pair for each word
pub table_of_length : (at : ℕ) (ws : List (List ℕ)) → length (table_of at ws) ≡ pair_size * length ws
unfolding table_of pair_of le_bytes
table_of_length at [] = refl
table_of_length at (w ∷ ws) = omega (arith, table_of_length (at + length w) ws)

-- two tests against the same bound are equal if each follows from the other
ltb_same : (a b l : ℕ) → (l < a → l < b) → (l < b → l < a) → ltb l a ≡ ltb l b
ltb_same a b l f g =
    ⊎_elim (λ (h : a ≤ l). le-ltb l a h ∙ sym (le-ltb l b (⊎_elim (λ (k : b ≤ l). k) (λ (k : l < b). let q : l < a = g k in omega arith) (le_or_lt b l))))
    (λ (h : l < a). lt-ltb l a h ∙ sym (lt-ltb l b (f h)))
    (le_or_lt a l)

-- what is measured of the words ws, with any buffers, shows whether buffers of a and b bytes are too short for them
pub measured : (ws : List (List ℕ)) (a b : ℕ) → a < usize_max → b < usize_max → {x y : List ℕ} {p q : Writer}
    → written p ≡ unwritten false x y → Says ws p q
    → too_short_for q.at q.words a b ≡ too_short_for (length (flatten ws)) (length ws) a b
measured ws a b ha hb {x} {y} {p} {q} start said =
    let e : written q ≡ put_words ws (unwritten false x y) = said.result ∙ ap (put_words ws) start in
    let f : length (store_by false ws) ≡ length (flatten ws) = ap (λ (s : List ℕ). length s) (store_plain ws) in
    let n : q.at ≡ min (length (flatten ws)) usize_max =
    ap (λ (s : Written). s.at) e ∙ put_words_at ws (unwritten false x y) (omega arith) ∙ omega arith in
    let w : q.words ≡ min (length ws) usize_max =
    ap (λ (s : Written). s.words) e ∙ put_words_words ws (unwritten false x y) (omega arith) ∙ omega arith in
    rw (
      ltb_same q.at (length (flatten ws)) a (λ h. omega arith) (λ h. omega arith),
      ltb_same (pair_size * q.words) (pair_size * length ws) b (λ h. omega arith) (λ h. omega arith),
    )

-- buffers that are long enough are not too short
pub long_enough : (ws : List (List ℕ)) (a b : ℕ) → length (flatten ws) ≤ a → pair_size * length ws ≤ b → too_short_for (length (flatten ws)) (length ws) a b ≡ false
long_enough ws a b h k = rw (le-ltb a (length (flatten ws)) h, le-ltb b (pair_size * length ws) k)

-- the tests of a call that gives words run in their order
pub words_in_order : (s : List ℕ) (ws : List (List ℕ)) (st tb : List ℕ) → in_order (words_tests s ws st tb) ≡ true
unfolding text_tests
words_in_order s ws st tb = refl

-- ws are the words of the text s; st and tb are the lent buffers
module _ (s : List ℕ) (ws : List (List ℕ)) (st tb : List ℕ) where
  abbrev is_short : Bool
  is_short = too_short ws st tb

  abbrev text : List Test
  text = text_tests text_limit (s ∷ [])

  abbrev room : List Test
  room = BufferTooShort when is_short ∷ []

  -- `made` is what the call answered that tested the text
  module _ {T : Type 0} {made : Result T Refusal} (made_eq : answer_number made ≡ text_refusal text_limit s) where
    -- if the text is refused, `?` leaves with its refusal
    pub text_refused : (result : Result WordCounts Refusal) {r : Refusal} → made ≡ Err r → IsErrAnd result (λ e. e ≡ r)
        → as_words result st tb ≡ words_call s ws st tb
    unfolding words_call
    text_refused result e h = leaves_first text room made_eq _ _ _ result e h

    -- if a buffer is too short, the call answers that
    pub short_refused : {v : T} → made ≡ Ok v → is_short ≡ true → as_words (Err BufferTooShort) st tb ≡ words_call s ws st tb
    unfolding words_call
    short_refused e t = rw (decides_next text room made_eq e, t)

    -- if both are long enough, the words are written to them and the call answers their counts
    pub all_written : {v : T} → made ≡ Ok v → is_short ≡ false → length st < usize_max → length tb < usize_max → {p q : Writer}
        → written p ≡ unwritten false st tb → Says ws p q
        → as_words (Ok (counts_at (written q))) q.store.now q.table.now ≡ words_call s ws st tb
    unfolding words_call
    all_written e f hs ht {p} {q} start said =
        let fits = or_false_both (ltb (length st) (length (flatten ws))) (ltb (length tb) (pair_size * length ws)) f in
        let fs : length (flatten ws) ≤ length st = ltb-false _ _ fits.0 in
        let ft : pair_size * length ws ≤ length tb = ltb-false _ _ fits.1 in
        let g = store_plain ws in
        let eg : length (store_by false ws) ≡ length (flatten ws) = ap (λ (t : List ℕ). length t) g in
        let s₀ = unwritten false st tb in
        let all : written q ≡ written_words ws s₀ = said.result ∙ ap (put_words ws) start ∙ put_words_is ws s₀ (omega arith) (omega arith) in
        let es : q.store.now ≡ overwrite (flatten ws) st = ap (λ (k : Written). k.store) all ∙ ap (sets st 0) g ∙ sets_front st (flatten ws) fs in
        let et : q.table.now ≡ overwrite (table_of 0 ws) tb =
        ap (λ (k : Written). k.table) all ∙ ap (sets tb 0) (table_plain 0 ws)
        ∙ sets_front tb (table_of 0 ws) (omega (arith, table_of_length 0 ws)) in
        let ea : q.at ≡ length (flatten ws) = ap (λ (k : Written). k.at) all ∙ zero-add (length (store_by false ws)) ∙ eg in
        let ew : q.words ≡ length ws = ap (λ (k : Written). k.words) all ∙ zero-add (length ws) in
        rw (decides_next text room made_eq e, f) (λ j. record { refusal = 0; value = record { words = ew j; bytes = ea j; store = es j; table = et j } })
