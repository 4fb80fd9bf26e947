-- Words of two or more letters a to z: a word that alone is an answer of `cardinal` or `ordinal` stands in the tables. Assumes
-- nothing.
use mathlib.Core.Path.{◌≡◌, refl, sym, ◌∙◌}
use mathlib.Core.Bool.{Bool, true, false, not, ◌&&◌, true≢false, and-eq-true_iff}
use mathlib.Core.List.{List, [], ◌∷◌, map, cons-eq-cons, nil≢cons, cons≢nil}
use Prim.Native.Nat.{ℕ, zero, suc, ◌≤◌, ◌<◌}
use Prim.Native.Char.{code}
use native.Mathlib.Omega.{arith}
use lib.Dec.{leb}
use lib.ListN.{length}
use borrow.Author.Tests.{leb-true, le-leb, not-true}
use Rattle.lists.specs.Bytes.{all, lowercase, filter_if, listed, any}
use Rattle.lists.specs.Classes.{except}
use Rattle.lists.proofs.Table.{below}
use Rattle.vocabulary.proofs.Laws.{unfold_vocabulary}
use Rattle.numerals.specs.Words.{Word, one, teen, ten, scale, other, spell, spelled}
use Rattle.numerals.specs.Cardinal.{digit_values, pair_words, scale_for, join_at_scale, short_cardinal, cardinal}
use Rattle.numerals.specs.Ordinal.{form_in, ordinal_form, or_zero, on_last, ordinal}
use Rattle.numerals.proofs.Cardinal.{short_cardinal_induct, cardinal_of_elim}
use Rattle.numerals.specs.Walk.{BelowTen}
use Rattle.numerals.proofs.NumberWords.{digit_values_below_ten}
use Rattle.clear.specs.Clear.{table_words, SingleAnswer, Clear, clear_word}
use Rattle.clear.specs.Test.{is_word_clear}

-- ---- an answer of one word

-- if the words are one word, it has the property P
abbrev IfSingle : (Word → Type 0) → List Word → Type 0
IfSingle P [] = Unit
IfSingle P (w ∷ []) = P w
IfSingle P (w ∷ v ∷ ws) = Unit

-- the word and its ordinal form stand in the tables
abbrev in_tables : Word → Bool
in_tables w = listed (spell w) table_words && listed (ordinal_form (spell w)) table_words

abbrev InTables : Word → Type 0
InTables w = in_tables w ≡ true

-- this holds of the words of ONES, TEENS and TENS
one_in_tables : (d : ℕ) → d < 10 → InTables (one d)
unfolding spell ordinal_form form_in table_words any unfold_vocabulary
one_in_tables = below (λ d. in_tables (one d)) 10 refl

teen_in_tables : (d : ℕ) → d < 10 → InTables (teen d)
unfolding spell ordinal_form form_in table_words any unfold_vocabulary
teen_in_tables = below (λ d. in_tables (teen d)) 10 refl

ten_in_tables : (d : ℕ) → d < 10 → InTables (ten d)
unfolding spell ordinal_form form_in table_words any unfold_vocabulary
ten_in_tables = below (λ d. in_tables (ten d)) 10 refl

pair_single : (a b : ℕ) → a < 10 → b < 10 → IfSingle InTables (pair_words a b)
unfolding pair_words
pair_single zero zero p q = tt
pair_single zero (suc b) p q = one_in_tables (suc b) q
pair_single (suc a) zero p q = ten_in_tables (suc a) p
pair_single (suc zero) (suc b) p q = teen_in_tables (suc b) q
pair_single (suc (suc a)) (suc b) p q = tt

-- a scale's word never stands alone
join_single : (l : List Word) (w : Word) (r : List Word) → IfSingle InTables r → IfSingle InTables (join_at_scale l w r)
unfolding join_at_scale
join_single [] w r h = h
join_single (v ∷ []) w r h = tt
join_single (v ∷ u ∷ l) w r h = tt

short_single : (s : List ℕ) → BelowTen s → IfSingle InTables (short_cardinal s)
short_single = short_cardinal_induct (λ d. d < 10) (λ n ws. IfSingle InTables ws) (record {
  none = tt;
  single = one_in_tables;
  double = pair_single;
  zero_led = λ ws h. h;
  triple = λ a b c p q r. tt;
  joined = λ n left right l h k. join_single left (scale (scale_for n)) right k;
})

ones_single : (s : List ℕ) → BelowTen s → IfSingle InTables (map one s)
ones_single [] h = tt
ones_single (a ∷ []) h = one_in_tables a h.0
ones_single (a ∷ b ∷ s) h = tt

cardinal_single : (t : List ℕ) → IfSingle InTables (cardinal t)
unfolding cardinal
cardinal_single t = let d = digit_values_below_ten t in cardinal_of_elim (IfSingle InTables) (digit_values t) (λ l. short_single (digit_values t) d)
    (ones_single (digit_values t) d)

-- ---- it is a word of the tables

abbrev IsTableWord : Word → Type 0
IsTableWord w = listed (spell w) table_words ≡ true

in_tables_word : (w : Word) → InTables w → IsTableWord w
in_tables_word w f = ((and-eq-true_iff (listed (spell w) table_words) (listed (ordinal_form (spell w)) table_words)).0 f).0

form_table_word : (w : Word) → InTables w → IsTableWord (other (ordinal_form (spell w)))
unfolding spell
form_table_word w f = ((and-eq-true_iff (listed (spell w) table_words) (listed (ordinal_form (spell w)) table_words)).0 f).1

single_imply : (ws : List Word) → IfSingle InTables ws → IfSingle IsTableWord ws
single_imply [] h = tt
single_imply (w ∷ []) h = in_tables_word w h
single_imply (w ∷ v ∷ ws) h = tt

last_single : (ws : List Word) → IfSingle InTables ws → IfSingle IsTableWord (on_last (or_zero ws))
unfolding or_zero on_last
last_single [] h = form_table_word (one 0) (one_in_tables 0 (omega arith))
last_single (w ∷ []) h = form_table_word w h
last_single (w ∷ v ∷ []) h = tt
last_single (w ∷ v ∷ u ∷ ws) h = tt

single_listed : (w : List ℕ) (ws : List Word) → IfSingle IsTableWord ws → spelled ws ≡ w ∷ [] → listed w table_words ≡ true
unfolding spelled
single_listed w [] h e = absurd (nil≢cons e)
single_listed w (v ∷ []) h e = let f : spell v ≡ w = cc in rw f at h
single_listed w (v ∷ u ∷ ws) h e = absurd (cons≢nil (cons-eq-cons.0 e).1)

-- a word that alone is an answer of `cardinal` stands in the tables
pub cardinal_alone : (w : List ℕ) → SingleAnswer cardinal w → listed w table_words ≡ true
cardinal_alone w a = single_listed w (cardinal a.0) (single_imply (cardinal a.0) (cardinal_single a.0)) a.1

-- so does a word that alone is an answer of `ordinal`
pub ordinal_alone : (w : List ℕ) → SingleAnswer ordinal w → listed w table_words ≡ true
unfolding ordinal
ordinal_alone w a = let c = filter_if (except (code ",")) a.0 in single_listed w (on_last (or_zero (cardinal c)))
    (last_single (cardinal c) (cardinal_single c)) a.1

-- ---- clear words

-- a word that passes the test is clear
pub test_word : (s : List ℕ) → is_word_clear s ≡ true → Clear s
test_word s h =
    let p = (and-eq-true_iff (leb 2 (length s) && all lowercase s) (not (listed s table_words))).0 h in
    let q = (and-eq-true_iff (leb 2 (length s)) (all lowercase s)).0 p.0 in
    let n : listed s table_words ≡ false = not-true _ p.1 in
    clear_word s (leb-true 2 (length s) q.0) q.1 n (λ a. true≢false (sym (cardinal_alone s a) ∙ n)) (λ a. true≢false (sym (ordinal_alone s a) ∙ n))

-- letters that are no word of the tables pass the test
pub word_test : (s : List ℕ) → 2 ≤ length s → all lowercase s ≡ true → listed s table_words ≡ false → is_word_clear s ≡ true
word_test s h a n = rw (le-leb 2 (length s) h, a, n)
