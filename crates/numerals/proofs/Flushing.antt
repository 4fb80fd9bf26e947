-- What is written when the word that is held is flushed, as it is or in its ordinal form. Assumes nothing.
use mathlib.Core.Path.{◌≡◌, refl, ap, ◌∙◌}
use mathlib.Core.List.{List, [], ◌∷◌, ◌++◌, map, map-append}
use Prim.Native.Nat.{ℕ, ◌+◌, ◌≤◌, ◌<◌}
use native.Mathlib.Omega.{arith}
use lib.ListN.{length}
use borrow.Author.Tests.{le-leb, lt-leb}
use Rattle.lists.specs.Bytes.{Every}
use Rattle.lists.proofs.Every.{every_last}
use Rattle.vocabulary.specs.Vocabulary.{word_of, ones_at, ordinal_step}
use Rattle.std.specs.Prelude.{Option, None}
use Rattle.word_writer.specs.Writer.{Written, written, put_word, put_words, Puts, Says}
use Rattle.word_writer.specs.declared.Writer.{Writer}
use Rattle.word_writer.proofs.Saying.{same_buffers_on, says_append, says_same}
use Rattle.numerals.specs.Words.{Word, one, other, spell, spelled}
use Rattle.numerals.specs.Cardinal.{digit_values, short_cardinal, cardinal_of, cardinal, digits}
use Rattle.numerals.specs.Ordinal.{ordinal_form, or_zero, on_last, ordinal}
use Rattle.numerals.specs.Walk.{BelowTen, number_of, ordinal_number}
use Rattle.numerals.specs.Held.{HeldWriter, held, flush_word, form_word, flushed, formed, hold_word, hold_words, Holds}
use Rattle.numerals.specs.declared.held.Held.{Held}
use Rattle.numerals.proofs.Digits.{digit_values_commas, spelled_append}
use Rattle.numerals.proofs.NumberWords.{NumberWord, short_number_words, digit_values_below_ten}
use Rattle.numerals.proofs.Forms.{spell_number, form_number, digit_form}

-- a writer that holds no word
abbrev pub none_held : Written → HeldWriter
none_held σ = record { writer = σ; last = None }

-- the next word is held, and then written
flush_next : (w : Word) (h : HeldWriter) → NumberWord w → flushed (hold_word (number_of w) h) ≡ put_word (spell w) (flushed h)
unfolding hold_word flushed
flush_next w h n = rw (spell_number w n)

-- all words are written in the end
flush_all : (ws : List Word) (h : HeldWriter) → Every NumberWord ws → flushed (hold_words (map number_of ws) h) ≡ put_words (spelled ws) (flushed h)
unfolding hold_words put_words spelled
flush_all [] h n = refl
flush_all (w ∷ ws) h n = flush_all ws (hold_word (number_of w) h) n.1 ∙ ap (put_words (spelled ws)) (flush_next w h n.0)

-- the last word is written in its ordinal form
last_formed : (w : Word) (ws : List Word) (h : HeldWriter) → Every NumberWord (w ∷ ws)
    → formed (hold_words (map number_of (w ∷ ws)) h) ≡ put_words (spelled (on_last (w ∷ ws))) (flushed h)
unfolding hold_words hold_word put_words spelled spell on_last formed
last_formed w [] h f = rw (form_number w f.0)
last_formed w (v ∷ ws) h f =
    last_formed v ws (hold_word (number_of w) h) f.1
    ∙ ap (put_words (spelled (on_last (v ∷ ws)))) (flush_next w h f.0)

or_zero_formed : (ws : List Word) (σ : Written) → Every NumberWord ws
    → formed (hold_words (map number_of ws) (none_held σ)) ≡ put_words (spelled (on_last (or_zero ws))) σ
unfolding hold_words or_zero flushed formed put_words spelled spell on_last ordinal_number
or_zero_formed [] σ f = rw (digit_form 0 (omega arith))
or_zero_formed (w ∷ ws) σ f = last_formed w ws (none_held σ) f

-- if no word is held, and then those with the numbers ks
held_all : {ks : List ℕ} {h g : Held} {p q : Writer} → h.last ≡ None → Holds ks h p g q → held g q ≡ hold_words ks (none_held (written p))
held_all {ks} {p = p} none holds = holds.words ∙ ap (λ (l : Option ℕ). hold_words ks (record { writer = written p; last = l })) none

-- the words of up to twelve digits are all written in the end
pub short_said : (s : List ℕ) {h g : Held} {p q r : Writer} → BelowTen s → h.last ≡ None → Holds (map number_of (short_cardinal s)) h p g q
    → Puts flush_word g.last q r → Says (spelled (short_cardinal s)) p r
unfolding flushed
short_said s {p = p} d none holds flush =
    record {
      buffers = same_buffers_on holds.buffers flush.buffers;
      result = flush.result ∙ ap flushed (held_all none holds) ∙ flush_all (short_cardinal s) (none_held (written p)) (short_number_words s d);
    }

-- commas are no digits, so `ordinal` reads the same digits as `cardinal`
ordinal_short : (s : List ℕ) → length (digit_values s) ≤ 12 → ordinal s ≡ on_last (or_zero (short_cardinal (digit_values s)))
unfolding ordinal cardinal cardinal_of
ordinal_short s h = rw (digit_values_commas s, le-leb (length (digit_values s)) 12 h)

-- the words of an ordinal number of up to twelve digits are all written, the last one in its ordinal form
pub ordinal_said : (s : List ℕ) {ds : List ℕ} {h g : Held} {p q r : Writer} → length (digit_values s) ≤ 12 → ds ≡ digit_values s → h.last ≡ None
    → Holds (map number_of (short_cardinal ds)) h p g q → Puts form_word g.last q r → Says (spelled (ordinal s)) p r
unfolding formed
ordinal_said s {p = p} few d none holds flush =
    record {
      buffers = same_buffers_on holds.buffers flush.buffers;
      result =
          flush.result ∙ ap formed (held_all none holds)
          ∙ rw (d, ordinal_short s few) (or_zero_formed (short_cardinal (digit_values s)) (written p) (short_number_words (digit_values s) (digit_values_below_ten s)));
    }

-- ---- more than twelve digits

-- the last word takes its ordinal form
pub on_last_snoc : (ws : List Word) (w : Word) → on_last (or_zero (ws ++ w ∷ [])) ≡ ws ++ other (ordinal_form (spell w)) ∷ []
unfolding or_zero on_last
on_last_snoc [] w = refl
on_last_snoc (v ∷ []) w = refl
on_last_snoc (v ∷ u ∷ ws) w = ap (λ (vs : List Word). v ∷ vs) (on_last_snoc (u ∷ ws) w)

-- one word per digit, the last one in its ordinal form
pub long_said : (s t : List ℕ) (d : ℕ) {p q r : Writer} → 12 < length (digit_values s) → digit_values s ≡ digit_values t ++ d ∷ []
    → Says (spelled (digits t)) p q → Says (word_of (ones_at + ordinal_step + d) ∷ []) q r → Says (spelled (ordinal s)) p r
unfolding ordinal cardinal cardinal_of digits spelled spell
long_said s t d h e a b =
    let z : d < 10 = every_last (λ b. b < 10) (digit_values t) d (rw e at (digit_values_below_ten s)) in
    says_same
    (rw (
      digit_values_commas s,
      lt-leb (length (digit_values s)) 12 h,
      e,
      map-append one (digit_values t) (d ∷ []),
      on_last_snoc (map one (digit_values t)) (one d),
      spelled_append (map one (digit_values t)) (other (ordinal_form (spell (one d))) ∷ []),
      digit_form d z,
    ))
    (says_append a b)
