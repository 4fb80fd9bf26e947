-- How percent signs are counted, and how a range is said. Assumes nothing.
use mathlib.Core.Path.{◌≡◌, refl, sym, ap, ◌∙◌}
use mathlib.Core.Bool.{true}
use mathlib.Core.List.{List, [], ◌∷◌, ◌++◌, append_assoc, append-nil}
use Prim.Native.Nat.{ℕ, zero, suc, ◌+◌, ◌-◌}
use Prim.Native.Char.{code}
use native.Mathlib.Numerals.{add-one}
use lib.ListN.{length, take}
use Rattle.vocabulary.specs.Vocabulary.{word_of}
use Rattle.vocabulary.proofs.Laws.{unfold_vocabulary}
use Rattle.numerals.specs.Words.{spelled, spell}
use Rattle.numerals.proofs.Said.{said_nothing, says_more}
use Rattle.word_writer.specs.Writer.{Says}
use Rattle.word_writer.specs.declared.Writer.{Writer}
use Rattle.word_writer.proofs.Saying.{says_append}
use Rattle.shapes.specs.Shapes.{is_range}
use Rattle.rows.specs.Rows.{Reading, by, before, after, to, is_percent, per_cent, read}
use Rattle.rows.specs.declared.Row.{Row}
use Rattle.rows.specs.declared.Row.TheVariants.{Range, Percent}
use Rattle.rows.proofs.Percent.{percent_read}
use Rattle.rows.proofs.Ranges.{range_read}
use Rattle.row_readers.specs.Walk.{Reads}
use Rattle.row_readers.proofs.Laws.{reads_same}
use Rattle.entry_reader.specs.Percents.{per_cents, with_percents}

per_cents_suc : (n : ℕ) → per_cents (n + 1) ≡ per_cent ++ per_cents n
unfolding per_cents
per_cents_suc n = rw add-one

one_more_after : (n : ℕ) → per_cent ++ per_cents n ≡ per_cents n ++ per_cent
unfolding per_cents
one_more_after zero = refl
one_more_after (suc n) = ap (λ ws. per_cent ++ ws) (one_more_after n) ∙ sym (append_assoc per_cent (per_cents n) per_cent)

-- one sign is said
pub percent_said : {p q r : Writer} → Says (word_of 89 ∷ []) p q → Says (word_of 90 ∷ []) q r → Says (spelled per_cent) p r
unfolding spelled spell unfold_vocabulary
percent_said a b = says_append a b

-- no sign is said
pub no_percents_said : {p : Writer} → Says (spelled (per_cents 0)) p p
unfolding per_cents
no_percents_said = said_nothing

-- one sign is said after n of them
pub one_percent_more : (n : ℕ) {p q r : Writer} → Says (spelled (per_cents n)) p q → Says (spelled per_cent) q r → Says (spelled (per_cents (n + 1))) p r
one_percent_more n a b = rw (per_cents_suc n ∙ one_more_after n) (says_more (per_cents n) per_cent refl a b)

-- n signs are said after a reading
pub percents_after : (g : Reading) (n : ℕ) {p q r : Writer} {row : Row} → Reads g p q row → Says (spelled (per_cents n)) q r → Reads (with_percents g n) p r row
percents_after g n a b = record { row = a.row; words = says_more g.words (per_cents n) refl a.words b }

-- without percent signs a reading stays as it is
pub no_percents : (g : Reading) → g ≡ with_percents g 0
unfolding per_cents
no_percents g = λ j. record { row = g.row; words = sym (append-nil g.words) j }

-- the parts of a range are said, with "to" between, and then the signs after it
pub range_said : (s : List ℕ) (n : ℕ) → is_range s ≡ true → {p q r w : Writer} {left right : Row}
    → Reads (with_percents (read (before (code "-") s)) 0) p q left → Says (word_of 92 ∷ []) q r
    → Reads (with_percents (read (after (code "-") s)) n) r w right → Reads (with_percents (read s) n) p w Range
unfolding spelled spell unfold_vocabulary
range_said s n h a b c =
    let front = (read (before (code "-") s)).words in
    let back = (read (after (code "-") s)).words ++ per_cents n in
    let first = reads_same (no_percents (read (before (code "-") s))) a in
    let all : (read s).words ++ per_cents n ≡ front ++ to ∷ back = rw (range_read s h, append_assoc) in
    record {
      row = ap (λ (g : Reading). g.row) (sym (range_read s h));
      words = says_more front (to ∷ back) all first.words (says_more (to ∷ []) back refl b c.words);
    }

-- a name that ends in % is read as what stands before, with one sign more after it
pub percent_taken : (s : List ℕ) (n : ℕ) → is_percent s ≡ true → with_percents (read s) n ≡ by Percent ((read (take (length s - 1) s)).words ++ per_cents (n + 1))
percent_taken s n e = rw (percent_read s e, per_cents_suc n, append_assoc)
