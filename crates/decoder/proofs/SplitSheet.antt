-- A call sheet is taken apart at its LFs and spaces into its lines and words, whether or not its names are clear.
-- Assumes nothing.
use mathlib.Core.Path.{◌≡◌, refl, sym, ap, ◌∙◌}
use mathlib.Core.Bool.{Bool, true, false, ◌&&◌, ◌||◌, not, true≢false, and-eq-true_iff}
use mathlib.Core.List.{List, [], ◌∷◌, ◌++◌, map, flatten}
use Prim.Native.Nat.{ℕ, ◌+◌}
use lib.Dec.{eqb}
use lib.ListN.{length, length-append, length-map}
use Rattle.lists.specs.Bytes.{bytes, all, any, to_lower, Every}
use Rattle.lists.specs.Classes.{non_whitespace}
use Rattle.lists.proofs.Scan.{all_append, all_within}
use Rattle.tokens.specs.Tokens.{Token, tokens}
use Rattle.tokens.specs.Peeled.{run_of, AllPeeled, ends_in_run}
use Rattle.tokens.proofs.Peeled.{tokens_peeled}
use Rattle.sentences.specs.Sentences.{sentence_starts}
use Rattle.call_spec.specs.Sheet.{SheetEntry, entries_of, entries, words_of, call_sheet, count_words}
use Rattle.call_spec.proofs.Entries.{entries_length}
use Rattle.decoder.specs.Sheets.{lines_in, words_in, line_in, expected_line}
use Rattle.decoder.proofs.Decoded.{separator_free}
use Rattle.decoder.proofs.SeparatorFree.{lower_separator_free, read_separator_free}
use Rattle.decoder.proofs.Lines.{SeparatorFreeEntry, lines_read, lines_whole}

abbrev NoWhitespace : Token → Type 0
NoWhitespace t = all non_whitespace t.name ≡ true

-- the name is a part of the token's run
name_no_whitespace : (t : Token) → all non_whitespace (run_of t) ≡ true → NoWhitespace t
name_no_whitespace t h =
    let p = (and-eq-true_iff (all non_whitespace t.prepunctuation) (all non_whitespace (t.name ++ t.punctuation))).0
    (sym (all_append _ t.prepunctuation _) ∙ h) in
    ((and-eq-true_iff (all non_whitespace t.name) (all non_whitespace t.punctuation)).0 (sym (all_append _ t.name t.punctuation) ∙ p.1)).0

-- so no name has whitespace
names_no_whitespace : (ends : Bool) (ts : List Token) → AllPeeled ends ts → Every NoWhitespace ts
names_no_whitespace ends [] h = tt
names_no_whitespace ends (t ∷ []) h = (name_no_whitespace t h.run.1, tt)
names_no_whitespace ends (t ∷ u ∷ ts) h = (name_no_whitespace t h.0.run.1, names_no_whitespace ends (u ∷ ts) h.2)

-- a name without whitespace has no space and no LF
name_separator_free : (n : List ℕ) → all non_whitespace n ≡ true → separator_free n ≡ true
unfolding any
name_separator_free = all_within non_whitespace _ (λ b. go (eqb b 32) (eqb b 9) (eqb b 10) (eqb b 13))
  where
    go : (space tab feed return : Bool) → not (space || (tab || (feed || (return || false)))) ≡ true → (not space && not feed) ≡ true
    go true t f r h = absurd (true≢false (sym h))
    go false true f r h = absurd (true≢false (sym h))
    go false false true r h = absurd (true≢false (sym h))
    go false false false r h = refl

-- so no word of a sheet's entries has a space or an LF
pub entries_separator_free : (s : List ℕ) → Every SeparatorFreeEntry (entries s)
unfolding entries_of
entries_separator_free s = go (sentence_starts (tokens s)) (tokens s) (names_no_whitespace (ends_in_run s) (tokens s) (tokens_peeled s))
  where
    go : (bs : List Bool) (ts : List Token) → Every NoWhitespace ts → Every SeparatorFreeEntry (entries_of bs ts)
    go [] ts h = tt
    go (b ∷ bs) [] h = tt
    go (b ∷ bs) (t ∷ ts) h = (read_separator_free (map to_lower) lower_separator_free t.name (name_separator_free t.name h.0), go bs ts h.1)

-- "A token makes one line: "+" if it starts a sentence, else "-"; then a space and the word for each word; then LF": the call
-- sheet's lines have the marks and the words of the entries
pub sheet_split : (s : List ℕ) → map line_in (lines_in (call_sheet s)) ≡ map expected_line (entries s)
sheet_split s = lines_read (λ b ws. record { starts = b; words = ws }) (entries s) (entries_separator_free s)

-- and nothing stands between the lines or after the last
pub sheet_joined : (s : List ℕ) → flatten (map (λ l. l ++ bytes "\n") (lines_in (call_sheet s))) ≡ call_sheet s
sheet_joined s = lines_whole (entries s) (entries_separator_free s)

words_counted : (es : List SheetEntry) → length (flatten (map words_of es)) ≡ count_words es
unfolding flatten count_words
words_counted [] = refl
words_counted (e ∷ es) = length-append (words_of e) (flatten (map words_of es)) ∙ ap (λ n. length (words_of e) + n) (words_counted es)

-- "the count of tokens and the count of words" are those of its lines and of their words
pub sheet_counted : (s : List ℕ)
    → (length (lines_in (call_sheet s)) ≡ length (tokens s)) × (length (flatten (map words_in (lines_in (call_sheet s)))) ≡ count_words (entries s))
sheet_counted s =
    let ls = lines_in (call_sheet s) in
    let e : map words_in ls ≡ map words_of (entries s) = lines_read (λ b ws. ws) (entries s) (entries_separator_free s) in
    let n : length ls ≡ length (entries s) = sym (length-map ls words_in) ∙ ap length e ∙ length-map (entries s) words_of in
    (n ∙ entries_length s, rw e (words_counted (entries s)))
