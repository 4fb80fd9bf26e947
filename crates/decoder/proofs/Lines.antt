-- A call sheet is taken apart at LFs and spaces, and decoded as its entries if their names are decoded. Assumes nothing.
use mathlib.Core.Path.{◌≡◌, refl, ap, ◌∙◌}
use mathlib.Core.Bool.{Bool, true, false, not, cond, ◌&&◌, and-eq-true_iff}
use mathlib.Core.List.{List, [], ◌∷◌, ◌++◌, map, append_assoc, append-nil, flatten}
use Prim.Native.Nat.{ℕ, ◌-◌}
use Prim.Native.Char.{code}
use native.Mathlib.Omega.{arith}
use lib.Dec.{eqb}
use lib.ListN.{length, drop, length-append}
use lib.Seq.{take_at}
use Rattle.lists.specs.Bytes.{bytes, all, split, onto, Every}
use Rattle.lists.specs.Classes.{except}
use Rattle.lists.proofs.Scan.{all_append, all_within, all_span}
use Rattle.lists.proofs.Parts.{split_last}
use Rattle.call_spec.specs.Sheet.{SheetEntry, words_of, mark, spaced_words, line_of}
use Rattle.decoder.specs.Decode.{decode}
use Rattle.decoder.specs.Sheets.{lines_in, starts_in, words_in, decode_sheet}
use Rattle.decoder.proofs.Decoded.{separator_free, Decoded}

-- a text is split into what stands before its first separator, and the parts of what stands after it
split_at : (c : ℕ) (s t : List ℕ) → eqb c c ≡ true → all (except c) s ≡ true → split c (s ++ c ∷ t) ≡ s ∷ split c t
unfolding split all onto
split_at c [] t r h = rw r
split_at c (b ∷ s) t r h = go (eqb b c) h (split_at c s t r)
  where
    go : (u : Bool) → (not u && all (except c) s) ≡ true → (all (except c) s ≡ true → split c (s ++ c ∷ t) ≡ s ∷ split c t)
        → cond u ([] ∷ split c (s ++ c ∷ t)) (onto b (split c (s ++ c ∷ t))) ≡ (b ∷ s) ∷ split c t
    go true h i = cc
    go false h i = rw (i h)

-- a word without separators has no space and no LF
separator_free_except : (w : List ℕ) → separator_free w ≡ true → (all (except (code " ")) w ≡ true) × (all (except (code "\n")) w ≡ true)
separator_free_except w h = (
  all_within _ (except (code " ")) (λ b k. ((and-eq-true_iff (except (code " ") b) (except (code "\n") b)).0 k).0) w h,
  all_within _ (except (code "\n")) (λ b k. ((and-eq-true_iff (except (code " ") b) (except (code "\n") b)).0 k).1) w h,
)

-- words with spaces between them are the parts
words_split : (w : List ℕ) (ws : List (List ℕ)) → Every (λ w. separator_free w ≡ true) (w ∷ ws) → split (code " ") (w ++ spaced_words ws) ≡ w ∷ ws
unfolding spaced_words
words_split w [] h =
    let k : all (except (code " ")) w ≡ true = (separator_free_except w h.0).0 in
    rw append-nil (split_last (code " ") w (omega (arith, all_span (except (code " ")) w k)))
words_split w (v ∷ ws) h =
    split_at (code " ") w (v ++ spaced_words ws) refl (separator_free_except w h.0).0 ∙ ap (λ (vs : List (List ℕ)). w ∷ vs) (words_split v ws h.1)

words_split_back : (ws : List (List ℕ)) → Every (λ w. separator_free w ≡ true) ws → drop 1 (split (code " ") (spaced_words ws)) ≡ ws
unfolding spaced_words split
words_split_back [] h = refl
words_split_back (w ∷ ws) h = words_split w ws h

spaced_except : (ws : List (List ℕ)) → Every (λ w. separator_free w ≡ true) ws → all (except (code "\n")) (spaced_words ws) ≡ true
unfolding spaced_words all
spaced_except [] h = refl
spaced_except (w ∷ ws) h = rw (all_append (except (code "\n")) w (spaced_words ws), (separator_free_except w h.0).1, spaced_except ws h.1)

-- a mark is read back, and is no LF
mark_read : (b : Bool) → (eqb (mark b) (code "+") ≡ b) × (except (code "\n") (mark b) ≡ true)
mark_read true = (refl, refl)
mark_read false = (refl, refl)

-- no word that the entry is called with has a space or an LF
abbrev pub SeparatorFreeEntry : SheetEntry → Type 0
SeparatorFreeEntry e = Every (λ w. separator_free w ≡ true) (words_of e)

-- a line without its LF
bare : SheetEntry → List ℕ
bare e = mark e.starts ∷ spaced_words (words_of e)

-- the lines are the parts at LF, and nothing follows the last LF
lines_split : (es : List SheetEntry) → Every SeparatorFreeEntry es → split (code "\n") (flatten (map line_of es)) ≡ map bare es ++ [] ∷ []
unfolding flatten line_of bare all
lines_split [] h = unfold split in refl
lines_split (e ∷ es) h =
    ap (λ (l : List ℕ). split (code "\n") (mark e.starts ∷ l)) (append_assoc (spaced_words (words_of e)) (bytes "\n") (flatten (map line_of es)))
    ∙ split_at (code "\n") (bare e) (flatten (map line_of es)) refl (rw (mark_read e.starts).1 (spaced_except (words_of e) h.0))
    ∙ ap (λ (ls : List (List ℕ)). bare e ∷ ls) (lines_split es h.1)

lines_in_lem : (es : List SheetEntry) → Every SeparatorFreeEntry es → lines_in (flatten (map line_of es)) ≡ map bare es
lines_in_lem es h = rw (lines_split es h, take_at (map bare es) ([] ∷ []) (length (map bare es ++ [] ∷ []) - 1) (simp length-append (omega arith)))

-- the lines, each with an LF after it, are the call sheet
pub lines_whole : (es : List SheetEntry) → Every SeparatorFreeEntry es
    → flatten (map (λ l. l ++ bytes "\n") (lines_in (flatten (map line_of es)))) ≡ flatten (map line_of es)
unfolding bare line_of flatten
lines_whole es h = ap (λ (ls : List (List ℕ)). flatten (map (λ l. l ++ bytes "\n") ls)) (lines_in_lem es h) ∙ go es
  where
    go : (es : List SheetEntry) → flatten (map (λ l. l ++ bytes "\n") (map bare es)) ≡ flatten (map line_of es)
    go [] = refl
    go (e ∷ es) = ap (λ (r : List ℕ). line_of e ++ r) (go es)

-- what f makes of the marks and words of the lines is what it makes of those of the entries
pub lines_read : {A : Type 0} (f : Bool → List (List ℕ) → A) (es : List SheetEntry) → Every SeparatorFreeEntry es
    → map (λ l. f (starts_in l) (words_in l)) (lines_in (flatten (map line_of es))) ≡ map (λ (e : SheetEntry). f e.starts (words_of e)) es
unfolding bare
lines_read {A} f es h = ap (map (λ l. f (starts_in l) (words_in l))) (lines_in_lem es h) ∙ go es h
  where
    go : (es : List SheetEntry) → Every SeparatorFreeEntry es
        → map (λ l. f (starts_in l) (words_in l)) (map bare es) ≡ map (λ (e : SheetEntry). f e.starts (words_of e)) es
    go [] h = refl
    go (e ∷ es) h = rw ((mark_read e.starts).0, words_split_back (words_of e) h.0) (ap (λ (r : List A). f e.starts (words_of e) ∷ r) (go es h.1))

-- a call sheet is decoded as its entries
pub sheet_decoded : (es : List SheetEntry) → Every SeparatorFreeEntry es → Every (λ (e : SheetEntry). Decoded e.name) es
    → decode_sheet (flatten (map line_of es)) ≡ es
sheet_decoded es k h = lines_read (λ b ws. record { starts = b; name = decode ws }) es k ∙ go es h
  where
    go : (es : List SheetEntry) → Every (λ (e : SheetEntry). Decoded e.name) es
        → map (λ (e : SheetEntry). record { starts = e.starts; name = decode (words_of e) }) es ≡ es
    go [] h = refl
    go (e ∷ es) h = rw h.0.decoded (ap (λ (r : List SheetEntry). e ∷ r) (go es h.1))
