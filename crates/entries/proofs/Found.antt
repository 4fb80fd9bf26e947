-- What the iterator of crate sentences gives are the entries of a sheet, and the one that is found is entry k. Assumes nothing.
use mathlib.Core.Path.{◌≡◌, refl, sym, ap, ◌∙◌}
use mathlib.Core.Bool.{Bool, ◌||◌}
use mathlib.Core.Logic.{⊎_elim}
use mathlib.Core.List.{List, [], ◌∷◌, map}
use Prim.Native.Nat.{ℕ, zero, suc, ◌≤◌, ◌<◌}
use native.Mathlib.Omega.{arith}
use lib.Dec.{ltb}
use lib.ListN.{length, drop, get_or, get_or-eq_default, length-map}
use borrow.Author.Tests.{lt-ltb, le-ltb}
use Rattle.std.specs.Prelude.{Option, Some, None}
use Rattle.std.specs.Iterator.{YieldsFirstBy}
use Rattle.std.specs.List.{slice_get}
use Rattle.std.specs.Option.{option_map}
use Rattle.std.proofs.lemmas.Option.{slice_get_cases}
use Rattle.tokens.specs.Tokens.{Token, tokens}
use Rattle.sentences.specs.Sentences.{break_after, is_set, fresh, kept, state_context}
use Rattle.sentences.specs.Left.{entry_of, entries_after, entries_left}
use Rattle.sentences.specs.declared.State.{State}
use Rattle.sentences.specs.declared.Entries.{Entries}
use Rattle.sentences.specs.declared.SheetEntry.{SheetEntry as Given}
use Rattle.sentences.proofs.Kept.{sentence_starts_from, starts_from_fresh}
use Rattle.sentences.proofs.Marking.{entries_length}
use Rattle.call_spec.specs.Sheet.{SheetEntry, entries_of, entries, no_entry}
use Rattle.entries.specs.Find.{as_sheet_entry, found_entry, as_found_entry, sheet_entry}

-- the entries of tokens, after those that the state was fed
pub sheet_entries : (s : State) (ts : List Token) → map sheet_entry (entries_after s ts) ≡ entries_of (sentence_starts_from s ts) ts
unfolding entries_after entries_of sentence_starts_from
sheet_entries s [] = refl
sheet_entries s (t ∷ ts) =
    ap (λ (es : List SheetEntry). record { starts = is_set s.fresh || break_after (state_context s) t.whitespace t.name; name = t.name } ∷ es)
    (sheet_entries (kept t.name t.punctuation) ts)

-- all entries of a sheet
pub sheet_entries_all : (s : List ℕ) → map sheet_entry (entries_after fresh (tokens s)) ≡ entries s
sheet_entries_all s = sheet_entries fresh (tokens s) ∙ ap (λ (bs : List Bool). entries_of bs (tokens s)) (starts_from_fresh (tokens s))

get_or_map : (es : List (Bool × List ℕ)) (k : ℕ) (d : Bool × List ℕ) → k < length es → get_or (map sheet_entry es) k no_entry ≡ sheet_entry (get_or es k d)
get_or_map [] k d h = absurd (omega arith)
get_or_map (e ∷ es) zero d h = refl
get_or_map (e ∷ es) (suc k) d h = get_or_map es k d (omega arith)

-- entry k of those that are given
found_at : (es : List (Bool × List ℕ)) (k : ℕ) (r : Option Given) → option_map entry_of r ≡ slice_get es k
    → as_found_entry r ≡ record { found = ltb k (length es); entry = get_or (map sheet_entry es) k no_entry }
found_at es k r e = ⊎_elim (λ h. inside h.0 h.1 (h.2, h.3) r e) (λ h. past h.0 r (e ∙ h.1)) (slice_get_cases es k).1
  where
    past : length es ≤ k → (r : Option Given) → option_map entry_of r ≡ None
        → as_found_entry r ≡ record { found = ltb k (length es); entry = get_or (map sheet_entry es) k no_entry }
    past h (Some x) f = cc
    past h None f = rw (le-ltb k (length es) h, get_or-eq_default (map sheet_entry es) no_entry {n = k} (omega (arith, length-map es sheet_entry)))

    inside : (x : Bool × List ℕ) → k < length es → (slice_get es k ≡ Some x) × (get_or es k x ≡ x)
        → (r : Option Given) → option_map entry_of r ≡ slice_get es k
        → as_found_entry r ≡ record { found = ltb k (length es); entry = get_or (map sheet_entry es) k no_entry }
    inside x h q None f = cc
    inside x h q (Some y) f = let e : entry_of y ≡ x = cc in rw (lt-ltb k (length es) h, get_or_map es k x h, q.1, ← e)

-- a call of `next` gives the first entry that is left
pub next_given : (a b : Entries) (r : Option Given) → YieldsFirstBy entry_of entries_left a r b → option_map entry_of r ≡ slice_get (entries_left a) 0
next_given a b None e = rw e.0
next_given a b (Some x) e = rw e

-- what is left is the entry that such a call gives, and what is left after it
pub entry_next : (a b : Entries) (x : Given) → YieldsFirstBy entry_of entries_left a (Some x) b
    → map sheet_entry (entries_left a) ≡ as_sheet_entry x ∷ map sheet_entry (entries_left b)
entry_next a b x e = ap (map sheet_entry) e

-- the first element after k elements is the one at place k
get_drop : {A : Type 0} (xs : List A) (k : ℕ) (ys : List A) → drop k xs ≡ ys → slice_get ys 0 ≡ slice_get xs k
get_drop [] zero ys e = rw (← e)
get_drop [] (suc k) ys e = rw (← e)
get_drop (x ∷ xs) zero ys e = rw (← e)
get_drop (x ∷ xs) (suc k) ys e = get_drop xs k ys e

-- entry k of a sheet is the first one after k entries
pub found_entry_lem : (s : List ℕ) (k : ℕ) (r : Option Given) (left : List (Bool × List ℕ)) → left ≡ drop k (entries_after fresh (tokens s))
    → option_map entry_of r ≡ slice_get left 0 → as_found_entry r ≡ found_entry s k
found_entry_lem s k r left e h =
    let f = found_at (entries_after fresh (tokens s)) k r (h ∙ get_drop _ k left (sym e)) in
    rw (entries_length, sheet_entries_all) at f
