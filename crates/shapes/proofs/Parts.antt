-- The parts of a text that std's iterators give, in the words of specs/. Assumes nothing.
use mathlib.Core.Path.{◌≡◌, refl}
use mathlib.Core.Bool.{Bool, true, false, cond, not, ◌&&◌}
use mathlib.Core.List.{List, [], ◌∷◌}
use Prim.Native.Nat.{ℕ, suc, ◌+◌, ◌-◌}
use native.Mathlib.Omega.{arith}
use lib.Dec.{eqb, leb, ltb}
use lib.ListN.{length, take, drop, length-drop}
use borrow.Author.Tests.{ne_eqb, ltb-true, ltb-false, leb-false}
use denote.Param.Members.{Mut}
use denote.Ref.{Bor}
use Rattle.std.specs.Prelude.{Option, Some, None}
use Rattle.std.specs.Fn.{CalledAt}
use Rattle.std.specs.List.{slice_split, onto_first, list_all, list_any, filter}
use lib.Pointwise.{pointwise}
use Rattle.std.specs.Option.{option_map, MatchOption}
use Rattle.std.specs.Slice.Iter.{split_rest, split_done, split_callee, split_steps}
use Rattle.std.proofs.lemmas.Bool.Decides.{nat_tests}
use Rattle.std.proofs.lemmas.Iterator.{YieldsList}
use Rattle.std.proofs.lemmas.Iterator.Splits.{YieldsList-from_slice_split}
use Rattle.lists.specs.Bytes.{all, any, span, around, same, same_by, ends_with_by, split, onto, non_empty}
use Rattle.lists.specs.Classes.{except, only}
use Rattle.lists.proofs.Scan.{same_long}
use Rattle.lists.proofs.Parts.{split_more, split_last}
use Rattle.shapes.specs.Shapes.{split_once}

-- std's `split` gives the parts
slice_split_lem : (c : ℕ) (s : List ℕ) → slice_split (λ b. eqb b c) s ≡ split c s
unfolding split onto
slice_split_lem c [] = refl
slice_split_lem c (b ∷ s) = rw (slice_split_lem c s) (go (split c s))
  where
    go : (ps : List (List ℕ)) → cond (eqb b c) ([] ∷ ps) (onto_first b ps) ≡ cond (eqb b c) ([] ∷ ps) (onto b ps)
    go [] = refl
    go (p ∷ ps) = refl

-- a chain that begins at `split` by a byte
pub YieldsList-from_split : {F : Type 0} {i : _} (g : Mut F (Bor ℕ × Unit {0}) Bool) (c : ℕ) {f : F} (s : List ℕ)
    → split_rest i ≡ s → split_done i ≡ false → split_callee i ≡ f
    → ((x : ℕ) (b : Bool) (q : F) → CalledAt g f x b q → (q ≡ f) × (b ≡ eqb x c))
    → YieldsList (split_steps g) (λ x. x.now) i (split c s)
YieldsList-from_split {i} g c s r d f h = rw (slice_split_lem c s) at (YieldsList-from_slice_split {s = i} g (λ b. eqb b c) s r d f h)

-- `all` is std's word of that name
pub list_all_lem : {A : Type 0} (p : A → Bool) (s : List A) → list_all p s ≡ all p s
unfolding all
list_all_lem p [] = refl
list_all_lem p (a ∷ s) = rw (list_all_lem p s)

-- a byte is contained exactly if it is an element
pub list_any_lem : {A : Type 0} (p : A → Bool) (s : List A) → list_any p s ≡ any p s
unfolding any
list_any_lem p [] = refl
list_any_lem p (a ∷ s) = rw (list_any_lem p s)

-- the parts that are not empty, by a filter
pub filter_lem : (ps : List (List ℕ)) → filter (λ p. not (eqb (length p) 0)) ps ≡ non_empty ps
unfolding non_empty
filter_lem [] = refl
filter_lem ([] ∷ ps) = filter_lem ps
filter_lem ((b ∷ p) ∷ ps) = rw (ne_eqb (suc (length p)) 0 (omega arith), filter_lem ps)

-- what a test of the parts before and after the first separator gives, and what the parts are, by what stands around it
abbrev test_around : (List ℕ → List ℕ → Bool) → Option (List ℕ × List ℕ) → Bool
test_around both None = false
test_around both (Some w) = both w.0 w.1

abbrev pub parts_around : ℕ → List ℕ → Option (List ℕ × List ℕ) → List (List ℕ)
parts_around c s None = s ∷ []
parts_around c s (Some w) = w.0 ∷ split c w.1

split_once_around : (c : ℕ) (both : List ℕ → List ℕ → Bool) (s : List ℕ) → split_once c both s ≡ test_around both (around (only c) s)
unfolding around split_once
split_once_around c both s = go (ltb (span (except c) s) (length s))
  where
    go : (t : Bool) → (t && both (take (span (except c) s) s) (drop (span (except c) s + 1) s))
        ≡ test_around both (cond t (Some (take (span (except c) s) s, drop (span (except c) s + 1) s)) None)
    go true = refl
    go false = refl

pub split_around : (c : ℕ) (s : List ℕ) → split c s ≡ parts_around c s (around (only c) s)
unfolding around
split_around c s = go (ltb (span (except c) s) (length s)) refl
  where
    go : (t : Bool) → ltb (span (except c) s) (length s) ≡ t
        → split c s ≡ parts_around c s (cond t (Some (take (span (except c) s) s, drop (span (except c) s + 1) s)) None)
    go true l = split_more c s (ltb-true _ _ l)
    go false l = split_last c s (ltb-false _ _ l)

-- what the code's test of the two parts gives is what `split_once` gives
pub split_once_lem : {r : Bool} {Q : Bor (List ℕ) × Bor (List ℕ) → Type 0} (o : Option (Bor (List ℕ) × Bor (List ℕ))) (c : ℕ)
    (both : List ℕ → List ℕ → Bool) (s : List ℕ)
    → option_map {U = List ℕ × List ℕ} (λ p. (p.0.now, p.1.now)) o ≡ around (only c) s → MatchOption o (r ≡ false) Q
    → ((p : Bor (List ℕ) × Bor (List ℕ)) → Q p → r ≡ both p.0.now p.1.now) → r ≡ split_once c both s
split_once_lem {r} {Q} o c both s e m h = rw (split_once_around c both s, ← e) (go o m)
  where
    go : (o : Option (Bor (List ℕ) × Bor (List ℕ))) → MatchOption o (r ≡ false) Q
        → r ≡ test_around both (option_map {U = List ℕ × List ℕ} (λ p. (p.0.now, p.1.now)) o)
    go None m = m
    go (Some p) m = h p m

-- two numbers are equal in either order
pub eqb_sym : (m n : ℕ) → eqb m n ≡ eqb n m
eqb_sym m n = grind (arith, nat_tests)

-- std's equality of texts
pub pointwise_lem : (s t : List ℕ) → pointwise eqb t s ≡ same s t
unfolding same_by
pointwise_lem [] [] = refl
pointwise_lem [] (c ∷ t) = refl
pointwise_lem (b ∷ s) [] = refl
pointwise_lem (b ∷ s) (c ∷ t) = rw (pointwise_lem s t, eqb_sym c b)

-- std's `ends_with`
pub ends_with_lem : (s t : List ℕ) → pointwise eqb t (drop (length s - length t) s) ≡ ends_with_by (λ b. b) t s
ends_with_lem s t = rw (pointwise_lem (drop (length s - length t) s) t) (go (leb (length t) (length s)) refl)
  where
    go : (x : Bool) → leb (length t) (length s) ≡ x → same (drop (length s - length t) s) t ≡ x && same (drop (length s - length t) s) t
    go true e = refl
    go false e = same_long _ (drop (length s - length t) s) t (λ z. omega (arith, leb-false _ _ e, length-drop (length s - length t) s))
