-- The equations of `short_cardinal`, one for each length, and an induction over the words of all numbers. Assumes nothing.
use mathlib.Core.Path.{◌≡◌, refl, ap, ◌∙◌, subst⁻¹}
use mathlib.Core.Bool.{Bool, true, false, cond, ◌&&◌, and-true}
use mathlib.Core.Logic.{⊎_elim}
use mathlib.Core.List.{List, [], ◌∷◌, ◌++◌, map}
use Prim.Native.Nat.{ℕ, ◌+◌, ◌-◌, ◌*◌, ◌≤◌, ◌<◌}
use native.Mathlib.Omega.{arith}
use lib.Dec.{leb, eqb}
use lib.ListN.{length, take, drop, get_or, length-take, length-drop}
use lib.Seq.{length-take-le}
use borrow.Author.Tests.{leb-true, lt-ltb, le-ltb}
use Rattle.lists.specs.Bytes.{Every, all}
use Rattle.lists.proofs.Every.{every_take, every_drop}
use Rattle.lists.proofs.Sets.{le_or_lt}
use Rattle.lists.proofs.Recursion.{Local, recur_eq, recur_induct, cond_elim}
use Rattle.numerals.specs.Words.{Word, one, teen, ten, hundred, scale}
use Rattle.numerals.specs.Cardinal.{pair_words, scale_for, join_at_scale, split_at, by_scale, cardinal_step, short_cardinal, cardinal_of}
use Rattle.numerals.specs.Walk.{is_zero_group}
use Rattle.numerals.proofs.Holding.{pair_tests}

-- n digits are split at a scale: both parts have digits, and the left part has at most three if n is at most twelve
pub record ScaleSplit (n : ℕ) : Type 0 where
  pub right : 3 * scale_for n < n
  pub left : split_at n < n
  pub whole : split_at n + 3 * scale_for n ≡ n
  pub left_short : n ≤ 12 → split_at n ≤ 3

-- a string of more than three digits is split like this
pub scale_split : (n : ℕ) → 3 < n → ScaleSplit n
scale_split n h =
    ⊎_elim
    (λ (u : n ≤ 9).
    ⊎_elim (λ (v : n ≤ 6). by 1 (rw (le-ltb 9 n u, le-ltb 6 n v)) (omega arith) (omega arith) (λ w. omega arith))
    (λ (v : 6 < n). by 2 (rw (le-ltb 9 n u, lt-ltb 6 n v)) (omega arith) (omega arith) (λ w. omega arith)) (le_or_lt n 6))
    (λ (u : 9 < n). by 3 (rw (lt-ltb 9 n u)) (omega arith) (omega arith) (λ w. omega arith)) (le_or_lt n 9)
  where
    by : (k : ℕ) → scale_for n ≡ k → 0 < k → 3 * k < n → (n ≤ 12 → n - 3 * k ≤ 3) → ScaleSplit n
    by k e z r f = record { right = omega arith; left = omega arith; whole = omega arith; left_short = λ u. omega (arith, f u) }

cardinal_local : Local cardinal_step
unfolding cardinal_step by_scale
cardinal_local f g [] h = refl
cardinal_local f g (a ∷ []) h = refl
cardinal_local f g (a ∷ b ∷ []) h = refl
cardinal_local f g (a ∷ b ∷ c ∷ []) h = ap (λ (ws : List Word). cond (eqb a 0) ws (one a ∷ hundred ∷ pair_words b c)) (h (b ∷ c ∷ []) (omega arith))
cardinal_local f g (a ∷ b ∷ c ∷ d ∷ s) h =
    let t = a ∷ b ∷ c ∷ d ∷ s in
    let p = scale_split (length t) (omega arith) in
    rw (
      h (take (split_at (length t)) t) (omega (arith, length-take (split_at (length t)) t, p.left)),
      h (drop (split_at (length t)) t) (omega (arith, length-drop (split_at (length t)) t, p.whole, p.right)),
    )

-- `short_cardinal` reads a string by one step, and its parts by itself
pub cardinal_eq : (s : List ℕ) → short_cardinal s ≡ cardinal_step short_cardinal s
unfolding short_cardinal
cardinal_eq s = recur_eq [] cardinal_step cardinal_local s

-- ---- what holds of the words of every number

-- the cases of a proof about the words of n digits: up to three digits, and two parts with a scale's word between them
pub record Cases (D : ℕ → Type 0) (P : ℕ → List Word → Type 0) : Type 0 where
  pub none : P 0 []
  pub single : (a : ℕ) → D a → P 1 (one a ∷ [])
  pub double : (a b : ℕ) → D a → D b → P 2 (pair_words a b)
  pub zero_led : (ws : List Word) → P 2 ws → P 3 ws
  pub triple : (a b c : ℕ) → D a → D b → D c → P 3 (one a ∷ hundred ∷ pair_words b c)
  pub joined : (n : ℕ) (left right : List Word) → 3 < n → P (split_at n) left → P (n - split_at n) right → P n (join_at_scale left (scale (scale_for n)) right)

-- if all cases hold, P holds of the words of every string whose digits have D. The parts of a string are shorter, so this is an
-- induction
pub short_cardinal_induct : (D : ℕ → Type 0) (P : ℕ → List Word → Type 0) → Cases D P → (s : List ℕ) → Every D s → P (length s) (short_cardinal s)
unfolding short_cardinal cardinal_step by_scale
short_cardinal_induct D P r = recur_induct (λ s ws. Every D s → P (length s) ws) [] cardinal_step step
  where
    step : (f : List ℕ → List Word) (s : List ℕ) → ((t : List ℕ) → length t < length s → Every D t → P (length t) (f t)) → Every D s
        → P (length s) (cardinal_step f s)
    step f [] i h = r.none
    step f (a ∷ []) i h = r.single a h.0
    step f (a ∷ b ∷ []) i h = r.double a b h.0 h.1.0
    step f (a ∷ b ∷ c ∷ []) i h =
        cond_elim (P 3) (eqb a 0) (λ e. r.zero_led (f (b ∷ c ∷ [])) (i (b ∷ c ∷ []) (omega arith) h.1))
        (λ e. r.triple a b c h.0 h.1.0 h.1.1.0)
    step f (a ∷ b ∷ c ∷ d ∷ s) i h =
        let t = a ∷ b ∷ c ∷ d ∷ s in
        let n = split_at (length t) in
        let p = scale_split (length t) (omega arith) in
        let j : length (take n t) ≡ n = length-take-le n t (omega arith) in
        let k : length (drop n t) ≡ length t - n = length-drop n t in
        let x = i (take n t) (omega arith) (every_take D n t h) in
        let y = i (drop n t) (omega arith) (every_drop D n t h) in
        r.joined (length t) (f (take n t)) (f (drop n t)) (omega arith) (rw j at x) (rw k at y)

-- what holds in both cases holds of `cardinal_of`: up to twelve digits, and one word per digit
pub cardinal_of_elim : (P : List Word → Type 0) (s : List ℕ) → (length s ≤ 12 → P (short_cardinal s)) → P (map one s) → P (cardinal_of s)
unfolding cardinal_of
cardinal_of_elim P s f g = cond_elim P (leb (length s) 12) (λ e. f (leb-true (length s) 12 e)) (λ e. g)

-- ---- the equations of `short_cardinal`

-- no digits
pub cardinal_0 : (s : List ℕ) → length s ≡ 0 → short_cardinal s ≡ []
unfolding cardinal_step
cardinal_0 [] e = cardinal_eq []
cardinal_0 (a ∷ s) e = absurd (omega arith)

-- one digit
pub cardinal_1 : (s : List ℕ) → length s ≡ 1 → short_cardinal s ≡ one (get_or s 0 0) ∷ []
unfolding cardinal_step
cardinal_1 [] e = absurd (omega arith)
cardinal_1 (a ∷ []) e = cardinal_eq (a ∷ [])
cardinal_1 (a ∷ b ∷ s) e = absurd (omega arith)

-- two digits
pub cardinal_2 : (s : List ℕ) → length s ≡ 2 → short_cardinal s ≡ pair_words (get_or s 0 0) (get_or s 1 0)
unfolding cardinal_step
cardinal_2 [] e = absurd (omega arith)
cardinal_2 (a ∷ []) e = absurd (omega arith)
cardinal_2 (a ∷ b ∷ []) e = cardinal_eq (a ∷ b ∷ [])
cardinal_2 (a ∷ b ∷ c ∷ s) e = absurd (omega arith)

-- the words of the hundreds, nothing for 0
abbrev pub hundreds : ℕ → List Word
hundreds a = cond (eqb a 0) [] (one a ∷ hundred ∷ [])

cardinal_three : (a b c : ℕ) → short_cardinal (a ∷ b ∷ c ∷ []) ≡ hundreds a ++ short_cardinal (b ∷ c ∷ [])
unfolding cardinal_step
cardinal_three a b c = cardinal_eq (a ∷ b ∷ c ∷ []) ∙ rw (cardinal_2 (b ∷ c ∷ []) refl) (go (eqb a 0))
  where
    go : (t : Bool) → cond t (pair_words b c) (one a ∷ hundred ∷ pair_words b c) ≡ cond t [] (one a ∷ hundred ∷ []) ++ pair_words b c
    go true = refl
    go false = refl

-- three digits: the hundreds, and the rest read again
pub cardinal_3 : (s : List ℕ) → length s ≡ 3 → short_cardinal s ≡ hundreds (get_or s 0 0) ++ short_cardinal (drop 1 s)
cardinal_3 [] e = absurd (omega arith)
cardinal_3 (a ∷ []) e = absurd (omega arith)
cardinal_3 (a ∷ b ∷ []) e = absurd (omega arith)
cardinal_3 (a ∷ b ∷ c ∷ []) e = cardinal_three a b c
cardinal_3 (a ∷ b ∷ c ∷ d ∷ s) e = absurd (omega arith)

-- ---- which parts have no words

abbrev nil : List Word → Bool
nil [] = true
nil (w ∷ ws) = false

join_parts : (l : List Word) (w : Word) (r : List Word) → join_at_scale l w r ≡ l ++ (cond (nil l) [] (w ∷ []) ++ r)
unfolding join_at_scale
join_parts [] w r = refl
join_parts (v ∷ l) w r = refl

pair_nil : (a b : ℕ) → nil (pair_words a b) ≡ (eqb a 0 && eqb b 0)
pair_nil a b = rw (pair_tests a b) (go (eqb a 0) (eqb b 0) (eqb a 1))
  where
    go : (x y z : Bool) → nil (cond x (cond y [] (one b ∷ [])) (cond y (ten a ∷ []) (cond z (teen b ∷ []) (ten a ∷ one b ∷ [])))) ≡ (x && y)
    go true true z = refl
    go true false z = refl
    go false true z = refl
    go false false true = refl
    go false false false = refl

three_nil : (t u : Bool) (w v : Word) (ws : List Word) → nil ws ≡ u → nil (cond t [] (w ∷ v ∷ []) ++ ws) ≡ (t && u)
three_nil true u w v ws e = e
three_nil false u w v ws e = refl

-- of one to three digits, `is_zero_group` says which have no words
pub zero_group_nil : (s : List ℕ) → 0 < length s → length s ≤ 3 → is_zero_group s ≡ nil (short_cardinal s)
unfolding is_zero_group all
zero_group_nil [] z h = absurd (omega arith)
zero_group_nil (a ∷ []) z h = rw (cardinal_1 (a ∷ []) refl)
zero_group_nil (a ∷ b ∷ []) z h = rw (cardinal_2 (a ∷ b ∷ []) refl, pair_nil a b, and-true)
zero_group_nil (a ∷ b ∷ c ∷ []) z h =
    rw (
      cardinal_three a b c,
      three_nil (eqb a 0) _ (one a) hundred (short_cardinal (b ∷ c ∷ [])) (ap nil (cardinal_2 (b ∷ c ∷ []) refl) ∙ pair_nil b c),
      and-true,
    )
zero_group_nil (a ∷ b ∷ c ∷ d ∷ s) z h = absurd (omega arith)

cardinal_long_digits : (s : List ℕ) → 3 < length s → short_cardinal s ≡ by_scale short_cardinal s
unfolding cardinal_step
cardinal_long_digits [] h = absurd (omega arith)
cardinal_long_digits (a ∷ []) h = absurd (omega arith)
cardinal_long_digits (a ∷ b ∷ []) h = absurd (omega arith)
cardinal_long_digits (a ∷ b ∷ c ∷ []) h = absurd (omega arith)
cardinal_long_digits (a ∷ b ∷ c ∷ d ∷ s) h = cardinal_eq (a ∷ b ∷ c ∷ d ∷ s)

-- the scale's word; none if the left part has no words
abbrev pub scale_word : List ℕ → ℕ → List Word
scale_word left k = cond (is_zero_group left) [] (scale k ∷ [])

-- more digits: the left part, the scale, the right part
pub cardinal_more : (s : List ℕ) → 3 < length s → length s ≤ 12
    → short_cardinal s ≡ short_cardinal (take (split_at (length s)) s)
    ++ (scale_word (take (split_at (length s)) s) (scale_for (length s)) ++ short_cardinal (drop (split_at (length s)) s))
unfolding by_scale
cardinal_more s h m =
    let n = split_at (length s) in
    let p = scale_split (length s) h in
    let e : length (take n s) ≡ n = length-take-le n s (omega (arith, p.left)) in
    cardinal_long_digits s h ∙ join_parts (short_cardinal (take n s)) (scale (scale_for (length s))) (short_cardinal (drop n s))
    ∙ rw (zero_group_nil (take n s) (omega (arith, p.whole, p.right)) (omega (arith, p.left_short m)))

-- the same for a scale k that is known by another name
pub cardinal_split : (s : List ℕ) (k : ℕ) → 3 < length s → length s ≤ 12 → k ≡ scale_for (length s)
    → short_cardinal s ≡ short_cardinal (take (length s - 3 * k) s)
    ++ (scale_word (take (length s - 3 * k) s) k ++ short_cardinal (drop (length s - 3 * k) s))
cardinal_split s k h m e =
    subst⁻¹
    (λ (j : ℕ). short_cardinal s ≡ short_cardinal (take (length s - 3 * j) s)
    ++ (scale_word (take (length s - 3 * j) s) j ++ short_cardinal (drop (length s - 3 * j) s))) e
    (cardinal_more s h m)
