-- Texts as lists of bytes: what the definitions of the other crates are written with. Definitions only.
use Rattle.std.specs.Prelude.{Option, Some, None, Bool, true, false, cond, not, ◌&&◌, ◌||◌, List, [], ◌∷◌, ◌++◌, ℕ, suc, ◌+◌, ◌-◌, leb, ltb, eqb, length, take, drop, get_or}
use Prim.Native.Char.{code}
use Prim.Native.String.{String, [] as end, ◌∷◌ as ◌▹◌}

-- the bytes of a quoted ASCII text
abbrev pub bytes : String → List ℕ
bytes end = []
bytes (c ▹ s) = code c ∷ bytes s

-- every element passes p: each byte of a text, each part, each word
unfoldable pub all : {A : Type 0} → (A → Bool) → List A → Bool
all p [] = true
all p (a ∷ s) = p a && all p s

-- some element passes p
unfoldable pub any : {A : Type 0} → (A → Bool) → List A → Bool
any p [] = false
any p (a ∷ s) = p a || any p s

-- every element has the property P
abbrev pub Every : {A : Type 0} → (A → Type 0) → List A → Type 0
Every P [] = Unit
Every P (a ∷ s) = P a × Every P s

-- how many bytes at the front pass p
unfoldable pub span : (ℕ → Bool) → List ℕ → ℕ
span p [] = 0
span p (b ∷ s) = cond (p b) (suc (span p s)) 0

-- the bytes at the front that pass p, and what follows them
abbrev pub take_while : (ℕ → Bool) → List ℕ → List ℕ
take_while p s = take (span p s) s

abbrev pub drop_while : (ℕ → Bool) → List ℕ → List ℕ
drop_while p s = drop (span p s) s

-- what stands before the first byte that passes p and after it, if there is one
unfoldable pub around : (ℕ → Bool) → List ℕ → Option (List ℕ × List ℕ)
around p s = let at = span (λ b. not (p b)) s in cond (ltb at (length s)) (Some (take at s, drop (at + 1) s)) None

-- the place after the last byte that passes p, 0 if none does
unfoldable pub after_last : (ℕ → Bool) → List ℕ → ℕ
after_last p [] = 0
after_last p (b ∷ s) = cond (eqb (after_last p s) 0) (cond (p b) 1 0) (suc (after_last p s))

-- how many bytes pass p
unfoldable pub count_if : (ℕ → Bool) → List ℕ → ℕ
count_if p [] = 0
count_if p (b ∷ s) = cond (p b) (suc (count_if p s)) (count_if p s)

-- the bytes that pass p
unfoldable pub filter_if : (ℕ → Bool) → List ℕ → List ℕ
filter_if p [] = []
filter_if p (b ∷ s) = cond (p b) (b ∷ filter_if p s) (filter_if p s)

-- c is one of the bytes
abbrev pub elem : ℕ → List ℕ → Bool
elem c s = any (λ b. eqb b c) s

-- the second text is the first with f applied to each byte
unfoldable pub same_by : (ℕ → ℕ) → List ℕ → List ℕ → Bool
same_by f [] [] = true
same_by f [] (c ∷ t) = false
same_by f (b ∷ s) [] = false
same_by f (b ∷ s) (c ∷ t) = eqb (f b) c && same_by f s t

-- the two texts are the same bytes
abbrev pub same : List ℕ → List ℕ → Bool
same = same_by (λ b. b)

-- the text t is one of those listed
abbrev pub listed : List ℕ → List (List ℕ) → Bool
listed t ss = any (λ s. same s t) ss

-- A to Z, a to z
abbrev pub uppercase : ℕ → Bool
uppercase b = leb (code "A") b && leb b (code "Z")

abbrev pub lowercase : ℕ → Bool
lowercase b = leb (code "a") b && leb b (code "z")

-- A to Z lowered, any other byte as it is
abbrev pub to_lower : ℕ → ℕ
to_lower b = cond (uppercase b) (b + 32) b

-- the text starts with the byte c
abbrev pub starts_with : ℕ → List ℕ → Bool
starts_with c s = not (eqb (length s) 0) && eqb (get_or s 0 0) c

-- the text ends with the byte c
abbrev pub ends_with : ℕ → List ℕ → Bool
ends_with c s = not (eqb (length s) 0) && eqb (get_or s (length s - 1) 0) c

-- the text, without its first byte if that is c
abbrev pub strip_prefix : ℕ → List ℕ → List ℕ
strip_prefix c s = cond (starts_with c s) (drop 1 s) s

-- the text, without its last byte if that is c
abbrev pub strip_suffix : ℕ → List ℕ → List ℕ
strip_suffix c s = cond (ends_with c s) (take (length s - 1) s) s

-- the text s ends with t after f is applied to each byte of s
abbrev pub ends_with_by : (ℕ → ℕ) → List ℕ → List ℕ → Bool
ends_with_by f t s = leb (length t) (length s) && same_by f (drop (length s - length t) s) t

-- the parts, with one more byte at the front of the first
unfoldable pub onto : ℕ → List (List ℕ) → List (List ℕ)
onto b [] = (b ∷ []) ∷ []
onto b (p ∷ ps) = (b ∷ p) ∷ ps

-- the parts between the bytes c: a text without c is one part
unfoldable pub split : ℕ → List ℕ → List (List ℕ)
split c [] = [] ∷ []
split c (b ∷ s) = cond (eqb b c) ([] ∷ split c s) (onto b (split c s))

-- the parts that are not empty
unfoldable pub non_empty : List (List ℕ) → List (List ℕ)
non_empty [] = []
non_empty ([] ∷ ss) = non_empty ss
non_empty ((b ∷ s) ∷ ss) = (b ∷ s) ∷ non_empty ss

-- the new bytes in place of the first old ones; the old bytes past them stay
abbrev pub overwrite : List ℕ → List ℕ → List ℕ
overwrite new old = new ++ drop (length new) old
