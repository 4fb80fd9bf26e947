-- How the loop over the entries writes the starts. Assumes nothing.
use mathlib.Core.Path.{◌≡◌, refl, sym, ap, ◌∙◌}
use mathlib.Core.Bool.{Bool, true, false, ◌||◌}
use mathlib.Core.List.{List, [], ◌∷◌, map}
use Prim.Native.Nat.{ℕ, suc, ◌+◌}
use native.Mathlib.Numerals.{add-one}
use lib.ListN.{length, set}
use lib.Seq.{sets}
use lib.Dec.{eqb}
use Rattle.std.specs.Int.{from_bool}
use Rattle.std.specs.List.{list_any}
use Rattle.std.specs.Prelude.{Some}
use Rattle.std.specs.Iterator.{YieldsFirstBy}
use Rattle.lists.specs.Bytes.{any, elem}
use Rattle.tokens.specs.Tokens.{Token, tokens}
use Rattle.tokens.specs.Left.{parts_of, tokens_left}
use Rattle.tokens.specs.declared.Token.{Token as Parts}
use Rattle.tokens.specs.declared.Tokens.{Tokens}
use Rattle.sentences.specs.Sentences.{sentence_starts, break_after, state_context, kept, flag, is_set, fresh}
use Rattle.sentences.specs.Calls.{flags, start_bytes}
use Rattle.sentences.specs.Left.{entries_after}
use Rattle.sentences.specs.declared.State.{State}
use Rattle.sentences.proofs.Kept.{sentence_starts_from, starts_from_fresh}
use Rattle.sentences.proofs.Starts.{starts_each}

-- a flag is the answer as a byte
pub flag_byte : (b : Bool) → from_bool b ≡ flag b
flag_byte true = refl
flag_byte false = refl

-- whether a byte stands in a text
pub contains_is : (c : ℕ) (s : List ℕ) → list_any (λ b. eqb b c) s ≡ elem c s
unfolding any
contains_is c [] = refl
contains_is c (b ∷ s) = ap (λ r. eqb b c || r) (contains_is c s)

-- an entry for each token
pub entries_length : (s : State) (ts : List Token) → length (entries_after s ts) ≡ length ts
unfolding entries_after
entries_length s [] = refl
entries_length s (t ∷ ts) = ap suc (entries_length (kept t.name t.punctuation) ts)

-- no token is left
pub entries_none : (s : State) {ts : List Token} → ts ≡ [] → entries_after s ts ≡ []
unfolding entries_after
entries_none s e = rw e

-- the entry of the next token, and those of the tokens after it
pub entries_next : (s : State) {ts us : List Token} {t : Token} → ts ≡ t ∷ us → {b : Bool} {r : State}
    → b ≡ (is_set s.fresh || break_after (state_context s) t.whitespace t.name) → r ≡ kept t.name t.punctuation
    → entries_after s ts ≡ (b, t.name) ∷ entries_after r us
unfolding entries_after
entries_next s e f g = rw (e, f, g)

-- whether the next token starts a sentence, and which of the tokens after it do
pub starts_from_next : (s : State) (a b : Tokens) (x : Parts) → YieldsFirstBy parts_of tokens_left a (Some x) b → {starts : Bool} {r : State}
    → starts ≡ (is_set s.fresh || break_after (state_context s) x.whitespace.now x.name.now) → r ≡ kept x.name.now x.punctuation.now
    → sentence_starts_from s (tokens_left a) ≡ starts ∷ sentence_starts_from r (tokens_left b)
unfolding sentence_starts_from
starts_from_next s a b x n e f = rw (n, e, f)

-- which entries start a sentence
abbrev pub starts_of : List (Bool × List ℕ) → List Bool
starts_of = map (λ e. e.0)

-- from the state, these are the tokens that start one
starts_after : (s : State) (ts : List Token) → starts_of (entries_after s ts) ≡ sentence_starts_from s ts
unfolding entries_after sentence_starts_from
starts_after s [] = refl
starts_after s (t ∷ ts) =
    ap (λ (bs : List Bool). (is_set s.fresh || break_after (state_context s) t.whitespace t.name) ∷ bs) (starts_after (kept t.name t.punctuation) ts)

-- at the start all entries are left
pub starts_whole : (s : List ℕ) → flags (starts_of (entries_after fresh (tokens s))) ≡ start_bytes s
starts_whole s = ap flags (starts_after fresh (tokens s) ∙ starts_from_fresh (tokens s))

-- an iteration of the loop: the flag of the first entry is stored, those of the others are left
pub starts_step : (l : List ℕ) (n : ℕ) {x : ℕ} {e : Bool × List ℕ} {es fs : List (Bool × List ℕ)} → es ≡ e ∷ fs → x ≡ from_bool e.0 → {z : List ℕ}
    → sets l n (flags (starts_of es)) ≡ z → sets (set l n x) (n + 1) (flags (starts_of fs)) ≡ z
unfolding flags
starts_step l n {e = e} m f k = rw (f, flag_byte e.0, add-one) (ap (λ xs. sets l n (flags (starts_of xs))) (sym m) ∙ k)

-- no entry is left
pub starts_end : (l : List ℕ) (n : ℕ) {es : List (Bool × List ℕ)} → es ≡ [] → {z : List ℕ} → sets l n (flags (starts_of es)) ≡ z → l ≡ z
unfolding flags
starts_end l n e k = ap (λ xs. sets l n (flags (starts_of xs))) (sym e) ∙ k

-- a byte for each answer
flags_length : (bs : List Bool) → length (flags bs) ≡ length bs
unfolding flags
flags_length [] = refl
flags_length (b ∷ bs) = ap suc (flags_length bs)

-- a byte for each token
pub starts_length : (s : List ℕ) → length (start_bytes s) ≡ length (tokens s)
starts_length s = flags_length (sentence_starts (tokens s)) ∙ starts_each (tokens s)
