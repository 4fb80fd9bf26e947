-- The records of a table, one after the other. Assumes nothing.
use mathlib.Core.Path.{◌≡◌, refl, sym, ap, ◌∙◌}
use mathlib.Core.List.{List, [], ◌∷◌, ◌++◌, append-nil, flatten}
use Prim.Native.Nat.{ℕ, zero, suc, ◌+◌, ◌*◌, ◌≤◌, ◌<◌}
use native.Mathlib.Nat.{add-zero, add_assoc}
use native.Mathlib.Omega.{arith}
use lib.ListN.{length, take, drop, get_or, length-append}
use lib.Seq.{sets, drop-drop, take-append-le, take-length}
use Rattle.std.proofs.Common.{drop_at}
use Rattle.lists.specs.LittleEndian.{le_bytes}
use Rattle.lists.proofs.Sets.{sets_append}
use Rattle.word_writer.specs.Writer.{pair_of}
use Rattle.word_writer.specs.Words.{table_of}
use Rattle.tokens.specs.Tokens.{Token, after_run, first_token, tokens, token_parts}
use Rattle.tokens.specs.Table.{record_of, record_size, records, token_size, token_end}
use Rattle.tokens.proofs.Forward.{tokens_none, tokens_more, tokens_induct, first_joined, size_parts}

-- four pairs stored one after the other are stored as one run
pub four_pairs : (l : List ℕ) (i a1 b1 a2 b2 a3 b3 a4 b4 : ℕ)
    → sets (sets (sets (sets l i (pair_of a1 b1)) (i + 8) (pair_of a2 b2)) (i + 16) (pair_of a3 b3)) (i + 24) (pair_of a4 b4)
    ≡ sets l i (pair_of a1 b1 ++ (pair_of a2 b2 ++ (pair_of a3 b3 ++ pair_of a4 b4)))
unfolding pair_of le_bytes
four_pairs l i a1 b1 a2 b2 a3 b3 a4 b4 =
    let x1 : List ℕ = pair_of a1 b1 in
    let x2 : List ℕ = pair_of a2 b2 in
    let x3 : List ℕ = pair_of a3 b3 in
    let x4 : List ℕ = pair_of a4 b4 in
    let e2 : i + 8 + 8 ≡ i + 16 = omega arith in
    let e3 : i + 16 + 8 ≡ i + 24 = omega arith in
    let l1 : List ℕ = sets l i x1 in
    let l2 : List ℕ = sets l1 (i + 8) x2 in
    sym (sets_append l i x1 (x2 ++ (x3 ++ x4)) ∙ sets_append l1 (i + 8) x2 (x3 ++ x4) ∙ ap (λ (k : ℕ). sets l2 k (x3 ++ x4)) e2
    ∙ sets_append l2 (i + 16) x3 x4 ∙ ap (λ (k : ℕ). sets (sets l2 (i + 16) x3) k x4) e3)

-- the four pairs of a token are its record
pub record_stored : (l : List ℕ) (i at : ℕ) (t : Token)
    → sets (sets (sets (sets l i (pair_of at (length t.whitespace)))
    (i + 8) (pair_of (at + length t.whitespace) (length t.prepunctuation)))
    (i + 16) (pair_of (at + length t.whitespace + length t.prepunctuation) (length t.name)))
    (i + 24) (pair_of (at + length t.whitespace + length t.prepunctuation + length t.name) (length t.punctuation))
    ≡ sets l i (record_of at t)
unfolding record_of table_of
record_stored l i at t = rw append-nil (four_pairs l i _ _ _ _ _ _ _ _)

record_length : (at : ℕ) (t : Token) → length (record_of at t) ≡ record_size
unfolding record_of table_of pair_of le_bytes
record_length at t = refl

-- a token ends where its parts do
pub token_end_lem : (at : ℕ) (t : Token) → token_end at t ≡ at + token_size t
token_end_lem at t = omega (arith, size_parts t)

-- the records have 32 bytes per token
pub records_length : (at : ℕ) (ts : List Token) → length (records at ts) ≡ record_size * length ts
unfolding records
records_length at [] = refl
records_length at (t ∷ ts) = length-append (record_of at t) (records (at + token_size t) ts) ∙ omega (arith, record_length at t, records_length (at + token_size t) ts)

-- an iteration of the loop: the record of the first token is stored, those of the others are left
pub records_step : (l : List ℕ) (n at : ℕ) (t : Token) (ts us : List Token) → us ≡ t ∷ ts
    → {z : List ℕ} → sets l (record_size * n) (records at us) ≡ z
    → sets (sets l (record_size * n) (record_of at t)) (record_size * (n + 1)) (records (at + token_size t) ts) ≡ z
unfolding records
records_step l n at t ts us u k =
    let h : record_size * n + length (record_of at t) ≡ record_size * (n + 1) = omega (arith, record_length at t) in
    ap (λ (i : ℕ). sets (sets l (record_size * n) (record_of at t)) i (records (at + token_size t) ts)) (sym h)
    ∙ sym (sets_append l (record_size * n) (record_of at t) (records (at + token_size t) ts))
    ∙ ap (λ (vs : List Token). sets l (record_size * n) (records at vs)) (sym u) ∙ k

-- no token is left
pub records_end : (l : List ℕ) (n at : ℕ) (us : List Token) → us ≡ [] → {z : List ℕ} → sets l (record_size * n) (records at us) ≡ z → l ≡ z
unfolding records
records_end l n at us u k = ap (λ (vs : List Token). sets l (record_size * n) (records at vs)) (sym u) ∙ k

-- ---- how many bytes all tokens take

abbrev pub total_size : List Token → ℕ
total_size [] = 0
total_size (t ∷ ts) = token_size t + total_size ts

-- the record of token k stands after 32 * k bytes, and the token starts where those before it end
pub record_at_lem : (at : ℕ) (ts : List Token) (none : Token) (k : ℕ) → k < length ts
    → take record_size (drop (record_size * k) (records at ts)) ≡ record_of (at + total_size (take k ts)) (get_or ts k none)
unfolding records
record_at_lem at [] none k h = absurd (omega arith)
record_at_lem at (t ∷ ts) none zero h =
    let r = record_length at t in
    rw (add-zero, ← r) (take-append-le (length (record_of at t)) (record_of at t) (records (at + token_size t) ts) (omega arith) ∙ take-length (record_of at t))
record_at_lem at (t ∷ ts) none (suc k) h =
    let e : record_size * suc k ≡ record_size + record_size * k = omega arith in
    let d : drop (record_size * suc k) (records at (t ∷ ts)) ≡ drop (record_size * k) (records (at + token_size t) ts) =
    ap (λ (i : ℕ). drop i (records at (t ∷ ts))) e ∙ sym (drop-drop (record_size * k) record_size (records at (t ∷ ts)))
    ∙ ap (drop (record_size * k)) (drop_at (record_of at t) (records (at + token_size t) ts) record_size (record_length at t)) in
    ap (take record_size) d ∙ record_at_lem (at + token_size t) ts none k (omega arith)
    ∙ ap (λ (i : ℕ). record_of i (get_or ts k none)) (add_assoc at (token_size t) (total_size (take k ts)))

-- no more than their text has
pub total_within : (s : List ℕ) → total_size (tokens s) ≤ length s
total_within =
    tokens_induct (λ (s : List ℕ). total_size (tokens s) ≤ length s)
    (λ s e. rw (tokens_none s e) (omega arith))
    (λ s e i.
    let f = ap length (first_joined s) in
    let l = length-append (flatten (token_parts (first_token s))) (after_run s) in
    rw (tokens_more s e) (omega arith))
