-- What a caller reads from the token table. Each part is where its pair says. Each pair starts where the one before it ends.
-- Joined, the pairs give the text less its trailing whitespace. Assumes nothing.
use mathlib.Core.Path.{◌≡◌, refl, sym, ap, ap₂, ◌∙◌}
use mathlib.Core.Bool.{true, false}
use mathlib.Core.Logic.{⊎_elim}
use mathlib.Core.List.{List, [], ◌∷◌, ◌++◌, flat_map, append_assoc, append-nil, flatten}
use Prim.Native.Nat.{ℕ, zero, suc, ◌+◌, ◌*◌, ◌^◌, ◌≤◌, ◌<◌}
use native.Mathlib.Nat.{add-zero, add_assoc}
use native.Mathlib.Omega.{arith}
use lib.ListN.{length, take, drop, get_or, length-append, take-append-drop, get_or-append}
use lib.Seq.{take-add, take-suc, take-length, split_at, get_or-append-add}
use Rattle.lists.specs.Bytes.{all, span, after_last}
use Rattle.lists.specs.Classes.{whitespace, non_whitespace}
use Rattle.lists.proofs.Scan.{last_none, last_span, last_drop}
use Rattle.lists.proofs.Sets.{le_or_lt}
use Rattle.admit.specs.Refusals.{text_limit}
use Rattle.admit.proofs.Calls.{text_valid}
use Rattle.word_writer.specs.Writer.{pair_of}
use Rattle.word_writer.specs.Words.{table_of, offset_at, length_at, word_at, PairIs}
use Rattle.word_writer.proofs.ReadBack.{pair_from, word_from}
use Rattle.tokens.specs.Tokens.{Token, after_whitespace, after_run, tokens, token_parts}
use Rattle.tokens.specs.Table.{token_size, record_of, records, pairs_joined, TokensResult, table_call}
use Rattle.tokens.proofs.Forward.{first_size, after_run_drop, first_take, run_some, tokens_none, tokens_more, tokens_induct}
use Rattle.tokens.proofs.Answers.{tokens_call_accepted}

-- in a text of whitespace alone, the trailing whitespace starts at 0
pub last_white : (s : List ℕ) → all whitespace s ≡ true → after_last non_whitespace s ≡ 0
last_white s h = last_none non_whitespace whitespace (λ b e. rw e) s h

-- in any other text, it is the trailing whitespace of what follows the first token
pub last_first : (s : List ℕ) → all whitespace s ≡ false → after_last non_whitespace s ≡ first_size s + after_last non_whitespace (after_run s)
last_first s h =
    let r = run_some s h in
    let e = last_span non_whitespace (after_whitespace s) in
    let d = last_drop non_whitespace s (span whitespace s) (omega arith) in
    omega arith

-- ---- several texts, one after the other

-- two lists of texts, joined
pub flatten_append : (xs ys : List (List ℕ)) → flatten (xs ++ ys) ≡ flatten xs ++ flatten ys
unfolding flatten
flatten_append [] ys = refl
flatten_append (x ∷ xs) ys = rw (flatten_append xs ys) (sym (append_assoc x (flatten xs) (flatten ys)))

-- the texts before text k, text k itself, and the texts after it
pub flatten_at : (ws : List (List ℕ)) (k : ℕ) → k < length ws → flatten ws ≡ flatten (take k ws) ++ (get_or ws k [] ++ flatten (drop (suc k) ws))
unfolding flatten
flatten_at ws k h = ap flatten (split_at ws k [] h) ∙ flatten_append (take k ws) (get_or ws k [] ∷ drop (suc k) ws)

-- the texts up to text k
flatten_suc : (ws : List (List ℕ)) (k : ℕ) → k < length ws → flatten (take (suc k) ws) ≡ flatten (take k ws) ++ get_or ws k []
unfolding flatten
flatten_suc ws k h = rw (take-suc ws k [] h, flatten_append, append-nil)

table_append : (at : ℕ) (xs ys : List (List ℕ)) → table_of at (xs ++ ys) ≡ table_of at xs ++ table_of (at + length (flatten xs)) ys
unfolding flatten table_of
table_append at [] ys = rw (add-zero at)
table_append at (x ∷ xs) ys =
    rw (table_append (at + length x) xs ys, length-append x (flatten xs), ← add_assoc at (length x) (length (flatten xs)))
    (sym (append_assoc (pair_of at (length x)) (table_of (at + length x) xs) (table_of (at + length x + length (flatten xs)) ys)))

-- ---- the pairs of a table of texts that have less than 4 GiB together; u is what follows the table

module _ (ws : List (List ℕ)) (u : List ℕ) (below : length (flatten ws) < 256 ^ 4) where
  -- pair k says where text k starts, which is where those before it end, and its length
  pair_at : (k : ℕ) → k < length ws → PairIs 0 ws (table_of 0 ws ++ u) k
  pair_at k h = pair_from 0 ws u k h (omega arith)

  -- the texts that the first n pairs name, joined
  words_joined : (z : List ℕ) (n : ℕ) → n ≤ length ws → pairs_joined n (table_of 0 ws ++ u) (flatten ws ++ z) ≡ flatten (take n ws)
  unfolding flatten
  words_joined z zero h = refl
  words_joined z (suc n) h = rw (words_joined z n (omega arith), word_from ws u z n (omega arith) below) (sym (flatten_suc ws n (omega arith)))

-- ---- the tokens

-- the parts of all tokens in their order
abbrev pub all_parts : List Token → List (List ℕ)
all_parts ts = flat_map token_parts ts

-- the parts of a text's tokens, joined, are the text less its trailing whitespace
pub tokens_joined : (s : List ℕ) → flatten (all_parts (tokens s)) ≡ take (after_last non_whitespace s) s
unfolding flat_map flatten
tokens_joined =
    tokens_induct (λ s. flatten (all_parts (tokens s)) ≡ take (after_last non_whitespace s) s)
    (λ s h. rw (tokens_none s h, last_white s h))
    (λ s h i.
    rw (tokens_more s h, last_first s h, take-add (first_size s), ← after_run_drop s, flatten_append, i)
    (ap (λ (x : List ℕ). x ++ take (after_last non_whitespace (after_run s)) (after_run s)) (first_take s)))

-- the records of the tokens are one table of all their parts
pub records_table : (at : ℕ) (ts : List Token) → records at ts ≡ table_of at (all_parts ts)
unfolding records record_of flat_map table_of
records_table at [] = refl
records_table at (t ∷ ts) = rw (records_table (at + token_size t) ts) (sym (table_append at (token_parts t) (all_parts ts)))

parts_length : (ts : List Token) → length (all_parts ts) ≡ 4 * length ts
unfolding flat_map
parts_length [] = refl
parts_length (t ∷ ts) = omega (arith, parts_length ts)

-- part j of token i among all parts
parts_at : (ts : List Token) (none : Token) (i j : ℕ) → i < length ts → j < 4 → get_or (all_parts ts) (4 * i + j) [] ≡ get_or (token_parts (get_or ts i none)) j []
unfolding flat_map
parts_at [] none i j h k = absurd (omega arith)
parts_at (t ∷ ts) none zero j h k = let e : 4 * 0 + j ≡ j = omega arith in rw e (get_or-append (token_parts t) (all_parts ts) [] j k)
parts_at (t ∷ ts) none (suc i) j h k =
    let e : 4 * suc i + j ≡ 4 + (4 * i + j) = omega arith in
    rw e (get_or-append-add (token_parts t) (all_parts ts) (4 * i + j) [] ∙ parts_at ts none i j (omega arith) k)

-- ---- the table that an accepted call leaves, whatever follows it in the buffer

module _ (s old : List ℕ) (accepted : (table_call s old).refusal ≡ 0) where
  -- the count that it answers, and the table as it leaves it
  abbrev count : ℕ
  count = (table_call s old).value.tokens

  abbrev table : List ℕ
  table = (table_call s old).value.buffer

  abbrev ws : List (List ℕ)
  ws = all_parts (tokens s)

  abbrev rest : List ℕ
  rest = drop (after_last non_whitespace s) s

  -- the parts are the text up to its trailing whitespace, and so short that four bytes hold each number
  whole : flatten ws ++ rest ≡ s
  whole = ap (λ (x : List ℕ). x ++ rest) (tokens_joined s) ∙ take-append-drop (after_last non_whitespace s) s

  short : length (flatten ws) < 256 ^ 4
  short = let a = (text_valid text_limit s (tokens_call_accepted s _ old accepted).0).within_limit in omega
      (arith, sym (length-append (flatten ws) rest) ∙ ap length whole)

  -- the table of all parts has four pairs per token
  count_is : 4 * count ≡ length ws
  count_is = ap (λ (f : TokensResult). 4 * f.tokens) (tokens_call_accepted s _ old accepted).1 ∙ sym (parts_length (tokens s))

  abbrev past : List ℕ
  past = drop (length (records 0 (tokens s))) old

  table_is : table ≡ table_of 0 ws ++ past
  table_is = ap (λ (f : TokensResult). f.buffer) (tokens_call_accepted s _ old accepted).1 ∙ ap (λ (r : List ℕ). r ++ past) (records_table 0 (tokens s))

  -- part j of token i is in the text where its pair says
  pub part_read : (none : Token) (i j : ℕ) → i < count → j < 4 → word_at (4 * i + j) table s ≡ get_or (token_parts (get_or (tokens s) i none)) j []
  part_read none i j h k =
      ap₂ (λ (t r : List ℕ). word_at (4 * i + j) t r) table_is (sym whole) ∙ word_from ws past rest (4 * i + j) (omega (arith, count_is)) short
      ∙ parts_at (tokens s) none i j (omega (arith, count_is, parts_length (tokens s))) k

  -- "Joined, the pairs give the text less its trailing whitespace."
  pub pairs_joined_lem : pairs_joined (4 * count) table s ≡ take (after_last non_whitespace s) s
  pairs_joined_lem =
      ap₂ (λ (n : ℕ) (t : List ℕ). pairs_joined n t s) count_is table_is ∙ ap (pairs_joined (length ws) (table_of 0 ws ++ past)) (sym whole)
      ∙ words_joined ws past short rest (length ws) (omega arith) ∙ ap flatten (take-length ws) ∙ tokens_joined s

  -- the first pair starts at the start of the text
  pub first_pair : 0 < count → offset_at 0 table ≡ 0
  unfolding flatten
  first_pair h = rw table_is (pair_at ws past short 0 (omega (arith, count_is))).offset

  -- "Each starts where the one before it ends, empty ones too."
  pub next_pair : (k : ℕ) → suc k < 4 * count → offset_at (suc k) table ≡ offset_at k table + length_at k table
  next_pair k h =
      let p = pair_at ws past short k (omega (arith, count_is)) in
      let q = pair_at ws past short (suc k) (omega (arith, count_is)) in
      let e = ap length (flatten_suc ws k (omega (arith, count_is))) ∙ length-append (flatten (take k ws)) (get_or ws k []) in
      rw (table_is, p.offset, p.size, q.offset) (omega arith)

  -- so they are "sorted by offset"
  pub pairs_sorted : (i j : ℕ) → i ≤ j → j < 4 * count → offset_at i table ≤ offset_at j table
  pairs_sorted i zero h l = let e : i ≡ 0 = omega arith in rw e (omega arith)
  pairs_sorted i (suc j) h l =
      ⊎_elim (λ (k : i ≤ j). omega (arith, next_pair j l, pairs_sorted i j k (omega arith)))
      (λ (k : j < i). let e : i ≡ suc j = omega arith in rw e (omega arith)) (le_or_lt i j)
