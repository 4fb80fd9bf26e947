-- The pairs of a table, and what the writing of words does to the two lent buffers, as functions on lists. The contracts of the
-- functions that say words use them. Definitions only.
use Rattle.std.specs.Prelude.{◌≡◌, Bool, true, false, List, [], ◌∷◌, ◌++◌, ℕ, ◌+◌, ◌*◌, min, length}
use Rattle.std.proofs.lemmas.List.Edits.{sets}
use Rattle.lists.specs.Bytes.{bytes}
use Rattle.lists.specs.LittleEndian.{le_bytes}
use Rattle.word_writer.specs.declared.Writer.{Writer}

-- "each number of a table takes four bytes, lowest first": a pair of offset and length
unfoldable pub pair_of : ℕ → ℕ → List ℕ
pair_of at size = le_bytes 4 at ++ le_bytes 4 size

-- the bytes of a pair
abbrev pub pair_size : ℕ
pair_size = 8

-- ---- no public promise is made of these

-- the largest usize: a writer that reaches it stays there
abbrev pub usize_max : ℕ
usize_max = 0xffff_ffff_ffff_ffff

-- the two buffers, the places in them that come next, and whether a space goes before each word, as in a line of the call sheet
pub record Written : Type 0 where
  pub store : List ℕ
  pub table : List ℕ
  pub at : ℕ
  pub words : ℕ
  pub spaced : Bool

abbrev pub written : Writer → Written
written p = record { store = p.store.now; table = p.table.now; at = p.at; words = p.words; spaced = p.spaced }

-- two buffers of which nothing is written yet
abbrev pub unwritten : Bool → List ℕ → List ℕ → Written
unwritten spaced store table = record { store = store; table = table; at = 0; words = 0; spaced = spaced }

-- what goes before a word, and the place after that
abbrev pub gap : Bool → List ℕ
gap true = bytes " "
gap false = []

abbrev pub after_gap : Bool → ℕ → ℕ
after_gap true at = min (at + 1) usize_max
after_gap false at = at

-- a byte goes to the store
unfoldable pub put_byte : ℕ → Written → Written
put_byte b s = record { store = sets s.store s.at (b ∷ []); table = s.table; at = min (s.at + 1) usize_max; words = s.words; spaced = s.spaced }

-- what goes before a word goes to the store
abbrev pub put_gap : Bool → Written → Written
put_gap g s = record { store = sets s.store s.at (gap g); table = s.table; at = after_gap g s.at; words = s.words; spaced = s.spaced }

-- the pair of a word of `size` bytes, which stand from the next place on, goes to the table
abbrev pub advance : ℕ → Written → Written
advance size s =
    record {
      store = s.store;
      table = sets s.table (pair_size * s.words) (pair_of s.at size);
      at = min (s.at + size) usize_max;
      words = min (s.words + 1) usize_max;
      spaced = s.spaced;
    }

-- a word goes to the store and its pair to the table, each as far as it falls within its buffer; the places move on in any case
unfoldable pub put_word : List ℕ → Written → Written
put_word w s =
    record {
      store = sets (sets s.store s.at (gap s.spaced)) (after_gap s.spaced s.at) w;
      table = sets s.table (pair_size * s.words) (pair_of (after_gap s.spaced s.at) (length w));
      at = min (after_gap s.spaced s.at + length w) usize_max;
      words = min (s.words + 1) usize_max;
      spaced = s.spaced;
    }

unfoldable pub put_words : List (List ℕ) → Written → Written
put_words [] s = s
put_words (w ∷ ws) s = put_words ws (put_word w s)

-- a writer still has the buffers that it had
pub record SameBuffers (p : Writer) (q : Writer) : Type 0 where
  pub store : q.store.ghost_name ≡ p.store.ghost_name
  pub table : q.table.ghost_name ≡ p.table.ghost_name

-- the writer p put x as f puts it, and is q after that
pub record Puts {A : Type 0} (f : A → Written → Written) (x : A) (p : Writer) (q : Writer) : Type 0 where
  pub buffers : SameBuffers p q
  pub result : written q ≡ f x (written p)

-- the writer p said the words ws, and is q after that
abbrev pub Says : List (List ℕ) → Writer → Writer → Type 0
Says = Puts put_words
