-- What lines leave in the buffer, and where the writer is after them. Assumes nothing.
use mathlib.Core.Path.{◌≡◌, refl, sym, ap, ◌∙◌}
use mathlib.Core.Bool.{Bool, true, false}
use mathlib.Core.Logic.{⊎_elim}
use mathlib.Core.List.{List, [], ◌∷◌, ◌++◌, map, flatten}
use Prim.Native.Nat.{ℕ, ◌+◌, ◌≤◌, ◌<◌, min}
use Prim.Native.Char.{code}
use native.Mathlib.Omega.{arith}
use lib.Dec.{ltb}
use lib.ListN.{length, length-append}
use lib.Seq.{sets}
use borrow.Author.Tests.{ltb-false, le-ltb, lt-ltb}
use Rattle.lists.specs.Bytes.{bytes, overwrite}
use Rattle.lists.proofs.Sets.{sets_append, sets_front, le_or_lt}
use Rattle.word_writer.specs.Writer.{usize_max, Written, put_byte, put_word, put_words, written, unwritten, Puts}
use Rattle.word_writer.proofs.Saying.{same_buffers_on}
use Rattle.row_readers.specs.Walk.{Reads}
use Rattle.rows.specs.Rows.{read}
use Rattle.rows.specs.declared.Row.{Row}
use Rattle.word_writer.specs.declared.Writer.{Writer}
use Rattle.word_writer.proofs.Finish.{store_by, put_words_at, put_words_words, put_words_is}
use Rattle.call_spec.specs.Sheet.{SheetEntry, words_of, mark, spaced_words, line_of, count_words}
use Rattle.entries.specs.Find.{sheet_entry}
use Rattle.calls.specs.Walk.{line_to, lines_to, SaysLine}

-- a spaced writer whose numbers are not larger than the machine's largest
pub record LineWriter (s : Written) : Type 0 where
  pub spaced : s.spaced ≡ true
  pub at : s.at ≤ usize_max
  pub words : s.words ≤ usize_max

-- from s to t the bytes b are written, with n words in them
pub record Wrote (b : List ℕ) (n : ℕ) (s t : Written) : Type 0 where
  pub line : LineWriter t
  pub at : t.at ≡ min (s.at + length b) usize_max
  pub words : t.words ≡ min (s.words + n) usize_max
  pub store : s.at + length b ≤ usize_max → s.words + n ≤ usize_max → t.store ≡ sets s.store s.at b

-- f writes the bytes b, with n words in them, from any place on
abbrev pub Writes : List ℕ → ℕ → (Written → Written) → Type 0
Writes b n f = (s : Written) → LineWriter s → Wrote b n s (f s)

-- one after the other
wrote_both : {b c : List ℕ} {m n k : ℕ} {s t u : Written} → Wrote b m s t → Wrote c n t u → k ≡ m + n → Wrote (b ++ c) k s u
wrote_both {b} {c} {m} {n} {k} {s} {t} {u} p q e =
    let l : length (b ++ c) ≡ length b + length c = length-append b c in
    record {
      line = q.line;
      at = let a = p.at in let d = q.at in omega arith;
      words = let a = p.words in let d = q.words in omega arith;
      store = λ h h'.
          let a : t.at ≡ s.at + length b = let d = p.at in omega arith in
          let w : t.words ≡ s.words + m = let d = p.words in omega arith in
          q.store (omega arith) (omega arith) ∙ rw (a, p.store (omega arith) (omega arith)) (sym (sets_append s.store s.at b c));
    }

wrote_byte : (b : ℕ) {s : Written} → LineWriter s → Wrote (b ∷ []) 0 s (put_byte b s)
unfolding put_byte
wrote_byte b {s} l =
    record {
      line = record { spaced = l.spaced; at = omega arith; words = l.words };
      at = omega arith;
      words = let h = l.words in omega arith;
      store = λ h h'. refl;
    }

store_spaced : (ws : List (List ℕ)) → store_by true ws ≡ spaced_words ws
unfolding store_by spaced_words
store_spaced [] = refl
store_spaced (w ∷ ws) = ap (λ (r : List ℕ). bytes " " ++ (w ++ r)) (store_spaced ws)

put_words_spaced : (ws : List (List ℕ)) (s : Written) → (put_words ws s).spaced ≡ s.spaced
unfolding put_words put_word
put_words_spaced [] s = refl
put_words_spaced (w ∷ ws) s = put_words_spaced ws (put_word w s)

wrote_words : (ws : List (List ℕ)) {s : Written} → LineWriter s → Wrote (spaced_words ws) (length ws) s (put_words ws s)
wrote_words ws {s} l =
    let e : store_by s.spaced ws ≡ spaced_words ws = ap (λ (g : Bool). store_by g ws) l.spaced ∙ store_spaced ws in
    let a : (put_words ws s).at ≡ min (s.at + length (spaced_words ws)) usize_max = rw e at (put_words_at ws s l.at) in
    let w : (put_words ws s).words ≡ min (s.words + length ws) usize_max = put_words_words ws s l.words in
    record {
      line = record { spaced = put_words_spaced ws s ∙ l.spaced; at = omega arith; words = omega arith };
      at = a;
      words = w;
      store = λ h h'. ap (λ (q : Written). q.store) (put_words_is ws s (rw e h) h') ∙ ap (sets s.store s.at) e;
    }

-- the code's steps write the line
pub line_said : {e : SheetEntry} {p q r t : Writer} {row : Row} → Puts put_byte (mark e.starts) p q → Reads (read e.name) q r row
    → Puts put_byte (code "\n") r t → SaysLine e p t row
unfolding line_to
line_said {e} marked said ended =
    record {
      row = said.row;
      line = record {
        buffers = same_buffers_on (same_buffers_on marked.buffers said.words.buffers) ended.buffers;
        result = ended.result ∙ ap (put_byte (code "\n")) (said.words.result ∙ ap (put_words (words_of e)) marked.result);
      };
    }

-- an entry's line is written, with its words
pub wrote_line : (e : SheetEntry) → Writes (line_of e) (length (words_of e)) (line_to e)
unfolding line_of line_to
wrote_line e s l =
    let a = wrote_byte (mark e.starts) l in
    let b = wrote_words (words_of e) a.line in
    wrote_both a (wrote_both b (wrote_byte (code "\n") b.line) refl) (omega arith)

-- so are the lines of several entries
pub wrote_lines : (es : List SheetEntry) → Writes (flatten (map line_of es)) (count_words es) (lines_to es)
unfolding flatten count_words lines_to
wrote_lines [] s l =
    record { line = l; at = let h = l.at in omega arith; words = let h = l.words in omega arith; store = λ h h'. refl }
wrote_lines (e ∷ es) s l = let a = wrote_line e s l in wrote_both a (wrote_lines es (line_to e s) a.line) refl

-- the entries that are left after the next one's line is written
pub lines_on : (s : Written) {gs hs : List (Bool × List ℕ)} {x : Bool × List ℕ} {t z : Written} → gs ≡ x ∷ hs → t ≡ line_to (sheet_entry x) s
    → lines_to (map sheet_entry gs) s ≡ z → lines_to (map sheet_entry hs) t ≡ z
unfolding lines_to
lines_on s {hs = hs} e l h =
    ap (lines_to (map sheet_entry hs)) l ∙ ap (λ (gs : List (Bool × List ℕ)). lines_to (map sheet_entry gs) s) (sym e) ∙ h

-- none is left
pub lines_done : (s : Written) {gs : List (Bool × List ℕ)} {z : Written} → gs ≡ [] → lines_to (map sheet_entry gs) s ≡ z → s ≡ z
unfolding lines_to
lines_done s e h = ap (λ (gs : List (Bool × List ℕ)). lines_to (map sheet_entry gs) s) (sym e) ∙ h

-- every word takes a byte, the space before it
spaced_words_lem : (ws : List (List ℕ)) → length ws ≤ length (spaced_words ws)
unfolding spaced_words
spaced_words_lem [] = omega arith
spaced_words_lem (w ∷ ws) = omega (arith, spaced_words_lem ws, length-append w (spaced_words ws))

-- a line has no more words than bytes
pub line_words : (e : SheetEntry) → length (words_of e) ≤ length (line_of e)
unfolding line_of
line_words e = omega (arith, spaced_words_lem (words_of e), length-append (spaced_words (words_of e)) (bytes "\n"))

-- several lines together have no more words than bytes
pub lines_words : (es : List SheetEntry) → count_words es ≤ length (flatten (map line_of es))
unfolding flatten count_words
lines_words [] = omega arith
lines_words (e ∷ es) = omega (arith, line_words e, lines_words es, length-append (line_of e) (flatten (map line_of es)))

-- the writer q has what f writes from the start of a buffer on, and every word takes at least one byte
module _ {b : List ℕ} {n : ℕ} {f : Written → Written} (w : Writes b n f) (words_fit : n ≤ length b) (x₀ y₀ : List ℕ) (p q : Writer)
    (start : written p ≡ unwritten true x₀ y₀) (wrote : written q ≡ f (written p)) where
  all_wrote : Wrote b n (unwritten true x₀ y₀) (written q)
  all_wrote = rw (wrote, start) (w (unwritten true x₀ y₀) (record { spaced = refl; at = omega arith; words = omega arith }))

  -- its place shows whether a buffer of `room` bytes is too short: no buffer is as long as the machine's largest number
  pub measured_lines : (room : ℕ) → room < usize_max → ltb room (written q).at ≡ ltb room (length b)
  measured_lines room h =
      let a = all_wrote.at in
      ⊎_elim (λ (l : length b ≤ room). le-ltb room (written q).at (omega arith) ∙ sym (le-ltb room (length b) l))
      (λ (l : room < length b). lt-ltb room (written q).at (omega arith) ∙ sym (lt-ltb room (length b) l))
      (le_or_lt (length b) room)

  -- a buffer that is long enough holds them, and the writer has their counts
  pub written_lines : ltb (length x₀) (length b) ≡ false → length x₀ < usize_max
      → ((written q).at ≡ length b) × ((written q).words ≡ n) × ((written q).store ≡ overwrite b x₀)
  written_lines g small =
      let fits : length b ≤ length x₀ = ltb-false _ _ g in
      let a = all_wrote.at in
      let k = all_wrote.words in
      (omega arith, omega arith, all_wrote.store (omega arith) (omega arith) ∙ sets_front x₀ b fits)
