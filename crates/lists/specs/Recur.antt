-- Readings that read a shorter text again. Such a reading is one step, which is given the reader of shorter texts. Definitions
-- only.
use Rattle.std.specs.Prelude.{List, ℕ, zero, suc, length}

unfoldable pub recur_at : {A : Type 0} → A → ((List ℕ → A) → List ℕ → A) → ℕ → List ℕ → A
recur_at b step zero s = b
recur_at b step (suc n) s = step (recur_at b step n) s

-- the step, nested once more than the text has bytes. If the step reads only shorter texts again, b is never used
unfoldable pub recur : {A : Type 0} → A → ((List ℕ → A) → List ℕ → A) → List ℕ → A
recur b step s = recur_at b step (suc (length s)) s
