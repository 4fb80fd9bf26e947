-- The entries that an iterator of entries still gives, and an entry as it gives it. An entry is a pair: whether its token starts
-- a sentence, and its name. Definitions only.
use Rattle.std.specs.Prelude.{Bool, ◌||◌, List, [], ◌∷◌, ℕ}
use Rattle.tokens.specs.Tokens.{Token}
use Rattle.tokens.specs.Left.{tokens_left}
use Rattle.sentences.specs.Sentences.{break_after, is_set, kept, state_context}
use Rattle.sentences.specs.declared.State.{State}
use Rattle.sentences.specs.declared.SheetEntry.{SheetEntry}
use Rattle.sentences.specs.declared.Entries.{Entries}

-- the entry that this one is
abbrev pub entry_of : SheetEntry → Bool × List ℕ
entry_of e = (e.starts, e.name.now)

-- the entries of tokens, after those that the state was fed
unfoldable pub entries_after : State → List Token → List (Bool × List ℕ)
entries_after s [] = []
entries_after s (t ∷ ts) = (is_set s.fresh || break_after (state_context s) t.whitespace t.name, t.name) ∷ entries_after (kept t.name t.punctuation) ts

-- those of the tokens that are left
abbrev pub entries_left : Entries → List (Bool × List ℕ)
entries_left e = entries_after e.state (tokens_left e.tokens)
