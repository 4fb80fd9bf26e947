-- Document 01, "Token table and sentences": where sentences start, in a whole text and token by token. Definitions only.
use Rattle.std.specs.Prelude.{Bool, true, false, cond, not, ◌&&◌, ◌||◌, List, [], ◌∷◌, ℕ, ◌-◌, ltb, eqb, length, get_or}
use Prim.Native.Char.{code}
use Rattle.lists.specs.Bytes.{bytes, count_if, elem, same_by, uppercase, lowercase, to_lower}
use Rattle.lists.specs.Classes.{only}
use Rattle.tokens.specs.Tokens.{Token}
use Rattle.sentences.specs.declared.State.{State}

-- the first and the last byte; 0 if the text is empty
abbrev pub first_byte : List ℕ → ℕ
first_byte s = get_or s 0 0

abbrev pub last_byte : List ℕ → ℕ
last_byte s = get_or s (length s - 1) 0

-- what the tests ask about the token before
pub record LeftContext : Type 0 where
  pub yahoo : Bool
  pub exclamation : Bool
  pub question : Bool
  pub colon : Bool
  pub point : Bool
  pub abbreviation : Bool

-- "`is_sentence_break` decides between neighbours; its tests run in the Rust's order, blank line first, then "yahoo". Lengths
-- are bytes." The tests look at the whitespace and the name of the next token.
unfoldable pub break_after : LeftContext → List ℕ → List ℕ → Bool
break_after t whitespace name =
    cond (ltb 1 (count_if (only (code "\n")) whitespace)) true
    (cond (t.yahoo && t.exclamation && lowercase (first_byte name)) false
    (cond (t.colon || t.question || t.exclamation) true
    (cond (not t.point) false
    (cond (not (uppercase (first_byte name))) false
    (cond (ltb 1 (length whitespace)) true
    (not t.abbreviation))))))

-- `looks_like_abbreviation` of the Rust, for a name with the last byte l, the length n and the first byte f
abbrev pub looks_like_abbreviation : ℕ → ℕ → ℕ → Bool
looks_like_abbreviation l n f = uppercase l || (ltb n 4 && uppercase f)

abbrev pub left_context : Token → LeftContext
left_context t =
    record {
      yahoo = same_by to_lower t.name (bytes "yahoo");
      exclamation = elem (code "!") t.punctuation;
      question = elem (code "?") t.punctuation;
      colon = elem (code ":") t.punctuation;
      point = elem (code ".") t.punctuation;
      abbreviation = looks_like_abbreviation (last_byte t.name) (length t.name) (first_byte t.name);
    }

-- a sentence ends between two tokens
abbrev pub is_sentence_break : Token → Token → Bool
is_sentence_break t u = break_after (left_context t) u.whitespace u.name

-- "The whole-text form answers for each token whether it starts a sentence; the first token does."
unfoldable pub sentence_starts_after : Token → List Token → List Bool
sentence_starts_after t [] = []
sentence_starts_after t (u ∷ us) = is_sentence_break t u ∷ sentence_starts_after u us

unfoldable pub sentence_starts : List Token → List Bool
sentence_starts [] = []
sentence_starts (t ∷ ts) = true ∷ sentence_starts_after t ts

-- ---- the step form

-- a flag: 0 means no, any other byte yes; yes is written as 1
abbrev pub is_set : ℕ → Bool
is_set b = not (eqb b 0)

abbrev pub flag : Bool → ℕ
flag b = cond b 1 0

-- a state that no token was fed to
abbrev pub fresh : State
fresh = record { len = 0; head = 0 ∷ 0 ∷ 0 ∷ 0 ∷ 0 ∷ []; last = 0; point = 0; colon = 0; question = 0; exclamation = 0; fresh = 1 }

-- the first five bytes, 0 past the end
abbrev pub head_of : List ℕ → List ℕ
head_of s = get_or s 0 0 ∷ get_or s 1 0 ∷ get_or s 2 0 ∷ get_or s 3 0 ∷ get_or s 4 0 ∷ []

-- "keeps of the last token the name's first five bytes, its length and last byte, and which marks of . : ? ! its punctuation has"
abbrev pub kept : List ℕ → List ℕ → State
kept name punctuation =
    record {
      len = length name;
      head = head_of name;
      last = last_byte name;
      point = flag (elem (code ".") punctuation);
      colon = flag (elem (code ":") punctuation);
      question = flag (elem (code "?") punctuation);
      exclamation = flag (elem (code "!") punctuation);
      fresh = 0;
    }

-- what the tests ask about the token before, read from a state
abbrev pub state_context : State → LeftContext
state_context s =
    record {
      yahoo = eqb s.len 5 && same_by to_lower s.head (bytes "yahoo");
      exclamation = is_set s.exclamation;
      question = is_set s.question;
      colon = is_set s.colon;
      point = is_set s.point;
      abbreviation = looks_like_abbreviation s.last s.len (get_or s.head 0 0);
    }

-- whether a step breaks before its token: "its first step from a fresh state answers no break"
abbrev pub breaks : State → List ℕ → List ℕ → Bool
breaks s whitespace name = not (is_set s.fresh) && break_after (state_context s) whitespace name
