-- Facts about what a walk over the tokens of a text meets. Assumes nothing.
use mathlib.Core.Path.{◌≡◌, refl, ap, ◌∙◌}
use mathlib.Core.List.{List, []}
use Prim.Native.Nat.{ℕ, ◌≤◌}
use lib.Dec.{eqb}
use lib.ListN.{length, drop, drop_of_length-le}
use lib.Seq.{length-take-le}
use Rattle.lists.specs.Bytes.{all, span, take_while}
use Rattle.lists.specs.Classes.{whitespace, non_whitespace}
use Rattle.lists.proofs.Scan.{span_le}
use Rattle.tokens.specs.Tokens.{Token, after_whitespace, after_run, first_token, tokens}
use Rattle.tokens.proofs.Forward.{tokens_none, cut_white}

-- the length of the first token's whitespace
pub first_white : (s : List ℕ) → length (first_token s).whitespace ≡ span whitespace s
first_white s =
    ap (λ (t : Token). length t.whitespace) (cut_white (take_while whitespace s) (take_while non_whitespace (after_whitespace s)) (eqb (length (after_run s)) 0))
    ∙ length-take-le (span whitespace s) s (span_le whitespace s)

-- past the end no token is left
pub tokens_past : (s : List ℕ) (at : ℕ) → length s ≤ at → tokens (drop at s) ≡ []
unfolding all
tokens_past s at h = rw (drop_of_length-le s {i = at} h) (tokens_none [] refl)
