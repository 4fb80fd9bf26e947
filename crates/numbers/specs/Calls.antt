-- What the public calls of numbers.rs' functions answer. Definitions only.
use Rattle.std.specs.Prelude.{List, ℕ, Result}
use Rattle.admit.specs.Refusals.{text_limit, text_refusal, Call, call, answered}
use Rattle.admit.specs.declared.Refusal.{Refusal}
use Rattle.numerals.specs.Words.{Word}
use Rattle.numerals.specs.Cardinal.{cardinal, digits}
use Rattle.numerals.specs.Ordinal.{ordinal}
use Rattle.years.specs.Year.{year}
use Rattle.reals.specs.Real.{real}
use Rattle.letters.specs.Letters.{letters}
use Rattle.roman.specs.Roman.{roman_value}
use Rattle.numbers.specs.declared.SayAs.{SayAs}
use Rattle.numbers.specs.declared.SayAs.TheVariants.{Cardinal, Ordinal, Year, Digits, Real, Letters}

abbrev pub as_roman_value : Result ℕ Refusal → Call ℕ
as_roman_value r = answered 0 (λ v. v) r

-- roman_value: "every count and value 0" if it is refused; no buffer is lent to it
abbrev pub roman_call : List ℕ → Call ℕ
roman_call s = call 0 (text_refusal text_limit s) (roman_value s)

-- ---- no public promise is made of these

-- the words of each reading of a text
abbrev pub words_as : SayAs → List ℕ → List Word
words_as Cardinal s = cardinal s
words_as Ordinal s = ordinal s
words_as Year s = year s
words_as Digits s = digits s
words_as Real s = real s
words_as Letters s = letters s
