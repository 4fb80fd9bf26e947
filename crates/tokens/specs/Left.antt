-- The tokens that an iterator of tokens still gives, and a token as it gives it. Definitions only.
use Rattle.std.specs.Prelude.{List}
use Rattle.tokens.specs.Tokens.{Token, tokens}
use Rattle.tokens.specs.declared.Token.{Token as Parts}
use Rattle.tokens.specs.declared.Tokens.{Tokens}

-- the token with these parts
abbrev pub parts_of : Parts → Token
parts_of t =
    record {
      whitespace = t.whitespace.now;
      prepunctuation = t.prepunctuation.now;
      name = t.name.now;
      punctuation = t.punctuation.now;
    }

-- the tokens of what is left of the text
abbrev pub tokens_left : Tokens → List Token
tokens_left t = tokens t.rest.now
