-- What a token of the code stands for. Assumes nothing.
use Rattle.tokens.specs.Tokens.{Tok, t_name, t_prefix, t_paths, t_link, tTrue, tFalse, tAnd, tOr, tImplies, tOpen, tClose, tLeft, tRight, tEnd, tStray}
use Rattle.tokens.specs.declared.Token.{Token}
use Rattle.tokens.specs.declared.Token.TheVariants.{Name, Prefix, Quantifier, Between, True, False, And, Or, Implies, Open, Close, Left, Right, End, Stray}

abbrev pub tok_of : Token → Tok
tok_of (Name s) = t_name s.now
tok_of (Prefix o) = t_prefix o
tok_of (Quantifier q) = t_paths q
tok_of (Between j) = t_link j
tok_of True = tTrue
tok_of False = tFalse
tok_of And = tAnd
tok_of Or = tOr
tok_of Implies = tImplies
tok_of Open = tOpen
tok_of Close = tClose
tok_of Left = tLeft
tok_of Right = tRight
tok_of End = tEnd
tok_of Stray = tStray
