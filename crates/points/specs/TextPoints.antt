-- Worked examples of scheme texts, each proved by computation on the definitions that the contracts cite.
use Rattle.std.specs.Prelude.{◌≡◌, ℕ, List, [], ◌∷◌, ◌++◌, Err, codes}
use Rattle.rights.specs.declared.refusal.Refusal.TheVariants.{EmptyNeed}
use Rattle.meaning.specs.Schemes.{in_scheme, scheme_text}

-- the lines of a text, each with its line end
abbrev pub lines : List (List ℕ) → List ℕ
lines [] = []
lines (l ∷ ls) = l ++ (10 ∷ lines ls)

-- a right and three types, declared
abbrev pub types : List (List ℕ)
types = codes "(right print)" ∷ codes "(subject-type author)" ∷ codes "(subject-type checker)" ∷ codes "(object-type paper)" ∷ []

pub record TextPoints : Type 0 where
  -- a line with an empty need, a transform or a grant, is refused with 9, at that line
  pub empty_transform_line : scheme_text (lines (types ++ codes "(itrans author paper () (print))" ∷ [])) ≡ Err (in_scheme EmptyNeed 5)
  pub empty_grant_line : scheme_text (lines (types ++ codes "(grant author checker paper () (print))" ∷ [])) ≡ Err (in_scheme EmptyNeed 5)
