-- The moves of the search, by number.
use Rattle.std.specs.Prelude.{ℕ, Some, None, Option}
use Rattle.safety.specs.declared.question.Move.{Move}
use Rattle.safety.specs.declared.question.Move.TheVariants.{Add, Give}
use Rattle.questions.specs.declared.search.Gain.{Gain}

abbrev pub by : Option ℕ → ℕ → ℕ → Move
by None d r = Add d r
by (Some s) d r = Give s d r

abbrev pub move_of : Gain → Move
move_of g = by g.giver g.receiver g.right
