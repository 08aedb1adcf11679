-- What an accepted step answers, case by case.
use Rattle.std.specs.Prelude.{ℕ, cond, Some, None, Option}
use Rattle.monitor.specs.declared.step.Done.{Done}
use Rattle.monitor.specs.declared.step.Done.TheVariants.{Made, Added, Taken}

-- a create answers the number of the new object; a transform or grant 1 where the right was new in its cell, else 0;
-- a revoke has nothing to tell
abbrev pub answer_number : Done → Option ℕ
answer_number (Made object) = Some object
answer_number (Added new) = Some (cond new 1 0)
answer_number Taken = None
