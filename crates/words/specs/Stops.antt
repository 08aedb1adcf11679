-- Why a reading ends without an answer.
use Rattle.std.specs.Prelude.{ℕ}
use Rattle.rights.specs.declared.refusal.Refusal.{Refusal}
use Rattle.words.specs.declared.stop.At.{At}
use Rattle.words.specs.declared.stop.Failed.{Failed}
use Rattle.words.specs.declared.stop.Failed.TheVariants.{Because}

-- why what a line says is not done
abbrev pub Denial : Type 0
Denial = Failed Refusal

-- why a line is not read
abbrev pub Stop : Type 0
Stop = Failed At

abbrev pub stopped : Refusal → ℕ → Stop
stopped why k = Because (record { refusal = why; place = k })
