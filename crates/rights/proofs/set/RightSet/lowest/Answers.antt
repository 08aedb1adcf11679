use Rattle.std.proofs.Common.{◌^◌, ◌<◌, sym, ap, ◌∙◌, arith, rules}
use lib.Count.{count_trailing_zeros}
use Rattle.std.proofs.lemmas.Bool.{lt-ltb}
use Rattle.rights.specs.Sets.{lowest_right}
use Rattle.rights.proofs.Machine.{lowest_word, lowest_none, trailing_lt}
use Rattle.rights.proofs.set.RightSet.lowest.Goals as goal

pub returns-then-self-eq0 : goal.returns-then-self-eq0
returns-then-self-eq0 c = rw (← c.self.view_is) (sym (ap (lowest_right 32) c.if-self-eq0.true ∙ lowest_none 32))

pub returns : goal.returns
returns c =
    let a = c.self.inside.bits in
    let some : 0 < a = omega arith in
    let fits : a < 2 ^ 32 = search rules in
    let word = lowest_word 32 a some fits in
    let small = lt-ltb (count_trailing_zeros 32 a) 32 (trailing_lt 32 a some fits) in
    search rules
