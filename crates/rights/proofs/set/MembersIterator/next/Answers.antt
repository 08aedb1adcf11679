use Rattle.std.proofs.Common.{◌<◌, sym, arith, rules}
use Rattle.rights.proofs.Machine.{lowest_in}
use Rattle.rights.proofs.SetLaws.{remove_lt}
use Rattle.rights.proofs.set.MembersIterator.next.Goals as goal
use Rattle.std.proofs.iter.Next.{firm}

pub returns-clause-goes : goal.returns-clause-goes
returns-clause-goes c =
    let H = c.self.inside.rest in
    let r = c.in_ok-right.right in
    let lowest = remove_lt H r (lowest_in 32 H r (sym c.in_ok-right.ensures)) in
    let fewer : c.without-self-inside.result < c.args.self.now = omega (arith, c.self.view_is, c.without-self-inside.ensures, lowest) in
    firm ((tt, tt, fewer)) (λ h. search rules)
