use Rattle.std.proofs.Common.{Some}
use Rattle.rows.specs.Drafts.{rule_from}
use Rattle.schemes.proofs.Numbering.{row_kept}
use Rattle.schemes.proofs.draft.SchemeDraft.add_grant.Goals as goal

pub invariant_of-self : goal.invariant_of-self
invariant_of-self c =
    (row_kept c.self.inside c.self.invariant (λ n. rule_from n c.args.giver (Some c.args.receiver) c.args.object c.args.need.now c.args.gives.now) _ _ c.add_grant.ensures).0

pub returns : goal.returns
returns c =
    rw (← c.self.view_is)
    (row_kept c.self.inside c.self.invariant (λ n. rule_from n c.args.giver (Some c.args.receiver) c.args.object c.args.need.now c.args.gives.now) _ _ c.add_grant.ensures).1
