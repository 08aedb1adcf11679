use Rattle.std.proofs.Common.{None}
use Rattle.rows.specs.Drafts.{rule_from}
use Rattle.schemes.proofs.Numbering.{row_kept}
use Rattle.schemes.proofs.draft.SchemeDraft.add_transform.Goals as goal

pub invariant_of-self : goal.invariant_of-self
invariant_of-self c =
    (row_kept c.self.inside c.self.invariant (λ n. rule_from n c.args.subject None c.args.object c.args.need.now c.args.gives.now) _ _ c.add_transform.ensures).0

pub returns : goal.returns
returns c =
    rw (← c.self.view_is)
    (row_kept c.self.inside c.self.invariant (λ n. rule_from n c.args.subject None c.args.object c.args.need.now c.args.gives.now) _ _ c.add_transform.ensures).1
