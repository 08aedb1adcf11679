use Rattle.std.proofs.Common.{◌<◌, ◌≤◌, ◌∷◌, ◌++◌, [], length, Some, ap, ◌∙◌, arith}
use Rattle.monitor.specs.declared.step.Step.TheVariants.{Create}
use Rattle.monitor.specs.Columns.{object_of}
use Rattle.questions.specs.Fields.{ahead, onward}
use Rattle.questions.proofs.Loops.{clear_to}
use Rattle.questions.proofs.Creators.{run_from, found_from, none_found}
use Rattle.questions.proofs.asked.Asked.find_new.Goals as goal

pub returns-then-reach : goal.returns-then-reach
returns-then-reach g c =
    let asked = c.args.self.now in
    let m = g.B.RuleBook.meaning asked.book.now in
    let S = asked.table.now in
    let types = c.subject_types-own-items.ensures in
    let u = c.loop-creator.creator in
    let lu : u < length S.subjects = omega (arith, c.loop-creator-test.true, ap length types.value) in
    let few : length S.subjects ≤ 64 = omega (arith, types.few, ap length types.value) in
    let run = c.push.ensures ∙ (λ k. c.clear.ensures k ++ Create u (c.number.ensures.value k) ∷ []) in
    let column = object_of (length S.subjects) c.fresh_column-column.result in
    let reached = c.if-reach.ensures ∙ ap (λ v. onward c.push.new.self (ahead 32 (g.B.RuleBook.meaning v.0) 2048
    v.1)) c.new.ensures in
    let here = run_from 32 m S asked.subject c.args.kind asked.right u c.own-item.result
    c.subject_types-own-items.result.now types.value c.loop-creator-test.true c.own-item.is
    c.in-Some.rights c.objects-object.result column c.push.new.self (Some c.reach.new.run) c.in-Some.ensures
    c.objects-object.ensures.value (c.fresh_column-column.ensures (length S.subjects) lu few) run reached in
    found_from 32 m S asked.subject c.args.kind asked.right c.requires u c.reach.new.run lu c.loop-creator.invariant here

pub returns : goal.returns
returns g c =
    let asked = c.args.self.now in
    let m = g.B.RuleBook.meaning asked.book.now in
    let S = asked.table.now in
    let all : length S.subjects ≤ c.loop-creator.creator = omega (
      arith,
      c.loop-creator-test.false,
      ap length
          c.subject_types-own-items.ensures.value,
    ) in
    none_found 32 m S asked.subject c.args.kind asked.right c.requires (clear_to _ _ _ all c.loop-creator.invariant)
