use Rattle.std.proofs.Common.{◌≡◌, ◌+◌, ◌-◌, length, suc, ap, sym, ◌∙◌, arith}
use Rattle.std.proofs.lemmas.List.{length_push}
use Rattle.questions.specs.Fields.{ahead, onward}
use Rattle.questions.proofs.Turns.{found_here, none_here, ended, one_more}
use Rattle.questions.proofs.search.Search.reach.Goals as goal

pub returns-then-holds : goal.returns-then-holds
returns-then-holds g c = found_here 32 (g.B.RuleBook.meaning c.loop-move.self.0) _ c.loop-move.run c.loop-move.self.1
    (2048 - c.loop-move._move) c.loop-move.invariant.before (sym c.if-holds.ensures)

pub returns-in_default : goal.returns-in_default
returns-in_default g c = none_here 32 (g.B.RuleBook.meaning c.loop-move.self.0) _ c.loop-move.run c.loop-move.self.1
    (2048 - c.loop-move._move) _ c.in_default.ensures.taken c.loop-move.invariant.before (sym c.if-holds.ensures)

pub loop-move-preserved : goal.loop-move-preserved
loop-move-preserved g c =
    let m = g.B.RuleBook.meaning c.loop-move.self.0 in
    let k = c.loop-move._move in
    let fuel : 2048 - k ≡ suc (2048 - (k + 1)) = omega arith in
    let before = c.loop-move.invariant.before ∙ ap (λ n. onward c.loop-move.run (ahead 32 m n c.loop-move.self.1)) fuel in
    record {
      count = ap length c.push.ensures ∙ omega (arith, length_push c.loop-move.run c.in-Some.step, c.loop-move.invariant.count);
      before = one_more 32 m _ c.loop-move.run c.loop-move.self.1 (2048 - (k + 1)) _ c.in-Some.step
          c.in-Some.ensures.taken before (sym c.if-holds.ensures)
          ∙ (λ i. onward (sym c.push.ensures i) (ahead 32 (g.B.RuleBook.meaning (sym c.in-Some.ensures.book i)) (2048
          - (k + 1)) c.step.new.self.1));
    }

pub returns : goal.returns
returns g c =
    let m = g.B.RuleBook.meaning c.loop-move.self.0 in
    let fuel : 2048 - c.loop-move._move ≡ 0 = omega arith in
    let before = c.loop-move.invariant.before ∙ ap (λ n. onward c.loop-move.run (ahead 32 m n c.loop-move.self.1)) fuel in
    ended 32 m _ c.loop-move.run c.loop-move.self.1 c.holds-2.result c.holds-2.ensures before
