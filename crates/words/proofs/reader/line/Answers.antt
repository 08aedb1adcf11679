use Rattle.std.proofs.lemmas.Result.{MatchResult-weaker}
use Rattle.words.specs.Tree.{shape}
use Rattle.words.proofs.Means.{line_stands, line_fails}
use Rattle.words.proofs.reader.line.Goals as goal

pub returns-clause-means : goal.returns-clause-means
returns-clause-means c =
    MatchResult-weaker c.form.result c.form.ensures
    (λ p h. line_stands c.args.text.now (shape c.args.text.now p.0.items) p.1 h) (λ e h. line_fails c.args.text.now e h)
