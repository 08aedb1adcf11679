use Rattle.std.proofs.Common.{codes, length, get_or, refl, ap, arith, rules}
use Rattle.std.proofs.lemmas.Slice.Eq.{text_from_reads}
use Rattle.meaning.specs.Forms.{head_of}
use Rattle.forms.proofs.Heads.{none_of_them}
use Rattle.forms.proofs.head.HeadTryFromRefSliceU8.try_from.Goals as goal

pub returns-in-create : goal.returns-in-create
returns-in-create c = ap head_of (text_from_reads c.args.word.now (codes "create") (omega arith) (search rules))

pub returns-in-itrans : goal.returns-in-itrans
returns-in-itrans c = ap head_of (text_from_reads c.args.word.now (codes "itrans") (omega arith) (search rules))

pub returns-in-111 : goal.returns-in-111
returns-in-111 c = ap head_of (text_from_reads c.args.word.now (codes "object-type") (omega arith) (search rules))

pub returns-in-115 : goal.returns-in-115
returns-in-115 c = ap head_of (text_from_reads c.args.word.now (codes "subject-type") (omega arith) (search rules))

pub returns-in_default-32 : goal.returns-in_default-32
returns-in_default-32 c = (
  none_of_them c.args.word.now
      (λ e. omega (arith, ap length e)) (λ e. omega (arith, ap length e)) (λ e. omega (arith, ap (λ w. get_or w 9 0) e, ap (λ w. get_or w 10 0) e))
      (λ e. omega (arith, ap length e)) (λ e. omega (arith, ap length e)) (λ e. omega (arith, ap length e)) (λ e. omega (arith, ap length e)) (λ e. omega (arith, ap length e)),
  refl,
)

pub returns-in_default-43 : goal.returns-in_default-43
returns-in_default-43 c = (
  none_of_them c.args.word.now
      (λ e. omega (arith, ap length e)) (λ e. omega (arith, ap (λ w. get_or w 10 0) e, ap (λ w. get_or w 11 0) e)) (λ e. omega (arith, ap length e))
      (λ e. omega (arith, ap length e)) (λ e. omega (arith, ap length e)) (λ e. omega (arith, ap length e)) (λ e. omega (arith, ap length e)) (λ e. omega (arith, ap length e)),
  refl,
)
